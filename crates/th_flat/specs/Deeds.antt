-- What each operation does of itself: what it charges, and its effect on the stack, the status and the world. Where it leads
-- is told apart.
use Rattle.std.specs.Prelude.{ℕ, zero, suc, ◌+◌, ◌*◌, Bool, true, false, ◌&&◌, not, List, [], ◌∷◌, ◌++◌, length, Option, Some, None, ℤ, pos, negsuc, int_lt, int_le, nat_eq, nat_lt, bytes_eq, slice_get, replicate, if◌then◌else◌}
use Rattle.std.specs.Ordering.{int_eq}
use Rattle.std.specs.Fmt.{signed_decimal}
use Rattle.th_meaning.specs.World.{Object, Instance, Array, Halt, Stuck, Effect, Did, Fails, Stops, bounds, greatest, text_weight, sum, difference, product, negation, quotient, remainder, put_byte, put_all, get_byte, letter, add_object, element, array_length, set_element, field_value, set_field}
use Rattle.th_flat.specs.declared.op.FlatOp.{FlatOp}
use Rattle.th_flat.specs.declared.op.FlatOp.TheVariants.{OpWord, OpLocal, OpSet, OpDrop, OpArith, OpCompare, OpSame, OpGo, OpUnless, OpCast, OpOwn, OpField, OpSetfield, OpCall, OpDispatch, OpHidden, OpSupply, OpNew, OpArray, OpAt, OpSetat, OpLength, OpPutbyte, OpPutint, OpGet, OpUnitword, OpRaise, OpIs, OpCaught, OpReturn, OpLeave, OpBody, OpYield, OpStop, OpStopped, OpTurn, OpText, OpAppend, OpLetter, OpExtent, OpPuttext, OpBlock, OpHandle, OpOver, OpNext, OpResume}
use Rattle.th_flat.specs.declared.module.FlatUnit.{FlatUnit}
use Rattle.th_flat.specs.Values.{View, as_whole, at_type, FlatValue, Int, Ref, Text, Code, FlatWorld, Status, Fine, Thrown, IsStopped, signed, truth}
use Rattle.th_flat.specs.Program.{FlatProgram}

-- what an operation comes to: on to the next one; to the label of its ways; a local word is pushed, or set; a failure; a call of
-- a unit with operands; the activation's end; a yield; the end of a loop's body; a loop begins; the next call's loop body;
-- bytes to put, one after another; or the run's stop. The stack and the world are those after it
pub data Act : Type 0 where
  Falls : (stack : List FlatValue) → Status → FlatWorld → Act
  Jumps : (stack : List FlatValue) → Status → FlatWorld → Act
  Loads : (local : ℕ) → FlatWorld → Act
  Stores : (local : ℕ) → FlatValue → (stack : List FlatValue) → FlatWorld → Act
  Failing : Status → FlatWorld → Act
  Calls : FlatUnit → (args : List FlatValue) → (stack : List FlatValue) → FlatWorld → Act
  Leaves : Status → (value : Option FlatValue) → FlatWorld → Act
  Yields : FlatValue → (stack : List FlatValue) → FlatWorld → Act
  Nexts : FlatWorld → Act
  Opens : FlatWorld → Act
  OpensBody : FlatUnit → FlatWorld → Act
  Puts : (bytes : List ℕ) → (stack : List FlatValue) → FlatWorld → Act
  Stands : Halt → FlatWorld → Act

-- what is taken before an effect: nothing, turns, room, or turns and then room
pub data Charge : Type 0 where
  no_charge : Charge
  takes_turns : ℕ → Charge
  takes_room : ℕ → Charge
  takes_both : (turns room : ℕ) → Charge

-- a charge, and what is done in the world after it
pub record Deed (A : Type 0) : Type 0 where
  pub charge : Charge
  pub act : FlatWorld → A

-- without a charge
abbrev pub free : {A : Type 0} → (FlatWorld → A) → Deed A
free f = record { charge = no_charge; act = f }

-- for so many turns
abbrev pub for_turns : {A : Type 0} → ℕ → (FlatWorld → A) → Deed A
for_turns k f = record { charge = takes_turns k; act = f }

-- for so many turns and so much room
abbrev pub for_both : {A : Type 0} → ℕ → ℕ → (FlatWorld → A) → Deed A
for_both k r f = record { charge = takes_both k r; act = f }

-- an operand isn't of the kind that the operation takes, or what it names isn't there
abbrev pub stuck_act : Deed Act
stuck_act = free (λ w. Stands Stuck w)

-- what follows an effect that can fail
abbrev pub on_effect : {A : Type 0} → Effect FlatValue A → (A → FlatWorld → Act) → Act
on_effect (Did a w) go = go a w
on_effect (Fails x w) go = Failing (Thrown x None) w
on_effect (Stops h w) go = Stands h w

-- the topmost word
abbrev pub on_top : List FlatValue → (FlatValue → List FlatValue → Deed Act) → Deed Act
on_top [] go = stuck_act
on_top (v ∷ st) go = go v st

-- a number; an array or another object as a whole; an object seen at a type; a text; what stands for a unit
abbrev pub on_int : FlatValue → (ℤ → Deed Act) → Deed Act
on_int (Int n) go = go n
on_int (Ref k view) go = stuck_act
on_int (Text bytes) go = stuck_act
on_int (Code unit) go = stuck_act

abbrev pub on_ref : FlatValue → (ℕ → View → Deed Act) → Deed Act
on_ref (Int n) go = stuck_act
on_ref (Ref k view) go = go k view
on_ref (Text bytes) go = stuck_act
on_ref (Code unit) go = stuck_act

abbrev pub on_text : FlatValue → (List ℕ → Deed Act) → Deed Act
on_text (Int n) go = stuck_act
on_text (Ref k view) go = stuck_act
on_text (Text bytes) go = go bytes
on_text (Code unit) go = stuck_act

abbrev pub on_code : FlatValue → (List ℕ → Deed Act) → Deed Act
on_code (Int n) go = stuck_act
on_code (Ref k view) go = stuck_act
on_code (Text bytes) go = stuck_act
on_code (Code unit) go = go unit

abbrev pub if_whole : View → Deed Act → Deed Act
if_whole as_whole d = d
if_whole (at_type t) d = stuck_act

abbrev pub if_at : List ℕ → View → Deed Act → Deed Act
if_at name as_whole d = stuck_act
if_at name (at_type t) d = if bytes_eq t name then d else stuck_act

abbrev pub on_whole : FlatValue → (ℕ → Deed Act) → Deed Act
on_whole v go = on_ref v (λ k view. if_whole view (go k))

abbrev pub on_seen : List ℕ → FlatValue → (ℕ → Deed Act) → Deed Act
on_seen name v go = on_ref v (λ k view. if_at name view (go k))

-- what is there
abbrev pub on_some : {A : Type 0} → Option A → (A → Deed Act) → Deed Act
on_some None go = stuck_act
on_some (Some a) go = go a

-- what a test holds of
abbrev pub on_test : Bool → Deed Act → Deed Act
on_test true d = d
on_test false d = stuck_act

-- k words off the stack, the topmost last
abbrev pub off : ℕ → List FlatValue → List FlatValue → (List FlatValue → List FlatValue → Deed Act) → Deed Act
off zero vs st go = go vs st
off (suc k) vs [] go = stuck_act
off (suc k) vs (v ∷ st) go = off k (v ∷ vs) st go

-- two words off the stack, the topmost last
abbrev pub off_two : List FlatValue → (FlatValue → FlatValue → List FlatValue → Deed Act) → Deed Act
off_two st go = on_top st (λ y st1. on_top st1 (λ x st2. go x y st2))

-- the class of an object
abbrev pub on_class : Option (Object FlatValue) → (List ℕ → Deed Act) → Deed Act
on_class None go = stuck_act
on_class (Some (Instance class slots)) go = go class
on_class (Some (Array elements)) go = stuck_act

-- the object whose method or initializer runs, with its class
abbrev pub on_self : Option FlatValue → FlatWorld → (ℕ → List ℕ → Deed Act) → Deed Act
on_self self w go = on_some self (λ v. on_whole v (λ k. on_class (slice_get w.objects k) (λ class. go k class)))

-- the value of an arithmetic operation of two numbers: + - * / %
abbrev pub arith_value : ℕ → ℤ → ℤ → FlatWorld → Effect FlatValue ℤ
arith_value zero x y w = sum x y w
arith_value (suc zero) x y w = difference x y w
arith_value (suc (suc zero)) x y w = product x y w
arith_value (suc (suc (suc zero))) x y w = quotient x y w
arith_value (suc (suc (suc (suc g)))) x y w = remainder x y w

-- the number is pushed that an effect gives
abbrev pub push_number : Effect FlatValue ℤ → List FlatValue → Status → Act
push_number e st s = on_effect e (λ n w1. Falls (Int n ∷ st) s w1)

-- operations 0 to 4 take two numbers, 5 takes one, and there are no others
abbrev pub arith_deed : ℕ → List FlatValue → Status → Deed Act
arith_deed g st s =
    if nat_lt g 5 then off_two st (λ a b st1. on_int a (λ x. on_int b (λ y. free (λ w. push_number (arith_value g x y w) st1 s))))
    else on_test (nat_eq g 5) (on_top st (λ a st1. on_int a (λ x. free (λ w. push_number (negation x w) st1 s))))

-- whether a comparison of two numbers holds: equal, unequal, less, at most, greater, at least
abbrev pub holds : ℕ → ℤ → ℤ → Bool
holds zero x y = int_eq x y
holds (suc zero) x y = not (int_eq x y)
holds (suc (suc zero)) x y = int_lt x y
holds (suc (suc (suc zero))) x y = int_le x y
holds (suc (suc (suc (suc zero)))) x y = int_lt y x
holds (suc (suc (suc (suc (suc g))))) x y = int_le y x

-- the first where a number is zero, and else the second
abbrev pub at_zero : {A : Type 0} → ℤ → A → A → A
at_zero (pos zero) a b = a
at_zero (pos (suc n)) a b = b
at_zero (negsuc n) a b = b

-- the turn of a call: none where the unit is an initializer
abbrev pub call_charge : ℕ → Charge
call_charge kind = if nat_eq kind 4 then no_charge else takes_turns 1

-- a unit that is there is called with as many operands as it takes
abbrev pub calling : Option FlatUnit → (FlatUnit → Charge) → List FlatValue → List FlatValue → Deed Act
calling unit charge args st = on_some unit (λ u. on_test (nat_eq (length args) u.args) (record { charge = charge u; act = λ w. Calls u args st w }))

-- the receiver of a call, which is its first operand, and the other operands
abbrev pub on_receiver : List FlatValue → (FlatValue → List FlatValue → Deed Act) → Deed Act
on_receiver [] go = stuck_act
on_receiver (v ∷ vs) go = go v vs

-- an array of so many elements, which aren't fewer than none
abbrev pub array_deed : ℤ → FlatValue → List FlatValue → Status → Deed Act
array_deed (pos n) fill st s = for_both (n + 1) (8 + 4 * n) (λ w. on_effect (add_object (Array (replicate n fill)) w) (λ k w1. Falls (Ref k as_whole ∷ st) s w1))
array_deed (negsuc n) fill st s = free (λ w. Failing (Thrown bounds None) w)

-- two texts are joined, which aren't too long together
abbrev pub append_deed : List ℕ → List ℕ → List FlatValue → Status → Deed Act
append_deed a b st s =
    if nat_lt greatest (length a + length b) then free (λ w. Failing (Thrown bounds None) w)
    else for_both (length a + length b + 1) (text_weight (length a + length b)) (λ w. Falls (Text (a ++ b) ∷ st) s w)

-- a value that is given where f is 1
abbrev pub value_for : ℕ → List FlatValue → (Option FlatValue → List FlatValue → Deed Act) → Deed Act
value_for zero st go = go None st
value_for (suc zero) st go = on_top st (λ v st1. go (Some v) st1)
value_for (suc (suc f)) st go = stuck_act

-- the exception on its way ends; its argument is pushed where f is 1
abbrev pub end_exception : ℕ → Option FlatValue → List FlatValue → Deed Act
end_exception zero v st = free (λ w. Falls st Fine w)
end_exception (suc zero) None st = stuck_act
end_exception (suc zero) (Some v) st = free (λ w. Falls (v ∷ st) Fine w)
end_exception (suc (suc f)) v st = stuck_act

abbrev pub caught_deed : ℕ → List FlatValue → Status → Deed Act
caught_deed f st Fine = stuck_act
caught_deed f st (Thrown x v) = end_exception f v st
caught_deed f st IsStopped = stuck_act

-- whether the exception on its way is the one of a name
abbrev pub is_thrown : List ℕ → Status → Bool
is_thrown name Fine = false
is_thrown name (Thrown x v) = bytes_eq x name
is_thrown name IsStopped = false

-- a handler, which is come to with an exception on its way and nothing on the stack
abbrev pub handle_deed : List ℕ → ℕ → List FlatValue → Status → Deed Act
handle_deed name f [] Fine = stuck_act
handle_deed name f [] IsStopped = stuck_act
handle_deed name f [] (Thrown x v) = if bytes_eq x name then end_exception f v [] else free (λ w. Failing (Thrown x v) w)
handle_deed name f (v ∷ st) s = stuck_act

-- an exception isn't replaced by another: nothing is on its way
abbrev pub if_fine : Status → Deed Act → Deed Act
if_fine Fine d = d
if_fine (Thrown x v) d = stuck_act
if_fine IsStopped d = stuck_act

abbrev pub stopped_act : List FlatValue → Status → FlatWorld → Act
stopped_act st Fine w = Jumps st Fine w
stopped_act st (Thrown x v) w = Jumps st (Thrown x v) w
stopped_act st IsStopped w = Falls st Fine w

module _ (p : FlatProgram) where
  -- what an operation does with the object whose method runs, where there is one, a stack and a status
  abbrev pub doing : FlatOp → (self : Option FlatValue) → List FlatValue → Status → FlatWorld → Deed Act
  doing (OpWord n) self st s w = free (λ w1. Falls (Int (signed n) ∷ st) s w1)
  doing (OpLocal k) self st s w = free (λ w1. Loads k w1)
  doing (OpSet k) self st s w = on_top st (λ v st1. free (λ w1. Stores k v st1 w1))
  doing OpDrop self st s w = on_top st (λ v st1. free (λ w1. Falls st1 s w1))
  doing (OpArith g l) self st s w = arith_deed g st s
  doing (OpCompare g) self st s w = off_two st (λ a b st1. on_int a (λ x. on_int b (λ y. free (λ w1. Falls (truth (holds g x y) ∷ st1) s w1))))
  doing OpSame self st s w = off_two st (λ a b st1. on_ref a (λ j _. on_ref b (λ k _. free (λ w1. Falls (truth (nat_eq j k) ∷ st1) s w1))))
  doing (OpGo l) self st s w = free (λ w1. Jumps st s w1)
  doing (OpUnless l) self st s w = on_top st (λ v st1. on_int v (λ x. free (λ w1. at_zero x (Jumps st1 s w1) (Falls st1 s w1))))
  doing (OpCast from to) self st s w = on_top st (λ v st1. on_seen from v (λ k. on_test (p.reaches from to) (free (λ w1. Falls (Ref k (at_type to) ∷ st1) s w1))))
  doing (OpOwn class) self st s w = on_self self w (λ k of. on_test (p.inherits of class) (on_some (p.class_type class) (λ t. free (λ w1. Falls (Ref k (at_type t) ∷ st) s w1))))
  doing (OpField class i) self st s w = on_self self w (λ k of. on_test (p.inherits of class && nat_lt i (p.slots class)) (free (λ w1. on_effect (field_value k class i w1) (λ v w2. Falls (v ∷ st) s w2))))
  doing (OpSetfield class i) self st s w = on_self self w (λ k of. on_test (p.inherits of class && nat_lt i (p.slots class)) (on_top st (λ v st1. free (λ w1. on_effect (set_field k class i v w1) (λ _ w2. Falls st1 s w2)))))
  doing (OpCall unit n f l) self st s w = if_fine s (off n [] st (λ vs st1. calling (p.called unit) (λ u. call_charge u.kind) vs st1))
  doing (OpDispatch head method n f l) self st s w = if_fine s (off n [] st (λ vs st1. on_receiver vs (λ v rest. on_seen head v (λ k. on_class (slice_get w.objects k) (λ class. calling (p.dispatched head method class) (λ u. takes_turns 1) (Ref k as_whole ∷ rest) st1)))))
  doing (OpHidden class method n f l) self st s w = if_fine s (off n [] st (λ vs st1. on_receiver vs (λ v rest. on_whole v (λ k. on_class (slice_get w.objects k) (λ of. calling (p.hidden class method of) (λ u. takes_turns 1) (v ∷ rest) st1)))))
  doing (OpSupply n f l) self st s w = if_fine s (off n [] st (λ vs st1. on_top st1 (λ v st2. on_code v (λ unit. on_some (p.unit unit) (λ u. on_test (nat_eq u.kind 6) (calling (Some u) (λ _. no_charge) vs st2))))))
  doing (OpNew class) self st s w = on_some (p.weight class) (λ weight. for_both 1 weight (λ w1. on_effect (add_object (Instance class []) w1) (λ k w2. Falls (Ref k as_whole ∷ st) s w2)))
  doing (OpArray l) self st s w = off_two st (λ a fill st1. on_int a (λ n. array_deed n fill st1 s))
  doing (OpAt l) self st s w = off_two st (λ a b st1. on_whole a (λ k. on_int b (λ i. free (λ w1. on_effect (element k i w1) (λ v w2. Falls (v ∷ st1) s w2)))))
  doing (OpSetat l) self st s w = on_top st (λ v st0. off_two st0 (λ a b st1. on_whole a (λ k. on_int b (λ i. free (λ w1. on_effect (set_element k i v w1) (λ _ w2. Falls st1 s w2))))))
  doing OpLength self st s w = on_top st (λ a st1. on_whole a (λ k. free (λ w1. on_effect (array_length k w1) (λ n w2. Falls (Int (pos n) ∷ st1) s w2))))
  doing (OpPutbyte l) self st s w = on_top st (λ v st1. on_int v (λ x. free (λ w1. on_effect (put_byte x w1) (λ _ w2. Falls st1 s w2))))
  doing OpPutint self st s w = on_top st (λ v st1. on_int v (λ x. for_turns (length (signed_decimal x) + 1) (λ w1. Falls st1 s (put_all (signed_decimal x) w1))))
  doing (OpGet l) self st s w = free (λ w1. push_number (get_byte w1) st s)
  doing (OpUnitword unit) self st s w = on_some (p.unit unit) (λ u. free (λ w1. Falls (Code unit ∷ st) s w1))
  doing (OpRaise name f l) self st s w = if_fine s (value_for f st (λ v st1. free (λ w1. Failing (Thrown name v) w1)))
  doing (OpIs name l) self st s w = free (λ w1. if is_thrown name s then Falls st s w1 else Jumps st s w1)
  doing (OpCaught f) self st s w = caught_deed f st s
  doing (OpReturn f) self st s w = value_for f st (λ v st1. free (λ w1. Leaves Fine v w1))
  doing OpLeave self st s w = free (λ w1. Leaves s None w1)
  doing (OpBody unit) self st s w = on_some (p.unit unit) (λ u. on_test (nat_eq u.kind 5) (free (λ w1. OpensBody u w1)))
  doing (OpYield l) self st s w = if_fine s (on_top st (λ v st1. for_turns 1 (λ w1. Yields v st1 w1)))
  doing OpStop self st s w = free (λ w1. Leaves IsStopped None w1)
  doing (OpStopped l) self st s w = free (λ w1. stopped_act st s w1)
  doing OpTurn self st s w = for_turns 1 (λ w1. Falls st s w1)
  doing (OpText bytes) self st s w = free (λ w1. Falls (Text bytes ∷ st) s w1)
  doing (OpAppend l) self st s w = off_two st (λ a b st1. on_text a (λ x. on_text b (λ y. append_deed x y st1 s)))
  doing (OpLetter l) self st s w = off_two st (λ a b st1. on_text a (λ x. on_int b (λ i. free (λ w1. on_effect (letter x i w1) (λ c w2. Falls (Int (pos c) ∷ st1) s w2)))))
  doing OpExtent self st s w = on_top st (λ v st1. on_text v (λ bytes. free (λ w1. Falls (Int (pos (length bytes)) ∷ st1) s w1)))
  doing OpPuttext self st s w = on_top st (λ v st1. on_text v (λ bytes. for_turns 1 (λ w1. Puts bytes st1 w1)))
  doing (OpBlock h e) self st s w = free (λ w1. Falls st s w1)
  doing (OpHandle name f l) self st s w = handle_deed name f st s
  doing (OpOver e) self st s w = free (λ w1. Opens w1)
  doing OpNext self st s w = free (λ w1. Nexts w1)
  doing OpResume self st s w = if_fine s (on_top st (λ v st1. for_turns 1 (λ w1. Yields v st1 w1)))
