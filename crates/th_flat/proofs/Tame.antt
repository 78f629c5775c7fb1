-- What an operation does of itself only adds to the trace, and has no part in the turns and the room that are left.
use Rattle.std.proofs.Common.{◌≡◌, ℕ, zero, suc, ◌+◌, Bool, true, false, List, [], ◌∷◌, ◌++◌, Option, Some, None, refl, sym, ap, ◌∙◌, length, append_assoc}
use Rattle.std.specs.Prelude.{ℤ, pos, negsuc, ◌+ℤ◌, ◌-ℤ◌, ◌*ℤ◌, neg_ℤ, int_div, int_rem, nat_lt, nat_eq, slice_get, option_map, find, replicate, if◌then◌else◌, bytes_eq}
use Rattle.std.specs.Fmt.{signed_decimal}
use Rattle.th_world.specs.Event.{Event, Put, Took, FoundEnd, Prefix}
use Rattle.th_meaning.specs.World.{Object, Instance, Array, Halt, Unset, Stuck, Effect, Did, Fails, Stops, and_then, negation, overflow, zero_divide, bounds, greatest, text_weight, note, fits_word, unless_overflow, is_zero, put_byte, put_all, take_of, get_byte, item_at, within_bounds, letter, add_object, on_array, element, array_length, with_item, with_object, set_element, on_instance, is_slot, if_set, field_value, set_field}
use Rattle.th_flat.specs.declared.op.FlatOp.{FlatOp}
use Rattle.th_flat.specs.declared.op.FlatOp.TheVariants.{OpWord, OpLocal, OpSet, OpDrop, OpArith, OpCompare, OpSame, OpGo, OpUnless, OpCast, OpOwn, OpField, OpSetfield, OpCall, OpDispatch, OpHidden, OpSupply, OpNew, OpArray, OpAt, OpSetat, OpLength, OpPutbyte, OpPutint, OpGet, OpUnitword, OpRaise, OpIs, OpCaught, OpReturn, OpLeave, OpBody, OpYield, OpStop, OpStopped, OpTurn, OpText, OpAppend, OpLetter, OpExtent, OpPuttext, OpBlock, OpHandle, OpOver, OpNext, OpResume}
use Rattle.th_flat.specs.declared.module.FlatUnit.{FlatUnit}
use Rattle.th_flat.specs.Values.{View, as_whole, at_type, FlatValue, Int, Ref, Text, Code, FlatWorld, Status, Fine, Thrown, IsStopped}
use Rattle.th_flat.specs.Program.{FlatProgram}
use Rattle.th_flat.specs.Deeds.{Act, Falls, Jumps, Loads, Stores, Failing, Calls, Leaves, Yields, Nexts, Opens, OpensBody, Puts, Stands, Charge, no_charge, Deed, free, for_both, stuck_act, on_effect, on_top, on_int, on_ref, on_text, on_code, on_whole, on_seen, on_some, on_test, off, off_two, on_class, on_self, arith_value, push_number, arith_deed, at_zero, calling, on_receiver, array_deed, append_deed, value_for, end_exception, caught_deed, is_thrown, handle_deed, if_fine, stopped_act, doing}

-- a world with other turns and another room
abbrev pub resourced : ℕ → Option ℕ → FlatWorld → FlatWorld
resourced n r w = record w { turns = n; room = r }

-- the world of an act, and the act with other turns and another room
abbrev pub act_world : Act → FlatWorld
act_world (Falls st s w) = w
act_world (Jumps st s w) = w
act_world (Loads k w) = w
act_world (Stores k v st w) = w
act_world (Failing s w) = w
act_world (Calls u args st w) = w
act_world (Leaves s v w) = w
act_world (Yields v st w) = w
act_world (Nexts w) = w
act_world (Opens w) = w
act_world (OpensBody u w) = w
act_world (Puts bytes st w) = w
act_world (Stands h w) = w

abbrev pub act_resourced : ℕ → Option ℕ → Act → Act
act_resourced n r (Falls st s w) = Falls st s (resourced n r w)
act_resourced n r (Jumps st s w) = Jumps st s (resourced n r w)
act_resourced n r (Loads k w) = Loads k (resourced n r w)
act_resourced n r (Stores k v st w) = Stores k v st (resourced n r w)
act_resourced n r (Failing s w) = Failing s (resourced n r w)
act_resourced n r (Calls u args st w) = Calls u args st (resourced n r w)
act_resourced n r (Leaves s v w) = Leaves s v (resourced n r w)
act_resourced n r (Yields v st w) = Yields v st (resourced n r w)
act_resourced n r (Nexts w) = Nexts (resourced n r w)
act_resourced n r (Opens w) = Opens (resourced n r w)
act_resourced n r (OpensBody u w) = OpensBody u (resourced n r w)
act_resourced n r (Puts bytes st w) = Puts bytes st (resourced n r w)
act_resourced n r (Stands h w) = Stands h (resourced n r w)

abbrev effect_world : {A : Type 0} → Effect FlatValue A → FlatWorld
effect_world (Did a w) = w
effect_world (Fails x w) = w
effect_world (Stops h w) = w

abbrev effect_resourced : {A : Type 0} → ℕ → Option ℕ → Effect FlatValue A → Effect FlatValue A
effect_resourced n r (Did a w) = Did a (resourced n r w)
effect_resourced n r (Fails x w) = Fails x (resourced n r w)
effect_resourced n r (Stops h w) = Stops h (resourced n r w)

pub prefix_refl : (t : List Event) → Prefix t t
prefix_refl t = record { more = []; is = refl }

pub prefix_trans : (t u v : List Event) → Prefix t u → Prefix u v → Prefix t v
prefix_trans t u v p q = record { more = q.more ++ p.more; is = q.is ∙ ap (λ l. q.more ++ l) p.is ∙ sym (append_assoc q.more p.more t) }

pub record TameEffect {A : Type 0} (e : FlatWorld → Effect FlatValue A) : Type 0 where
  pub commutes : (n : ℕ) (r : Option ℕ) (w : FlatWorld) → e (resourced n r w) ≡ effect_resourced n r (e w)
  pub later : (w : FlatWorld) → Prefix w.trace (effect_world (e w)).trace

pub record TameAct (f : FlatWorld → Act) : Type 0 where
  pub commutes : (n : ℕ) (r : Option ℕ) (w : FlatWorld) → f (resourced n r w) ≡ act_resourced n r (f w)
  pub later : (w : FlatWorld) → Prefix w.trace (act_world (f w)).trace

-- effects
tame_did : {A : Type 0} (a : A) → TameEffect (λ w. Did a w)
tame_did a = record { commutes = λ n r w. refl; later = λ w. prefix_refl w.trace }

tame_fails : {A : Type 0} (x : List ℕ) → TameEffect {A = A} (λ w. Fails x w)
tame_fails x = record { commutes = λ n r w. refl; later = λ w. prefix_refl w.trace }

tame_stops : {A : Type 0} (h : Halt) → TameEffect {A = A} (λ w. Stops h w)
tame_stops h = record { commutes = λ n r w. refl; later = λ w. prefix_refl w.trace }

tame_if : {A : Type 0} (b : Bool) (e f : FlatWorld → Effect FlatValue A) → TameEffect e → TameEffect f → TameEffect (λ w. if b then e w else f w)
tame_if true e f t u = t
tame_if false e f t u = u

tame_unless_overflow : (x y : ℤ) → TameEffect (unless_overflow x y)
tame_unless_overflow x y = tame_if (fits_word x) (λ w. Did y w) (λ w. Fails overflow w) (tame_did y) (tame_fails overflow)

pub tame_arith : (g : ℕ) (x y : ℤ) → TameEffect (arith_value g x y)
tame_arith zero x y = tame_unless_overflow (x +ℤ y) (x +ℤ y)
tame_arith (suc zero) x y = tame_unless_overflow (x -ℤ y) (x -ℤ y)
tame_arith (suc (suc zero)) x y = tame_unless_overflow (x *ℤ y) (x *ℤ y)
tame_arith (suc (suc (suc zero))) x y = tame_if (is_zero y) (λ w. Fails zero_divide w) (unless_overflow (int_div x y) (int_div x y)) (tame_fails zero_divide) (tame_unless_overflow (int_div x y) (int_div x y))
tame_arith (suc (suc (suc (suc g)))) x y = tame_if (is_zero y) (λ w. Fails zero_divide w) (unless_overflow (int_div x y) (int_rem x y)) (tame_fails zero_divide) (tame_unless_overflow (int_div x y) (int_rem x y))

tame_put_byte : (x : ℤ) → TameEffect (put_byte x)
tame_put_byte (pos n) = tame_if (nat_lt n 256) (λ w. Did tt (note (Put n) w)) (λ w. Fails bounds w) (record { commutes = λ n r w. refl; later = λ w. record { more = Put n ∷ []; is = refl } }) (tame_fails bounds)
tame_put_byte (negsuc n) = tame_fails bounds

take_commutes : (input : List ℕ) (n : ℕ) (r : Option ℕ) (w : FlatWorld) → take_of input (resourced n r w) ≡ effect_resourced n r (take_of input w)
take_commutes [] n r w = refl
take_commutes (b ∷ bytes) n r w = refl

take_later : (input : List ℕ) (w : FlatWorld) → Prefix w.trace (effect_world (take_of input w)).trace
take_later [] w = record { more = FoundEnd ∷ []; is = refl }
take_later (b ∷ bytes) w = record { more = Took b ∷ []; is = refl }

tame_get_byte : TameEffect get_byte
tame_get_byte = record { commutes = λ n r w. take_commutes w.input n r w; later = λ w. take_later w.input w }

tame_within : {A : Type 0} (o : Option A) → TameEffect (within_bounds o)
tame_within None = tame_fails bounds
tame_within (Some a) = tame_did a

-- an effect on the object of a number
tame_object : {A : Type 0} (k : ℕ) (f : Option (Object FlatValue) → FlatWorld → Effect FlatValue A) → ((o : Option (Object FlatValue)) → TameEffect (f o)) → TameEffect (λ w. f (slice_get w.objects k) w)
tame_object k f t = record { commutes = λ n r w. (t (slice_get w.objects k)).commutes n r w; later = λ w. (t (slice_get w.objects k)).later w }

tame_element : (k : ℕ) (i : ℤ) → TameEffect (element k i)
tame_element k i = tame_object k (λ o w. on_array o w (λ elements. within_bounds (item_at elements i) w)) each
  where
    each : (o : Option (Object FlatValue)) → TameEffect (λ w. on_array o w (λ elements. within_bounds (item_at elements i) w))
    each None = tame_stops Stuck
    each (Some (Instance class slots)) = tame_stops Stuck
    each (Some (Array elements)) = tame_within (item_at elements i)

tame_array_length : (k : ℕ) → TameEffect (array_length k)
tame_array_length k = tame_object k (λ o w. on_array o w (λ elements. Did (length elements) w)) each
  where
    each : (o : Option (Object FlatValue)) → TameEffect (λ w. on_array o w (λ elements. Did (length elements) w))
    each None = tame_stops Stuck
    each (Some (Instance class slots)) = tame_stops Stuck
    each (Some (Array elements)) = tame_did (length elements)

tame_set_element : (k : ℕ) (i : ℤ) (v : FlatValue) → TameEffect (set_element k i v)
tame_set_element k i v = tame_object k (λ o w. on_array o w (λ elements. and_then (within_bounds (item_at elements i) w) (λ _ w1. Did tt (with_object k (Array (with_item elements i v)) w1)))) each
  where
    put_there : (elements : List FlatValue) (o : Option FlatValue) → TameEffect {A = Unit {0}} (λ w. and_then (within_bounds o w) (λ _ w1. Did tt (with_object k (Array (with_item elements i v)) w1)))
    put_there elements None = tame_fails bounds
    put_there elements (Some x) = record { commutes = λ n r w. refl; later = λ w. prefix_refl w.trace }

    each : (o : Option (Object FlatValue)) → TameEffect {A = Unit {0}} (λ w. on_array o w (λ elements. and_then (within_bounds (item_at elements i) w) (λ _ w1. Did tt (with_object k (Array (with_item elements i v)) w1))))
    each None = tame_stops Stuck
    each (Some (Instance class slots)) = tame_stops Stuck
    each (Some (Array elements)) = put_there elements (item_at elements i)

tame_field_value : (k : ℕ) (class : List ℕ) (i : ℕ) → TameEffect (field_value k class i)
tame_field_value k class i = tame_object k (λ o w. on_instance o w (λ _ slots. if_set (option_map (λ s. s.value) (find (is_slot class i) slots)) w)) each
  where
    read : (o : Option FlatValue) → TameEffect (λ w. if_set o w)
    read None = tame_stops Unset
    read (Some v) = tame_did v

    each : (o : Option (Object FlatValue)) → TameEffect (λ w. on_instance o w (λ _ slots. if_set (option_map (λ s. s.value) (find (is_slot class i) slots)) w))
    each None = tame_stops Stuck
    each (Some (Instance c slots)) = read (option_map (λ s. s.value) (find (is_slot class i) slots))
    each (Some (Array elements)) = tame_stops Stuck

tame_set_field : (k : ℕ) (class : List ℕ) (i : ℕ) (v : FlatValue) → TameEffect (set_field k class i v)
tame_set_field k class i v = tame_object k (λ o w. on_instance o w (λ c slots. Did tt (with_object k (Instance c (record { class = class; field = i; value = v } ∷ slots)) w))) each
  where
    each : (o : Option (Object FlatValue)) → TameEffect (λ w. on_instance {A = Unit {0}} o w (λ c slots. Did tt (with_object k (Instance c (record { class = class; field = i; value = v } ∷ slots)) w)))
    each None = tame_stops Stuck
    each (Some (Instance c slots)) = record { commutes = λ n r w. refl; later = λ w. prefix_refl w.trace }
    each (Some (Array elements)) = tame_stops Stuck

tame_add_object : (o : Object FlatValue) → TameEffect (add_object o)
tame_add_object o = record { commutes = λ n r w. refl; later = λ w. prefix_refl w.trace }

put_all_resourced : (bytes : List ℕ) (n : ℕ) (r : Option ℕ) (w : FlatWorld) → put_all bytes (resourced n r w) ≡ resourced n r (put_all bytes w)
put_all_resourced [] n r w = refl
put_all_resourced (b ∷ bytes) n r w = put_all_resourced bytes n r (note (Put b) w)

put_all_later : (bytes : List ℕ) (w : FlatWorld) → Prefix w.trace (put_all bytes w).trace
put_all_later [] w = prefix_refl w.trace
put_all_later (b ∷ bytes) w = prefix_trans w.trace (note (Put b) w).trace (put_all bytes (note (Put b) w)).trace (record { more = Put b ∷ []; is = refl }) (put_all_later bytes (note (Put b) w))

-- deeds
abbrev pub Tame : Deed Act → Type 0
Tame d = TameAct d.act

tame_stuck : Tame stuck_act
tame_stuck = record { commutes = λ n r w. refl; later = λ w. prefix_refl w.trace }

tame_falls : (st : List FlatValue) (s : Status) → Tame (free (λ w. Falls st s w))
tame_falls st s = record { commutes = λ n r w. refl; later = λ w. prefix_refl w.trace }

tame_top : (st : List FlatValue) (go : FlatValue → List FlatValue → Deed Act) → ((v : FlatValue) (st1 : List FlatValue) → Tame (go v st1)) → Tame (on_top st go)
tame_top [] go t = tame_stuck
tame_top (v ∷ st) go t = t v st

tame_int : (v : FlatValue) (go : ℤ → Deed Act) → ((n : ℤ) → Tame (go n)) → Tame (on_int v go)
tame_int (Int n) go t = t n
tame_int (Ref k view) go t = tame_stuck
tame_int (Text bytes) go t = tame_stuck
tame_int (Code unit) go t = tame_stuck

tame_ref : (v : FlatValue) (go : ℕ → View → Deed Act) → ((k : ℕ) (view : View) → Tame (go k view)) → Tame (on_ref v go)
tame_ref (Int n) go t = tame_stuck
tame_ref (Ref k view) go t = t k view
tame_ref (Text bytes) go t = tame_stuck
tame_ref (Code unit) go t = tame_stuck

tame_text : (v : FlatValue) (go : List ℕ → Deed Act) → ((bytes : List ℕ) → Tame (go bytes)) → Tame (on_text v go)
tame_text (Int n) go t = tame_stuck
tame_text (Ref k view) go t = tame_stuck
tame_text (Text bytes) go t = t bytes
tame_text (Code unit) go t = tame_stuck

tame_code : (v : FlatValue) (go : List ℕ → Deed Act) → ((unit : List ℕ) → Tame (go unit)) → Tame (on_code v go)
tame_code (Int n) go t = tame_stuck
tame_code (Ref k view) go t = tame_stuck
tame_code (Text bytes) go t = tame_stuck
tame_code (Code unit) go t = t unit

tame_cond : (b : Bool) (d e : Deed Act) → Tame d → Tame e → Tame (if b then d else e)
tame_cond true d e t u = t
tame_cond false d e t u = u

tame_whole : (v : FlatValue) (go : ℕ → Deed Act) → ((k : ℕ) → Tame (go k)) → Tame (on_whole v go)
tame_whole (Int n) go t = tame_stuck
tame_whole (Ref k as_whole) go t = t k
tame_whole (Ref k (at_type name)) go t = tame_stuck
tame_whole (Text bytes) go t = tame_stuck
tame_whole (Code unit) go t = tame_stuck

tame_seen : (name : List ℕ) (v : FlatValue) (go : ℕ → Deed Act) → ((k : ℕ) → Tame (go k)) → Tame (on_seen name v go)
tame_seen name (Int n) go t = tame_stuck
tame_seen name (Ref k as_whole) go t = tame_stuck
tame_seen name (Ref k (at_type other)) go t = tame_cond (bytes_eq other name) (go k) stuck_act (t k) tame_stuck
tame_seen name (Text bytes) go t = tame_stuck
tame_seen name (Code unit) go t = tame_stuck

tame_some : {A : Type 0} (o : Option A) (go : A → Deed Act) → ((a : A) → Tame (go a)) → Tame (on_some o go)
tame_some None go t = tame_stuck
tame_some (Some a) go t = t a

tame_test : (b : Bool) (d : Deed Act) → Tame d → Tame (on_test b d)
tame_test true d t = t
tame_test false d t = tame_stuck

tame_off : (k : ℕ) (vs st : List FlatValue) (go : List FlatValue → List FlatValue → Deed Act) → ((us rest : List FlatValue) → Tame (go us rest)) → Tame (off k vs st go)
tame_off zero vs st go t = t vs st
tame_off (suc k) vs [] go t = tame_stuck
tame_off (suc k) vs (v ∷ st) go t = tame_off k (v ∷ vs) st go t

tame_two : (st : List FlatValue) (go : FlatValue → FlatValue → List FlatValue → Deed Act) → ((x y : FlatValue) (rest : List FlatValue) → Tame (go x y rest)) → Tame (off_two st go)
tame_two [] go t = tame_stuck
tame_two (y ∷ []) go t = tame_stuck
tame_two (y ∷ (x ∷ st)) go t = t x y st

tame_class : (o : Option (Object FlatValue)) (go : List ℕ → Deed Act) → ((class : List ℕ) → Tame (go class)) → Tame (on_class o go)
tame_class None go t = tame_stuck
tame_class (Some (Instance class slots)) go t = t class
tame_class (Some (Array elements)) go t = tame_stuck

tame_self : (self : Option FlatValue) (w : FlatWorld) (go : ℕ → List ℕ → Deed Act) → ((k : ℕ) (class : List ℕ) → Tame (go k class)) → Tame (on_self self w go)
tame_self None w go t = tame_stuck
tame_self (Some v) w go t = tame_whole v (λ k. on_class (slice_get w.objects k) (go k)) (λ k. tame_class (slice_get w.objects k) (go k) (t k))

tame_fine : (s : Status) (d : Deed Act) → Tame d → Tame (if_fine s d)
tame_fine Fine d t = t
tame_fine (Thrown x v) d t = tame_stuck
tame_fine IsStopped d t = tame_stuck

tame_value : (f : ℕ) (st : List FlatValue) (go : Option FlatValue → List FlatValue → Deed Act) → ((v : Option FlatValue) (rest : List FlatValue) → Tame (go v rest)) → Tame (value_for f st go)
tame_value zero st go t = t None st
tame_value (suc zero) [] go t = tame_stuck
tame_value (suc zero) (v ∷ st) go t = t (Some v) st
tame_value (suc (suc f)) st go t = tame_stuck

tame_receiver : (vs : List FlatValue) (go : FlatValue → List FlatValue → Deed Act) → ((v : FlatValue) (rest : List FlatValue) → Tame (go v rest)) → Tame (on_receiver vs go)
tame_receiver [] go t = tame_stuck
tame_receiver (v ∷ vs) go t = t v vs

tame_calling : (unit : Option FlatUnit) (charge : FlatUnit → Charge) (args st : List FlatValue) → Tame (calling unit charge args st)
tame_calling None charge args st = tame_stuck
tame_calling (Some u) charge args st = tame_test (nat_eq (length args) u.args) (record { charge = charge u; act = λ w. Calls u args st w }) (record { commutes = λ n r w. refl; later = λ w. prefix_refl w.trace })

-- what follows an effect
on_resourced : {A : Type 0} (e : Effect FlatValue A) (go : A → FlatWorld → Act) → ((a : A) → TameAct (go a)) → (n : ℕ) (r : Option ℕ) → on_effect (effect_resourced n r e) go ≡ act_resourced n r (on_effect e go)
on_resourced (Did a w) go t n r = (t a).commutes n r w
on_resourced (Fails x w) go t n r = refl
on_resourced (Stops h w) go t n r = refl

on_later : {A : Type 0} (e : Effect FlatValue A) (go : A → FlatWorld → Act) → ((a : A) → TameAct (go a)) → Prefix (effect_world e).trace (act_world (on_effect e go)).trace
on_later (Did a w) go t = (t a).later w
on_later (Fails x w) go t = prefix_refl w.trace
on_later (Stops h w) go t = prefix_refl w.trace

tame_on : {A : Type 0} (e : FlatWorld → Effect FlatValue A) (go : A → FlatWorld → Act) → TameEffect e → ((a : A) → TameAct (go a)) → TameAct (λ w. on_effect (e w) go)
tame_on e go t u = record {
  commutes = λ n r w. ap (λ x. on_effect x go) (t.commutes n r w) ∙ on_resourced (e w) go u n r;
  later = λ w. prefix_trans w.trace (effect_world (e w)).trace (act_world (on_effect (e w) go)).trace (t.later w) (on_later (e w) go u);
}

-- an act that changes nothing of the world
tame_falls_act : (st : List FlatValue) (s : Status) → TameAct (λ w. Falls st s w)
tame_falls_act st s = record { commutes = λ n r w. refl; later = λ w. prefix_refl w.trace }

tame_failing : (s : Status) → TameAct (λ w. Failing s w)
tame_failing s = record { commutes = λ n r w. refl; later = λ w. prefix_refl w.trace }

tame_number : (e : FlatWorld → Effect FlatValue ℤ) (st : List FlatValue) (s : Status) → TameEffect e → TameAct (λ w. push_number (e w) st s)
tame_number e st s t = tame_on e (λ n w1. Falls (Int n ∷ st) s w1) t (λ n. tame_falls_act (Int n ∷ st) s)

tame_arith_deed : (g : ℕ) (st : List FlatValue) (s : Status) → Tame (arith_deed g st s)
tame_arith_deed g st s = tame_cond (nat_lt g 5) (off_two st (λ a b st1. on_int a (λ x. on_int b (λ y. free (λ w. push_number (arith_value g x y w) st1 s))))) (on_test (nat_eq g 5) (on_top st (λ a st1. on_int a (λ x. free (λ w. push_number (negation x w) st1 s)))))
    (tame_two st _ (λ a b st1. tame_int a _ (λ x. tame_int b _ (λ y. tame_number (arith_value g x y) st1 s (tame_arith g x y)))))
    (tame_test (nat_eq g 5) _ (tame_top st _ (λ a st1. tame_int a _ (λ x. tame_number (negation x) st1 s (tame_unless_overflow (neg_ℤ x) (neg_ℤ x))))))

tame_array_deed : (n : ℤ) (fill : FlatValue) (st : List FlatValue) (s : Status) → Tame (array_deed n fill st s)
tame_array_deed (pos n) fill st s = tame_on (add_object (Array (replicate n fill))) (λ k w1. Falls (Ref k as_whole ∷ st) s w1) (tame_add_object (Array (replicate n fill))) (λ k. tame_falls_act (Ref k as_whole ∷ st) s)
tame_array_deed (negsuc n) fill st s = tame_failing (Thrown bounds None)

tame_append_deed : (a b : List ℕ) (st : List FlatValue) (s : Status) → Tame (append_deed a b st s)
tame_append_deed a b st s = tame_cond (nat_lt greatest (length a + length b)) (free (λ w. Failing (Thrown bounds None) w)) (for_both (length a + length b + 1) (text_weight (length a + length b)) (λ w. Falls (Text (a ++ b) ∷ st) s w)) (tame_failing (Thrown bounds None)) (tame_falls_act (Text (a ++ b) ∷ st) s)

tame_end_exception : (f : ℕ) (v : Option FlatValue) (st : List FlatValue) → Tame (end_exception f v st)
tame_end_exception zero v st = tame_falls st Fine
tame_end_exception (suc zero) None st = tame_stuck
tame_end_exception (suc zero) (Some v) st = tame_falls (v ∷ st) Fine
tame_end_exception (suc (suc f)) v st = tame_stuck

tame_caught : (f : ℕ) (st : List FlatValue) (s : Status) → Tame (caught_deed f st s)
tame_caught f st Fine = tame_stuck
tame_caught f st (Thrown x v) = tame_end_exception f v st
tame_caught f st IsStopped = tame_stuck

tame_handle : (name : List ℕ) (f : ℕ) (st : List FlatValue) (s : Status) → Tame (handle_deed name f st s)
tame_handle name f [] Fine = tame_stuck
tame_handle name f [] IsStopped = tame_stuck
tame_handle name f [] (Thrown x v) = tame_cond (bytes_eq x name) (end_exception f v []) (free (λ w. Failing (Thrown x v) w)) (tame_end_exception f v []) (tame_failing (Thrown x v))
tame_handle name f (v ∷ st) s = tame_stuck

-- an act that goes on or to a label
tame_choice : (b : Bool) (f g : FlatWorld → Act) → TameAct f → TameAct g → TameAct (λ w. if b then f w else g w)
tame_choice true f g t u = t
tame_choice false f g t u = u

tame_at_zero : (x : ℤ) (f g : FlatWorld → Act) → TameAct f → TameAct g → TameAct (λ w. at_zero x (f w) (g w))
tame_at_zero (pos zero) f g t u = t
tame_at_zero (pos (suc n)) f g t u = u
tame_at_zero (negsuc n) f g t u = u

tame_jumps : (st : List FlatValue) (s : Status) → TameAct (λ w. Jumps st s w)
tame_jumps st s = record { commutes = λ n r w. refl; later = λ w. prefix_refl w.trace }

tame_stopped : (st : List FlatValue) (s : Status) → TameAct (λ w. stopped_act st s w)
tame_stopped st Fine = tame_jumps st Fine
tame_stopped st (Thrown x v) = tame_jumps st (Thrown x v)
tame_stopped st IsStopped = tame_falls_act st Fine

-- a value is pushed that an effect gives; what follows an effect without a value
tame_pushes : {A : Type 0} (e : FlatWorld → Effect FlatValue A) (value : A → FlatValue) (st : List FlatValue) (s : Status) → TameEffect e → TameAct (λ w. on_effect (e w) (λ a w1. Falls (value a ∷ st) s w1))
tame_pushes e value st s t = tame_on e (λ a w1. Falls (value a ∷ st) s w1) t (λ a. tame_falls_act (value a ∷ st) s)

tame_does : (e : FlatWorld → Effect FlatValue (Unit {0})) (st : List FlatValue) (s : Status) → TameEffect e → TameAct (λ w. on_effect (e w) (λ _ w1. Falls st s w1))
tame_does e st s t = tame_on e (λ _ w1. Falls st s w1) t (λ _. tame_falls_act st s)

tame_puts : (bytes : List ℕ) (st : List FlatValue) (s : Status) → TameAct (λ w. Falls st s (put_all bytes w))
tame_puts bytes st s = record { commutes = λ n r w. ap (λ x. Falls st s x) (put_all_resourced bytes n r w); later = λ w. put_all_later bytes w }

tame_letter : (bytes : List ℕ) (i : ℤ) → TameEffect (letter bytes i)
tame_letter bytes i = tame_within (item_at bytes i)

tame_plain : (f : FlatWorld → Act) → ((n : ℕ) (r : Option ℕ) (w : FlatWorld) → f (resourced n r w) ≡ act_resourced n r (f w)) → ((w : FlatWorld) → Prefix w.trace (act_world (f w)).trace) → TameAct f
tame_plain f c l = record { commutes = c; later = l }

module _ (p : FlatProgram) where
  pub tame_doing : (op : FlatOp) (self : Option FlatValue) (st : List FlatValue) (s : Status) (w : FlatWorld) → Tame (doing p op self st s w)
  tame_doing (OpWord n) self st s w = tame_falls_act _ _
  tame_doing (OpLocal k) self st s w = record { commutes = λ n r w1. refl; later = λ w1. prefix_refl w1.trace }
  tame_doing (OpSet k) self st s w = tame_top st _ (λ v st1. record { commutes = λ n r w1. refl; later = λ w1. prefix_refl w1.trace })
  tame_doing OpDrop self st s w = tame_top st _ (λ v st1. tame_falls_act st1 s)
  tame_doing (OpArith g l) self st s w = tame_arith_deed g st s
  tame_doing (OpCompare g) self st s w = tame_two st _ (λ a b st1. tame_int a _ (λ x. tame_int b _ (λ y. tame_falls_act _ _)))
  tame_doing OpSame self st s w = tame_two st _ (λ a b st1. tame_ref a _ (λ j _. tame_ref b _ (λ k _. tame_falls_act _ _)))
  tame_doing (OpGo l) self st s w = tame_jumps st s
  tame_doing (OpUnless l) self st s w = tame_top st _ (λ v st1. tame_int v _ (λ x. tame_at_zero x _ _ (tame_jumps st1 s) (tame_falls_act st1 s)))
  tame_doing (OpCast from to) self st s w = tame_top st _ (λ v st1. tame_seen from v _ (λ k. tame_test (p.reaches from to) _ (tame_falls_act _ _)))
  tame_doing (OpOwn class) self st s w = tame_self self w _ (λ k of. tame_test (p.inherits of class) _ (tame_some (p.class_type class) _ (λ t. tame_falls_act _ _)))
  tame_doing (OpField class i) self st s w = tame_self self w _ (λ k of. tame_test _ _ (tame_pushes (field_value k class i) (λ v. v) st s (tame_field_value k class i)))
  tame_doing (OpSetfield class i) self st s w = tame_self self w _ (λ k of. tame_test _ _ (tame_top st _ (λ v st1. tame_does (set_field k class i v) st1 s (tame_set_field k class i v))))
  tame_doing (OpCall unit n f l) self st s w = tame_fine s _ (tame_off n [] st _ (λ vs st1. tame_calling (p.called unit) _ vs st1))
  tame_doing (OpDispatch head method n f l) self st s w = tame_fine s _ (tame_off n [] st _ (λ vs st1. tame_receiver vs _ (λ v rest. tame_seen head v _ (λ k. tame_class (slice_get w.objects k) _ (λ class. tame_calling (p.dispatched head method class) _ (Ref k as_whole ∷ rest) st1)))))
  tame_doing (OpHidden class method n f l) self st s w = tame_fine s _ (tame_off n [] st _ (λ vs st1. tame_receiver vs _ (λ v rest. tame_whole v _ (λ k. tame_class (slice_get w.objects k) _ (λ of. tame_calling (p.hidden class method of) _ (v ∷ rest) st1)))))
  tame_doing (OpSupply n f l) self st s w = tame_fine s _ (tame_off n [] st _ (λ vs st1. tame_top st1 _ (λ v st2. tame_code v _ (λ unit. tame_some (p.unit unit) _ (λ u. tame_test (nat_eq u.kind 6) _ (tame_calling (Some u) (λ _. no_charge) vs st2))))))
  tame_doing (OpNew class) self st s w = tame_some (p.weight class) _ (λ weight. tame_pushes (add_object (Instance class [])) (λ k. Ref k as_whole) st s (tame_add_object (Instance class [])))
  tame_doing (OpArray l) self st s w = tame_two st _ (λ a fill st1. tame_int a _ (λ n. tame_array_deed n fill st1 s))
  tame_doing (OpAt l) self st s w = tame_two st _ (λ a b st1. tame_whole a _ (λ k. tame_int b _ (λ i. tame_pushes (element k i) (λ v. v) st1 s (tame_element k i))))
  tame_doing (OpSetat l) self st s w = tame_top st _ (λ v st0. tame_two st0 _ (λ a b st1. tame_whole a _ (λ k. tame_int b _ (λ i. tame_does (set_element k i v) st1 s (tame_set_element k i v)))))
  tame_doing OpLength self st s w = tame_top st _ (λ a st1. tame_whole a _ (λ k. tame_pushes (array_length k) (λ n. Int (pos n)) st1 s (tame_array_length k)))
  tame_doing (OpPutbyte l) self st s w = tame_top st _ (λ v st1. tame_int v _ (λ x. tame_does (put_byte x) st1 s (tame_put_byte x)))
  tame_doing OpPutint self st s w = tame_top st _ (λ v st1. tame_int v _ (λ x. tame_puts (signed_decimal x) st1 s))
  tame_doing (OpGet l) self st s w = tame_number get_byte st s tame_get_byte
  tame_doing (OpUnitword unit) self st s w = tame_some (p.unit unit) _ (λ u. tame_falls_act _ _)
  tame_doing (OpRaise name f l) self st s w = tame_fine s _ (tame_value f st _ (λ v st1. tame_failing (Thrown name v)))
  tame_doing (OpIs name l) self st s w = tame_choice (is_thrown name s) _ _ (tame_falls_act st s) (tame_jumps st s)
  tame_doing (OpCaught f) self st s w = tame_caught f st s
  tame_doing (OpReturn f) self st s w = tame_value f st _ (λ v st1. record { commutes = λ n r w1. refl; later = λ w1. prefix_refl w1.trace })
  tame_doing OpLeave self st s w = record { commutes = λ n r w1. refl; later = λ w1. prefix_refl w1.trace }
  tame_doing (OpBody unit) self st s w = tame_some (p.unit unit) _ (λ u. tame_test (nat_eq u.kind 5) _ (record { commutes = λ n r w1. refl; later = λ w1. prefix_refl w1.trace }))
  tame_doing (OpYield l) self st s w = tame_fine s _ (tame_top st _ (λ v st1. record { commutes = λ n r w1. refl; later = λ w1. prefix_refl w1.trace }))
  tame_doing OpStop self st s w = record { commutes = λ n r w1. refl; later = λ w1. prefix_refl w1.trace }
  tame_doing (OpStopped l) self st s w = tame_stopped st s
  tame_doing OpTurn self st s w = tame_falls_act st s
  tame_doing (OpText bytes) self st s w = tame_falls_act _ _
  tame_doing (OpAppend l) self st s w = tame_two st _ (λ a b st1. tame_text a _ (λ x. tame_text b _ (λ y. tame_append_deed x y st1 s)))
  tame_doing (OpLetter l) self st s w = tame_two st _ (λ a b st1. tame_text a _ (λ x. tame_int b _ (λ i. tame_pushes (letter x i) (λ c. Int (pos c)) st1 s (tame_letter x i))))
  tame_doing OpExtent self st s w = tame_top st _ (λ v st1. tame_text v _ (λ bytes. tame_falls_act _ _))
  tame_doing OpPuttext self st s w = tame_top st _ (λ v st1. tame_text v _ (λ bytes. record { commutes = λ n r w1. refl; later = λ w1. prefix_refl w1.trace }))
  tame_doing (OpBlock h e) self st s w = tame_falls_act st s
  tame_doing (OpHandle name f l) self st s w = tame_handle name f st s
  tame_doing (OpOver e) self st s w = record { commutes = λ n r w1. refl; later = λ w1. prefix_refl w1.trace }
  tame_doing OpNext self st s w = record { commutes = λ n r w1. refl; later = λ w1. prefix_refl w1.trace }
  tame_doing OpResume self st s w = tame_fine s _ (tame_top st _ (λ v st1. record { commutes = λ n r w1. refl; later = λ w1. prefix_refl w1.trace }))

  -- what an operation does looks at the objects of the world alone
  pub doing_resourced : (n : ℕ) (r : Option ℕ) (op : FlatOp) (self : Option FlatValue) (st : List FlatValue) (s : Status) (w : FlatWorld) → doing p op self st s (resourced n r w) ≡ doing p op self st s w
  doing_resourced n r (OpOwn class) self st s w = refl
  doing_resourced n r (OpField class i) self st s w = refl
  doing_resourced n r (OpSetfield class i) self st s w = refl
  doing_resourced n r (OpDispatch head method k f l) self st s w = refl
  doing_resourced n r (OpHidden class method k f l) self st s w = refl
  doing_resourced n r _ self st s w = refl
