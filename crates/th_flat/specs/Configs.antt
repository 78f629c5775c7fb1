-- How a Flat run goes step by step, on all three levels.
use Rattle.std.specs.Prelude.{ℕ, zero, suc, ◌+◌, ◌*◌, Bool, true, false, ◌&&◌, ◌||◌, not, List, [], ◌∷◌, length, replicate, set, Option, Some, None, nat_eq, nat_lt, nat_le, bytes_eq, slice_get, if◌then◌else◌}
use Rattle.th_world.specs.Event.{Put, Entered}
use Rattle.th_meaning.specs.World.{Halt, Stuck, Unset, Effect, Did, Fails, Stops, and_then, spend, reserve, give_back, note, yield_weight}
use Rattle.th_flat.specs.declared.op.FlatOp.{FlatOp}
use Rattle.th_flat.specs.declared.op.FlatOp.TheVariants.{OpArith, OpGo, OpUnless, OpCall, OpDispatch, OpHidden, OpSupply, OpArray, OpAt, OpSetat, OpPutbyte, OpGet, OpRaise, OpIs, OpYield, OpStopped, OpAppend, OpLetter, OpBlock, OpHandle, OpOver, OpNext, OpResume}
use Rattle.th_flat.specs.declared.module.FlatUnit.{FlatUnit}
use Rattle.th_flat.specs.Values.{as_whole, at_type, FlatValue, Int, Ref, Text, Code, FlatWorld, Status, Fine, Thrown, IsStopped}
use Rattle.th_flat.specs.Program.{FlatProgram}
use Rattle.th_flat.specs.Deeds.{Act, Falls, Jumps, Loads, Stores, Failing, Calls, Leaves, Yields, Nexts, Opens, OpensBody, Puts, Stands, Charge, no_charge, takes_turns, takes_room, takes_both, Deed, free, for_turns, doing}

-- the loop body of a call: none; the operations from the first one up to before the second; or a unit of its own, for the unit
-- that its home is in
pub data Loop : Type 0 where
  NoLoop : Loop
  Upto : (first last : ℕ) → Loop
  ByUnit : (home body : FlatUnit) → Loop

-- what a unit's operations work on besides the world: its stack, its local words (None: not yet set) and the status
pub record Here : Type 0 where
  pub stack : List FlatValue
  pub locals : List (Option FlatValue)
  pub status : Status

-- activations, the nearest first. What lies below the running unit: activations that wait at a call, or at their yield while
-- the body just ended, with what they hold and the loop body of the call. What a unit holds: the iterators that wait at their yields
-- while it runs their loop bodies, the innermost first: each with its unit, its yield, its stack, its local words and what it
-- holds itself; then the operation of the home's call, that call's loop body, and the others that are held
pub data Stack : Type 0 where
  Bottom : Stack
  Call : (unit : FlatUnit) → (at : ℕ) → (stack : List FlatValue) → (locals : List (Option FlatValue)) → (held : Stack) → Loop → (below : Stack) → Stack
  Paused : (iterator : FlatUnit) → (at : ℕ) → (stack : List FlatValue) → (locals : List (Option FlatValue)) → (holds : Stack) → (home_at : ℕ) → Loop → (rest : Stack) → Stack

-- how a run ends: `main` ended, it raised an exception, or the run stopped
pub data FlatEnd : Type 0 where
  Ends : FlatEnd
  Raises : (name : List ℕ) → FlatEnd
  Halts : Halt → FlatEnd

pub data Config : Type 0 where
  -- a unit is at an operation; the loop body of the next call; what the unit holds, and what lies below
  Run : (unit : FlatUnit) → (at : ℕ) → Loop → Here → (held below : Stack) → FlatWorld → Config
  -- before the room and the entry of a unit
  Entering : (unit : FlatUnit) → (args : List FlatValue) → (below : Stack) → FlatWorld → Config
  -- before the room of an open yield: the value, the unit and the operation that the loop body begins at, the home's local words
  Visiting : FlatValue → (unit : FlatUnit) → (at : ℕ) → (locals : List (Option FlatValue)) → (held below : Stack) → FlatWorld → Config
  -- an activation ended with a status, and perhaps a value
  Returned : Status → (value : Option FlatValue) → (below : Stack) → FlatWorld → Config
  -- bytes are put, one after another, by the operation before the one that is named
  Putting : (bytes : List ℕ) → (unit : FlatUnit) → (at : ℕ) → Here → (held below : Stack) → FlatWorld → Config
  -- the run is over
  Over : FlatEnd → FlatWorld → Config

-- a step that no operation of a lawful unit takes
abbrev pub stuck : FlatWorld → Config
stuck w = Over (Halts Stuck) w

-- the weight of the open call that a unit's words are in, which for a loop body is that of its home; a supply stub has none
abbrev pub weight_of : FlatUnit → ℕ
weight_of u = if nat_eq u.kind 6 then 0 else 256 + 4 * (u.locals + u.depth)

-- what entering a unit takes
abbrev pub entry_charge : FlatUnit → Charge
entry_charge u = if nat_eq u.kind 6 then no_charge else takes_room (weight_of u)

-- whether a unit is a loop body
abbrev pub is_body : FlatUnit → Bool
is_body u = nat_eq u.kind 5

-- whether a unit is an iterator
abbrev pub is_iterator : FlatUnit → Bool
is_iterator u = nat_eq u.kind 1 || nat_eq u.kind 3

-- the local words of an activation at its entry: the operands, and then words that aren't set
abbrev pub frame : ℕ → List FlatValue → List (Option FlatValue)
frame n [] = replicate n None
frame zero (v ∷ vs) = []
frame (suc n) (v ∷ vs) = Some v ∷ frame n vs

-- how many local words a unit has
abbrev pub words_of : FlatUnit → ℕ
words_of u = u.args + u.locals

-- a local word that is set
abbrev pub word_at : List (Option FlatValue) → ℕ → Option FlatValue
word_at locals k = elim (slice_get locals k) [ None ↦ None | Some v ↦ v ]

-- the object whose method or initializer a unit is: its first operand
abbrev pub self_of : FlatUnit → List (Option FlatValue) → Option FlatValue
self_of u locals = if nat_eq u.args 0 then None else word_at locals 0

-- the room of all that is held
abbrev pub room_of : Stack → ℕ
room_of Bottom = 0
room_of (Call u at st ls held loop below) = 0
room_of (Paused u at st ls holds home loop rest) = weight_of u + yield_weight + room_of holds + room_of rest

-- whether an operation is in a loop body
abbrev pub inside : Loop → ℕ → Bool
inside NoLoop l = false
inside (Upto first last) l = nat_le first l && nat_lt l last
inside (ByUnit home body) l = true

-- a way to an operation leaves each loop body that the operation isn't in, and ends its iterator
abbrev pub kept : ℕ → Stack → Stack
kept l Bottom = Bottom
kept l (Call u at st ls held loop below) = Call u at st ls held loop below
kept l (Paused u at st ls holds home loop rest) = if inside loop l then Paused u at st ls holds home loop rest else kept l rest

-- the room of those that end is given back
abbrev pub freed : ℕ → Stack → FlatWorld → FlatWorld
freed l Bottom w = w
freed l (Call u at st ls held loop below) w = w
freed l (Paused u at st ls holds home loop rest) w = if inside loop l then w else freed l rest (give_back (weight_of u + yield_weight + room_of holds) w)

-- whether a way to an operation leaves a loop body
abbrev pub leaves_body : ℕ → Stack → Bool
leaves_body l Bottom = false
leaves_body l (Call u at st ls held loop below) = false
leaves_body l (Paused u at st ls holds home loop rest) = not (inside loop l)

-- whether nothing is on the stack
abbrev pub is_empty : List FlatValue → Bool
is_empty [] = true
is_empty (v ∷ st) = false

-- a unit goes to an operation that it has. No way of a loop body that is a unit of its own leaves it; where a way leaves others, nothing
-- is on the stack
abbrev pub go_to : ℕ → FlatUnit → Here → (held below : Stack) → FlatWorld → Config
go_to l u h held below w =
    if nat_lt l (length u.ops) && (is_body u || not (leaves_body l held) || is_empty h.stack)
    then Run u l NoLoop h (if is_body u then held else kept l held) below (if is_body u then w else freed l held w)
    else stuck w

-- the unit that a loop's home is in, where unit u runs its body
abbrev pub home_unit : Loop → FlatUnit → FlatUnit
home_unit NoLoop u = u
home_unit (Upto first last) u = u
home_unit (ByUnit home body) u = home

-- the end of a loop's body, which ran as unit u: its iterator goes on, above the home
abbrev pub body_ends : Stack → FlatUnit → Status → Option FlatValue → List (Option FlatValue) → (below : Stack) → FlatWorld → Config
body_ends Bottom u s v ls below w = stuck w
body_ends (Call u1 at st ls1 held loop below1) u s v ls below w = stuck w
body_ends (Paused it at st its holds home loop rest) u s v ls below w =
    Returned s v (Call it at st its holds NoLoop (Call (home_unit loop u) home [] ls rest loop below)) (give_back yield_weight w)

-- the end of an activation
abbrev pub ends_as : FlatUnit → Status → Option FlatValue → List (Option FlatValue) → (held below : Stack) → FlatWorld → Config
ends_as u s v ls held below w = if is_body u then body_ends held u s v ls below w else Returned s v below (give_back (weight_of u + room_of held) w)

-- the handlers of the innermost block that covers an operation, of those blocks that begin before operation k
abbrev pub cover_of : Option FlatOp → ℕ → Option ℕ → Option ℕ
cover_of (Some (OpBlock h e)) at outer = if nat_lt at e then Some h else outer
cover_of _ at outer = outer

abbrev pub cover_upto : List FlatOp → ℕ → ℕ → Option ℕ
cover_upto ops zero at = None
cover_upto ops (suc k) at = cover_of (slice_get ops k) at (cover_upto ops k at)

-- where a failure goes whose label is l: to l, or where that is the count of operations to the handlers of the innermost block that
-- covers the operation
abbrev pub handler : FlatUnit → (at l : ℕ) → Option ℕ
handler u at l = if nat_eq l (length u.ops) then cover_upto u.ops at at else Some l

-- a failure goes there with an empty stack; where there is no such place, the unit ends with it
abbrev pub fail_at : Option ℕ → FlatUnit → Status → List (Option FlatValue) → (held below : Stack) → FlatWorld → Config
fail_at None u s ls held below w = ends_as u s None ls held below w
fail_at (Some l) u s ls held below w = go_to l u (record { stack = []; locals = ls; status = s }) held below w

abbrev pub fail_to : Option ℕ → FlatUnit → ℕ → Status → List (Option FlatValue) → (held below : Stack) → FlatWorld → Config
fail_to None u at s ls held below w = stuck w
fail_to (Some l) u at s ls held below w = fail_at (handler u at l) u s ls held below w

abbrev pub jump_to : Option ℕ → FlatUnit → Here → (held below : Stack) → FlatWorld → Config
jump_to None u h held below w = stuck w
jump_to (Some l) u h held below w = go_to l u h held below w

-- the label of an operation's ways, and that of its failures
abbrev pub way_of : FlatOp → Option ℕ
way_of (OpGo l) = Some l
way_of (OpUnless l) = Some l
way_of (OpIs name l) = Some l
way_of (OpStopped l) = Some l
way_of (OpOver e) = Some e
way_of _ = None

abbrev pub failure_of : FlatOp → Option ℕ
failure_of (OpArith g l) = Some l
failure_of (OpCall unit n f l) = Some l
failure_of (OpDispatch head method n f l) = Some l
failure_of (OpHidden class method n f l) = Some l
failure_of (OpSupply n f l) = Some l
failure_of (OpArray l) = Some l
failure_of (OpAt l) = Some l
failure_of (OpSetat l) = Some l
failure_of (OpPutbyte l) = Some l
failure_of (OpGet l) = Some l
failure_of (OpRaise name f l) = Some l
failure_of (OpYield l) = Some l
failure_of (OpAppend l) = Some l
failure_of (OpLetter l) = Some l
failure_of (OpHandle name f l) = Some l
failure_of _ = None

-- whether an operation is a call, and whether it is a `next`
abbrev pub is_call : Option FlatOp → Bool
is_call (Some (OpCall unit n f l)) = true
is_call (Some (OpDispatch head method n f l)) = true
is_call (Some (OpHidden class method n f l)) = true
is_call (Some (OpSupply n f l)) = true
is_call _ = false

abbrev pub is_next : Option FlatOp → Bool
is_next (Some OpNext) = true
is_next _ = false

-- a loop begins: the next operation is the iterator's call, and operation e its `next`
abbrev pub open_at : Option ℕ → FlatUnit → ℕ → Here → (held below : Stack) → FlatWorld → Config
open_at None u at h held below w = stuck w
open_at (Some e) u at h held below w =
    if is_call (slice_get u.ops (at + 1)) && is_next (slice_get u.ops e) && nat_lt (at + 1) e
    then Run u (at + 1) (Upto (at + 2) (e + 1)) h held below w
    else stuck w

-- whether a loop body has the words of the open call that its home has
abbrev pub shares_words : (home body : FlatUnit) → Bool
shares_words home body = not (nat_eq home.kind 6) && is_body body && nat_eq body.args home.args && nat_eq body.locals home.locals && nat_eq body.depth home.depth

-- the next operation is the call of an iterator whose loop body is a unit of its own
abbrev pub open_body : FlatUnit → FlatUnit → ℕ → Here → (held below : Stack) → FlatWorld → Config
open_body body u at h held below w =
    if is_call (slice_get u.ops (at + 1)) && shares_words u body then Run u (at + 1) (ByUnit u body) h held below w else stuck w

-- a local word is pushed; one that isn't set ends the run
abbrev pub loaded : Option (Option FlatValue) → FlatUnit → ℕ → Here → (held below : Stack) → FlatWorld → Config
loaded None u at h held below w = stuck w
loaded (Some None) u at h held below w = Over (Halts Unset) w
loaded (Some (Some v)) u at h held below w = Run u (at + 1) NoLoop (record { stack = v ∷ h.stack; locals = h.locals; status = h.status }) held below w

-- a local word is set
abbrev pub stored : ℕ → FlatValue → List FlatValue → FlatUnit → ℕ → Here → (held below : Stack) → FlatWorld → Config
stored k v st u at h held below w =
    if nat_lt k (length h.locals) then Run u (at + 1) NoLoop (record { stack = st; locals = set h.locals k (Some v); status = h.status }) held below w else stuck w

-- a yield's value goes to the body of the loop below, above which the iterator waits; nothing is on the stack of the loop's home
abbrev pub visit : (below : Stack) → FlatValue → FlatUnit → ℕ → List FlatValue → List (Option FlatValue) → Stack → FlatWorld → Config
visit (Call home at [] ls held (Upto first last) below) v it it_at its itl holds w = Visiting v home first ls (Paused it it_at its itl holds at (Upto first last) held) below w
visit (Call home at [] ls held (ByUnit of body) below) v it it_at its itl holds w = Visiting v body 0 ls (Paused it it_at its itl holds at (ByUnit home body) held) below w
visit (Call home at [] ls held NoLoop below) v it it_at its itl holds w = stuck w
visit (Call home at (x ∷ st) ls held loop below) v it it_at its itl holds w = stuck w
visit Bottom v it it_at its itl holds w = stuck w
visit (Paused u at st ls h home loop rest) v it it_at its itl holds w = stuck w

-- whether a value is a reference that is seen at a type
abbrev pub is_seen_at : List ℕ → FlatValue → Bool
is_seen_at name (Int n) = false
is_seen_at name (Ref k as_whole) = false
is_seen_at name (Ref k (at_type t)) = bytes_eq t name
is_seen_at name (Text bytes) = false
is_seen_at name (Code unit) = false

-- what a method's body returns is seen at its result, where that is a declared type
abbrev pub gives_result : Option (List ℕ) → Option FlatValue → Bool
gives_result None v = true
gives_result (Some t) None = true
gives_result (Some t) (Some v) = is_seen_at t v

-- the value of a return, where a value is given if and only if f is 1, on the stack
abbrev pub with_value : ℕ → Option FlatValue → List FlatValue → Option (List FlatValue)
with_value zero None st = Some st
with_value zero (Some v) st = None
with_value (suc zero) None st = None
with_value (suc zero) (Some v) st = Some (v ∷ st)
with_value (suc (suc f)) v st = None

-- whether a unit is called with a loop body if and only if it is an iterator
abbrev pub has_right_loop : FlatUnit → Loop → Bool
has_right_loop u NoLoop = not (is_iterator u)
has_right_loop u (Upto first last) = is_iterator u
has_right_loop u (ByUnit home body) = is_iterator u

-- whether a unit can be entered above this: it isn't a loop body, and is called with one if and only if it is an iterator
abbrev pub can_enter : FlatUnit → Stack → Bool
can_enter u Bottom = not (is_iterator u) && not (is_body u)
can_enter u (Call u1 at st ls held loop below) = has_right_loop u loop && not (is_body u)
can_enter u (Paused it at st ls holds home loop rest) = false

-- entering a unit is an event, but for supply stubs
abbrev pub entered : FlatUnit → FlatWorld → FlatWorld
entered u w = if nat_lt u.kind 5 then note (Entered u.name) w else w

module _ (p : FlatProgram) where
  -- what follows an operation's own effect; j is the label of its ways, f that of its failures
  abbrev pub finish : Act → (j f : Option ℕ) → FlatUnit → ℕ → Loop → Here → (held below : Stack) → Config
  finish (Falls st s w) j f u at loop h held below = Run u (at + 1) NoLoop (record { stack = st; locals = h.locals; status = s }) held below w
  finish (Jumps st s w) j f u at loop h held below = jump_to j u (record { stack = st; locals = h.locals; status = s }) held below w
  finish (Loads k w) j f u at loop h held below = loaded (slice_get h.locals k) u at h held below w
  finish (Stores k v st w) j f u at loop h held below = stored k v st u at h held below w
  finish (Failing s w) j f u at loop h held below = fail_to f u at s h.locals held below w
  finish (Calls g args st w) j f u at loop h held below = Entering g args (Call u at st h.locals held loop below) w
  finish (Leaves s v w) j f u at loop h held below = if gives_result (p.result u.name) v then ends_as u s v h.locals held below w else stuck w
  finish (Yields v st w) j f u at loop h held below = visit below v u at st h.locals held w
  finish (Nexts w) j f u at loop h held below = body_ends held u Fine None h.locals below w
  finish (Opens w) j f u at loop h held below = open_at j u at h held below w
  finish (OpensBody body w) j f u at loop h held below = open_body body u at h held below w
  finish (Puts bytes st w) j f u at loop h held below = Putting bytes u (at + 1) (record { stack = st; locals = h.locals; status = h.status }) held below w
  finish (Stands x w) j f u at loop h held below = Over (Halts x) w

  -- an operation's charge, and where it leads
  abbrev pub op_deed : Option FlatOp → FlatUnit → ℕ → Loop → Here → (held below : Stack) → FlatWorld → Deed Config
  op_deed None u at loop h held below w = free stuck
  op_deed (Some op) u at loop h held below w =
      record {
        charge = (doing p op (self_of u h.locals) h.stack h.status w).charge;
        act = λ w1. finish ((doing p op (self_of u h.locals) h.stack h.status w).act w1) (way_of op) (failure_of op) u at loop h held below;
      }

  -- a value that a method gave is seen at the method's result in the type that named it, where that is a declared type, which the
  -- type at which the body gave it reaches
  abbrev pub seen_at_result : Option (List ℕ) → Option FlatValue → Option (Option FlatValue)
  seen_at_result None v = Some v
  seen_at_result (Some t) (Some (Ref k (at_type from))) = if p.reaches from t then Some (Some (Ref k (at_type t))) else None
  seen_at_result (Some t) None = Some None
  seen_at_result (Some t) _ = None

  -- a call that ended without an exception: on to the next operation with the value, or after the loop's `next`
  abbrev pub back_fine : Option (List FlatValue) → Loop → FlatUnit → ℕ → List (Option FlatValue) → (held below : Stack) → FlatWorld → Config
  back_fine None loop u at ls held below w = stuck w
  back_fine (Some st) NoLoop u at ls held below w = Run u (at + 1) NoLoop (record { stack = st; locals = ls; status = Fine }) held below w
  back_fine (Some st) (Upto first last) u at ls held below w = Run u last NoLoop (record { stack = st; locals = ls; status = Fine }) held below w
  back_fine (Some st) (ByUnit home body) u at ls held below w = Run u (at + 1) NoLoop (record { stack = st; locals = ls; status = Fine }) held below w

  -- a call or a yield that ended goes on, or fails with the status
  abbrev pub back_by : Status → ℕ → Option FlatValue → (label : Option ℕ) → FlatUnit → ℕ → List FlatValue → List (Option FlatValue) → Stack → Loop → (below : Stack) → FlatWorld → Config
  back_by Fine f v label u at st ls held loop below w = back_fine (with_value f v st) loop u at ls held below w
  back_by (Thrown x y) f v label u at st ls held loop below w = fail_to label u at (Thrown x y) ls held below w
  back_by IsStopped f v label u at st ls held loop below w = fail_to label u at IsStopped ls held below w

  abbrev pub back_seen : Option (Option FlatValue) → Status → ℕ → (label : Option ℕ) → FlatUnit → ℕ → List FlatValue → List (Option FlatValue) → Stack → Loop → (below : Stack) → FlatWorld → Config
  back_seen None s f label u at st ls held loop below w = stuck w
  back_seen (Some v) s f label u at st ls held loop below w = back_by s f v label u at st ls held loop below w

  -- what follows the call or the yield of an activation when what it called, or its loop's body, ended
  abbrev pub back_at : Option FlatOp → Status → Option FlatValue → FlatUnit → ℕ → List FlatValue → List (Option FlatValue) → Stack → Loop → (below : Stack) → FlatWorld → Config
  back_at (Some (OpCall unit n f l)) s v u at st ls held loop below w = back_seen (seen_at_result (p.called_result unit) v) s f (Some l) u at st ls held loop below w
  back_at (Some (OpDispatch head method n f l)) s v u at st ls held loop below w = back_seen (seen_at_result (p.dispatched_result head method) v) s f (Some l) u at st ls held loop below w
  back_at (Some (OpHidden class method n f l)) s v u at st ls held loop below w = back_by s f v (Some l) u at st ls held loop below w
  back_at (Some (OpSupply n f l)) s v u at st ls held loop below w = back_by s f v (Some l) u at st ls held loop below w
  back_at (Some (OpYield l)) s v u at st ls held loop below w = back_by s 0 v (Some l) u at st ls held loop below w
  back_at (Some OpResume) s v u at st ls held loop below w = back_by s 0 v None u at st ls held loop below w
  back_at _ s v u at st ls held loop below w = stuck w

  -- how a run ends whose first unit ended so
  abbrev pub end_of : Status → FlatEnd
  end_of Fine = Ends
  end_of (Thrown x v) = Raises x
  end_of IsStopped = Halts Stuck

  -- the charge of a step, and what it leads to
  abbrev pub deed : Config → Deed Config
  deed (Run u at loop h held below w) = op_deed (slice_get u.ops at) u at loop h held below w
  deed (Entering u args below w) =
      if can_enter u below
      then record { charge = entry_charge u; act = λ w1. Run u 0 NoLoop (record { stack = []; locals = frame (words_of u) args; status = Fine }) Bottom below (entered u w1) }
      else free stuck
  deed (Visiting v u at ls held below w) = record { charge = takes_room yield_weight; act = λ w1. Run u at NoLoop (record { stack = v ∷ []; locals = ls; status = Fine }) held below w1 }
  deed (Returned s v Bottom w) = free (λ w1. Over (end_of s) w1)
  deed (Returned s v (Call u at st ls held loop below) w) = free (λ w1. back_at (slice_get u.ops at) s v u at st ls held loop below w1)
  deed (Returned s v (Paused u at st ls holds home loop rest) w) = free stuck
  deed (Putting [] u at h held below w) = free (λ w1. Run u at NoLoop h held below w1)
  deed (Putting (b ∷ bytes) u at h held below w) = for_turns 1 (λ w1. Putting bytes u at h held below (note (Put b) w1))
  deed (Over e w) = free (λ w1. Over e w1)

  -- the world of a configuration
  abbrev pub world_of : Config → FlatWorld
  world_of (Run u at loop h held below w) = w
  world_of (Entering u args below w) = w
  world_of (Visiting v u at ls held below w) = w
  world_of (Returned s v below w) = w
  world_of (Putting bytes u at h held below w) = w
  world_of (Over e w) = w

  -- what follows a charge that was taken; the run stops where too little is left
  abbrev pub on_charge : Effect FlatValue (Unit {0}) → (FlatWorld → Config) → Config
  on_charge (Did t w) go = go w
  on_charge (Fails x w) go = stuck w
  on_charge (Stops h w) go = Over (Halts h) w

  -- a charge is taken whole, turns before room
  abbrev pub paid : Charge → FlatWorld → (FlatWorld → Config) → Config
  paid no_charge w go = go w
  paid (takes_turns k) w go = on_charge (spend k w) go
  paid (takes_room r) w go = on_charge (reserve r w) go
  paid (takes_both k r) w go = on_charge (and_then (spend k w) (λ _ w1. reserve r w1)) go

  -- one step: the charge is taken, and then the effect happens
  abbrev pub step : Config → Config
  step c = paid (deed c).charge (world_of c) (deed c).act

  -- so many steps
  abbrev pub steps : ℕ → Config → Config
  steps zero c = c
  steps (suc n) c = steps n (step c)
