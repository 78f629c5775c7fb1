-- What is to be shown of the rows at which activations are entered and end.
use Rattle.std.specs.Prelude.{◌≡◌, ◌≢◌, ℕ, ◌+◌, ◌-◌, ◌*◌, ◌%◌, ◌<◌, ◌≤◌, List, ◌∷◌, length, Option, Some, None, false, ◌⊎◌}
use Rattle.th_world.specs.Event.{Entered}
use Rattle.th_runs.specs.Stand.{Trapped}
use Rattle.th_elf.specs.Run as elf
use Rattle.th_flat.specs.declared.op.FlatOp.{FlatOp}
use Rattle.th_flat.specs.declared.op.FlatOp.TheVariants.{OpCall, OpReturn, OpLeave}
use Rattle.th_flat.specs.declared.module.FlatUnit.{FlatUnit}
use Rattle.th_flat.specs.Values.{FlatValue, FlatWorld, Status}
use Rattle.th_flat.specs.Program.{FlatProgram}
use Rattle.th_flat.specs.Configs.{Loop, NoLoop, Here, Stack, Bottom, Call, Run, Entering, Returned, is_body, is_iterator, weight_of}
use Rattle.th_flat.specs.Runs.{end_of_config, open_room, unpaid_step}
use Rattle.th_abi.specs.declared.word.RelocKind.TheVariants as reloc
use Rattle.th_abi.specs.Control.{call_start}
use Rattle.th_abi.specs.Table.{row}
use Rattle.th_abi.specs.Entry.{entry_row}
use Rattle.th_stands.specs.Seen.{Seen, Sees}
use Rattle.th_stands.specs.Places.{HasEntry}
use Rattle.th_stands.specs.Stands.{Places, AtOp, EnterAt, ReturnedAt}
use Rattle.th_stands.specs.Law.{Leads, StopsForRoom}
use Rattle.th_stands.specs.Laws.{Rule, Stands}

-- what is known of a unit before any run: its entry row stands at its place, its first operation behind it, and its frame is within the limits
pub record EntryRule (p : Places) (u : FlatUnit) : Type 0 where
  pub row_is : HasEntry p.loaded (p.unit_at u.name) u.name (entry_row u)
  pub first_is : p.op_at u.name 0 ≡ p.unit_at u.name + 4 * length (entry_row u)
  pub args : u.args ≤ 17
  pub limit : u.locals + u.depth ≤ 400

-- where activations go on, and where units begin, there are instructions; no exception's entry is at 0
pub record Aligned (p : Places) : Type 0 where
  pub back : (unit : List ℕ) (op : ℕ) → p.back_at unit op % 4 ≡ 0
  pub start : p.start_back % 4 ≡ 0
  pub units : (unit : List ℕ) → p.unit_at unit % 4 ≡ 0
  pub exceptions : (name : List ℕ) → p.exception_at name ≢ 0

-- the law of the entry row of a routine, a method or an initializer: from a state that stands for the unit before its entry its words lead to a state that
-- stands for its first operation, with the room of one more open call; or the machine stops for room, after the event of the entry, and the room that the call
-- needs is more than the region has
abbrev pub EntryLaw : Type 0
EntryLaw =
    (program : FlatProgram) (p : Places) (heap : ℕ) (u : FlatUnit) (args : List FlatValue) (below : Stack) (w : FlatWorld) (r : elf.Run) (s : Seen)
    → EntryRule p u → u.kind < 5 → is_iterator u ≡ false → Sees p.loaded r s → EnterAt p (open_room (Entering u args below w)) heap u args below w s
    → end_of_config (unpaid_step program (Entering u args below w)) ≢ Trapped
    → Leads p.loaded r (length (entry_row u)) (Stands p (open_room (unpaid_step program (Entering u args below w))) heap (unpaid_step program (Entering u args below w)))
    ⊎ (StopsForRoom p.loaded r (length (entry_row u)) (Entered u.name ∷ w.trace) × (4 * p.loaded.size < heap + open_room (Entering u args below w) + weight_of u))

-- the law of the row of an operation at which an activation ends that isn't a loop body's: its words lead to a state that stands for the end of the activation
abbrev pub EndLaw : FlatOp → Type 0
EndLaw op =
    (program : FlatProgram) (p : Places) (heap : ℕ) (u : FlatUnit) (at : ℕ) (loop : Loop) (h : Here) (below : Stack) (w : FlatWorld) (r : elf.Run) (s : Seen)
    → Aligned p → Rule p u at op (length h.stack) → is_body u ≡ false → Sees p.loaded r s → AtOp p (open_room (Run u at loop h Bottom below w)) heap u at loop h Bottom below w s
    → end_of_config (unpaid_step program (Run u at loop h Bottom below w)) ≢ Trapped
    → Leads p.loaded r (length (row op (length h.stack))) (Stands p (open_room (unpaid_step program (Run u at loop h Bottom below w))) heap (unpaid_step program (Run u at loop h Bottom below w)))

abbrev pub ReturnLaw : Type 0
ReturnLaw = (f : ℕ) → EndLaw (OpReturn f)

abbrev pub LeaveLaw : Type 0
LeaveLaw = EndLaw OpLeave

-- what is known of a call before any run: the called unit's place, and that the activation goes on behind the linking jump
pub record CallRule (program : FlatProgram) (p : Places) (u : FlatUnit) (at : ℕ) (unit : List ℕ) (n f l height : ℕ) (q : Rule p u at (OpCall unit n f l) height) : Type 0 where
  pub few : n ≤ 17
  pub unit_is : (g : FlatUnit) → program.called unit ≡ Some g → q.number reloc.Unit None ≡ p.unit_at g.name
  pub back_is : p.back_at u.name at ≡ p.op_at u.name at + 4 * (length (call_start (height - n) (height - n) n) + 4)

-- the law of a call that is no iterator's, by a unit that is neither a loop body nor a supply stub: its words up to the linking jump lead to a state that stands for the called unit
-- before its entry
abbrev pub CallLaw : Type 0
CallLaw =
    (unit : List ℕ) (n f l : ℕ) (program : FlatProgram) (p : Places) (heap : ℕ) (u : FlatUnit) (at : ℕ) (h : Here) (below : Stack) (w : FlatWorld) (r : elf.Run) (s : Seen)
    → (q : Rule p u at (OpCall unit n f l) (length h.stack)) → CallRule program p u at unit n f l (length h.stack) q → Aligned p → is_body u ≡ false → u.kind ≢ 6 → Sees p.loaded r s
    → AtOp p (open_room (Run u at NoLoop h Bottom below w)) heap u at NoLoop h Bottom below w s
    → end_of_config (unpaid_step program (Run u at NoLoop h Bottom below w)) ≢ Trapped
    → Leads p.loaded r (length (row (OpCall unit n f l) (length h.stack))) (Stands p (open_room (unpaid_step program (Run u at NoLoop h Bottom below w))) heap (unpaid_step program (Run u at NoLoop h Bottom below w)))

-- the law of what stands behind a call's linking jump, where the call gives its value as the called unit returns it: from a state that stands for the end of the called activation its words lead to a state that stands for the caller
-- at its next operation, with the value, or at the call's label, with the status
abbrev pub BackLaw : Type 0
BackLaw =
    (unit : List ℕ) (n f l : ℕ) (program : FlatProgram) (p : Places) (heap : ℕ) (x : Status) (v : Option FlatValue) (u : FlatUnit) (at : ℕ) (st : List FlatValue) (ls : List (Option FlatValue)) (below : Stack) (w : FlatWorld) (r : elf.Run) (s : Seen)
    → (q : Rule p u at (OpCall unit n f l) (length st + n)) → CallRule program p u at unit n f l (length st + n) q → program.called_result unit ≡ None → Aligned p → is_body u ≡ false → Sees p.loaded r s
    → ReturnedAt p heap x v (Call u at st ls Bottom NoLoop below) w s
    → end_of_config (unpaid_step program (Returned x v (Call u at st ls Bottom NoLoop below) w)) ≢ Trapped
    → Leads p.loaded r (length (row (OpCall unit n f l) (length st + n))) (Stands p (open_room (unpaid_step program (Returned x v (Call u at st ls Bottom NoLoop below) w))) heap (unpaid_step program (Returned x v (Call u at st ls Bottom NoLoop below) w)))
