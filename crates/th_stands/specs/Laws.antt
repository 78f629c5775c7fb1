-- What is to be shown of the row of an operation: from a state that stands for the operation to one that stands for its effect.
use Rattle.std.specs.Prelude.{◌≡◌, ◌≢◌, ℕ, ◌+◌, ◌-◌, ◌*◌, ◌%◌, ◌<◌, ◌≤◌, false, List, length, Option, Some, IsTrue, slice_get}
use Rattle.th_runs.specs.Stand.{Trapped}
use Rattle.th_elf.specs.Run as elf
use Rattle.th_meaning.specs.World.{overflow, zero_divide, bounds, end_of_input}
use Rattle.th_flat.specs.declared.op.FlatOp.{FlatOp}
use Rattle.th_flat.specs.declared.op.FlatOp.TheVariants.{OpPutint}
use Rattle.th_flat.specs.declared.module.FlatUnit.{FlatUnit}
use Rattle.th_flat.specs.Values.{FlatWorld}
use Rattle.th_flat.specs.Program.{FlatProgram}
use Rattle.th_flat.specs.Effects.{shape_of}
use Rattle.th_flat.specs.WellFormed.{in_range}
use Rattle.th_flat.specs.Configs.{Loop, Here, Stack, Bottom, Config, Run, Entering, Visiting, Returned, Putting, Over, words_of, is_body, way_of, failure_of}
use Rattle.th_flat.specs.Runs.{end_of_config, unpaid_step, cost}
use Rattle.th_abi.specs.declared.word.RelocKind.{RelocKind}
use Rattle.th_abi.specs.declared.word.RelocKind.TheVariants as reloc
use Rattle.th_abi.specs.declared.word.Failure.{Failure}
use Rattle.th_abi.specs.declared.word.Failure.TheVariants.{Overflow, ZeroDivide, Bounds, EndOfInput}
use Rattle.th_abi.specs.Table.{row}
use Rattle.th_stands.specs.Seen.{Seen, Sees}
use Rattle.th_stands.specs.Places.{HasRow}
use Rattle.th_stands.specs.Stands.{Places, AtOp, EnterAt, ReturnedAt}
use Rattle.th_stands.specs.Law.{Leads, LeadsLater}

-- the name of the exception of a failure
abbrev pub failure_name : Failure → List ℕ
failure_name Overflow = overflow
failure_name ZeroDivide = zero_divide
failure_name Bounds = bounds
failure_name EndOfInput = end_of_input

-- an operation's label leads to an address, at which the row of the operation stands that it names
pub record LabelAt (p : Places) (u : FlatUnit) (l to : ℕ) : Type 0 where
  pub inside : l < length u.ops
  pub there : p.op_at u.name l ≡ to
  pub aligned : to % 4 ≡ 0
  pub below : to < 268435456

-- what is known of an operation of a unit at a height of the stack before any run: its row stands at its place, the next row behind it, its
-- label leads to its place, and the failures' addresses are those of their exceptions; the stack is high enough for what it takes and low enough for what it gives
pub record Rule (p : Places) (u : FlatUnit) (at : ℕ) (op : FlatOp) (height : ℕ) : Type 0 where
  pub op_is : slice_get u.ops at ≡ Some op
  pub to : ℕ
  pub number : RelocKind → Option Failure → ℕ
  pub row_is : HasRow p.loaded (p.op_at u.name at) to number (row op height)
  pub next_is : IsTrue (shape_of op).next → p.op_at u.name (at + 1) ≡ p.op_at u.name at + 4 * length (row op height)
  pub way_is : (l : ℕ) → way_of op ≡ Some l → LabelAt p u l to
  pub failure_is : (l : ℕ) → failure_of op ≡ Some l → LabelAt p u l to
  pub named : (f : Failure) → number reloc.Word (Some f) ≡ p.exception_at (failure_name f)
  pub in_range : IsTrue (in_range (words_of u) (length u.ops) op)
  pub deep : height ≤ u.depth
  pub enough : height - (shape_of op).takes + (shape_of op).gives ≤ u.depth
  pub limit : u.depth ≤ 400
  pub words : words_of u ≤ 417

-- a state stands for a configuration; of loop bodies before their room, of texts that are put and of runs that are over it is still to be said
abbrev pub Stands : Places → (used heap : ℕ) → Config → Seen → Type 0
Stands p used heap (Run u at loop h held below w) s = AtOp p used heap u at loop h held below w s
Stands p used heap (Entering u args below w) s = EnterAt p used heap u args below w s
Stands p used heap (Visiting v u at ls held below w) s = ⊥
Stands p used heap (Returned x v below w) s = ReturnedAt p heap x v below w s
Stands p used heap (Putting bytes u at h held below w) s = ⊥
Stands p used heap (Over e w) s = ⊥

-- the law of an operation's row: from a state that stands for a unit at the operation, which isn't a loop body, its words lead to a state that
-- stands for the configuration after the operation, unless that is stuck; they are at least one and at most as many as the row has
abbrev pub RowLaw : FlatOp → Type 0
RowLaw op =
    (program : FlatProgram) (p : Places) (used heap : ℕ) (u : FlatUnit) (at : ℕ) (loop : Loop) (h : Here) (below : Stack) (w : FlatWorld) (r : elf.Run) (s : Seen)
    → Rule p u at op (length h.stack) → is_body u ≡ false → Sees p.loaded r s → AtOp p used heap u at loop h Bottom below w s
    → end_of_config (unpaid_step program (Run u at loop h Bottom below w)) ≢ Trapped
    → Leads p.loaded r (length (row op (length h.stack))) (Stands p used heap (unpaid_step program (Run u at loop h Bottom below w)))

-- the law of the row that puts a number, which takes a turn for each byte and one more before the first of them: its words are executed some times, but
-- at most ten instructions for each turn, and nothing is seen before as many instructions as it takes turns
abbrev pub PutIntLaw : Type 0
PutIntLaw =
    (program : FlatProgram) (p : Places) (used heap : ℕ) (u : FlatUnit) (at : ℕ) (loop : Loop) (h : Here) (below : Stack) (w : FlatWorld) (r : elf.Run) (s : Seen)
    → Rule p u at OpPutint (length h.stack) → is_body u ≡ false → Sees p.loaded r s → AtOp p used heap u at loop h Bottom below w s
    → end_of_config (unpaid_step program (Run u at loop h Bottom below w)) ≢ Trapped
    → LeadsLater p.loaded r (cost program (Run u at loop h Bottom below w)) (10 * cost program (Run u at loop h Bottom below w)) (Stands p used heap (unpaid_step program (Run u at loop h Bottom below w)))
