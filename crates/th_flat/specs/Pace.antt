-- What keeps a unit's pace besides its conditions: each way back goes to a turn, and each initializer that is entered was paid for.
use Rattle.std.specs.Prelude.{◌≡◌, ℕ, ◌+◌, ◌^◌, ◌<◌, ◌≤◌, ◌⊎◌, Bool, false, IsTrue, List, length, slice_get, Option, Some, if◌then◌else◌}
use Rattle.th_flat.specs.declared.op.FlatOp.{FlatOp}
use Rattle.th_flat.specs.declared.op.FlatOp.TheVariants.{OpCall, OpNew, OpTurn, OpOver}
use Rattle.th_flat.specs.declared.module.FlatUnit.{FlatUnit}
use Rattle.th_flat.specs.Effects.{shape_of}
use Rattle.th_flat.specs.Orderly.{Throws}

-- an operation leads to another than the next one: by the label of its ways, or by an exception
abbrev pub LeadsTo : FlatUnit → (p : ℕ) → FlatOp → (q : ℕ) → Type 0
LeadsTo u p op q = ((shape_of op).way ≡ Some q) ⊎ Throws u p op q

-- whether an operation calls an initializer, where `is_initializer` tells of units by their names
abbrev pub calls_initializer : (List ℕ → Bool) → Option FlatOp → Bool
calls_initializer is_initializer (Some (OpCall unit n f l)) = is_initializer unit
calls_initializer is_initializer _ = false

-- how many initializers an operation pays for that are entered later: a `new` for one, and a turn directly before the call of one
abbrev pub pays_for : Bool → FlatOp → ℕ
pays_for before (OpNew class) = 1
pays_for before OpTurn = if before then 1 else 0
pays_for before other = 0

-- how many initializers an operation enters without a turn
abbrev pub enters_free : (List ℕ → Bool) → FlatOp → ℕ
enters_free is_initializer op = if calls_initializer is_initializer (Some op) then 1 else 0

-- what an operation leads to is ahead of it, or a turn; and `pending` tells of each operation how many initializers that are paid
-- for are still to be entered: none at the start, never more on any way than were paid for, and none at a loop
pub record KeepsPace (is_initializer : List ℕ → Bool) (u : FlatUnit) : Type 0 where
  pub count : length u.ops < 2 ^ 24
  pub onward : (p q : ℕ) (op : FlatOp) → slice_get u.ops p ≡ Some op → LeadsTo u p op q → (p < q) ⊎ (slice_get u.ops q ≡ Some OpTurn)
  pub pending : ℕ → ℕ
  pub start : pending 0 ≡ 0
  pub on_next : (p : ℕ) (op : FlatOp) → slice_get u.ops p ≡ Some op → IsTrue (shape_of op).next →
      pending (p + 1) + enters_free is_initializer op ≤ pending p + pays_for (calls_initializer is_initializer (slice_get u.ops (p + 1))) op
  pub on_label : (p q : ℕ) (op : FlatOp) → slice_get u.ops p ≡ Some op → LeadsTo u p op q → pending q + enters_free is_initializer op ≤ pending p
  pub at_loop : (q e : ℕ) → slice_get u.ops q ≡ Some (OpOver e) → (pending q ≡ 0) × (pending (e + 1) ≡ 0)
