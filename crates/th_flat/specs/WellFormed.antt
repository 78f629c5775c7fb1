-- Heights of the stack over all ways through a unit of level 3, and well-formed units.
use Rattle.std.specs.Prelude.{◌≡◌, ℕ, ◌+◌, ◌-◌, ◌<◌, ◌≤◌, Bool, true, IsTrue, ◌&&◌, List, length, slice_get, Some, nat_eq, nat_lt, nat_le, if◌then◌else◌}
use Rattle.std.specs.List.{list_all}
use Rattle.th_flat.specs.declared.op.FlatOp.{FlatOp}
use Rattle.th_flat.specs.declared.op.FlatOp.TheVariants.{OpLocal, OpSet, OpArith, OpCompare, OpGo, OpUnless, OpCall, OpDispatch, OpHidden, OpSupply, OpArray, OpAt, OpSetat, OpPutbyte, OpGet, OpRaise, OpIs, OpCaught, OpReturn, OpYield, OpStopped, OpAppend, OpLetter, OpBlock, OpHandle, OpOver}
use Rattle.th_flat.specs.declared.module.FlatUnit.{FlatUnit}
use Rattle.th_flat.specs.declared.shape.Shape.{Shape}
use Rattle.th_flat.specs.Effects.{shape_of, is_numbered}

-- whether an operation's numbers are in range: local words, operators, flags and labels, of a unit with so many local words and so many operations
abbrev pub in_range : (words count : ℕ) → FlatOp → Bool
in_range words count (OpLocal k) = nat_lt k words
in_range words count (OpSet k) = nat_lt k words
in_range words count (OpArith g l) = nat_le g 5 && nat_le l count
in_range words count (OpCompare g) = nat_le g 5
in_range words count (OpGo l) = nat_le l count
in_range words count (OpUnless l) = nat_le l count
in_range words count (OpCall unit n f l) = nat_le f 1 && nat_le l count
in_range words count (OpDispatch head method n f l) = nat_le f 1 && nat_le l count
in_range words count (OpHidden class method n f l) = nat_le f 1 && nat_le l count
in_range words count (OpSupply n f l) = nat_le f 1 && nat_le l count
in_range words count (OpArray l) = nat_le l count
in_range words count (OpAt l) = nat_le l count
in_range words count (OpSetat l) = nat_le l count
in_range words count (OpPutbyte l) = nat_le l count
in_range words count (OpGet l) = nat_le l count
in_range words count (OpRaise name f l) = nat_le f 1 && nat_le l count
in_range words count (OpIs name l) = nat_le l count
in_range words count (OpCaught f) = nat_le f 1
in_range words count (OpReturn f) = nat_le f 1
in_range words count (OpYield l) = nat_le l count
in_range words count (OpStopped l) = nat_le l count
in_range words count (OpAppend l) = nat_le l count
in_range words count (OpLetter l) = nat_le l count
in_range words count (OpBlock h e) = nat_le h count && nat_le e count
in_range words count (OpHandle name f l) = nat_le f 1 && nat_le l count
in_range words count (OpOver e) = nat_le e count
in_range words count other = true

-- whether a call has at most 17 operands
abbrev pub has_few_operands : FlatOp → Bool
has_few_operands (OpCall unit n f l) = nat_le n 17
has_few_operands (OpDispatch head method n f l) = nat_le n 17
has_few_operands (OpHidden class method n f l) = nat_le n 17
has_few_operands (OpSupply n f l) = nat_le n 17
has_few_operands other = true

-- whether an operation is of level 3, with its numbers in range and at most 17 operands
abbrev pub is_lawful : (words count : ℕ) → FlatOp → Bool
is_lawful words count op = is_numbered op && (in_range words count op && has_few_operands op)

-- the height of the stack at a unit's start: a loop body finds the yielded word there
abbrev pub first_height : ℕ → ℕ
first_height kind = if nat_eq kind 5 then 1 else 0

-- an operation of this shape at place p, with h words on the stack, leads to place q with k words
pub data Leads (s : Shape) (p h : ℕ) : ℕ → ℕ → Type 0 where
  On : IsTrue s.next → Leads s p h (p + 1) (h - s.takes + s.gives)
  Goes : (l : ℕ) → s.way ≡ Some l → Leads s p h l (h - s.takes)
  Fails : (l : ℕ) → s.failure ≡ Some l → Leads s p h l 0

-- some way from the start of the unit comes to place p with h words on the stack
pub data Reached (u : FlatUnit) : ℕ → ℕ → Type 0 where
  Starts : Reached u 0 (first_height u.kind)
  Comes : (p h q k : ℕ) (op : FlatOp) → Reached u p h → slice_get u.ops p ≡ Some op → (shape_of op).takes ≤ h → Leads (shape_of op) p h q k → Reached u q k

-- no way leads past the last operation, and each operation has one height of the stack over all ways, which is at most the unit's depth and
-- not below what the operation takes
pub record HasHeights (u : FlatUnit) : Type 0 where
  pub inside : (p h : ℕ) → Reached u p h → p < length u.ops
  pub deep : (p h : ℕ) → Reached u p h → h ≤ u.depth
  pub enough : (p h : ℕ) (op : FlatOp) → Reached u p h → slice_get u.ops p ≡ Some op → (shape_of op).takes ≤ h
  pub one : (p h k : ℕ) → Reached u p h → Reached u p k → h ≡ k

-- a unit keeps the limits on words and operands, and each of its operations is lawful
pub record KeepsLimits (u : FlatUnit) : Type 0 where
  pub args : u.args ≤ 17
  pub words : u.locals + u.depth ≤ 400
  pub ops : IsTrue (list_all (is_lawful (u.args + u.locals) (length u.ops)) u.ops)

-- a unit of level 3 that is well formed
pub record WellFormed (u : FlatUnit) : Type 0 where
  pub limits : KeepsLimits u
  pub heights : HasHeights u

-- one number for each operation: the height of the stack there over all ways, and 0 where no way comes
pub record AreHeights (u : FlatUnit) (heights : List ℕ) : Type 0 where
  pub size : length heights ≡ length u.ops
  pub reached : (p h : ℕ) → Reached u p h → slice_get heights p ≡ Some h
  pub unreached : (p : ℕ) → p < length u.ops → ((h : ℕ) → Reached u p h → ⊥) → slice_get heights p ≡ Some 0
