-- The table of code patterns: a row for each operation at a height of the stack.
use Rattle.std.specs.Prelude.{ℕ, ◌≤◌, Bool, true, List, [], nat_lt, nat_le, IsTrue}
use Rattle.th_flat.specs.declared.op.FlatOp.{FlatOp}
use Rattle.th_flat.specs.declared.op.FlatOp.TheVariants.{OpWord, OpLocal, OpSet, OpDrop, OpArith, OpCompare, OpGo, OpUnless, OpCall, OpSupply, OpPutbyte, OpPutint, OpGet, OpUnitword, OpRaise, OpIs, OpCaught, OpReturn, OpLeave, OpBody, OpYield, OpStop, OpStopped, OpTurn}
use Rattle.th_flat.specs.Effects.{is_numbered}
use Rattle.th_flat.specs.WellFormed.{has_few_operands}
use Rattle.th_abi.specs.declared.word.PatternWord.{PatternWord}
use Rattle.th_abi.specs.Words.{jump}
use Rattle.th_abi.specs.Numbers.{word_row, local_row, set_row, arith_row, compare_row}
use Rattle.th_abi.specs.Control.{nothing, unless_row, raise_row, is_row, caught_row, back, return_row, stop_row, stopped_row, call_row, supply_row, body_row, unit_row, yield_row}
use Rattle.th_abi.specs.Outside.{put_byte_row, put_int_row, get_row}

-- the row of an operation at which the stack has so many words. Operations on objects, arrays and texts have no words yet
abbrev pub row : FlatOp → (height : ℕ) → List PatternWord
row (OpWord w) height = word_row w height
row (OpLocal k) height = local_row k height
row (OpSet k) height = set_row k height
row OpDrop height = nothing
row (OpArith g l) height = arith_row g height
row (OpCompare g) height = compare_row g height
row (OpGo l) height = jump
row (OpUnless l) height = unless_row height
row (OpCall unit n f l) height = call_row n f height
row (OpSupply n f l) height = supply_row n f height
row (OpPutbyte l) height = put_byte_row height
row OpPutint height = put_int_row height
row (OpGet l) height = get_row height
row (OpUnitword unit) height = unit_row height
row (OpRaise name f l) height = raise_row f height
row (OpIs name l) height = is_row
row (OpCaught f) height = caught_row f height
row (OpReturn f) height = return_row f height
row OpLeave height = back
row (OpBody unit) height = body_row
row (OpYield l) height = yield_row height
row OpStop height = stop_row
row (OpStopped l) height = stopped_row
row OpTurn height = nothing
row other height = []

-- whether the number of a local word fits the row's words
abbrev pub has_local_in_reach : FlatOp → Bool
has_local_in_reach (OpLocal k) = nat_lt k 417
has_local_in_reach (OpSet k) = nat_lt k 417
has_local_in_reach other = true

-- an operation of level 3 whose operands are few enough, at a height of the stack
pub record HasPattern (op : FlatOp) (height : ℕ) : Type 0 where
  pub level : IsTrue (is_numbered op)
  pub operands : IsTrue (has_few_operands op)
  pub local : IsTrue (has_local_in_reach op)
  pub height_at_most : height ≤ 400
