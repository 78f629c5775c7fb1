-- What each operation does to the height of the stack, where it leads, and on which levels it stands.
use Rattle.std.specs.Prelude.{ℕ, ◌+◌, Bool, true, false, Some, None, nat_eq, if◌then◌else◌}
use Rattle.th_flat.specs.declared.op.FlatOp.{FlatOp}
use Rattle.th_flat.specs.declared.op.FlatOp.TheVariants.{OpWord, OpLocal, OpSet, OpDrop, OpArith, OpCompare, OpSame, OpGo, OpUnless, OpCast, OpOwn, OpField, OpSetfield, OpCall, OpDispatch, OpHidden, OpSupply, OpNew, OpArray, OpAt, OpSetat, OpLength, OpPutbyte, OpPutint, OpGet, OpUnitword, OpRaise, OpIs, OpCaught, OpReturn, OpLeave, OpBody, OpYield, OpStop, OpStopped, OpTurn, OpText, OpAppend, OpLetter, OpExtent, OpPuttext, OpBlock, OpHandle, OpOver, OpNext, OpResume}
use Rattle.th_flat.specs.declared.shape.Shape.{Shape}

-- goes on to the next operation
abbrev pub straight : ℕ → ℕ → Shape
straight takes gives = record { takes = takes; gives = gives; next = true; way = None; failure = None }

-- goes on, or to a label with an empty stack
abbrev pub failing : ℕ → ℕ → ℕ → Shape
failing takes gives l = record { takes = takes; gives = gives; next = true; way = None; failure = Some l }

-- goes on, or to a label
abbrev pub branching : ℕ → ℕ → Shape
branching takes l = record { takes = takes; gives = 0; next = true; way = Some l; failure = None }

-- goes nowhere within the unit
abbrev pub ending : ℕ → Shape
ending takes = record { takes = takes; gives = 0; next = false; way = None; failure = None }

-- goes to a label
abbrev pub going : ℕ → Shape
going l = record { takes = 0; gives = 0; next = false; way = Some l; failure = None }

-- goes to a label with an empty stack
abbrev pub raising : ℕ → ℕ → Shape
raising takes l = record { takes = takes; gives = 0; next = false; way = None; failure = Some l }

-- how many operands an arithmetic operation has: the opposite has one
abbrev pub operands_of : ℕ → ℕ
operands_of g = if nat_eq g 5 then 1 else 2

-- the words that an operation takes off the stack and those that it then puts there before it goes on, whether it goes on to the next operation,
-- the label where it goes with what it left on the stack, and the label where it goes with an empty stack
abbrev pub shape_of : FlatOp → Shape
shape_of (OpWord w) = straight 0 1
shape_of (OpLocal k) = straight 0 1
shape_of (OpSet k) = straight 1 0
shape_of OpDrop = straight 1 0
shape_of (OpArith g l) = failing (operands_of g) 1 l
shape_of (OpCompare g) = straight 2 1
shape_of OpSame = straight 2 1
shape_of (OpGo l) = going l
shape_of (OpUnless l) = branching 1 l
shape_of (OpCast from to) = straight 1 1
shape_of (OpOwn class) = straight 0 1
shape_of (OpField class k) = straight 0 1
shape_of (OpSetfield class k) = straight 1 0
shape_of (OpCall unit n f l) = failing n f l
shape_of (OpDispatch head method n f l) = failing n f l
shape_of (OpHidden class method n f l) = failing n f l
shape_of (OpSupply n f l) = failing (n + 1) f l
shape_of (OpNew class) = straight 0 1
shape_of (OpArray l) = failing 2 1 l
shape_of (OpAt l) = failing 2 1 l
shape_of (OpSetat l) = failing 3 0 l
shape_of OpLength = straight 1 1
shape_of (OpPutbyte l) = failing 1 0 l
shape_of OpPutint = straight 1 0
shape_of (OpGet l) = failing 0 1 l
shape_of (OpUnitword unit) = straight 0 1
shape_of (OpRaise name f l) = raising f l
shape_of (OpIs name l) = branching 0 l
shape_of (OpCaught f) = straight 0 f
shape_of (OpReturn f) = ending f
shape_of OpLeave = ending 0
shape_of (OpBody unit) = straight 0 0
shape_of (OpYield l) = failing 1 0 l
shape_of OpStop = ending 0
shape_of (OpStopped l) = branching 0 l
shape_of OpTurn = straight 0 0
shape_of (OpText bytes) = straight 0 1
shape_of (OpAppend l) = failing 2 1 l
shape_of (OpLetter l) = failing 2 1 l
shape_of OpExtent = straight 1 1
shape_of OpPuttext = straight 1 0
shape_of (OpBlock h e) = straight 0 0
shape_of (OpHandle name f l) = failing 0 f l
shape_of (OpOver e) = straight 0 0
shape_of OpNext = ending 0
shape_of OpResume = straight 1 0

-- whether an operation stands on level 3: all but those that have no number
abbrev pub is_numbered : FlatOp → Bool
is_numbered (OpBlock h e) = false
is_numbered (OpHandle name f l) = false
is_numbered (OpOver e) = false
is_numbered OpNext = false
is_numbered OpResume = false
is_numbered other = true
