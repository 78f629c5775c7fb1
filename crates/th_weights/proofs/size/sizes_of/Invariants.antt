use Rattle.std.proofs.Common.{take}
use Rattle.th_meaning.specs.Program.{Program, classes_of}
use Rattle.th_classes.specs.Rows.{IsClassTable}
use Rattle.th_weights.specs.Types.{IsTypeTable}
use Rattle.th_weights.specs.Sizes.{SizesAre}
use Rattle.th_weights.proofs.size.sizes_of.Given as goal

abbrev pub invariant-loop-number : goal.invariant-loop-number
invariant-loop-number l = (p : Program) → IsTypeTable l.types p → IsClassTable l.classes p → SizesAre p l.sizes.items (take l.number (classes_of p))
