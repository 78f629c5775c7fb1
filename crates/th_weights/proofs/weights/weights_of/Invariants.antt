use Rattle.std.proofs.Common.{◌≡◌, length}
use Rattle.th_meaning.specs.Program.{Program, classes_of}
use Rattle.th_classes.specs.Rows.{IsClassTable}
use Rattle.th_weights.specs.Sizes.{SizesAre, WeightsFrom}
use Rattle.th_weights.proofs.weights.weights_of.Given as goal

abbrev pub invariant-loop-number : goal.invariant-loop-number
invariant-loop-number l = (length l.weights.items ≡ l.number) × ((p : Program) → IsClassTable l.classes p → SizesAre p l.sizes (classes_of p) → WeightsFrom p 0 l.weights.items)
