use Rattle.std.proofs.Common.{◌-◌, ◌++◌, List, length, Some}
use Rattle.th_meaning.specs.Program.{Program, classes_of}
use Rattle.th_classes.specs.Numbers.{chain_from}
use Rattle.th_classes.specs.Rows.{IsClassTable}
use Rattle.th_weights.specs.declared.size.Size.{Size}
use Rattle.th_weights.specs.Sizes.{SizesAre}
use Rattle.th_weights.proofs.weights.chain_of.Given as goal

abbrev pub invariant-loop-step : goal.invariant-loop-step
invariant-loop-step l = (p : Program) → IsClassTable l.classes p → SizesAre p l.sizes (classes_of p)
    → (ss : List Size) → SizesAre p ss (chain_from (length (classes_of p) - l.step) p (Some l.at)) → SizesAre p (l.chain.items ++ ss) (chain_from (length (classes_of p)) p (Some l.class))
