use Rattle.std.proofs.Common.{◌≡◌, ◌++◌, length}
use Rattle.th_tree.specs.Numbered.{literal_value, unescaped}
use Rattle.th_syntax.proofs.numbering.value_of.Given as goal

abbrev pub invariant-loop-left : goal.invariant-loop-left
invariant-loop-left l = literal_value l.literal ≡ l.value.items ++ unescaped l.left

abbrev pub decreases-loop-left : goal.decreases-loop-left
decreases-loop-left l = length l.left
