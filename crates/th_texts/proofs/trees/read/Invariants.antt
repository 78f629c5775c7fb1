use Rattle.th_texts.proofs.WrongLaws.{ReadSoFar}
use Rattle.th_texts.proofs.trees.read.Given as goal

abbrev pub invariant-loop-k : goal.invariant-loop-k
invariant-loop-k l = ReadSoFar l.told l.tokens l.k l.trees
