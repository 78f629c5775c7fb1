use Rattle.std.proofs.Common.{◌≡◌, ◌+◌, map, sum, take}
use Rattle.th_meaning.specs.View.{type_of}
use Rattle.th_meaning.specs.Program.{Program}
use Rattle.th_meaning.specs.Weights.{words_within}
use Rattle.th_weights.specs.Open.{words_of}
use Rattle.th_weights.proofs.words.open_all.Given as goal

abbrev pub invariant-loop-one : goal.invariant-loop-one
invariant-loop-one l = (p : Program) → words_of p l.left.items ≡ words_of p l.fn.left.items + sum (map (words_within l.steps p) (map type_of (take l.one-index l.types)))
