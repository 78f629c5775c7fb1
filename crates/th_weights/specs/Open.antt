-- Types whose header words are still to be counted.
use Rattle.std.specs.Prelude.{ℕ, List, sum_by}
use Rattle.th_meaning.specs.View.{type_of}
use Rattle.th_meaning.specs.Program.{Program}
use Rattle.th_meaning.specs.Weights.{words_within}
use Rattle.th_weights.specs.declared.words.Open.{Open}

-- the header words of all of them
abbrev pub words_of : Program → List Open → ℕ
words_of p left = sum_by (λ o. words_within o.steps p (type_of o.of)) left
