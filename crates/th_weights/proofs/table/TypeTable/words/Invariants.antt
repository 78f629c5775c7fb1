use Rattle.std.proofs.Common.{◌≡◌, ◌+◌}
use Rattle.th_meaning.specs.View.{type_of}
use Rattle.th_meaning.specs.Program.{Program}
use Rattle.th_meaning.specs.Weights.{type_words}
use Rattle.th_weights.specs.Types.{IsTypeTable}
use Rattle.th_weights.specs.Open.{words_of}
use Rattle.th_weights.proofs.table.TypeTable.words.Given as goal

abbrev pub invariant-loop-turn : goal.invariant-loop-turn
invariant-loop-turn l = (p : Program) → IsTypeTable l.self p → l.words + words_of p l.left.items ≡ type_words p (type_of l.this)
