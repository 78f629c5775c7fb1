use Rattle.std.proofs.Common.{map}
use Rattle.th_texts.proofs.LexLaws.{CutSoFar}
use Rattle.th_texts.proofs.source.lex_all.Given as goal

abbrev pub invariant-loop-text : goal.invariant-loop-text
invariant-loop-text l = CutSoFar (map (λ x. x.now) l.texts) l.text-index l.done.items
