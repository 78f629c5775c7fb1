use Rattle.std.proofs.Common.{◌∙◌, ap}
use Rattle.th_meaning.specs.Weights.{type_words, own_words}
use Rattle.th_weights.proofs.size.size_of.Goals as goal

pub returns : goal.returns
returns c = λ p k t h r. record {
  words = c.in_ok-words.ensures p t ∙ ap (λ d. type_words p d.head.of) r.class;
  less = c.in_ok-less.ensures p k t h r;
  own = c.in_ok-own.ensures ∙ ap own_words r.class;
}
