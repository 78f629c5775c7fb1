use Rattle.std.proofs.Common.{sym, ◌∙◌}
use denote.Enum.Bare.{same_true, true_same}
use Rattle.th_tree.specs.contracts.tokens.Reserved.{the_type}
use Rattle.th_syntax.proofs.step.same_word.Goals as goal

pub returns : goal.returns
returns c = (λ h. same_true the_type _ c.args.a c.args.b (sym c.eq.ensures ∙ h), λ e. c.eq.ensures ∙ true_same the_type c.args.a c.args.b e)
