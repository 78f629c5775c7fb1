use Rattle.std.proofs.Common.{refl}
use Rattle.th_tree.specs.Grammar.{height_limit}
use Rattle.th_decl.proofs.Whole.{one_module}
use Rattle.th_decl.proofs.parse.parse_module.Goals as goal

pub returns-clause-answer : goal.returns-clause-answer
unfolding height_limit
returns-clause-answer c = c.module_at.ensures.answer

pub returns-clause-one_tree : goal.returns-clause-one_tree
unfolding height_limit
returns-clause-one_tree c = one_module height_limit refl
