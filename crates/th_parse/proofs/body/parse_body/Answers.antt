use Rattle.th_tree.specs.Grammar.{height_limit}
use Rattle.th_parse.proofs.Bodies.{one_tree}
use Rattle.th_parse.proofs.body.parse_body.Goals as goal

pub returns-clause-answer : goal.returns-clause-answer
unfolding height_limit
returns-clause-answer c = c.body_at.ensures.answer

pub returns-clause-one_tree : goal.returns-clause-one_tree
returns-clause-one_tree c = one_tree height_limit
