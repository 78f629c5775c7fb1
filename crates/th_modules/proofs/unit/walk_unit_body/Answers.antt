use Rattle.std.proofs.Common.{◌∙◌}
use Rattle.th_tree.specs.View.{body_of as tree_of}
use Rattle.th_type.specs.Failures.{unless}
use Rattle.th_scope.specs.View.{context_of, locals_of}
use Rattle.th_modules.proofs.Units.{body_is}
use Rattle.th_modules.proofs.unit.walk_unit_body.Goals as goal

pub returns-clause-core : goal.returns-clause-core
returns-clause-core c = λ h. c.in_ok-body.ensures.core
    ∙ body_is (context_of c.args.env.now) (locals_of c.args.env.now.locals) (tree_of c.args.tree.now) c.args.least.now c.walk_unit.new.least c.demand.new.found
    (unless c.ends_lawfully-ends.result 28 c.place_at.result) c.in_ok-body.ensures.least c.demand.ensures h
