use Rattle.th_tree.specs.DeclView.{module_of}
use Rattle.th_modules.proofs.judging.Judging.unit.Goals as goal

pub returns-clause-context : goal.returns-clause-context
returns-clause-context c = λ ps h. c.unit.ensures.context (module_of c.args.self.now.tree.now) ps c.args.self.now.home_is h
