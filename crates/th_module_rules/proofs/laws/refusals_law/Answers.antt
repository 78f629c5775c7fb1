use Rattle.th_module_rules.proofs.Naming.{one_is_named, none_is_named}
use Rattle.th_module_rules.proofs.laws.refusals_law.Goals as goal

pub returns-clause-one : goal.returns-clause-one
returns-clause-one c = one_is_named

pub returns-clause-none : goal.returns-clause-none
returns-clause-none c = none_is_named
