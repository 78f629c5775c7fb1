use Rattle.std.proofs.Common.{◌≡◌, ◌++◌, map}
use Rattle.th_meaning.specs.View.{unit_of}
use Rattle.th_modules.specs.View.{units_after, units_opt}
use Rattle.std.specs.Prelude.{Some}
use Rattle.th_modules.proofs.module.joined.Given as goal

abbrev pub invariant-loop-unit : goal.invariant-loop-unit
invariant-loop-unit l = Some (map unit_of l.done.items ++ map unit_of l.unit-iterator.rest.items) ≡ units_after (units_opt l.fn.units) (units_opt l.fn.others)
