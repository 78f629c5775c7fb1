use Rattle.std.proofs.Common.{take, map, ◌++◌, subst, arith}
use Rattle.th_meaning.specs.View.{unit_of, program_of}
use Rattle.th_meaning.specs.Program.{units_of}
use Rattle.th_units.specs.Units.{Holds}
use Rattle.th_units.proofs.Adding.{modules_more}
use Rattle.th_units.proofs.units.UnitTable.of.Goals as goal

pub loop-module-preserved : goal.loop-module-preserved
loop-module-preserved c =
    subst (Holds c.add_units.new.rows.items c.add_units.new.numbers) (modules_more c.args.modules.now c.loop-module.module-index c.module-item.result (omega arith) c.module-item.is)
    (subst (λ us. Holds c.add_units.new.rows.items c.add_units.new.numbers (units_of (program_of (take c.loop-module.module-index c.args.modules.now)) ++ map unit_of us)) c.deref.ensures.value
    (c.in_ok-add_units.ensures (units_of (program_of (take c.loop-module.module-index c.args.modules.now))) c.loop-module.invariant))
