use Rattle.std.proofs.Common.{List, ◌++◌, map, take, subst, arith}
use Rattle.th_meaning.specs.View.{unit_of}
use Rattle.th_meaning.specs.Program.{ProgramUnit}
use Rattle.th_units.specs.Units.{Holds}
use Rattle.th_units.proofs.Adding.{units_more}
use Rattle.th_units.proofs.units.add_units.Goals as goal

pub loop-unit-preserved : goal.loop-unit-preserved
loop-unit-preserved c = λ done h.
    subst (Holds c.add_unit.new.rows.items c.add_unit.new.numbers) (units_more done c.args.units.now c.loop-unit.unit-index c.unit-item.result (omega arith) c.unit-item.is)
    (c.in_ok-add_unit.ensures (done ++ map unit_of (take c.loop-unit.unit-index c.args.units.now)) (c.loop-unit.invariant done h))
