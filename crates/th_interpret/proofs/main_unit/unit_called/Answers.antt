use Rattle.std.proofs.Common.{sym, ◌∙◌, arith}
use Rattle.th_interpret.proofs.Mains.{unit_found, unit_passed, no_unit}
use Rattle.th_interpret.proofs.main_unit.unit_called.Goals as goal

pub returns-then-is_named : goal.returns-then-is_named
returns-then-is_named c =
    unit_found c.args.name.now c.args.units.now c.loop-unit.unit-index c.unit-item.result (omega arith) c.unit-item.is c.loop-unit.invariant (sym c.is_named.ensures ∙ c.if-is_named.true)

pub loop-unit-preserved : goal.loop-unit-preserved
loop-unit-preserved c =
    unit_passed c.args.name.now c.args.units.now c.loop-unit.unit-index c.unit-item.result (omega arith) c.unit-item.is c.loop-unit.invariant (sym c.is_named.ensures ∙ c.if-is_named.false)

pub returns : goal.returns
returns c = no_unit c.args.name.now c.args.units.now c.loop-unit.unit-index (omega arith) c.loop-unit.invariant
