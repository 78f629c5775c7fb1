use Rattle.std.proofs.Common.{◌≡◌, drop}
use Rattle.th_interpret.proofs.Mains.{called}
use Rattle.th_interpret.proofs.main_unit.unit_called.Given as goal

abbrev pub invariant-loop-unit : goal.invariant-loop-unit
invariant-loop-unit l = called l.name l.units ≡ called l.name (drop l.unit-index l.units)
