use Rattle.std.proofs.Common.{take}
use Rattle.th_meaning.specs.Program.{Program}
use Rattle.th_units.specs.Units.{IsTable}
use Rattle.th_classes.specs.Rows.{Bodies}
use Rattle.th_classes.proofs.row.methods_of.Given as goal

abbrev pub invariant-loop-method : goal.invariant-loop-method
invariant-loop-method l = (p : Program) → IsTable l.units p → Bodies p l.class (take l.method-index l.methods) l.bodies
