use Rattle.std.proofs.Common.{take}
use Rattle.th_meaning.specs.View.{program_of}
use Rattle.th_meaning.specs.Program.{units_of}
use Rattle.th_units.specs.Units.{Holds}
use Rattle.th_units.proofs.units.UnitTable.of.Given as goal

abbrev pub invariant-loop-module : goal.invariant-loop-module
invariant-loop-module l = Holds l.rows.items l.numbers (units_of (program_of (take l.module-index l.modules)))
