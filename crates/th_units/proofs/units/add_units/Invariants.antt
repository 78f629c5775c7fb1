use Rattle.std.proofs.Common.{List, ◌++◌, map, take}
use Rattle.th_meaning.specs.View.{unit_of}
use Rattle.th_meaning.specs.Program.{ProgramUnit}
use Rattle.th_units.specs.Units.{Holds}
use Rattle.th_units.proofs.units.add_units.Given as goal

abbrev pub invariant-loop-unit : goal.invariant-loop-unit
invariant-loop-unit l = (done : List ProgramUnit) → Holds l.fn.rows.items l.fn.numbers done → Holds l.rows.items l.numbers (done ++ map unit_of (take l.unit-index l.units))
