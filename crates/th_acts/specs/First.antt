-- The run's first unit.
use Rattle.std.specs.Prelude.{◌≡◌, Option, Some, None}
use Rattle.th_meaning.specs.Program.{ProgramUnit, Program}
use Rattle.th_units.specs.declared.units.UnitRow.{UnitRow}
use Rattle.th_units.specs.Units.{FindsUnit}

-- the row of the unit of the first unit's name, where there is a first unit
abbrev pub FindsFirst : Program → Option ProgramUnit → Option UnitRow → Type 0
FindsFirst p None row = row ≡ None
FindsFirst p (Some main) row = FindsUnit p main.name row
