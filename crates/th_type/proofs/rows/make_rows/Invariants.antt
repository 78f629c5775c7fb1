use Rattle.std.proofs.Common.{◌≡◌, take}
use Rattle.th_type.specs.Declarations.{declared_types}
use Rattle.th_type.specs.Rows.{rows_of}
use Rattle.th_type.specs.Tables.{defs_of}
use Rattle.th_type.proofs.rows.make_rows.Given as goal

abbrev pub invariant-loop-k : goal.invariant-loop-k
invariant-loop-k l = rows_of l.rows.entries ≡ declared_types (take l.k (defs_of l.defs))
