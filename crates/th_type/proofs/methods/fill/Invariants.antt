use Rattle.std.proofs.Common.{take}
use Rattle.th_type.specs.Declarations.{declared_types}
use Rattle.th_type.specs.MethodTables.{Filling}
use Rattle.th_type.specs.Tables.{defs_of, up_of}
use Rattle.th_type.proofs.methods.fill.Given as goal

abbrev pub invariant-loop-k : goal.invariant-loop-k
invariant-loop-k l = Filling (declared_types (defs_of l.defs)) (up_of l.ancestors) l.table.map.entries l.rank (take l.k (defs_of l.defs))
