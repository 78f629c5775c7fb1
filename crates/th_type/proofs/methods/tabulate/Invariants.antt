use Rattle.std.proofs.Common.{[]}
use Rattle.th_type.specs.Declarations.{declared_types}
use Rattle.th_type.specs.MethodTables.{Filling}
use Rattle.th_type.specs.Tables.{defs_of, up_of}
use Rattle.th_type.proofs.methods.tabulate.Given as goal

abbrev pub invariant-loop-rank : goal.invariant-loop-rank
invariant-loop-rank l = Filling (declared_types (defs_of l.defs)) (up_of l.ancestors) l.table.map.entries l.rank []
