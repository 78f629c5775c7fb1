use Rattle.std.proofs.Common.{take}
use Rattle.th_meaning.specs.View.{program_of}
use Rattle.th_meaning.specs.Program.{types_of_program}
use Rattle.th_weights.specs.Types.{HoldsTypes}
use Rattle.th_weights.proofs.table.TypeTable.of.Given as goal

abbrev pub invariant-loop-module : goal.invariant-loop-module
invariant-loop-module l = HoldsTypes l.table (types_of_program (program_of (take l.module-index l.modules)))
