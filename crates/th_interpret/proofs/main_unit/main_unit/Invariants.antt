use Rattle.std.proofs.Common.{◌≡◌, drop}
use Rattle.th_meaning.specs.View.{program_of}
use Rattle.th_meaning.specs.Program.{mains}
use Rattle.th_interpret.proofs.main_unit.main_unit.Given as goal

abbrev pub invariant-loop-module : goal.invariant-loop-module
invariant-loop-module l = mains (program_of l.modules) ≡ mains (program_of (drop l.module-index l.modules))
