use Rattle.std.proofs.Common.{take}
use Rattle.th_meaning.specs.View.{program_of}
use Rattle.th_meaning.specs.Program.{classes_of}
use Rattle.th_classes.specs.Lists.{Lists}
use Rattle.th_classes.proofs.list.ClassList.of.Given as goal

abbrev pub invariant-loop-module : goal.invariant-loop-module
invariant-loop-module l = Lists l.list (classes_of (program_of (take l.module-index l.modules)))
