use Rattle.std.proofs.Common.{List, ◌++◌, map, take}
use Rattle.th_meaning.specs.View.{class_of}
use Rattle.th_meaning.specs.Program.{ProgramClass}
use Rattle.th_classes.specs.Lists.{Lists}
use Rattle.th_classes.proofs.list.add_classes.Given as goal

abbrev pub invariant-loop-class : goal.invariant-loop-class
invariant-loop-class l = (done : List ProgramClass) → Lists l.fn.list done → Lists l.list (done ++ map class_of (take l.class-index l.classes))
