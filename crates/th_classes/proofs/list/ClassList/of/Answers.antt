use Rattle.std.proofs.Common.{take, map, ◌++◌, subst, arith}
use Rattle.th_meaning.specs.View.{class_of, program_of}
use Rattle.th_meaning.specs.Program.{classes_of}
use Rattle.th_classes.specs.Lists.{Lists}
use Rattle.th_classes.proofs.Listing.{modules_more}
use Rattle.th_classes.proofs.list.ClassList.of.Goals as goal

pub loop-module-preserved : goal.loop-module-preserved
loop-module-preserved c =
    subst (Lists c.add_classes.new.list) (modules_more c.args.modules.now c.loop-module.module-index c.module-item.result (omega arith) c.module-item.is)
    (subst (λ cs. Lists c.add_classes.new.list (classes_of (program_of (take c.loop-module.module-index c.args.modules.now)) ++ map class_of cs)) c.deref.ensures.value
    (c.in_ok-add_classes.ensures (classes_of (program_of (take c.loop-module.module-index c.args.modules.now))) c.loop-module.invariant))
