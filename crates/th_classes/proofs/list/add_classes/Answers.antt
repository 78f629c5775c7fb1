use Rattle.std.proofs.Common.{List, ◌++◌, map, take, subst, arith}
use Rattle.th_meaning.specs.View.{class_of}
use Rattle.th_meaning.specs.Program.{ProgramClass}
use Rattle.th_classes.specs.Lists.{Lists}
use Rattle.th_classes.proofs.Listing.{classes_more}
use Rattle.th_classes.proofs.list.add_classes.Goals as goal

pub loop-class-preserved : goal.loop-class-preserved
loop-class-preserved c = λ done h.
    subst (Lists c.add_class.new.list) (classes_more done c.args.classes.now c.loop-class.class-index c.class-item.result (omega arith) c.class-item.is)
    (c.in_ok-add_class.ensures (done ++ map class_of (take c.loop-class.class-index c.args.classes.now)) (c.loop-class.invariant done h))
