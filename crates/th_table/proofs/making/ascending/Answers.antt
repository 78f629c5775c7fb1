use Rattle.th_table.proofs.Made.{names_step, names_end}
use Rattle.th_table.proofs.making.ascending.Goals as goal

pub loop-class-init : goal.loop-class-init
loop-class-init c = c.new-names.ensures.items

pub loop-class-preserved : goal.loop-class-preserved
loop-class-preserved c = names_step c.args.classes.now c.loop-class.class-index c.class-item.result c.class-item.result c.loop-class.names.items c.push.new.self.items c.loop-class-test.true c.class-item.is c.loop-class.invariant c.in_ok-push.ensures.items
