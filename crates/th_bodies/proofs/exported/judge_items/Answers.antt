use Rattle.std.proofs.Common.{map, refl}
use Rattle.th_tree.specs.DeclView.{interface_item_of}
use Rattle.th_hier.proofs.Failing.{next_fails}
use Rattle.th_scope.specs.View.{items_of}
use Rattle.th_bodies.specs.Exported.{item_fails_by, items_fail_by}
use Rattle.th_bodies.proofs.exported.judge_items.Goals as goal

pub loop-item-preserved : goal.loop-item-preserved
loop-item-preserved c =
    next_fails (λ x. item_fails_by c.args.names.now c.args.hierarchy.now (items_of c.args.items.now) c.args.text c.args.home.now (interface_item_of x))
    (λ xs. items_fail_by c.args.names.now c.args.hierarchy.now (items_of c.args.items.now) c.args.text c.args.home.now (map interface_item_of xs))
    c.args.list.now c.loop-item.item-index c.item-item.result c.loop-item.least c.judge_item.new.least _
    (λ y ys. refl) c.loop-item-test.true c.item-item.is c.in_ok-judge_item.ensures c.loop-item.invariant
