use Rattle.std.proofs.Common.{map, refl}
use Rattle.th_tree.specs.DeclView.{interface_item_of}
use Rattle.th_module_rules.specs.Limits.{item_counts, items_counts}
use Rattle.th_limits.proofs.Counting.{next_counts}
use Rattle.th_limits.proofs.heads.measure_items.Goals as goal

pub loop-item-preserved : goal.loop-item-preserved
loop-item-preserved c =
    next_counts (λ x. item_counts c.args.text (interface_item_of x)) (λ xs. items_counts c.args.text (map interface_item_of xs)) c.args.items.now c.loop-item.item-index c.item-item.result c.loop-item.first c.measure_item.new.first _
    (λ y ys. refl) c.loop-item-test.true c.item-item.is c.measure_item.ensures c.loop-item.invariant
