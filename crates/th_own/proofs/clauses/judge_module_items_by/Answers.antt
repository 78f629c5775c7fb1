use Rattle.std.proofs.Common.{map, refl}
use Rattle.th_tree.specs.DeclView.{module_item_of}
use Rattle.th_module_rules.specs.Own.{head_item}
use Rattle.th_own.specs.Mains.{module_item_fails_by, module_items_fail_by}
use Rattle.th_hier.proofs.Failing.{next_fails}
use Rattle.th_own.proofs.clauses.judge_module_items_by.Goals as goal

pub loop-item-preserved : goal.loop-item-preserved
loop-item-preserved c =
    next_fails (λ x. module_item_fails_by c.args.main c.args.text (head_item (module_item_of x))) (λ xs. module_items_fail_by c.args.main c.args.text (map head_item (map module_item_of xs))) c.args.items.now c.loop-item.item-index c.item-item.result c.loop-item.least c.judge_module_item.new.least _
    (λ y ys. refl) c.loop-item-test.true c.item-item.is c.in_ok-judge_module_item.ensures c.loop-item.invariant
