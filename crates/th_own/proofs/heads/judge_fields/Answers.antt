use Rattle.std.proofs.Common.{map, refl}
use Rattle.th_tree.specs.DeclView.{module_item_of}
use Rattle.th_module_rules.specs.Own.{all_fields_fail, item_fields_fail}
use Rattle.th_hier.proofs.Failing.{next_fails}
use Rattle.th_own.proofs.heads.judge_fields.Goals as goal

pub loop-item-preserved : goal.loop-item-preserved
loop-item-preserved c =
    next_fails (λ x. item_fields_fail c.args.found.now c.args.home.now c.args.text (module_item_of x)) (λ xs. all_fields_fail c.args.found.now c.args.home.now c.args.text (map module_item_of xs)) c.args.items.now c.loop-item.item-index c.item-item.result c.loop-item.least c.judge_item_fields.new.least _
    (λ y ys. refl) c.loop-item-test.true c.item-item.is c.in_ok-judge_item_fields.ensures c.loop-item.invariant
