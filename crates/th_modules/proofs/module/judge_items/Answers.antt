use Rattle.std.proofs.Common.{List, None, map, drop, refl, ap, sym, ◌∙◌, subst}
use Rattle.std.proofs.lemmas.List.{at_drop_all}
use Rattle.th_tree.specs.Trees.{ModuleItemSyn}
use Rattle.th_tree.specs.DeclView.{module_item_of}
use Rattle.th_hier.proofs.Failing.{next_item}
use Rattle.th_rules.specs.Context.{find_item}
use Rattle.th_module_rules.specs.Contexts.{module_item_name}
use Rattle.th_module_rules.specs.Units.{item_units, items_units}
use Rattle.th_modules.specs.Lowering.{InItems, Lowers}
use Rattle.th_modules.specs.View.{judged_of, units_after, units_opt}
use Rattle.th_modules.proofs.Lowering.{item_none, item_there, next_items, no_items}
use Rattle.th_modules.proofs.Units.{next_joined, units_end}
use Rattle.th_modules.proofs.module.judge_items.Goals as goal

pub loop-item-preserved : goal.loop-item-preserved
loop-item-preserved c = record {
  units = λ own h. next_joined (λ x. item_units (judged_of c.args.judging.now) (module_item_of x) (find_item (judged_of c.args.judging.now).items None (module_item_name (module_item_of x)).name))
      (λ xs. items_units (judged_of c.args.judging.now) (map module_item_of xs))
      c.args.items.now c.loop-item.item-index c.item-item.result (units_opt c.loop-item.units) _ _ (units_opt c.in_ok-found.found)
      (λ y ys. refl) c.loop-item-test.true c.item-item.is c.in_ok-units.ensures
      (c.in_ok-found.ensures.units (own (module_item_of c.item-item.result) (item_there module_item_of c.args.items.now c.loop-item.item-index c.item-item.result c.loop-item-test.true c.item-item.is)) h)
      (c.loop-item.invariant.units own (item_none (judged_of c.args.judging.now) (module_item_of c.item-item.result) c.loop-item.least c.judge_item.new.least c.in_ok-found.ensures.least h));
  least = λ new l. c.loop-item.invariant.least new
      (next_items (judged_of c.args.judging.now) (map module_item_of (drop c.loop-item.item-index c.args.items.now)) (module_item_of c.item-item.result) _
      c.loop-item.least c.judge_item.new.least new
      (ap (map module_item_of) (next_item c.args.items.now c.loop-item.item-index c.item-item.result c.loop-item-test.true c.item-item.is)) c.in_ok-found.ensures.least l);
}

pub returns-clause-units : goal.returns-clause-units
returns-clause-units c = λ own none.
    sym (units_end (units_opt c.loop-item.units))
    ∙ ap (λ (ys : List ModuleItemSyn). units_after (units_opt c.loop-item.units) (items_units (judged_of c.args.judging.now) ys)) (sym (at_drop_all (map module_item_of) c.args.items.now c.loop-item.item-index c.loop-item-test.false))
    ∙ c.loop-item.invariant.units own none

pub returns-clause-least : goal.returns-clause-least
returns-clause-least c = c.loop-item.invariant.least c.loop-item.least
    (subst (λ (ys : List ModuleItemSyn). Lowers (InItems (judged_of c.args.judging.now) ys) c.loop-item.least c.loop-item.least)
    (sym (at_drop_all (map module_item_of) c.args.items.now c.loop-item.item-index c.loop-item-test.false)) (no_items (judged_of c.args.judging.now) c.loop-item.least))
