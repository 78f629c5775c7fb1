use Rattle.std.proofs.Common.{◌≡◌, Option, None, map, drop}
use Rattle.th_tree.specs.DeclView.{module_item_of}
use Rattle.th_type.specs.declared.place.Failure.{Failure}
use Rattle.th_module_rules.specs.Units.{items_units}
use Rattle.th_modules.specs.Lowering.{Lowers, InItems}
use Rattle.th_modules.specs.Own.{AllOwn}
use Rattle.th_modules.specs.View.{judged_of, units_after, units_opt}
use Rattle.th_modules.proofs.module.judge_items.Given as goal

-- what was judged of the items so far, and what is left of them
abbrev pub invariant-loop-item : goal.invariant-loop-item
invariant-loop-item l = record {
  units : AllOwn (judged_of l.judging) (map module_item_of l.items) → l.least ≡ None
      → units_after (units_opt l.units) (items_units (judged_of l.judging) (map module_item_of (drop l.item-index l.items))) ≡ items_units (judged_of l.judging) (map module_item_of l.items);
  least : (new : Option Failure) → Lowers (InItems (judged_of l.judging) (map module_item_of (drop l.item-index l.items))) l.least new
      → Lowers (InItems (judged_of l.judging) (map module_item_of l.items)) l.fn.least new;
}
