use Rattle.std.proofs.Common.{◌≡◌, ◌++◌, map, drop}
use Rattle.th_tree.specs.DeclView.{module_item_of}
use Rattle.th_meaning.specs.View.{class_of as core_class_of}
use Rattle.th_scope.specs.View.{items_of}
use Rattle.th_checked.specs.Checked.{core_classes}
use Rattle.th_checked.specs.Made.{text_by}
use Rattle.th_checked.proofs.classes.all_classes.Given as goal

abbrev pub invariant-loop-item : goal.invariant-loop-item
invariant-loop-item l = record {
  names : l.names ≡ l.fn.names;
  classes : map core_class_of l.done.items
      ++ core_classes l.fn.names (text_by l.fn.names l.common.hierarchy.now l.common.heads.now l.common.places.now l.text l.implements) (items_of l.known) (map module_item_of (drop l.item-index l.items))
      ≡ core_classes l.fn.names (text_by l.fn.names l.common.hierarchy.now l.common.heads.now l.common.places.now l.text l.implements) (items_of l.known) (map module_item_of l.items);
}
