use Rattle.std.proofs.Common.{◌≡◌, ◌+◌, length, map, drop}
use Rattle.th_tree.specs.DeclView.{interface_of, module_of as tree_of}
use Rattle.th_meaning.specs.View.{module_of, unit_of}
use Rattle.th_scope.specs.View.{items_of}
use Rattle.th_program.specs.Programs.{with_texts}
use Rattle.th_checked.proofs.Making.{LeadsTo}
use Rattle.th_checked.proofs.modules.all_modules.Given as goal

abbrev pub invariant-loop-own : goal.invariant-loop-own
invariant-loop-own l = record {
  names : l.names ≡ l.fn.names;
  count : l.k + length l.own-iterator.rest.items ≡ length l.modules;
  leads : LeadsTo l.fn.names l.common.hierarchy.now l.common.tokens.now l.common.heads.now (with_texts l.common.texts.now (map interface_of l.common.interfaces.now)) (map interface_of l.common.interfaces.now) l.common.places.now
      (with_texts (drop l.k l.texts) (map tree_of (drop l.k l.modules))) (map (λ k. items_of k.items) (drop l.k l.known)) (map (λ u. map unit_of u.items) l.own-iterator.rest.items)
      (with_texts l.texts (map tree_of l.modules)) (map (λ k. items_of k.items) l.known) (map (λ u. map unit_of u.items) l.fn.units.items) (map module_of l.done.items);
}
