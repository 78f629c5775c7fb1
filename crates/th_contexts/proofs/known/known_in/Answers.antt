use Rattle.std.proofs.Common.{◌∙◌, ◌++◌, List, [], map, ap, sym}
use Rattle.th_tree.specs.declared.decl.ModuleItem.{ModuleItem}
use Rattle.th_tree.specs.DeclView.{interface_of, module_item_of, module_of}
use Rattle.th_hier.specs.Naming.{Items, different}
use Rattle.th_scope.specs.declared.item.Item.{Item as CodeItem}
use Rattle.th_scope.specs.ItemView.{item_of}
use Rattle.th_scope.specs.View.{items_of}
use Rattle.th_module_rules.specs.Contexts.{interface_items, item_bases}
use Rattle.th_contexts.specs.declared.base_row.Base.{Base as CodeBase}
use Rattle.th_contexts.specs.BaseView.{base_of}
use Rattle.th_contexts.specs.Bases.{bases_of}
use Rattle.th_contexts.specs.First.{item_seen, of_first}
use Rattle.th_contexts.proofs.Knowing.{bases_judged, items_judged, numbers_judged}
use Rattle.th_contexts.proofs.known.known_in.Goals as goal

pub returns : goal.returns
returns c = λ table text f h.
    let H = c.args.hierarchy.now in
    let fs = map interface_of c.args.interfaces.now in
    let m = module_of c.args.program.now in
    let trees = ap (λ (xs : List ModuleItem). map module_item_of xs) c.deref.ensures.value in
    let others = c.in_ok-others.ensures ∙ ap (λ (xs : Items). interface_items xs [] fs) c.index.ensures in
    let own = c.in_ok-own.ensures in
    let bases = c.in_ok-bases.ensures ∙ ap (λ (xs : List CodeItem). map base_of c.in_ok-own.own.items ++ item_bases (map item_of xs)) c.deref-3.ensures.value in
    record {
      items = items_judged table H fs m c.args.found.now c.args.home.now (map module_item_of c.deref.result.now) (map item_of c.in_ok-others.others.items) f h trees others text
          (map base_of c.in_ok-own.own.items) (bases_of c.in_ok-bases.bases) (map item_of c.in_ok-items.items.items) (items_of c.in_ok-of.field-0) own bases
          (c.in_ok-items.ensures ∙ ap (λ (xs : List ModuleItem). of_first (item_seen H.types (bases_of c.in_ok-bases.bases) c.args.found.now c.args.home.now) [] (map module_item_of xs)) (c.deref-4.ensures.value ∙ sym c.deref.ensures.value))
          (c.in_ok-of.ensures ∙ c.in_ok-items-2.ensures);
      bases = bases_judged table H fs m c.args.found.now c.args.home.now (map module_item_of c.deref.result.now) (map item_of c.in_ok-others.others.items) f h trees others text
          (map base_of c.in_ok-own.own.items) (bases_of c.in_ok-bases.bases) own bases;
      own = numbers_judged table H fs m c.args.found.now c.args.home.now (map module_item_of c.deref.result.now) (map item_of c.in_ok-others.others.items) f h trees others text
          (map base_of c.in_ok-own.own.items) c.in_ok-numbers.numbers own
          (c.in_ok-numbers.ensures ∙ ap (λ (xs : List CodeBase). different (map (λ b. b.full) (map base_of xs))) c.deref-2.ensures.value);
    }
