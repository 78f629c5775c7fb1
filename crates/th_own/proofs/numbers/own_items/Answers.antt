use Rattle.std.proofs.Common.{◌∙◌, ℕ, List, [], ◌∷◌, ◌++◌, Option, map, ap, subst, sym}
use Rattle.th_tree.specs.declared.decl.ModuleItem.{ModuleItem}
use Rattle.th_tree.specs.Names.{place_of}
use Rattle.th_tree.specs.DeclView.{module_item_of, module_of}
use Rattle.th_hier.specs.Numbering.{name_bytes}
use Rattle.th_module_rules.specs.Own.{head_item, head_items, implemented}
use Rattle.th_own.specs.Named.{AllThere}
use Rattle.th_own.specs.Owned.{owned}
use Rattle.th_own.proofs.There.{all_there}
use Rattle.th_own.proofs.Owning.{owned_are}
use Rattle.th_own.proofs.numbers.own_items.Goals as goal

pub items_of-requires-clause-there : goal.items_of-requires-clause-there
items_of-requires-clause-there c =
    subst (λ (t : List (List ℕ)). AllThere t c.args.program.now.name.name (map head_item (map module_item_of c.deref.result.now))) (sym c.in_ok-scope.ensures.names)
    (subst (λ (xs : List ModuleItem). AllThere c.args.names.now c.args.program.now.name.name (map head_item (map module_item_of xs))) (sym c.deref.ensures.value)
    (all_there c.args.names.now c.args.program.now.name.name (head_items (module_of c.args.program.now)) c.requires.named.1))

pub returns-clause-items : goal.returns-clause-items
returns-clause-items c =
    c.in_ok-own.ensures.items
    ∙ ap (λ (t : List (List ℕ)). owned t c.args.index.now c.in_ok-scope.scope c.args.program.now.name.name c.implemented.result [] (map head_item (map module_item_of c.deref.result.now))) c.in_ok-scope.ensures.names
    ∙ ap (λ (s : ℕ). owned c.args.names.now c.args.index.now s c.args.program.now.name.name c.implemented.result [] (map head_item (map module_item_of c.deref.result.now))) c.in_ok-scope.ensures.number
    ∙ ap (λ (i : Option ℕ). owned c.args.names.now c.args.index.now (place_of c.args.names.now (name_bytes c.args.names.now c.args.program.now.name.name ++ 47 ∷ [])) c.args.program.now.name.name i [] (map head_item (map module_item_of c.deref.result.now))) c.implemented.ensures
    ∙ ap (λ (xs : List ModuleItem). owned c.args.names.now c.args.index.now (place_of c.args.names.now (name_bytes c.args.names.now c.args.program.now.name.name ++ 47 ∷ [])) c.args.program.now.name.name (implemented (module_of c.args.program.now)) [] (map head_item (map module_item_of xs))) c.deref.ensures.value
    ∙ owned_are c.args.names.now c.args.index.now (module_of c.args.program.now)
