-- The classes of a module, by its own items and what can be seen in it.
use Rattle.std.proofs.Common.{◌≡◌, ℕ, List, [], ◌++◌, ap, ◌∙◌}
use Rattle.th_tree.specs.Trees.{InterfaceItemSyn, ModuleSyn}
use Rattle.th_hier.specs.Naming.{Items, Visible}
use Rattle.th_module_rules.specs.Own.{own_items, all_items, own_scope, module_visible, head_items}
use Rattle.th_module_rules.specs.Inheriting.{items_rows, module_rows}
use Rattle.th_own.specs.Owned.{visible_under}

pub own_rows_are : (table : List (List ℕ)) (items found own : Items) (text scope : ℕ) (home : Visible) (m : ModuleSyn) (is : List InterfaceItemSyn)
    → found ≡ own ++ items → own ≡ own_items table items m [] (head_items m) → home ≡ visible_under scope m → scope ≡ own_scope table m → is ≡ head_items m
    → items_rows found home text is ≡ module_rows table items text m
own_rows_are table items found own text scope home m is ef eo eh es ei =
    ap (λ (x : Items). items_rows x home text is) (ef ∙ ap (λ (x : Items). x ++ items) eo)
    ∙ ap (λ (v : Visible). items_rows (all_items table items m) v text is) (eh ∙ ap (λ (s : ℕ). visible_under s m) es)
    ∙ ap (λ (l : List InterfaceItemSyn). items_rows (all_items table items m) (module_visible table m) text l) ei
