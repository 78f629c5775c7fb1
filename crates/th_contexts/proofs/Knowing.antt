-- What the definitions of a module are judged by, put together.
use Rattle.std.proofs.Common.{◌≡◌, ◌∙◌, ℕ, List, [], ◌++◌, map, ap, subst, sym}
use Rattle.th_tree.specs.Trees.{InterfaceSyn, ModuleItemSyn, ModuleSyn}
use Rattle.th_type.specs.Judged.{SameNumbers}
use Rattle.th_hier.specs.Hierarchies.{TypeHierarchy}
use Rattle.th_hier.specs.Naming.{Items, Visible, different}
use Rattle.th_rules.specs.Context.{Item}
use Rattle.th_module_rules.specs.Own.{all_items, module_visible, own_full}
use Rattle.th_module_rules.specs.Contexts.{Base, interface_items, item_bases, own_bases, own_items}
use Rattle.th_module_rules.specs.Modules.{judged}
use Rattle.th_contexts.specs.First.{base_seen, item_seen, of_first}
use Rattle.th_contexts.proofs.Different.{different_same}
use Rattle.th_contexts.proofs.Firsts.{all_found, bases_are, items_are}

module _ (table : List (List ℕ)) (h : TypeHierarchy) (fs : List InterfaceSyn) (m : ModuleSyn) (found : Items) (home : Visible) (is : List ModuleItemSyn) (others : List Item)
    (seen : found ≡ all_items table h.items m) (there : home ≡ module_visible table m) (trees : is ≡ m.items) (rest : others ≡ interface_items h.items [] fs) where
  abbrev all : Items
  all = all_items table h.items m

  abbrev v : Visible
  v = module_visible table m

  abbrev mine : List Base
  mine = own_bases (own_full table h.items m) all v [] m.items

  own_known : (own : List Base) → own ≡ of_first (base_seen found home) [] is → own ≡ mine
  own_known own e =
      e ∙ ap (λ (xs : Items). of_first (base_seen xs home) [] is) seen ∙ ap (λ (w : Visible). of_first (base_seen all w) [] is) there ∙ ap (λ (xs : List ModuleItemSyn). of_first (base_seen all v) [] xs) trees
      ∙ bases_are (own_full table h.items m) all v [] m.items (all_found table h.items m)

  bases_known : (own bases : List Base) → own ≡ of_first (base_seen found home) [] is → bases ≡ own ++ item_bases others → bases ≡ mine ++ item_bases (interface_items h.items [] fs)
  bases_known own bases e b = b ∙ ap (λ (bs : List Base). bs ++ item_bases others) (own_known own e) ∙ ap (λ (xs : List Item). mine ++ item_bases xs) rest

  -- what is asked of classes
  pub bases_judged : (text : ℕ) (own bases : List Base) → own ≡ of_first (base_seen found home) [] is → bases ≡ own ++ item_bases others → bases ≡ (judged text table h fs m).bases
  bases_judged text own bases e b = bases_known own bases e b

  -- the items
  pub items_judged : (text : ℕ) (own bases : List Base) (items whole : List Item) → own ≡ of_first (base_seen found home) [] is → bases ≡ own ++ item_bases others
      → items ≡ of_first (item_seen h.types bases found home) [] is → whole ≡ items ++ others → whole ≡ (judged text table h fs m).items
  items_judged text own bases items whole e b i w =
      let all_bases : List Base = mine ++ item_bases (interface_items h.items [] fs) in
      w ∙ ap (λ (xs : List Item). xs ++ others)
      (i ∙ ap (λ (bs : List Base). of_first (item_seen h.types bs found home) [] is) (bases_known own bases e b)
      ∙ ap (λ (xs : Items). of_first (item_seen h.types all_bases xs home) [] is) seen ∙ ap (λ (w : Visible). of_first (item_seen h.types all_bases all w) [] is) there
      ∙ ap (λ (xs : List ModuleItemSyn). of_first (item_seen h.types all_bases all v) [] xs) trees
      ∙ items_are (own_full table h.items m) h.types all_bases all v [] m.items (all_found table h.items m))
      ∙ ap (λ (xs : List Item). own_items (own_full table h.items m) h.types all_bases all v [] m.items ++ xs) rest

  -- the numbers of the own classes
  pub numbers_judged : (text : ℕ) (own : List Base) (ns : List ℕ) → own ≡ of_first (base_seen found home) [] is → ns ≡ different (map (λ b. b.full) own) → SameNumbers ns (judged text table h fs m).own
  numbers_judged text own ns e n =
      subst (λ (xs : List ℕ). SameNumbers xs (map (λ b. b.full) mine)) (sym (n ∙ ap (λ (bs : List Base). different (map (λ b. b.full) bs)) (own_known own e))) (different_same (map (λ b. b.full) mine))
