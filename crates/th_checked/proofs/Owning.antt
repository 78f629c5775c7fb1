-- Where interfaces have different names, what the items of all of them declare for one is what its own items declare.
use Rattle.std.proofs.Common.{◌≡◌, ℕ, Bool, true, false, nat_eq, List, [], ◌∷◌, ◌++◌, Option, Some, None, refl, sym, ap, ◌∙◌, subst, inl, inr, if◌then◌else◌}
use Rattle.std.proofs.lemmas.Cmp.{nat_eq_equiv}
use Rattle.th_tree.specs.Trees.{InterfaceItemSyn, InterfaceSyn}
use Rattle.th_type.specs.Declarations.{DeclaredType}
use Rattle.th_type.specs.Lists.{IsIn}
use Rattle.th_hier.specs.Naming.{Items, Visible, has, with_number, is_number}
use Rattle.th_hier.specs.Spots.{item_name}
use Rattle.th_hier.specs.Texts.{visible}
use Rattle.th_meaning.specs.Program.{ProgramInterface}
use Rattle.th_rules.specs.Context.{Item, Head}
use Rattle.th_rules.specs.Cores.{name_at}
use Rattle.th_module_rules.specs.Contexts.{full_in, interface_head, interface_items, item_with, items_of_interface}
use Rattle.th_cores.specs.Cores.{DeclaredItems, core_interface, declared_with, with_declared}
use Rattle.th_checked.specs.Reaching.{tree_names}
use Rattle.th_checked.proofs.Apart.{Apart, New, has_not}
use Rattle.th_checked.proofs.Named.{name_in, other}
use Rattle.th_checked.proofs.Reaching.{from_by}

module _ (names : List (List ℕ)) (D : List DeclaredType) (items : Items) where
  one_with : (n : ℕ) (d : DeclaredItems) (x : Item) (xs : List Item) → declared_with names D n d (x ∷ xs) ≡ declared_with names D n (declared_with names D n d (x ∷ [])) xs
  one_with n d x xs = refl

  -- items one after another
  both_with : (n : ℕ) (d : DeclaredItems) (xs ys : List Item) → declared_with names D n d (xs ++ ys) ≡ declared_with names D n (declared_with names D n d xs) ys
  both_with n d [] ys = refl
  both_with n d (x ∷ xs) ys = both_with n (if is_number x.from n then with_declared names D d x.full x.head else d) xs ys

  item_passes : (n i m : ℕ) (d : DeclaredItems) (full : Option ℕ) (h : Head) → nat_eq i n ≡ false → declared_with names D n d (item_with (Some i) m full h) ≡ d
  item_passes n i m d None h e = refl
  item_passes n i m d (Some full) h e = ap (λ (b : Bool). if b then with_declared names D d full h else d) e

  -- items of another interface
  others_by : (v : Visible) (n i : ℕ) (seen : List ℕ) (d : DeclaredItems) (x : InterfaceItemSyn) (xs : List InterfaceItemSyn) (b : Bool) → nat_eq i n ≡ false
      → ((s : List ℕ) → declared_with names D n d (items_of_interface items v i s xs) ≡ d)
      → declared_with names D n d (if b then items_of_interface items v i seen xs
      else item_with (Some i) (item_name x).name (full_in items i (item_name x).name) (interface_head items v x) ++ items_of_interface items v i (with_number seen (item_name x).name) xs)
      ≡ d
  others_by v n i seen d x xs true e rest = rest seen
  others_by v n i seen d x xs false e rest =
      both_with n d (item_with (Some i) (item_name x).name (full_in items i (item_name x).name) (interface_head items v x)) (items_of_interface items v i (with_number seen (item_name x).name) xs)
      ∙ ap (λ (c : DeclaredItems). declared_with names D n c (items_of_interface items v i (with_number seen (item_name x).name) xs)) (item_passes n i (item_name x).name d (full_in items i (item_name x).name) (interface_head items v x) e)
      ∙ rest (with_number seen (item_name x).name)

  others_pass : (v : Visible) (n i : ℕ) (seen : List ℕ) (d : DeclaredItems) (xs : List InterfaceItemSyn) → nat_eq i n ≡ false → declared_with names D n d (items_of_interface items v i seen xs) ≡ d
  others_pass v n i seen d [] e = refl
  others_pass v n i seen d (x ∷ xs) e = others_by v n i seen d x xs (has seen (item_name x).name) e (λ (s : List ℕ). others_pass v n i s d xs e)

  abbrev all_of : InterfaceSyn → List Item
  all_of f = items_of_interface items (visible f) f.name.name [] f.items

  head_other : (n m : ℕ) (ns : List ℕ) → (¬ IsIn n (m ∷ ns)) → (b : Bool) → nat_eq m n ≡ b → b ≡ false
  head_other n m ns lacks b h = other m n (m ∷ ns) (inl refl) lacks b h

  -- interfaces of other names
  rest_by : (n : ℕ) (seen : List ℕ) (d : DeclaredItems) (f : InterfaceSyn) (fs : List InterfaceSyn) (b : Bool) → nat_eq f.name.name n ≡ false
      → ((s : List ℕ) → declared_with names D n d (interface_items items s fs) ≡ d)
      → declared_with names D n d (if b then interface_items items seen fs else all_of f ++ interface_items items (with_number seen f.name.name) fs) ≡ d
  rest_by n seen d f fs true e rest = rest seen
  rest_by n seen d f fs false e rest =
      both_with n d (all_of f) (interface_items items (with_number seen f.name.name) fs)
      ∙ ap (λ (c : DeclaredItems). declared_with names D n c (interface_items items (with_number seen f.name.name) fs)) (others_pass (visible f) n f.name.name [] d f.items e)
      ∙ rest (with_number seen f.name.name)

  rest_passes : (n : ℕ) (seen : List ℕ) (d : DeclaredItems) (fs : List InterfaceSyn) → (¬ IsIn n (tree_names fs)) → declared_with names D n d (interface_items items seen fs) ≡ d
  rest_passes n seen d [] lacks = refl
  rest_passes n seen d (f ∷ fs) lacks =
      rest_by n seen d f fs (has seen f.name.name) (head_other n f.name.name (tree_names fs) lacks (nat_eq f.name.name n) refl) (λ (s : List ℕ). rest_passes n s d fs (λ i. lacks (inr i)))

  abbrev first_with : DeclaredItems → InterfaceSyn → DeclaredItems
  first_with d f = declared_with names D f.name.name d (all_of f)

  alone : (d : DeclaredItems) (f : InterfaceSyn) → declared_with names D f.name.name d (interface_items items [] (f ∷ [])) ≡ first_with d f
  alone d f = both_with f.name.name d (all_of f) []

  still_new : (seen : List ℕ) (g : InterfaceSyn) (fs : List InterfaceSyn) → (¬ IsIn g.name.name (tree_names fs)) → New seen (tree_names (g ∷ fs)) → New (with_number seen g.name.name) (tree_names fs)
  still_new seen g fs lacks new n i j =
      elim (from_by seen g.name.name n (has seen g.name.name) j) [
        | inl a ↦ new n (inr i) a
        | inr e ↦ lacks (subst (λ (k : ℕ). IsIn k (tree_names fs)) e i)
      ]

  abbrev OwnFirst : InterfaceSyn → List InterfaceSyn → Type 0
  OwnFirst f fs = (seen : List ℕ) (d : DeclaredItems) → Apart (tree_names fs) → New seen (tree_names fs) → IsIn f fs → declared_with names D f.name.name d (interface_items items seen fs) ≡ first_with d f

  -- the first interface of the list, or one of the others
  here : (g : InterfaceSyn) (fs : List InterfaceSyn) (f : InterfaceSyn) (seen : List ℕ) (d : DeclaredItems) → Apart (tree_names (g ∷ fs)) → New seen (tree_names (g ∷ fs)) → OwnFirst f fs → IsIn f (g ∷ fs)
      → declared_with names D f.name.name (declared_with names D f.name.name d (all_of g)) (interface_items items (with_number seen g.name.name) fs) ≡ first_with d f
  here g fs f seen d apart new rest (inl e) =
      ap (λ (k : InterfaceSyn). declared_with names D f.name.name (declared_with names D f.name.name d (all_of k)) (interface_items items (with_number seen g.name.name) fs)) (sym e)
      ∙ rest_passes f.name.name (with_number seen g.name.name) (first_with d f) fs (subst (λ (k : InterfaceSyn). ¬ IsIn k.name.name (tree_names fs)) (sym e) apart.0)
  here g fs f seen d apart new rest (inr i) =
      ap (λ (c : DeclaredItems). declared_with names D f.name.name c (interface_items items (with_number seen g.name.name) fs))
      (others_pass (visible g) f.name.name g.name.name [] d g.items
      (nat_eq_equiv.symm g.name.name f.name.name ∙ other f.name.name g.name.name (tree_names fs) (name_in fs f i) apart.0 (nat_eq f.name.name g.name.name) refl))
      ∙ rest (with_number seen g.name.name) d apart.1 (still_new seen g fs apart.0 new) i

  own_first : (fs : List InterfaceSyn) (f : InterfaceSyn) → OwnFirst f fs
  own_first [] f seen d apart new h = absurd h
  own_first (g ∷ fs) f seen d apart new h =
      ap (λ (b : Bool). declared_with names D f.name.name d (if b then interface_items items seen fs else all_of g ++ interface_items items (with_number seen g.name.name) fs))
      (has_not seen g.name.name (has seen g.name.name) refl (new g.name.name (inl refl)))
      ∙ both_with f.name.name d (all_of g) (interface_items items (with_number seen g.name.name) fs)
      ∙ here g fs f seen d apart new (own_first fs f) h

  abbrev interface_with : ℕ → List ℕ → DeclaredItems → ProgramInterface
  interface_with n canonical d = record { name = name_at names n; canonical = canonical; types = d.types; exceptions = d.exceptions; classes = d.classes; routines = d.routines }

  -- an interface by its own items is that by the items of all
  pub own_interface_is : (fs : List InterfaceSyn) (f : InterfaceSyn) (canonical : List ℕ) → Apart (tree_names fs) → IsIn f fs
      → core_interface names D f.name.name (interface_items items [] (f ∷ [])) canonical ≡ core_interface names D f.name.name (interface_items items [] fs) canonical
  own_interface_is fs f canonical apart h =
      ap (interface_with f.name.name canonical) (alone none f ∙ sym (own_first fs f [] none apart (λ n i j. j) h))
    where
      none : DeclaredItems
      none = record { types = []; exceptions = []; classes = []; routines = [] }
