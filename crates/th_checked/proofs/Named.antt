-- Where interfaces have different names, those that a module names are the ones that are reached from its own names.
use Rattle.std.proofs.Common.{◌≡◌, ℕ, zero, suc, Bool, true, false, nat_eq, inl, inr, List, [], ◌∷◌, map, Option, Some, None, option_map, refl, sym, ap, ◌∙◌, subst, eq-eqb, arith, if◌then◌else◌}
use Rattle.std.proofs.lemmas.Bool.Decides.{nat_tests}
use Rattle.th_tree.specs.declared.tree.Ident.{Ident}
use Rattle.th_tree.specs.Trees.{InterfaceSyn, ModuleSyn}
use Rattle.th_type.specs.Lists.{IsIn}
use Rattle.th_type.proofs.Members.{in_left, in_right, in_map, from_append}
use Rattle.th_module_rules.specs.Stages.{Numbered}
use Rattle.th_checked.specs.Checked.{NamesIn, Names}
use Rattle.th_checked.specs.Reaching.{ReachedIn, Reached, first_name, first_names, numbers_of, tree_names, used_by}
use Rattle.th_checked.proofs.Apart.{Apart}
use Rattle.th_checked.proofs.Reaching.{from_one}

abbrev pub trees_of : List (Numbered InterfaceSyn) → List InterfaceSyn
trees_of is = map (λ i. i.tree) is

pub same_numbers : (n m : ℕ) → nat_eq n m ≡ true → n ≡ m
same_numbers n m h = grind (arith, nat_tests)

-- numbers of which one is among others and one is not are not the same
pub other : (n m : ℕ) (ns : List ℕ) → IsIn n ns → (¬ IsIn m ns) → (b : Bool) → nat_eq n m ≡ b → b ≡ false
other n m ns i lacks true h = absurd (lacks (subst (λ (k : ℕ). IsIn k ns) (same_numbers n m h) i))
other n m ns i lacks false h = refl

pub name_in : (fs : List InterfaceSyn) (f : InterfaceSyn) → IsIn f fs → IsIn f.name.name (tree_names fs)
name_in fs f h = in_map (λ (g : InterfaceSyn). g.name.name) f fs h

-- what the interface of a name uses, where it is one of them
used_here : (fs : List InterfaceSyn) (f : InterfaceSyn) → Apart (tree_names fs) → IsIn f fs → used_by fs f.name.name ≡ numbers_of f.uses
used_here [] f apart h = absurd h
used_here (g ∷ fs) f apart (inl e) =
    ap (λ (b : Bool). if b then numbers_of g.uses else used_by fs f.name.name) (ap (λ (h : InterfaceSyn). nat_eq f.name.name h.name.name) (sym e) ∙ eq-eqb f.name.name f.name.name refl)
    ∙ ap (λ (h : InterfaceSyn). numbers_of h.uses) (sym e)
used_here (g ∷ fs) f apart (inr h) =
    ap (λ (b : Bool). if b then numbers_of g.uses else used_by fs f.name.name) (other f.name.name g.name.name (tree_names fs) (name_in fs f h) apart.0 (nat_eq f.name.name g.name.name) refl)
    ∙ used_here fs f apart.1 h

abbrev Uses : List InterfaceSyn → ℕ → ℕ → Type 0
Uses fs q n = (f : InterfaceSyn) × IsIn f fs × (q ≡ f.name.name) × IsIn n (numbers_of f.uses)

uses_by : (f : InterfaceSyn) (fs : List InterfaceSyn) (q n : ℕ) (b : Bool) → nat_eq q f.name.name ≡ b → (IsIn n (used_by fs q) → Uses fs q n)
    → IsIn n (if b then numbers_of f.uses else used_by fs q) → Uses (f ∷ fs) q n
uses_by f fs q n true e rest h = (f, inl refl, same_numbers q f.name.name e, h)
uses_by f fs q n false e rest h = let r = rest h in (r.0, inr r.1, r.2, r.3)

-- an interface that uses what is used by a name
uses_in : (fs : List InterfaceSyn) (q n : ℕ) → IsIn n (used_by fs q) → Uses fs q n
uses_in [] q n h = absurd h
uses_in (f ∷ fs) q n h = uses_by f fs q n (nat_eq q f.name.name) refl (uses_in fs q n) h

pub tree_in : (is : List (Numbered InterfaceSyn)) (i : Numbered InterfaceSyn) → IsIn i is → IsIn i.tree (trees_of is)
tree_in is i h = in_map (λ (j : Numbered InterfaceSyn). j.tree) i is h

from_trees : (is : List (Numbered InterfaceSyn)) (f : InterfaceSyn) → IsIn f (trees_of is) → (i : Numbered InterfaceSyn) × IsIn i is × (f ≡ i.tree)
from_trees [] f h = absurd h
from_trees (i ∷ is) f (inl e) = (i, inl refl, e)
from_trees (i ∷ is) f (inr h) = let r = from_trees is f h in (r.0, inr r.1, r.2)

first_in : (o : Option Ident) (n : ℕ) → option_map (λ i. i.name) o ≡ Some n → IsIn n (first_name o)
first_in None n h = cc
first_in (Some i) n h = inl (cc)

first_is : (o : Option Ident) (n : ℕ) → IsIn n (first_name o) → option_map (λ i. i.name) o ≡ Some n
first_is None n h = absurd h
first_is (Some i) n h = ap Some (sym (from_one n i.name h))

module _ (is : List (Numbered InterfaceSyn)) (m : ModuleSyn) (apart : Apart (tree_names (trees_of is))) where
  reached_from : (k n : ℕ) → NamesIn k is m n → ReachedIn k (used_by (trees_of is)) (first_names m) n
  reached_from zero n (inl e) = in_left n (first_name m.implements) (numbers_of m.uses) (first_in m.implements n e)
  reached_from zero n (inr h) = in_right n (first_name m.implements) (numbers_of m.uses) h
  reached_from (suc k) n (i, h, before, used) =
      (i.tree.name.name, reached_from k i.tree.name.name before, subst (λ (ns : List ℕ). IsIn n ns) (sym (used_here (trees_of is) i.tree apart (tree_in is i h))) used)

  named_by : (k n q : ℕ) → NamesIn k is m q → Uses (trees_of is) q n → NamesIn (suc k) is m n
  named_by k n q named u =
      let i = from_trees is u.0 u.1 in
      (i.0, i.1, subst (λ (r : ℕ). NamesIn k is m r) (u.2 ∙ ap (λ (f : InterfaceSyn). f.name.name) i.2) named, subst (λ (f : InterfaceSyn). IsIn n (numbers_of f.uses)) i.2 u.3)

  named_from : (k n : ℕ) → ReachedIn k (used_by (trees_of is)) (first_names m) n → NamesIn k is m n
  named_from zero n h =
      elim (from_append n (first_name m.implements) (numbers_of m.uses) h) [ inl a ↦ inl (first_is m.implements n a) | inr b ↦ inr b ]
  named_from (suc k) n (q, h, used) = named_by k n q (named_from k q h) (uses_in (trees_of is) q n used)

  -- the interfaces that are named are those that are reached
  pub names_reached : (n : ℕ) → Names is m n → Reached (used_by (trees_of is)) (first_names m) n
  names_reached n h = (h.0, reached_from h.0 n h.1)

  pub reached_names : (n : ℕ) → Reached (used_by (trees_of is)) (first_names m) n → Names is m n
  reached_names n h = (h.0, named_from h.0 n h.1)
