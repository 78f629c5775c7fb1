-- The names that the interface of a name uses, by the place of the name among names.
use Rattle.std.proofs.Common.{◌≡◌, ℕ, zero, suc, ◌+◌, ◌<◌, ◌≤◌, Bool, true, false, cond, nat_eq, List, [], ◌∷◌, map, drop, Option, Some, None, position, length, get_or, slice_get, option_map, refl, sym, ap, ◌∙◌, add-one, if◌then◌else◌}
use Rattle.std.specs.List.{position_from}
use Rattle.std.proofs.lemmas.Iterator.Adapters.{position_from-zero}
use Rattle.std.proofs.lemmas.Option.{slice_get-map, slice_get_past, slice_get_read}
use Rattle.th_tree.specs.declared.decl.Interface.{Interface}
use Rattle.th_tree.specs.declared.tree.Ident.{Ident}
use Rattle.th_tree.specs.DeclView.{interface_of}
use Rattle.th_tree.specs.Trees.{InterfaceSyn}
use Rattle.th_checked.specs.Reaching.{numbers_of, tree_names, used_by}

-- the names that an interface uses, where there is one
abbrev pub used_of : Option InterfaceSyn → List ℕ
used_of None = []
used_of (Some f) = numbers_of f.uses

abbrev pub used_at : List InterfaceSyn → Option ℕ → List ℕ
used_at fs None = []
used_at fs (Some k) = used_of (slice_get fs k)

there : (all : List InterfaceSyn) (k : ℕ) (f : InterfaceSyn) (fs : List InterfaceSyn) → drop k all ≡ f ∷ fs → (slice_get all k ≡ Some f) × (drop (suc k) all ≡ fs)
there [] zero f fs h = cc
there [] (suc k) f fs h = cc
there (g ∷ all) zero f fs h = (cc, cc)
there (g ∷ all) (suc k) f fs h = there all k f fs h

used_from : (n : ℕ) (all : List InterfaceSyn) (k : ℕ) (fs : List InterfaceSyn) → drop k all ≡ fs → used_by fs n ≡ used_at all (position_from (nat_eq n) k (tree_names fs))
used_from n all k [] h = refl
used_from n all k (f ∷ fs) h = by (nat_eq n f.name.name) (used_from n all (k + 1) fs (ap (λ (j : ℕ). drop j all) (add-one k) ∙ (there all k f fs h).1))
  where
    by : (b : Bool) → used_by fs n ≡ used_at all (position_from (nat_eq n) (k + 1) (tree_names fs))
        → (if b then numbers_of f.uses else used_by fs n) ≡ used_at all (cond b (Some k) (position_from (nat_eq n) (k + 1) (tree_names fs)))
    by true rest = sym (ap used_of (there all k f fs h).0)
    by false rest = rest

pub used_by_at : (n : ℕ) (fs : List InterfaceSyn) → used_by fs n ≡ used_at fs (position (nat_eq n) (tree_names fs))
used_by_at n fs = used_from n fs 0 fs refl ∙ ap (used_at fs) (sym (position_from-zero (nat_eq n) (tree_names fs)))

used_placed : (n : ℕ) (fs : List InterfaceSyn) (ns : List ℕ) (o : Option ℕ) → ns ≡ tree_names fs → o ≡ position (nat_eq n) ns → used_by fs n ≡ used_at fs o
used_placed n fs ns o en eo = used_by_at n fs ∙ ap (used_at fs) (sym (eo ∙ ap (position (nat_eq n)) en))

-- an interface of that name is found
pub used_found : (n : ℕ) (xs : List Interface) (ns : List ℕ) (k : ℕ) (i : Interface) (us : List Ident) → ns ≡ tree_names (map interface_of xs) → Some k ≡ position (nat_eq n) ns
    → k < length xs → i ≡ get_or xs k i → us ≡ i.uses.items → numbers_of us ≡ used_by (map interface_of xs) n
used_found n xs ns k i us en ek below ei eu =
    ap numbers_of eu
    ∙ sym (used_placed n (map interface_of xs) ns (Some k) en ek ∙ ap used_of (slice_get-map interface_of xs k ∙ ap (option_map interface_of) (slice_get_read xs (length xs) k i refl below ei)))

-- no place is found, or nothing stands there
pub used_nowhere : (n : ℕ) (xs : List Interface) (ns : List ℕ) → ns ≡ tree_names (map interface_of xs) → None ≡ position (nat_eq n) ns → [] ≡ used_by (map interface_of xs) n
used_nowhere n xs ns en ek = sym (used_placed n (map interface_of xs) ns None en ek)

pub used_past : (n : ℕ) (xs : List Interface) (ns : List ℕ) (k : ℕ) → ns ≡ tree_names (map interface_of xs) → Some k ≡ position (nat_eq n) ns
    → length xs ≤ k → [] ≡ used_by (map interface_of xs) n
used_past n xs ns k en ek past =
    sym (used_placed n (map interface_of xs) ns (Some k) en ek ∙ ap used_of (slice_get-map interface_of xs k ∙ ap (option_map interface_of) (slice_get_past xs k past)))
