-- What is reached from numbers by steps.
use Rattle.std.specs.Prelude.{ℕ, zero, suc, nat_eq, List, [], ◌∷◌, ◌++◌, map, Option, Some, None, if◌then◌else◌}
use Rattle.th_tree.specs.declared.tree.Ident.{Ident}
use Rattle.th_tree.specs.Trees.{InterfaceSyn, ModuleSyn}
use Rattle.th_type.specs.Lists.{IsIn}

-- a number is reached in so many steps: it is one of the first, or a step leads to it from a number that is reached
abbrev pub ReachedIn : ℕ → (ℕ → List ℕ) → List ℕ → ℕ → Type 0
ReachedIn zero next first n = IsIn n first
ReachedIn (suc k) next first n = (m : ℕ) × ReachedIn k next first m × IsIn n (next m)

abbrev pub Reached : (ℕ → List ℕ) → List ℕ → ℕ → Type 0
Reached next first n = (k : ℕ) × ReachedIn k next first n

-- the names
abbrev pub numbers_of : List Ident → List ℕ
numbers_of ns = map (λ u. u.name) ns

-- the names of interfaces
abbrev pub tree_names : List InterfaceSyn → List ℕ
tree_names fs = map (λ f. f.name.name) fs

-- the names that the interface of that name uses
abbrev pub used_by : List InterfaceSyn → ℕ → List ℕ
used_by [] n = []
used_by (f ∷ fs) n = if nat_eq n f.name.name then numbers_of f.uses else used_by fs n

-- the names that a module has directly, that of the implemented interface first
abbrev pub first_name : Option Ident → List ℕ
first_name None = []
first_name (Some i) = i.name ∷ []

abbrev pub first_names : ModuleSyn → List ℕ
first_names m = first_name m.implements ++ numbers_of m.uses
