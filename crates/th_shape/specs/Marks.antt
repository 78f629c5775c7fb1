-- Types that are the second in each list of supertypes that names them.
use Rattle.std.specs.Prelude.{◌≡◌, ℕ, ◌+◌, List, [], ◌∷◌, Bool, true, false, nat_eq, ◌&&◌, cond, Option, Some, None, slice_get}
use Rattle.th_type.specs.Types.{TypeExpr, TypeExprs, named_ty}
use Rattle.th_type.specs.Closure.{is_head}
use Rattle.th_type.specs.Declarations.{DeclaredType, supers_of}

-- the declared supertype k of the type n is the type q
abbrev pub NamedAt : List DeclaredType → ℕ → ℕ → ℕ → Type 0
NamedAt D n k q = (args : TypeExprs) × (slice_get (supers_of D n) k ≡ Some (named_ty q args))

-- a list of supertypes names the type, and it is the second in each list that names it
pub record IsMarked (D : List DeclaredType) (q : ℕ) : Type 0 where
  pub named : (n : ℕ) × NamedAt D n 1 q
  pub second : (n k : ℕ) → NamedAt D n k q → k ≡ 1

-- whether a type was only named as a second, where it was named at all; it is named once more, as a second or not
abbrev pub noted : Option Bool → Bool → Option Bool
noted None s = Some s
noted (Some b) s = Some (b && s)

-- the same after the types of a list of supertypes, the first of which is its k-th
abbrev pub noted_in : ℕ → List TypeExpr → ℕ → Option Bool → Option Bool
noted_in k [] q o = o
noted_in k (t ∷ ts) q o = noted_in (k + 1) ts q (cond (is_head q t) (noted o (nat_eq k 1)) o)

-- the same after the lists of supertypes of declared types
abbrev pub noted_all : List DeclaredType → List ℕ → ℕ → Option Bool → Option Bool
noted_all D [] q o = o
noted_all D (n ∷ ns) q o = noted_all D ns q (noted_in 0 (supers_of D n) q o)
