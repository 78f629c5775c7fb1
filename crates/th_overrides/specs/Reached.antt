-- The declared types that a declared type reaches, by their numbers.
use Rattle.std.specs.Prelude.{◌≡◌, ℕ, ◌⊎◌, List, [], ◌∷◌, Option, Some, None}
use Rattle.th_type.specs.Types.{TypeExpr, TypeExprs, named_ty}
use Rattle.th_type.specs.Lists.{IsIn}
use Rattle.th_type.specs.Declarations.{DeclaredType, supers_of}
use Rattle.th_type.specs.Subtypes.{Reached, head_of}
use Rattle.th_hier.specs.Naming.{with_number}

-- what follows, where there is a number
abbrev pub with_head : (List ℕ → Option (List ℕ)) → List ℕ → Option ℕ → Option (List ℕ)
with_head f ns None = None
with_head f ns (Some n) = f (with_number ns n)

-- the numbers with those of declared types, where all of the types are such
abbrev pub with_heads : List ℕ → List TypeExpr → Option (List ℕ)
with_heads ns [] = Some ns
with_heads ns (t ∷ ts) = with_head (λ ms. with_heads ms ts) ns (head_of t)

-- the declared type n and all that it reaches
pub record AllReached (D : List DeclaredType) (n : ℕ) (ns : List ℕ) : Type 0 where
  pub own : IsIn n ns
  pub supers : (b : ℕ) (s : TypeExpr) → IsIn b ns → IsIn s (supers_of D b) → (c : ℕ) × (args : TypeExprs) × (s ≡ named_ty c args) × IsIn c ns
  pub only : (b : ℕ) → IsIn b ns → (b ≡ n) ⊎ ((args : TypeExprs) × Reached D n (named_ty b args))
