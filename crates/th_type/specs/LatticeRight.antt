-- What the lattice of declared types keeps.
use Rattle.std.specs.Prelude.{ℕ, ◌<◌, List, length, map}
use Rattle.std.specs.Global.{Vec}
use Rattle.std.specs.Ordering.{nat_cmp}
use Rattle.std.specs.List.Sorted.{IsSorted, IsPermutation}
use Rattle.th_type.specs.declared.sig.Sig.{Sig}
use Rattle.th_type.specs.Types.{TypeExpr, TypeExprs, named_ty}
use Rattle.th_type.specs.Lists.{IsIn}
use Rattle.th_type.specs.Declarations.{DeclaredType, supers_of}
use Rattle.th_type.specs.Fitting.{Fits}
use Rattle.th_type.specs.Closure.{Climbed}
use Rattle.th_type.specs.MethodTables.{MethodsRight}

-- the declared types fit one another; the tables have what each reaches, which is less for a supertype, and its methods; the list has their numbers
pub record LatticeRight (D : List DeclaredType) (heads : List ℕ) (up : ℕ → List TypeExpr) (es : List (ℕ × Vec Sig)) : Type 0 where
  pub fits : Fits D
  pub climbed : (n : ℕ) → Climbed D n (up n)
  pub falls : (n s : ℕ) (args : TypeExprs) → IsIn (named_ty s args) (supers_of D n) → length (up s) < length (up n)
  pub methods : MethodsRight D up es
  pub sorted : IsSorted nat_cmp heads
  pub permutation : IsPermutation (map (λ d. d.name) D) heads
