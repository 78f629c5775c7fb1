-- What the methods of a class give, and when it extends the group of the class that it inherits.
use Rattle.std.specs.Prelude.{◌≡◌, ℕ, zero, suc, List, [], ◌∷◌, slice_get, Bool, true, false, cond, Option, Some, None, option_map}
use Rattle.th_type.specs.Types.{TypeExpr, subst_ty}
use Rattle.th_type.specs.Signatures.{Signature}
use Rattle.th_type.specs.Declarations.{DeclaredType}
use Rattle.th_type.specs.Subtypes.{head_of, parents}
use Rattle.th_type.specs.Methods.{method_at}
use Rattle.th_type.specs.Lists.{is_in, or_else}
use Rattle.th_views.specs.Shapes.{Shape, base_args}

-- the result of a signature; an iterator has none
abbrev pub result_of : Signature → Option TypeExpr
result_of s = cond s.iterator None s.gives

-- the result of a method of a type, where the type has the method
abbrev pub type_result : List DeclaredType → TypeExpr → ℕ → Option (Option TypeExpr)
type_result D t m = option_map result_of (method_at D t m)

-- what the inherited class has, with the arguments at which it is inherited
abbrev pub carried : Shape → Option (Option TypeExpr) → Option (Option TypeExpr)
carried s r = option_map (option_map (subst_ty (base_args s))) r

-- the result of a class's signature where that is not a hidden method's: as in the class's type, else as in the inherited class
abbrev pub sig_result : List DeclaredType → List Shape → ℕ → Option (Option TypeExpr)
sig_result D [] m = None
sig_result D (s ∷ rest) m = or_else (type_result D s.of m) (carried s (sig_result D rest m))

-- the result of the first signature, from the class of the body that the walk finds down to the class, that is not a hidden method's
abbrev pub arrival : List DeclaredType → List Shape → ℕ → Option (Option TypeExpr)
arrival D [] m = None
arrival D (s ∷ rest) m = cond (is_in m s.methods) (sig_result D (s ∷ rest) m) (or_else (carried s (arrival D rest m)) (sig_result D (s ∷ rest) m))

-- the declared type that a result names
abbrev pub named_by : Option (Option TypeExpr) → Option ℕ
named_by None = None
named_by (Some None) = None
named_by (Some (Some t)) = head_of t

-- the first of a type's declared supertypes
abbrev pub first_parent : List DeclaredType → TypeExpr → Option TypeExpr
first_parent D t = slice_get (parents D t) 0

-- u is reached from t in k steps, each from a type to the first of its declared supertypes
abbrev pub FirstClimbs : List DeclaredType → ℕ → TypeExpr → TypeExpr → Type 0
FirstClimbs D zero t u = t ≡ u
FirstClimbs D (suc k) t u = (v : TypeExpr) × (first_parent D t ≡ Some v) × FirstClimbs D k v u

-- u is t or on its chain of first supertypes
abbrev pub OnChain : List DeclaredType → TypeExpr → TypeExpr → Type 0
OnChain D t u = (k : ℕ) × FirstClimbs D k t u

-- the type of the inherited class, with the arguments at which it is inherited, is that of the class or on its chain of first supertypes
abbrev pub Extends : List DeclaredType → Shape → List Shape → Type 0
Extends D s [] = ⊥
Extends D s (b ∷ rest) = OnChain D s.of (subst_ty (base_args s) b.of)
