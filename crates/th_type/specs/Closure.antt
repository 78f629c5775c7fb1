-- What a list of supertypes holds on the way to all that a type reaches.
use Rattle.std.specs.Prelude.{◌≡◌, ◌≢◌, ℕ, ◌+◌, ◌<◌, ◌≤◌, Bool, false, nat_eq, ◌⊎◌, List, [], ◌∷◌, length, map, slice_get, Option, Some, None, if◌then◌else◌}
use Rattle.th_type.specs.Lists.{IsIn}
use Rattle.th_type.specs.Types.{TypeExpr, TypeExprs, int_ty, bool_ty, text_ty, array_ty, named_ty, param_ty, list_of, subst_ty, ty_height}
use Rattle.th_type.specs.Declarations.{Meant, SuperRef, types_meant, resolved, DeclaredType, supers_of}
use Rattle.th_type.specs.Subtypes.{Reached, head_of, parents}

-- whether the type is the declared type n with some arguments
abbrev pub is_head : ℕ → TypeExpr → Bool
is_head n int_ty = false
is_head n bool_ty = false
is_head n text_ty = false
is_head n (array_ty t) = false
is_head n (named_ty m args) = nat_eq n m
is_head n (param_ty k) = false

-- the first type of the list that is the declared type n with some arguments
abbrev pub find_head : List TypeExpr → ℕ → Option TypeExpr
find_head [] n = None
find_head (t ∷ ts) n = if is_head n t then Some t else find_head ts n

-- no two types of the list are one declared type with different arguments
abbrev pub OneEach : List TypeExpr → Type 0
OneEach xs = (n : ℕ) (a b : TypeExprs) → IsIn (named_ty n a) xs → IsIn (named_ty n b) xs → a ≡ b

abbrev pub one_if_none : Option TypeExpr → ℕ
one_if_none None = 1
one_if_none (Some t) = 0

-- how many of the declared types do not stand in the list
abbrev pub left : List ℕ → List TypeExpr → ℕ
left [] xs = 0
left (n ∷ ns) xs = one_if_none (find_head xs n) + left ns xs

-- no number stands twice in the list
abbrev pub Distinct : List ℕ → Type 0
Distinct [] = Unit {0}
Distinct (n ∷ ns) = (IsIn n ns → ⊥) × Distinct ns

-- each type of the list is one of the declared types with some arguments
abbrev pub HeadsAmong : List ℕ → List TypeExpr → Type 0
HeadsAmong ns ps = (t : TypeExpr) → IsIn t ps → (n : ℕ) × (args : TypeExprs) × (t ≡ named_ty n args) × IsIn n ns

-- the types ps were taken into the list xs, which is ys then
pub record Took (xs ps ys : List TypeExpr) : Type 0 where
  pub kept : (k : ℕ) (t : TypeExpr) → slice_get xs k ≡ Some t → slice_get ys k ≡ Some t
  pub sound : (t : TypeExpr) → IsIn t ys → IsIn t xs ⊎ IsIn t ps
  pub all : (t : TypeExpr) → IsIn t ps → IsIn t ys
  pub low : (t : TypeExpr) → IsIn t ps → ty_height t ≤ 600
  pub one : OneEach xs → OneEach ys
  pub grown : length xs ≤ length ys
  pub count : (ns : List ℕ) → Distinct ns → HeadsAmong ns ps → left ns ys + length ys ≡ left ns xs + length xs

-- one of the types ps is too high, or is a declared type that another of them or of the list xs is with other arguments
abbrev pub Clashes : List TypeExpr → List TypeExpr → Type 0
Clashes xs ps = (t : TypeExpr) × IsIn t ps × ((600 < ty_height t) ⊎ ((u : TypeExpr) × (IsIn u xs ⊎ IsIn u ps) × (head_of t ≡ head_of u) × (t ≢ u)))

-- the list has types that n reaches, all of its declared supertypes, and those of the first i of its members
pub record Climbing (D : List DeclaredType) (n : ℕ) (xs : List TypeExpr) (i : ℕ) : Type 0 where
  pub sound : (t : TypeExpr) → IsIn t xs → Reached D n t
  pub base : (t : TypeExpr) → IsIn t (supers_of D n) → IsIn t xs
  pub closed : (k : ℕ) (t : TypeExpr) → k < i → slice_get xs k ≡ Some t → (u : TypeExpr) → IsIn u (parents D t) → IsIn u xs
  pub one : OneEach xs
  pub low : (t : TypeExpr) → IsIn t xs → ty_height t ≤ 600
  pub within : i ≤ length xs
  pub heads : HeadsAmong (map (λ d. d.name) D) xs
  pub count : left (map (λ d. d.name) D) xs + length xs ≡ length D

-- the list has just the types that n reaches, each declared type once, none of a height above 600
pub record Climbed (D : List DeclaredType) (n : ℕ) (xs : List TypeExpr) : Type 0 where
  pub sound : (t : TypeExpr) → IsIn t xs → Reached D n t
  pub all : (t : TypeExpr) → Reached D n t → IsIn t xs
  pub one : OneEach xs
  pub low : (t : TypeExpr) → IsIn t xs → ty_height t ≤ 600
  pub heads : HeadsAmong (map (λ d. d.name) D) xs
  pub count : left (map (λ d. d.name) D) xs + length xs ≡ length D

-- the types of a member of a list of supertypes, with arguments substituted: one or none
abbrev pub taken : TypeExprs → Meant → List TypeExpr
taken args m = map (subst_ty (list_of args)) (types_meant m)

-- the types of a list of supertypes, with arguments substituted
abbrev pub all_taken : TypeExprs → List SuperRef → List TypeExpr
all_taken args ss = map (subst_ty (list_of args)) (resolved ss)
