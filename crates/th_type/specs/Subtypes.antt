-- The subtype relation over declared types.
use Rattle.std.specs.Prelude.{◌≡◌, ℕ, zero, suc, List, [], map, Option, Some, None}
use Rattle.th_type.specs.Types.{TypeExpr, int_ty, bool_ty, text_ty, array_ty, named_ty, param_ty, list_of, subst_ty}
use Rattle.th_type.specs.Declarations.{DeclaredType, supers_of}
use Rattle.th_type.specs.Lists.{IsIn}

-- the declared supertypes of a type, its arguments in place of the parameters; only a declared type has any
abbrev pub parents : List DeclaredType → TypeExpr → List TypeExpr
parents D int_ty = []
parents D bool_ty = []
parents D text_ty = []
parents D (array_ty t) = []
parents D (named_ty n args) = map (subst_ty (list_of args)) (supers_of D n)
parents D (param_ty k) = []

-- u is reached from t in k steps, each from a type to one of its declared supertypes
abbrev pub Climbs : List DeclaredType → ℕ → TypeExpr → TypeExpr → Type 0
Climbs D zero t u = t ≡ u
Climbs D (suc k) t u = (v : TypeExpr) × IsIn v (parents D t) × Climbs D k v u

-- t is a subtype of u: the reflexive transitive closure of the declared lists with arguments substituted
abbrev pub Subtype : List DeclaredType → TypeExpr → TypeExpr → Type 0
Subtype D t u = (k : ℕ) × Climbs D k t u

-- u is a supertype that the declared type n reaches, over the parameters of n
abbrev pub Reached : List DeclaredType → ℕ → TypeExpr → Type 0
Reached D n u = (v : TypeExpr) × IsIn v (supers_of D n) × Subtype D v u

-- the number of the declared type that a type names
abbrev pub head_of : TypeExpr → Option ℕ
head_of int_ty = None
head_of bool_ty = None
head_of text_ty = None
head_of (array_ty t) = None
head_of (named_ty n args) = Some n
head_of (param_ty k) = None

-- the arguments of a declared type
abbrev pub args_of : TypeExpr → List TypeExpr
args_of int_ty = []
args_of bool_ty = []
args_of text_ty = []
args_of (array_ty t) = []
args_of (named_ty n args) = list_of args
args_of (param_ty k) = []
