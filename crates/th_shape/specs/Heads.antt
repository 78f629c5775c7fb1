-- What a type names: a declared type, a parameter, or neither.
use Rattle.std.specs.Prelude.{ℕ, List, [], ◌∷◌, zero, suc, Option, Some, None, option_map}
use Rattle.th_type.specs.Types.{TypeExpr, int_ty, bool_ty, text_ty, array_ty, named_ty, param_ty}
use Rattle.th_shape.specs.declared.results.Head.{Head}
use Rattle.th_shape.specs.declared.results.Head.TheVariants.{Declared, Param, Other}

abbrev pub kind_of : TypeExpr → Head
kind_of int_ty = Other
kind_of bool_ty = Other
kind_of text_ty = Other
kind_of (array_ty t) = Other
kind_of (named_ty n args) = Declared n
kind_of (param_ty k) = Param k

-- what a result names
abbrev pub result_kind : Option TypeExpr → Head
result_kind None = Other
result_kind (Some t) = kind_of t

abbrev pub kind_at : List TypeExpr → ℕ → ℕ → Head
kind_at [] k place = Param place
kind_at (t ∷ ts) zero place = kind_of t
kind_at (t ∷ ts) (suc k) place = kind_at ts k place

-- what it names with arguments in place of parameters
abbrev pub apply_kind : List TypeExpr → Head → Head
apply_kind args (Declared n) = Declared n
apply_kind args (Param k) = kind_at args k k
apply_kind args Other = Other

-- the declared type that it names
abbrev pub declared_in : Head → Option ℕ
declared_in (Declared n) = Some n
declared_in (Param k) = None
declared_in Other = None
