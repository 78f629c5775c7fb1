-- Tests of signatures.
use Rattle.std.specs.Prelude.{ℕ, Bool, true, false, nat_eq, ◌&&◌, List, Option, Some, None}
use Rattle.std.specs.List.{list_any, list_all}
use Rattle.th_type.specs.Types.{TypeExpr, int_ty, bool_ty, text_ty, array_ty, named_ty, param_ty, same_ty, same_tys}
use Rattle.th_type.specs.Signatures.{Signature}

-- whether each number of the first list is in the second
abbrev pub all_in : List ℕ → List ℕ → Bool
all_in xs ys = list_all (λ x. list_any (λ y. nat_eq y x) ys) xs

-- whether both are absent, or equal
abbrev pub same_gives : Option TypeExpr → Option TypeExpr → Bool
same_gives None None = true
same_gives None (Some u) = false
same_gives (Some t) None = false
same_gives (Some t) (Some u) = same_ty t u

-- whether two truth values are equal
abbrev pub same_bool : Bool → Bool → Bool
same_bool true b = b
same_bool false true = false
same_bool false false = true

-- whether the first signature exactly conforms to the second
abbrev pub exactly : Signature → Signature → Bool
exactly s t = same_bool s.iterator t.iterator && (same_tys s.formals t.formals && (same_gives s.gives t.gives && all_in s.signals t.signals))

-- whether the type is a parameter
abbrev pub is_param_ty : TypeExpr → Bool
is_param_ty int_ty = false
is_param_ty bool_ty = false
is_param_ty text_ty = false
is_param_ty (array_ty t) = false
is_param_ty (named_ty n args) = false
is_param_ty (param_ty k) = true

-- whether both are the same signature, where the order of the signals does not matter
abbrev pub same_sig : Signature → Signature → Bool
same_sig s t = exactly s t && all_in t.signals s.signals
