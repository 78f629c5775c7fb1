-- Arguments in place of parameters.
use Rattle.std.proofs.Common.{◌≡◌, ℕ, zero, suc, List, [], ◌∷◌, map, slice_get, option_map, Option, Some, None, refl, sym, ap, ◌∙◌, MatchOption, option_copied, Bor}
use Rattle.th_type.specs.declared.ty.Ty.{Ty}
use Rattle.th_type.specs.Types.{TypeExpr, param_ty, ty_of, arg_at}

-- where nothing stands at the place the parameter stays
pub arg_none : (xs : List TypeExpr) (k place : ℕ) → slice_get xs k ≡ None → arg_at xs k place ≡ param_ty place
arg_none [] k place h = refl
arg_none (x ∷ xs) zero place h = cc
arg_none (x ∷ xs) (suc k) place h = arg_none xs k place h

-- what stands at the place is the argument
pub arg_some : (xs : List TypeExpr) (k place : ℕ) (t : TypeExpr) → slice_get xs k ≡ Some t → arg_at xs k place ≡ t
arg_some [] k place t h = cc
arg_some (x ∷ xs) zero place t h = cc
arg_some (x ∷ xs) (suc k) place t h = arg_some xs k place t h

pub get_map : {A B : Type 0} (f : A → B) (xs : List A) (k : ℕ) → slice_get (map f xs) k ≡ option_map f (slice_get xs k)
get_map f [] k = refl
get_map f (x ∷ xs) zero = refl
get_map f (x ∷ xs) (suc k) = get_map f xs k

-- what a slice of types gives at the place
pub arg_of_slice : (xs : List Ty) (k : ℕ) (r : Option (Bor Ty)) → option_copied r ≡ slice_get xs k → MatchOption r (arg_at (map ty_of xs) k k ≡ param_ty k) (λ t. arg_at (map ty_of xs) k k ≡ ty_of t.now)
arg_of_slice xs k None h = let e : slice_get (map ty_of xs) k ≡ None = get_map ty_of xs k ∙ ap (option_map ty_of) (sym h) in arg_none (map ty_of xs) k k e
arg_of_slice xs k (Some t) h = let e : slice_get (map ty_of xs) k ≡ Some (ty_of t.now) = get_map ty_of xs k ∙ ap (option_map ty_of) (sym h) in arg_some (map ty_of xs) k k (ty_of t.now) e

-- what a list of types gives at the place
pub arg_of_list : (xs : List TypeExpr) (k : ℕ) (r : Option (Bor Ty)) → option_map (λ (t : Bor Ty). ty_of t.now) r ≡ slice_get xs k → MatchOption r (arg_at xs k k ≡ param_ty k) (λ t. arg_at xs k k ≡ ty_of t.now)
arg_of_list xs k None h = arg_none xs k k (sym h)
arg_of_list xs k (Some t) h = arg_some xs k k (ty_of t.now) (sym h)
