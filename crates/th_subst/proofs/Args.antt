-- Arguments in place of parameters.
use Rattle.std.proofs.Common.{◌≡◌, ℕ, zero, suc, List, [], ◌∷◌, slice_get, option_map, Option, Some, None, refl, sym, MatchOption, Bor}
use Rattle.th_meaning.specs.declared.types.CoreType.{CoreType}
use Rattle.th_meaning.specs.Trees.{TypeTree, param_type}
use Rattle.th_meaning.specs.View.{type_of}
use Rattle.th_meaning.specs.Weights.{argument_at}

-- where nothing stands at the place the parameter stays
pub arg_none : (xs : List TypeTree) (k place : ℕ) → slice_get xs k ≡ None → argument_at xs k place ≡ param_type place
arg_none [] k place h = refl
arg_none (x ∷ xs) zero place h = cc
arg_none (x ∷ xs) (suc k) place h = arg_none xs k place h

-- what stands at the place is the argument
pub arg_some : (xs : List TypeTree) (k place : ℕ) (t : TypeTree) → slice_get xs k ≡ Some t → argument_at xs k place ≡ t
arg_some [] k place t h = cc
arg_some (x ∷ xs) zero place t h = cc
arg_some (x ∷ xs) (suc k) place t h = arg_some xs k place t h

-- what a list of types gives at the place
pub arg_of_list : (xs : List TypeTree) (k : ℕ) (r : Option (Bor CoreType)) → option_map (λ (t : Bor CoreType). type_of t.now) r ≡ slice_get xs k → MatchOption r (argument_at xs k k ≡ param_type k) (λ t. argument_at xs k k ≡ type_of t.now)
arg_of_list xs k None h = arg_none xs k k (sym h)
arg_of_list xs k (Some t) h = arg_some xs k k (type_of t.now) (sym h)
