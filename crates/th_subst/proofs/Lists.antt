-- Lists of types that are compared.
use Rattle.std.proofs.Common.{◌≡◌, ◌≢◌, ℕ, suc, Bool, true, false, List, [], ◌∷◌, length, map, refl, sym, ap}
use Rattle.std.proofs.lemmas.Bool.{and_right}
use Rattle.th_meaning.specs.declared.types.CoreType.{CoreType}
use Rattle.th_meaning.specs.View.{type_of}
use Rattle.th_meaning.specs.Weights.{same_type}
use Rattle.th_subst.specs.Tests.{same_list}

-- lists of different lengths aren't equal
pub lengths_differ : (ts us : List CoreType) → length ts ≢ length us → false ≡ same_list (map type_of ts) (map type_of us)
lengths_differ [] [] h = absurd (h refl)
lengths_differ [] (u ∷ us) h = refl
lengths_differ (t ∷ ts) [] h = refl
lengths_differ (t ∷ ts) (u ∷ us) h = sym (and_right (same_type (type_of t) (type_of u)) (same_list (map type_of ts) (map type_of us)) (sym (lengths_differ ts us (λ e. h (ap suc e)))))
