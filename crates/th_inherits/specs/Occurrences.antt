-- Where parameters stand in types.
use Rattle.std.specs.Prelude.{◌≡◌, ℕ, suc, ◌⊎◌}
use Rattle.th_type.specs.Types.{TypeExpr, int_ty, bool_ty, text_ty, array_ty, named_ty, param_ty, TypeExprs, no_ty, more_ty}

abbrev mutual
  -- what has the place stands d levels below the top of the type: place 0 is for what is no parameter, place k + 1 for the parameter k
  pub Occurs : TypeExpr → ℕ → ℕ → Type 0
  Occurs int_ty l d = (l ≡ 0) × (d ≡ 0)
  Occurs bool_ty l d = (l ≡ 0) × (d ≡ 0)
  Occurs text_ty l d = (l ≡ 0) × (d ≡ 0)
  Occurs (array_ty t) l d = (e : ℕ) × Occurs t l e × (d ≡ suc e)
  Occurs (named_ty n ts) l d = ((l ≡ 0) × (d ≡ 0)) ⊎ ((e : ℕ) × OccursIn ts l e × (d ≡ suc e))
  Occurs (param_ty k) l d = (l ≡ suc k) × (d ≡ 0)

  -- the same of one of the types
  pub OccursIn : TypeExprs → ℕ → ℕ → Type 0
  OccursIn no_ty l d = ⊥
  OccursIn (more_ty t ts) l d = Occurs t l d ⊎ OccursIn ts l d
