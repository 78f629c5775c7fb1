-- How high type parameters stand in types. A list of heights has at place 0 the greatest height of what is no parameter, and at
-- place k + 1 that of the parameter k; 0 stands for what is not there, and 601 for every height above 600.
use Rattle.std.specs.Prelude.{ℕ, zero, suc, ◌+◌, max, min, List, [], ◌∷◌}
use Rattle.th_type.specs.Types.{TypeExpr, int_ty, bool_ty, text_ty, array_ty, named_ty, param_ty, TypeExprs, no_ty, more_ty}

-- the height at a place, 0 where the list is shorter
abbrev pub height_at : List ℕ → ℕ → ℕ
height_at [] k = 0
height_at (h ∷ hs) zero = h
height_at (h ∷ hs) (suc k) = height_at hs k

-- the list with zeros at its end, so that it has the place
abbrev pub padded : ℕ → List ℕ → List ℕ
padded zero [] = 0 ∷ []
padded zero (h ∷ hs) = h ∷ hs
padded (suc k) [] = 0 ∷ padded k []
padded (suc k) (h ∷ hs) = h ∷ padded k hs

-- the list with at least this height at the place
abbrev pub lifted : ℕ → ℕ → List ℕ → List ℕ
lifted zero height [] = height ∷ []
lifted zero height (h ∷ hs) = max h height ∷ hs
lifted (suc k) height [] = 0 ∷ lifted k height []
lifted (suc k) height (h ∷ hs) = h ∷ lifted k height hs

-- one more, at most 601
abbrev pub above : ℕ → ℕ
above height = min (height + 1) 601

abbrev mutual
  -- the list with what stands in the type, whose top is at the height
  pub raised : ℕ → TypeExpr → List ℕ → List ℕ
  raised height int_ty hs = lifted 0 height hs
  raised height bool_ty hs = lifted 0 height hs
  raised height text_ty hs = lifted 0 height hs
  raised height (array_ty t) hs = raised (above height) t hs
  raised height (named_ty n ts) hs = raised_all (above height) ts (lifted 0 height hs)
  raised height (param_ty k) hs = lifted (k + 1) height hs

  -- the same of all types
  pub raised_all : ℕ → TypeExprs → List ℕ → List ℕ
  raised_all height no_ty hs = hs
  raised_all height (more_ty t ts) hs = raised_all height ts (raised height t hs)

-- the same, where the type is there
abbrev pub put : ℕ → TypeExpr → List ℕ → List ℕ
put zero t hs = hs
put (suc h) t hs = raised (suc h) t hs

-- the list with the arguments at the heights of the parameters from place k on; a parameter without an argument stays
abbrev pub spread : ℕ → TypeExprs → List ℕ → List ℕ → List ℕ
spread k ts [] hs = hs
spread k no_ty (v ∷ vs) hs = spread (k + 1) no_ty vs (lifted (k + 1) v hs)
spread k (more_ty t ts) (v ∷ vs) hs = spread (k + 1) ts vs (put v t hs)

-- the list with what stands in types over parameters of these heights, with arguments in place of the parameters
abbrev pub carried : List ℕ → TypeExprs → List ℕ → List ℕ
carried [] ts hs = hs
carried (v ∷ vs) ts hs = spread 0 ts vs (lifted 0 v hs)

-- the heights of a class that inherits one of the second heights at the arguments
abbrev pub stepped : List ℕ → TypeExprs → List ℕ → List ℕ
stepped vs ts hs = carried vs ts (raised_all 2 ts (lifted 0 1 hs))
