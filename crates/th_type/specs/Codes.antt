-- Types and declared types as lists of numbers, by which contracts tell them apart.
use Rattle.std.specs.Prelude.{◌≡◌, ℕ, zero, suc, Bool, List, [], ◌∷◌, Option, refl}
use Rattle.std.specs.Coded.{Coded, code_by, coded×, coded_ℕ, coded_bool, coded_list, coded_option}
use Rattle.th_type.specs.Types.{TypeExpr, int_ty, bool_ty, text_ty, array_ty, named_ty, param_ty, TypeExprs, no_ty, more_ty}
use Rattle.th_type.specs.Signatures.{Signature, Constraint}
use Rattle.th_type.specs.Declarations.{DeclaredType}

abbrev mutual
  -- a type as steps that build it, before further steps
  pub steps_of : TypeExpr → List (ℕ × ℕ) → List (ℕ × ℕ)
  steps_of int_ty rest = (0, 0) ∷ rest
  steps_of bool_ty rest = (1, 0) ∷ rest
  steps_of text_ty rest = (2, 0) ∷ rest
  steps_of (array_ty t) rest = steps_of t ((3, 0) ∷ rest)
  steps_of (named_ty n ts) rest = all_steps ts ((4, n) ∷ rest)
  steps_of (param_ty k) rest = (5, k) ∷ rest

  -- types as steps that build a type with them as arguments
  pub all_steps : TypeExprs → List (ℕ × ℕ) → List (ℕ × ℕ)
  all_steps no_ty rest = (6, 0) ∷ rest
  all_steps (more_ty t ts) rest = all_steps ts (steps_of t ((7, 0) ∷ rest))

-- the arguments of a type
abbrev pub parts : TypeExpr → TypeExprs
parts int_ty = no_ty
parts bool_ty = no_ty
parts text_ty = no_ty
parts (array_ty t) = no_ty
parts (named_ty n ts) = ts
parts (param_ty k) = no_ty

abbrev pub array_on : List TypeExpr → List TypeExpr
array_on [] = []
array_on (t ∷ st) = array_ty t ∷ st

abbrev pub named_on : ℕ → List TypeExpr → List TypeExpr
named_on n [] = []
named_on n (t ∷ st) = named_ty n (parts t) ∷ st

abbrev pub more_under : TypeExpr → List TypeExpr → List TypeExpr
more_under t [] = []
more_under t (u ∷ st) = named_ty 0 (more_ty t (parts u)) ∷ st

abbrev pub more_on : List TypeExpr → List TypeExpr
more_on [] = []
more_on (t ∷ st) = more_under t st

-- what a step does to the types that were built
abbrev pub step : ℕ → ℕ → List TypeExpr → List TypeExpr
step zero n st = int_ty ∷ st
step (suc zero) n st = bool_ty ∷ st
step (suc (suc zero)) n st = text_ty ∷ st
step (suc (suc (suc zero))) n st = array_on st
step (suc (suc (suc (suc zero)))) n st = named_on n st
step (suc (suc (suc (suc (suc zero))))) n st = param_ty n ∷ st
step (suc (suc (suc (suc (suc (suc zero)))))) n st = named_ty 0 no_ty ∷ st
step (suc (suc (suc (suc (suc (suc (suc k))))))) n st = more_on st

-- what the steps build
abbrev pub run : List (ℕ × ℕ) → List TypeExpr → List TypeExpr
run [] st = st
run (s ∷ ss) st = run ss (step s.0 s.1 st)

abbrev pub top : List TypeExpr → TypeExpr
top [] = int_ty
top (t ∷ st) = t

mutual
  pub run_steps : (t : TypeExpr) (rest : List (ℕ × ℕ)) (st : List TypeExpr) → run (steps_of t rest) st ≡ run rest (t ∷ st)
  run_steps int_ty rest st = refl
  run_steps bool_ty rest st = refl
  run_steps text_ty rest st = refl
  run_steps (array_ty t) rest st = run_steps t ((3, 0) ∷ rest) st
  run_steps (named_ty n ts) rest st = run_all ts ((4, n) ∷ rest) st
  run_steps (param_ty k) rest st = refl

  pub run_all : (ts : TypeExprs) (rest : List (ℕ × ℕ)) (st : List TypeExpr) → run (all_steps ts rest) st ≡ run rest (named_ty 0 ts ∷ st)
  run_all no_ty rest st = refl
  run_all (more_ty t ts) rest st = rw (run_all ts (steps_of t ((7, 0) ∷ rest)) st) (run_steps t ((7, 0) ∷ rest) (named_ty 0 ts ∷ st))

pub type_back : (t : TypeExpr) → top (run (steps_of t []) []) ≡ t
type_back t = rw (run_steps t [] []) refl

pub types_back : (ts : TypeExprs) → parts (top (run (all_steps ts []) [])) ≡ ts
types_back ts = rw (run_all ts [] []) refl

abbrev pub steps_code : Coded (List (ℕ × ℕ))
steps_code = coded_list (coded× coded_ℕ coded_ℕ)

-- a type is stored as its steps
abbrev pub coded_type : Coded TypeExpr
coded_type = code_by (List (ℕ × ℕ)) steps_code (λ t. steps_of t []) (λ ss. top (run ss [])) type_back

-- types are stored as their steps
abbrev pub coded_types : Coded TypeExprs
coded_types = code_by (List (ℕ × ℕ)) steps_code (λ ts. all_steps ts []) (λ ss. parts (top (run ss []))) types_back

-- a signature is stored as its fields
abbrev pub coded_signature : Coded Signature
coded_signature =
    code_by (ℕ × (Bool × (TypeExprs × (Option TypeExpr × List ℕ))))
    (coded× coded_ℕ (coded× coded_bool (coded× coded_types (coded× (coded_option coded_type) (coded_list coded_ℕ)))))
    (λ s. (s.method, (s.iterator, (s.formals, (s.gives, s.signals)))))
    (λ p. record { method = p.0; iterator = p.1.0; formals = p.1.1.0; gives = p.1.1.1.0; signals = p.1.1.1.1 })
    (λ _. refl)

-- a declared type is stored as its fields
abbrev pub coded_declared : Coded DeclaredType
coded_declared =
    code_by (ℕ × (ℕ × (List TypeExpr × List Signature)))
    (coded× coded_ℕ (coded× coded_ℕ (coded× (coded_list coded_type) (coded_list coded_signature))))
    (λ d. (d.name, (d.params, (d.supertypes, d.written))))
    (λ p. record { name = p.0; params = p.1.0; supertypes = p.1.1.0; written = p.1.1.1 })
    (λ _. refl)

-- a where-clause is stored as its fields
abbrev pub coded_constraint : Coded Constraint
coded_constraint = code_by (ℕ × Signature) (coded× coded_ℕ coded_signature) (λ c. (c.param, c.sig)) (λ p. record { param = p.0; sig = p.1 }) (λ _. refl)
