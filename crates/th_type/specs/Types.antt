-- Types, without where they lie in memory; arguments in place of parameters.
use Rattle.std.specs.Prelude.{ℕ, zero, suc, ◌+◌, ◌<◌, max, Bool, true, false, nat_eq, ◌&&◌, List, [], ◌∷◌}
use Rattle.th_type.specs.declared.ty.Ty.{Ty}
use Rattle.th_type.specs.declared.ty.Ty.TheVariants.{Int, Bool as BoolType, Text, Array', Named, Param}
use Rattle.th_type.specs.declared.ty.TyList.{TyList}
use Rattle.th_type.specs.declared.ty.TyList.TheVariants.{NoTy, MoreTy'}

mutual
  -- a type: a declared one has the number of its full name and its arguments, a parameter its place
  pub data TypeExpr : Type 0 where
    int_ty : TypeExpr
    bool_ty : TypeExpr
    text_ty : TypeExpr
    array_ty : (of : TypeExpr) → TypeExpr
    named_ty : (name : ℕ) → (args : TypeExprs) → TypeExpr
    param_ty : (place : ℕ) → TypeExpr

  -- types, in order
  pub data TypeExprs : Type 0 where
    no_ty : TypeExprs
    more_ty : (first : TypeExpr) → (rest : TypeExprs) → TypeExprs

abbrev mutual
  -- the code's type
  pub ty_of : Ty → TypeExpr
  ty_of Int = int_ty
  ty_of BoolType = bool_ty
  ty_of Text = text_ty
  ty_of (Array' i t) = array_ty (ty_of t)
  ty_of (Named n ts) = named_ty n (tys_of ts)
  ty_of (Param k) = param_ty k

  -- the code's types
  pub tys_of : TyList → TypeExprs
  tys_of NoTy = no_ty
  tys_of (MoreTy' i t j ts) = more_ty (ty_of t) (tys_of ts)

-- types as a list
abbrev pub list_of : TypeExprs → List TypeExpr
list_of no_ty = []
list_of (more_ty t ts) = t ∷ list_of ts

-- a list as types
abbrev pub exprs_of : List TypeExpr → TypeExprs
exprs_of [] = no_ty
exprs_of (t ∷ ts) = more_ty t (exprs_of ts)

-- the first types the other way round, before the second
abbrev pub tys_onto : TypeExprs → TypeExprs → TypeExprs
tys_onto no_ty done = done
tys_onto (more_ty t ts) done = tys_onto ts (more_ty t done)

-- the argument at a place, or the parameter itself where there is none
abbrev pub arg_at : List TypeExpr → ℕ → ℕ → TypeExpr
arg_at [] k place = param_ty place
arg_at (t ∷ ts) zero place = t
arg_at (t ∷ ts) (suc k) place = arg_at ts k place

abbrev mutual
  -- the type with the k-th argument in place of each parameter k
  pub subst_ty : List TypeExpr → TypeExpr → TypeExpr
  subst_ty args int_ty = int_ty
  subst_ty args bool_ty = bool_ty
  subst_ty args text_ty = text_ty
  subst_ty args (array_ty t) = array_ty (subst_ty args t)
  subst_ty args (named_ty n ts) = named_ty n (subst_tys args ts)
  subst_ty args (param_ty k) = arg_at args k k

  -- the same of each of the types
  pub subst_tys : List TypeExpr → TypeExprs → TypeExprs
  subst_tys args no_ty = no_ty
  subst_tys args (more_ty t ts) = more_ty (subst_ty args t) (subst_tys args ts)

abbrev mutual
  -- the height of a type: 1 without parts, else 1 more than the greatest height of its parts
  pub ty_height : TypeExpr → ℕ
  ty_height int_ty = 1
  ty_height bool_ty = 1
  ty_height text_ty = 1
  ty_height (array_ty t) = 1 + ty_height t
  ty_height (named_ty n ts) = 1 + tys_height ts
  ty_height (param_ty k) = 1

  -- the greatest height of the types, 0 where there is none
  pub tys_height : TypeExprs → ℕ
  tys_height no_ty = 0
  tys_height (more_ty t ts) = max (ty_height t) (tys_height ts)

abbrev mutual
  -- each parameter in the type is below n
  pub ParamsBelow : ℕ → TypeExpr → Type 0
  ParamsBelow n int_ty = Unit {0}
  ParamsBelow n bool_ty = Unit {0}
  ParamsBelow n text_ty = Unit {0}
  ParamsBelow n (array_ty t) = ParamsBelow n t
  ParamsBelow n (named_ty m ts) = AllParamsBelow n ts
  ParamsBelow n (param_ty k) = k < n

  -- each parameter in the types is below n
  pub AllParamsBelow : ℕ → TypeExprs → Type 0
  AllParamsBelow n no_ty = Unit {0}
  AllParamsBelow n (more_ty t ts) = ParamsBelow n t × AllParamsBelow n ts

abbrev mutual
  -- whether two types are equal
  pub same_ty : TypeExpr → TypeExpr → Bool
  same_ty int_ty int_ty = true
  same_ty bool_ty bool_ty = true
  same_ty text_ty text_ty = true
  same_ty (array_ty t) (array_ty u) = same_ty t u
  same_ty (named_ty n ts) (named_ty m us) = nat_eq n m && same_tys ts us
  same_ty (param_ty k) (param_ty l) = nat_eq k l
  same_ty _ _ = false

  -- whether two lists of types are equal
  pub same_tys : TypeExprs → TypeExprs → Bool
  same_tys no_ty no_ty = true
  same_tys (more_ty t ts) (more_ty u us) = same_ty t u && same_tys ts us
  same_tys _ _ = false
