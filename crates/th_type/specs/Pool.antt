-- Lists of types that are kept once each, and share their parts.
use Rattle.std.specs.Prelude.{◌≡◌, ℕ, ◌+◌, ◌≤◌, Bool, true, false, nat_eq, ◌&&◌, List, [], ◌∷◌, ◌++◌, slice_get, unwrap_or, Some}
use Rattle.th_type.specs.declared.ty.Ty.{Ty}
use Rattle.th_type.specs.declared.ty.Ty.TheVariants.{Int as IntType, Bool as BoolType, Text as TextType, Array', Named as NamedType, Param as ParamType}
use Rattle.th_type.specs.declared.ty.TyList.{TyList}
use Rattle.th_type.specs.declared.ty.TyList.TheVariants.{NoTy, MoreTy'}
use Rattle.th_type.specs.declared.pool.Shape.{Shape}
use Rattle.th_type.specs.declared.pool.Shape.TheVariants.{Int, Bool as BoolShape, Text, Array, Named, Param}
use Rattle.th_type.specs.declared.pool.Cell.{Cell}
use Rattle.th_type.specs.declared.pool.Cell.TheVariants.{Empty, More}
use Rattle.th_type.specs.declared.pool.Kept.{Kept}
use Rattle.th_type.specs.Types.{TypeExpr, TypeExprs, int_ty, bool_ty, text_ty, array_ty, named_ty, param_ty, no_ty, more_ty, tys_height}

abbrev mutual
  -- how many types and places of lists the code's type is made of
  pub ty_parts : Ty → ℕ
  ty_parts IntType = 1
  ty_parts BoolType = 1
  ty_parts TextType = 1
  ty_parts (Array' i t) = 1 + ty_parts t
  ty_parts (NamedType n ts) = 1 + tys_parts ts
  ty_parts (ParamType k) = 1

  -- the same of the code's types
  pub tys_parts : TyList → ℕ
  tys_parts NoTy = 0
  tys_parts (MoreTy' i t j ts) = 1 + (ty_parts t + tys_parts ts)

-- whether two shapes are equal
abbrev pub same_shape : Shape → Shape → Bool
same_shape Int Int = true
same_shape BoolShape BoolShape = true
same_shape Text Text = true
same_shape (Array j) (Array k) = nat_eq j k
same_shape (Named n j) (Named m k) = nat_eq n m && nat_eq j k
same_shape (Param j) (Param k) = nat_eq j k
same_shape _ _ = false

-- whether two cells are equal
abbrev pub same_cell : Cell → Cell → Bool
same_cell Empty Empty = true
same_cell (More s j) (More t k) = same_shape s t && nat_eq j k
same_cell _ _ = false

-- the list with the number; empty where there is none
abbrev pub tys_at : List TypeExprs → ℕ → TypeExprs
tys_at ts k = unwrap_or (slice_get ts k) no_ty

abbrev pub first_of : TypeExprs → TypeExpr
first_of no_ty = int_ty
first_of (more_ty t us) = t

-- the type of a shape, whose parts are lists of the pool
abbrev pub shape_ty : List TypeExprs → Shape → TypeExpr
shape_ty ts Int = int_ty
shape_ty ts BoolShape = bool_ty
shape_ty ts Text = text_ty
shape_ty ts (Array k) = array_ty (first_of (tys_at ts k))
shape_ty ts (Named n k) = named_ty n (tys_at ts k)
shape_ty ts (Param k) = param_ty k

-- the types of shapes, before others
abbrev pub shapes_before : List TypeExprs → List Shape → TypeExprs → TypeExprs
shapes_before ts [] us = us
shapes_before ts (s ∷ ss) us = more_ty (shape_ty ts s) (shapes_before ts ss us)

-- the types of shapes
abbrev pub shapes_tys : List TypeExprs → List Shape → TypeExprs
shapes_tys ts ss = shapes_before ts ss no_ty

-- the list of a cell
abbrev pub cell_tys : List TypeExprs → Cell → TypeExprs
cell_tys ts Empty = no_ty
cell_tys ts (More s k) = more_ty (shape_ty ts s) (tys_at ts k)

-- the lists of further cells behind others
abbrev pub pooled_onto : List TypeExprs → List (Cell × Kept) → List TypeExprs
pooled_onto ts [] = ts
pooled_onto ts (e ∷ es) = pooled_onto (ts ++ cell_tys ts e.0 ∷ []) es

-- the lists of cells, of which each has earlier ones as parts
abbrev pub pooled : List (Cell × Kept) → List TypeExprs
pooled es = pooled_onto [] es

-- the number is that of a list
abbrev pub IsKept : List TypeExprs → ℕ → Type 0
IsKept ts k = (us : TypeExprs) × (slice_get ts k ≡ Some us)

-- the list has the number, and no type in it has a height above 599
abbrev pub IsNumbered : List TypeExprs → ℕ → TypeExprs → Type 0
IsNumbered ts k us = (slice_get ts k ≡ Some us) × (tys_height us ≤ 599)

-- the number is that of a list without a type of a height above 599
abbrev pub IsListed : List TypeExprs → ℕ → Type 0
IsListed ts k = (us : TypeExprs) × IsNumbered ts k us

-- the parts of the shape are lists of the pool, and that of an array is a list of one type
abbrev pub ShapeFits : List TypeExprs → Shape → Type 0
ShapeFits ts Int = Unit {0}
ShapeFits ts BoolShape = Unit {0}
ShapeFits ts Text = Unit {0}
ShapeFits ts (Array k) = (t : TypeExpr) × (slice_get ts k ≡ Some (more_ty t no_ty))
ShapeFits ts (Named n k) = IsKept ts k
ShapeFits ts (Param k) = Unit {0}

-- so do all shapes
abbrev pub AllFit : List TypeExprs → List Shape → Type 0
AllFit ts [] = Unit {0}
AllFit ts (s ∷ ss) = ShapeFits ts s × AllFit ts ss

-- the parts of the cell are lists of the pool
abbrev pub CellFits : List TypeExprs → Cell → Type 0
CellFits ts Empty = Unit {0}
CellFits ts (More s k) = ShapeFits ts s × IsKept ts k

-- the second lists are the first ones with perhaps more at their end
abbrev pub Grows : List TypeExprs → List TypeExprs → Type 0
Grows ts us = (more : List TypeExprs) × (us ≡ ts ++ more)

-- a cell with its number k and the height of its list
pub record KeptAt (ts : List TypeExprs) (k : ℕ) (e : Cell × Kept) : Type 0 where
  pub fits : CellFits ts e.0
  pub is : slice_get ts k ≡ Some (cell_tys ts e.0)
  pub number : e.1.number ≡ k
  pub height : e.1.height ≡ tys_height (cell_tys ts e.0)
  pub low : e.1.height ≤ 599

-- each list has one number
abbrev pub EachOnce : List TypeExprs → Type 0
EachOnce ts = (j k : ℕ) (us : TypeExprs) → slice_get ts j ≡ Some us → slice_get ts k ≡ Some us → j ≡ k

-- what a pool keeps of its cells
pub record PoolRight (es : List (Cell × Kept)) : Type 0 where
  pub kept : (k : ℕ) (e : Cell × Kept) → slice_get es k ≡ Some e → KeptAt (pooled es) k e
  pub once : EachOnce (pooled es)
