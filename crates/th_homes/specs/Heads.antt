-- What types begin with: as much of a method's result as its home rests on.
use Rattle.std.specs.Prelude.{ℕ, List, Option, Some, None, option_map}
use Rattle.th_meaning.specs.Trees.{TypeTree, int_type, bool_type, text_type, array_type, named_type, param_type}
use Rattle.th_meaning.specs.Weights.{argument_at}
use Rattle.th_lowering.specs.Homes.{MethodShape}

-- a declared type, by its name; a type parameter, by its place; or another type
pub data HeadTree : Type 0 where
  named_head : (name : List ℕ) → HeadTree
  param_head : (place : ℕ) → HeadTree
  other_head : HeadTree

-- what a type begins with
abbrev pub head_of : TypeTree → HeadTree
head_of int_type = other_head
head_of bool_type = other_head
head_of text_type = other_head
head_of (array_type t) = other_head
head_of (named_type n ts) = named_head n
head_of (param_type k) = param_head k

-- the same when arguments stand for type parameters
abbrev pub head_through : List TypeTree → HeadTree → HeadTree
head_through args (named_head n) = named_head n
head_through args (param_head k) = head_of (argument_at args k k)
head_through args other_head = other_head

-- the name of a declared type that there may be
abbrev pub head_name : Option HeadTree → Option (List ℕ)
head_name None = None
head_name (Some (named_head n)) = Some n
head_name (Some (param_head k)) = None
head_name (Some other_head) = None

-- how many formals a method has, and what that begins with which it gives
pub record ShapeHead : Type 0 where
  pub formals : ℕ
  pub gives : Option HeadTree

abbrev pub shape_head : MethodShape → ShapeHead
shape_head s = record { formals = s.formals; gives = option_map head_of s.gives }

abbrev pub shape_through : List TypeTree → ShapeHead → ShapeHead
shape_through args s = record { formals = s.formals; gives = option_map (head_through args) s.gives }
