-- Classes as a layout takes them, and the line of classes that each inherits.
use Rattle.std.specs.Prelude.{◌≡◌, ℕ, List, [], ◌∷◌, map, nat_eq, cond, Option, Some, None, option_map, option_and_then}
use Rattle.th_type.specs.Types.{TypeExpr, ty_of}
use Rattle.th_type.specs.Subtypes.{head_of, args_of}
use Rattle.th_type.specs.Lists.{IsIn}
use Rattle.th_type.specs.Declarations.{DeclaredType}
use Rattle.th_views.specs.declared.ClassShape.{ClassShape}

-- a class: its name, its type over its own parameters, the class that it inherits with arguments, the numbers of its own fields and
-- where-words, the hidden methods that it introduces, and the methods for which it has a body
pub record Shape : Type 0 where
  pub name : ℕ
  pub of : TypeExpr
  pub inherits : Option TypeExpr
  pub own_fields : ℕ
  pub where_words : ℕ
  pub hidden : List ℕ
  pub methods : List ℕ

-- the code's class
abbrev pub shape_of : ClassShape → Shape
shape_of c = record { name = c.name; of = ty_of c.of; inherits = option_map ty_of c.inherits; own_fields = c.own_fields; where_words = c.where_words; hidden = c.hidden; methods = c.methods }

abbrev pub shapes_of : List ClassShape → List Shape
shapes_of cs = map shape_of cs

abbrev pub names_of : List Shape → List ℕ
names_of ss = map (λ s. s.name) ss

-- the class with a number
abbrev pub find_shape : List Shape → ℕ → Option Shape
find_shape [] n = None
find_shape (s ∷ ss) n = cond (nat_eq s.name n) (Some s) (find_shape ss n)

-- the number of the inherited class
abbrev pub base_name : Shape → Option ℕ
base_name s = option_and_then head_of s.inherits

abbrev pub args_in : Option TypeExpr → List TypeExpr
args_in None = []
args_in (Some t) = args_of t

-- the arguments at which a class inherits
abbrev pub base_args : Shape → List TypeExpr
base_args s = args_in s.inherits

-- the list is the class with the number, the class that it inherits, and so on up to one that inherits none
abbrev pub IsLine : List Shape → Option ℕ → List Shape → Type 0
IsLine S None [] = Unit {0}
IsLine S None (s ∷ rest) = ⊥
IsLine S (Some n) [] = ⊥
IsLine S (Some n) (s ∷ rest) = (find_shape S n ≡ Some s) × IsLine S (base_name s) rest

-- no class reaches itself, and what a class inherits is a class of the list: each class has its line
abbrev pub HasLines : List Shape → Type 0
HasLines S = (s : Shape) → IsIn s S → (l : List Shape) × IsLine S (Some s.name) l

-- the type of each class is a declared one
abbrev pub IsTyped : List DeclaredType → List Shape → Type 0
IsTyped D S = (s : Shape) → IsIn s S → (d : DeclaredType) × IsIn d D × (head_of s.of ≡ Some d.name)
