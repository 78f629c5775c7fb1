-- The classes above a class, the nearest first.
use Rattle.std.specs.Prelude.{◌≡◌, List, [], ◌∷◌, map, Option, Some, None}
use Rattle.th_type.specs.Types.{TypeExpr, subst_ty}
use Rattle.th_type.specs.Subtypes.{head_of, args_of}
use Rattle.th_rules.specs.Context.{ClassInfo, Item}
use Rattle.th_rules.specs.Classes.{class_named}

-- a class with the arguments at which it is inherited
pub record AboveClass : Type 0 where
  pub class : ClassInfo
  pub args : List TypeExpr

abbrev pub above_class : ClassInfo → List TypeExpr → AboveClass
above_class d args = record { class = d; args = args }

-- a class that there may be, with arguments
abbrev pub class_with : List TypeExpr → Option ClassInfo → Option AboveClass
class_with args None = None
class_with args (Some d) = Some (above_class d args)

-- the class that is inherited as this type
abbrev pub inherited_as : List Item → Option TypeExpr → Option AboveClass
inherited_as is None = None
inherited_as is (Some t) = class_with (args_of t) (class_named is (head_of t))

-- the class that is inherited as this type, its arguments with others in place of parameters
abbrev pub inherited_over : List Item → List TypeExpr → Option TypeExpr → Option AboveClass
inherited_over is us None = None
inherited_over is us (Some t) = class_with (map (subst_ty us) (args_of t)) (class_named is (head_of t))

-- the class that a class above inherits
abbrev pub next_above : List Item → AboveClass → Option AboveClass
next_above is a = inherited_over is a.args a.class.inherits

-- from the first class on, each of the list inherits the next, and the last one inherits the other
abbrev pub Leads : List Item → Option AboveClass → List AboveClass → Option AboveClass → Type 0
Leads is o [] p = o ≡ p
Leads is o (a ∷ hs) p = (o ≡ Some a) × Leads is (next_above is a) hs p

-- the classes above a class, up to the last
abbrev pub IsChain : List Item → ClassInfo → List AboveClass → Type 0
IsChain is c hs = Leads is (inherited_as is c.inherits) hs None
