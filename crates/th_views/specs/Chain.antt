-- A class with the classes that it inherits, itself first: its header words, slots, fields and tables.
use Rattle.std.specs.Prelude.{◌≡◌, ℕ, ◌+◌, ◌*◌, ◌<◌, ◌≤◌, List, [], ◌∷◌, ◌++◌, length, get_or, Bool, true, false, nat_eq, cond, ◌⊎◌, Option, Some, None}
use Rattle.th_views.specs.Tree.{Tree, own_of, is_up, span, Seen, On, Place, Above, place}

pub record Link : Type 0 where
  pub class : ℕ
  pub of : Tree
  -- whether it extends the inherited class's lowest group in place
  pub extends : Bool
  pub hidden : List ℕ
  -- the methods with a body of its own
  pub bodies : List ℕ
  -- where-words and fields of its own
  pub wheres : ℕ
  pub fields : ℕ

abbrev pub low_span : List Link → ℕ
low_span [] = 0
low_span (c ∷ rest) = span c.of

-- the first header word of the class's own group, from the anchor down
abbrev pub start : List Link → ℕ
start [] = 0
start (c ∷ rest) = cond c.extends (start rest) (start rest + low_span rest)

-- the header words of all groups
abbrev pub words : List Link → ℕ
words chain = start chain + low_span chain

-- t is seen at header word w of an object
abbrev pub SeenBy : List Link → Tree → ℕ → Type 0
SeenBy [] t w = ⊥
SeenBy (c ∷ rest) t w = ((v : ℕ) × (w ≡ start (c ∷ rest) + v) × Seen c.of t v) ⊎ SeenBy rest t w

abbrev pub OnHead : List Link → Tree → Type 0
OnHead [] x = Unit
OnHead (d ∷ rest) x = On x d.of

-- a class that extends a group has the inherited class's type on its type's first chain
abbrev pub Grown : List Link → Type 0
Grown [] = Unit
Grown (c ∷ rest) = (c.extends ≡ true → OnHead rest c.of) × Grown rest

-- hidden methods from the lowest slot up, inherited ones first
abbrev pub hidden : List Link → List ℕ
hidden [] = []
hidden (c ∷ rest) = hidden rest ++ c.hidden

-- where-words and fields of all classes
abbrev pub filled : List Link → ℕ
filled [] = 0
filled (c ∷ rest) = filled rest + (c.wheres + c.fields)

-- where-words of all classes, and fields of all classes
abbrev pub wheres_in : List Link → ℕ
wheres_in [] = 0
wheres_in (c ∷ rest) = wheres_in rest + c.wheres

abbrev pub fields_in : List Link → ℕ
fields_in [] = 0
fields_in (c ∷ rest) = fields_in rest + c.fields

-- where-words and fields of the inherited classes
abbrev pub filled_above : List Link → ℕ
filled_above [] = 0
filled_above (c ∷ rest) = filled rest

-- the word above the anchor of a class's own where-word or field
abbrev pub field_word : List Link → ℕ → ℕ
field_word [] i = 0
field_word (c ∷ rest) i = 1 + filled rest + i

abbrev pub size : List Link → ℕ
size chain = 4 * (words chain + filled chain)

-- the word i of the class d, which is the class or one that it inherits, lies at k words above the anchor
abbrev pub FieldAt : List Link → ℕ → ℕ → ℕ → Type 0
FieldAt [] d i k = ⊥
FieldAt (c ∷ rest) d i k = ((d ≡ length rest) × (i < c.wheres + c.fields) × (k ≡ field_word (c ∷ rest) i)) ⊎ FieldAt rest d i k

abbrev pub among : List ℕ → ℕ → Bool
among [] m = false
among (x ∷ xs) m = cond (nat_eq x m) true (among xs m)

-- the class whose own body the walk finds
abbrev pub lookup : List Link → ℕ → Option ℕ
lookup [] m = None
lookup (c ∷ rest) m = cond (among c.bodies m) (Some c.class) (lookup rest m)

-- the own method i of a type t that is seen there, and its slot
pub record TypeSlot (chain : List Link) (w : ℕ) (p : Place) (m : ℕ) : Type 0 where
  pub tree : Tree
  pub index : ℕ
  pub seen : SeenBy chain tree w
  pub within : index < length (own_of tree)
  pub there : p ≡ place tree index
  pub method : m ≡ get_or (own_of tree) index 0

pub record HiddenSlot (raised : ℕ) (chain : List Link) (w : ℕ) (p : Place) (m : ℕ) : Type 0 where
  pub index : ℕ
  pub anchor : w ≡ 0
  pub within : index < length (hidden chain)
  pub there : p ≡ Above (raised + index)
  pub method : m ≡ get_or (hidden chain) index 0

-- no upward type has more than so many methods of its own
abbrev pub Raised : ℕ → List Link → Type 0
Raised k chain = (t : Tree) (w : ℕ) → SeenBy chain t w → is_up t ≡ true → length (own_of t) ≤ k
