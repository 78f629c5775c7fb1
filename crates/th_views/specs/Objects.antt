-- The objects of a class: the types seen at each header word, the slots of each table, and when two programs' rows are sound.
use Rattle.std.specs.Prelude.{◌≡◌, ℕ, ◌+◌, ◌<◌, ◌≤◌, List, [], ◌∷◌, ◌++◌, length, max, Bool, true, false, cond, Option, Some, None, slice_get}
use Rattle.th_views.specs.declared.Spot.{Spot}
use Rattle.th_views.specs.declared.TypeRow.{TypeRow}
use Rattle.th_views.specs.declared.ClassRow.{ClassRow}
use Rattle.th_views.specs.Tree.{own_of, On, Place, Above, place}
use Rattle.th_views.specs.Listed.{spots, lowered, HasSpot}
use Rattle.th_views.specs.Chain.{Link, start, hidden}
use Rattle.th_views.specs.Rows.{Program, tree_of, chain_of, Ordered, Inherited}

-- the types seen by an object, each with its header word, from the anchor down
abbrev pub object_spots : List Link → List Spot
object_spots [] = []
object_spots (c ∷ rest) = lowered (start (c ∷ rest)) (spots c.of) ++ object_spots rest

abbrev pub none : List ℕ → Bool
none [] = true
none (x ∷ xs) = false

-- the own methods of a type where it is upward, else 0
abbrev pub upward_count : TypeRow → ℕ
upward_count r = cond (cond r.marked (none r.supers) false) (length r.own) 0

-- the greatest number of own methods of an upward type
abbrev pub raised : List TypeRow → ℕ
raised [] = 0
raised (r ∷ rest) = max (upward_count r) (raised rest)

-- where the type t is seen at the word w of an object of the class c, its own method m has the place o in the table
pub record OwnSlot (p : Program) (c w : ℕ) (o : Place) (m t : ℕ) : Type 0 where
  pub index : ℕ
  pub seen : HasSpot (object_spots (chain_of p c)) t w
  pub method : slice_get (own_of (tree_of p.types t)) index ≡ Some m
  pub there : o ≡ place (tree_of p.types t) index

-- the hidden method m of the class c has the place o in the table of the anchor
pub record HiddenAt (p : Program) (c w : ℕ) (o : Place) (m : ℕ) : Type 0 where
  pub index : ℕ
  pub anchor : w ≡ 0
  pub method : slice_get (hidden (chain_of p c)) index ≡ Some m
  pub there : o ≡ Above (raised p.types + index)

-- a class extends its inherited class's lowest group only where that class's type is on the chain of first supertypes of its own
abbrev pub Extended : Program → Type 0
Extended p = (n k : ℕ) (c d : ClassRow) → slice_get p.classes n ≡ Some c → c.inherits ≡ Some k → slice_get p.classes k ≡ Some d → c.extends ≡ true
    → On (tree_of p.types c.of) (tree_of p.types d.of)

-- what a row names stands before it, and groups are extended only along first supertypes
pub record Sound (p : Program) : Type 0 where
  pub types : Ordered p.types
  pub classes : Inherited p.classes
  pub extended : Extended p
