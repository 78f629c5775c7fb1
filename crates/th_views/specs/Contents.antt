-- What the slots of a class's tables hold: the bodies that the walk finds, and the bridges before them.
use Rattle.std.specs.Prelude.{ℕ, ℤ, ◌+◌, List, [], ◌∷◌, ◌++◌, nat_eq, cond, Option, Some, None, unwrap_or}
use Rattle.std.specs.Ordering.{int_eq}
use Rattle.th_views.specs.declared.Slot.{Slot}
use Rattle.th_views.specs.declared.Spot.{Spot}
use Rattle.th_views.specs.Tree.{Above, own_of, place}
use Rattle.th_views.specs.Chain.{hidden, lookup}
use Rattle.th_views.specs.Lookups.{offset, to_type}
use Rattle.th_views.specs.Objects.{object_spots, raised}
use Rattle.th_views.specs.Rows.{Program, tree_of, chain_of}

-- the class whose body the walk finds; each method of a class has one
abbrev pub body_of : Program → ℕ → ℕ → ℕ
body_of p c m = unwrap_or (lookup (chain_of p c) m) 0

-- the slots of the own methods of the type t, from the i-th on
abbrev pub own_slots : Program → ℕ → ℕ → ℕ → List ℕ → List Slot
own_slots p c t i [] = []
own_slots p c t i (m ∷ ms) = record { offset = offset (place (tree_of p.types t) i); method = m; body = body_of p c m; bridge = to_type p c m t } ∷ own_slots p c t (i + 1) ms

-- the slots of the types seen at a word
abbrev pub seen_slots : Program → ℕ → ℕ → List Spot → List Slot
seen_slots p c w [] = []
seen_slots p c w (s ∷ ss) = cond (nat_eq s.word w) (own_slots p c s.name 0 (own_of (tree_of p.types s.name))) [] ++ seen_slots p c w ss

-- the slots of hidden methods, from the k-th place upward on
abbrev pub hidden_slots : Program → ℕ → ℕ → List ℕ → List Slot
hidden_slots p c k [] = []
hidden_slots p c k (m ∷ ms) = record { offset = offset (Above k); method = m; body = body_of p c m; bridge = 0 } ∷ hidden_slots p c (k + 1) ms

-- all slots of the table at a word of a class, a slot perhaps more than once
abbrev pub table_slots : Program → ℕ → ℕ → List Slot
table_slots p c w = seen_slots p c w (object_spots (chain_of p c)) ++ cond (nat_eq w 0) (hidden_slots p c (raised p.types) (hidden (chain_of p c))) []

-- the first slot at an offset
abbrev pub first_at : List Slot → ℤ → Option Slot
first_at [] o = None
first_at (s ∷ ss) o = cond (int_eq s.offset o) (Some s) (first_at ss o)

-- the slot at an offset of the table at a word of a class
abbrev pub slot_at : Program → ℕ → ℕ → ℤ → Option Slot
slot_at p c w o = first_at (table_slots p c w) o
