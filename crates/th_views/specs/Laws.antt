-- The laws of the layout. All that lies above it rests on these alone.
use Rattle.std.specs.Prelude.{◌≡◌, ℕ, ℤ, ◌⊎◌, ◌+◌, ◌<◌, ◌≤◌, List, [], ◌∷◌, length, Bool, true, Option, Some, None, slice_get}
use Rattle.th_views.specs.declared.TypeRow.{TypeRow}
use Rattle.th_views.specs.declared.ClassRow.{ClassRow}
use Rattle.th_views.specs.Tree.{own_of, span, depth, Place, place}
use Rattle.th_views.specs.Listed.{spots, first_of, HasSpot}
use Rattle.th_views.specs.Chain.{Link, among, lookup, start, words, filled, FieldAt}
use Rattle.th_views.specs.Home.{offers}
use Rattle.th_views.specs.Objects.{object_spots, OwnSlot, HiddenAt}
use Rattle.th_views.specs.Contents.{slot_at, body_of}
use Rattle.th_views.specs.Lookups.{offset, to_type}
use Rattle.th_views.specs.declared.Slot.{Slot}
use Rattle.th_views.specs.Rows.{Program, tree_of, chain_of, inherits_in}
use Rattle.th_views.specs.Sums.{sum, plain_depth, sum_words}

-- each supertype of a type seen at a word of a type's headers is seen at its cast distance
abbrev pub TypeCasts : List TypeRow → Type 0
TypeCasts rows = (x t w u d : ℕ) → HasSpot (spots (tree_of rows x)) t w → first_of u (spots (tree_of rows t)) ≡ Some d → HasSpot (spots (tree_of rows x)) u (w + d)

-- no two own methods share a slot of a type's headers
abbrev pub TypeSlotsApart : List TypeRow → Type 0
TypeSlotsApart rows = (x t s w i j : ℕ) → HasSpot (spots (tree_of rows x)) t w → HasSpot (spots (tree_of rows x)) s w
    → i < length (own_of (tree_of rows t)) → j < length (own_of (tree_of rows s)) → place (tree_of rows t) i ≡ place (tree_of rows s) j → (t ≡ s) × (i ≡ j)

-- V1: each supertype of a type seen at a word of an object is seen at its cast distance
abbrev pub V1 : Program → Type 0
V1 p = (c t w u d : ℕ) → HasSpot (object_spots (chain_of p c)) t w → first_of u (spots (tree_of p.types t)) ≡ Some d → HasSpot (object_spots (chain_of p c)) u (w + d)

-- V2: a class's type is seen at the first word of the class's own group, and what the inherited class sees is seen at the same words
pub record V2 (p : Program) : Type 0 where
  pub own : (n : ℕ) (c : ClassRow) → slice_get p.classes n ≡ Some c → HasSpot (object_spots (chain_of p n)) c.of (start (chain_of p n))
  pub above : (n d t w : ℕ) → inherits_in (slice_get p.classes n) ≡ Some d → HasSpot (object_spots (chain_of p d)) t w → HasSpot (object_spots (chain_of p n)) t w

-- each method of a class's type, and of the types of the classes that it inherits, has a body
abbrev pub Served : List Link → Type 0
Served [] = Unit
Served (c ∷ rest) = ((m : ℕ) → offers c.of m ≡ true → (b : ℕ) × (lookup (c ∷ rest) m ≡ Some b)) × Served rest

-- the first half of V3: the walk finds a body for each slot of a type seen
abbrev pub V3 : Program → Type 0
V3 p = (c w : ℕ) (o : Place) (m t : ℕ) → Served (chain_of p c) → OwnSlot p c w o m t → (b : ℕ) × (lookup (chain_of p c) m ≡ Some b)

-- V3 whole: the slot of a type's own method, where the type is seen, holds the body that the walk finds, by a bridge where the body's result is lowered; a hidden method's slot holds the body; and there are no other slots
pub record V3Whole (p : Program) : Type 0 where
  pub own : (c w : ℕ) (o : Place) (m t : ℕ) → OwnSlot p c w o m t → slot_at p c w (offset o) ≡ Some (record { offset = offset o; method = m; body = body_of p c m; bridge = to_type p c m t })
  pub hidden : (c w : ℕ) (o : Place) (m : ℕ) → HiddenAt p c w o m → slot_at p c w (offset o) ≡ Some (record { offset = offset o; method = m; body = body_of p c m; bridge = 0 })
  pub only : (c w : ℕ) (z : ℤ) (s : Slot) → slot_at p c w z ≡ Some s
      → ((o : Place) × (m : ℕ) × (t : ℕ) × OwnSlot p c w o m t × (z ≡ offset o)) ⊎ ((o : Place) × (m : ℕ) × HiddenAt p c w o m × (z ≡ offset o))

-- V5: a place in a table has one method of one type, or one hidden method; fields and where-words lie above the anchor, within the object, and don't overlap; a view lies within the headers
pub record V5 (p : Program) : Type 0 where
  pub own : (c w : ℕ) (o : Place) (m n t s : ℕ) → OwnSlot p c w o m t → OwnSlot p c w o n s → (m ≡ n) × (t ≡ s)
  pub hidden : (c w : ℕ) (o : Place) (m n : ℕ) → HiddenAt p c w o m → HiddenAt p c w o n → m ≡ n
  pub apart : (c w : ℕ) (o : Place) (m n t : ℕ) → OwnSlot p c w o m t → HiddenAt p c w o n → ⊥
  pub within : (c t w : ℕ) → HasSpot (object_spots (chain_of p c)) t w → w < words (chain_of p c)
  pub field_in : (c d i k : ℕ) → FieldAt (chain_of p c) d i k → (1 ≤ k) × (k ≤ filled (chain_of p c))
  pub field_one : (c d i e j k : ℕ) → FieldAt (chain_of p c) d i k → FieldAt (chain_of p c) e j k → (d ≡ e) × (i ≡ j)

-- the counts that the limits judge are no less than those of the layout
pub record Counted (p : Program) : Type 0 where
  pub span : (t : ℕ) → span (tree_of p.types t) ≤ sum (tree_of p.types t)
  pub words : (c : ℕ) → words (chain_of p c) ≤ sum_words (chain_of p c)
  pub depth : (t : ℕ) → depth (tree_of p.types t) ≤ plain_depth (tree_of p.types t)
