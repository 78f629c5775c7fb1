-- The slots of methods whose places follow one another.
use Rattle.std.specs.Prelude.{◌≡◌, ℕ, ℤ, ◌+◌, ◌<◌, ◌≤◌, List, [], ◌∷◌, map, nat_eq, cond, Bool, Option, Some, None}
use Rattle.std.specs.Global.{Vec}
use Rattle.th_views.specs.declared.Slot.{Slot}
use Rattle.std.specs.List.Sorted.{IsStrictlySortedBy}
use Rattle.std.specs.Ordering.{int_cmp}
use Rattle.th_views.specs.Contents.{body_of, own_slots, first_at, slot_at}
use Rattle.th_views.specs.Lookups.{offset, to_type}
use Rattle.th_views.specs.Chain.{words}
use Rattle.th_views.specs.Rows.{Program, tree_of, chain_of}
use Rattle.th_views.specs.Tree.{own_of}
use Rattle.th_views.specs.declared.Spot.{Spot}
use Rattle.th_offsets.specs.Maps.{placed}

-- the slot of a method of the type t, the k-th upward or downward
abbrev pub slot_for : Program → ℕ → ℕ → ℕ → Bool → ℕ → Slot
slot_for p c t m u k = record { offset = offset (placed u k); method = m; body = body_of p c m; bridge = to_type p c m t }

abbrev pub own_run : Program → ℕ → ℕ → Bool → ℕ → List ℕ → List Slot
own_run p c t u k [] = []
own_run p c t u k (m ∷ ms) = slot_for p c t m u k ∷ own_run p c t u (k + 1) ms

-- the slots of the own methods of a type seen, where it is seen at this word
abbrev pub spot_slots : Program → ℕ → ℕ → Spot → List Slot
spot_slots p c w s = cond (nat_eq s.word w) (own_slots p c s.name 0 (own_of (tree_of p.types s.name))) []

-- the slots of the table at a word of a class: the offsets rise strictly, and at each offset stands the slot that the table has there, if it has one
pub record IsTable (p : Program) (c w : ℕ) (slots : List Slot) : Type 0 where
  pub ascending : IsStrictlySortedBy int_cmp (map (λ s. s.offset) slots)
  pub here : (o : ℤ) → first_at slots o ≡ slot_at p c w o

-- what is answered of the table at a word of the class at a place: its slots, or nothing where there is no class or no such word
abbrev pub IsTableAnswer : Program → Option ℕ → ℕ → Option (Vec Slot) → Type 0
IsTableAnswer p None w None = Unit {0}
IsTableAnswer p None w (Some v) = ⊥
IsTableAnswer p (Some c) w None = words (chain_of p c) ≤ w
IsTableAnswer p (Some c) w (Some v) = (w < words (chain_of p c)) × IsTable p c w v.items
