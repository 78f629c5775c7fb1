-- Runs of slots, and the first of two answers.
use Rattle.std.specs.Prelude.{◌≡◌, ℕ, ℤ, ◌+◌, List, [], ◌∷◌, Bool, true, false, nat_eq, cond, Option, Some, None, option_map}
use Rattle.th_views.specs.Tree.{Place, Below, Above}
use Rattle.th_views.specs.Lookups.{offset, own_place}
use Rattle.th_views.specs.Rows.{tree_of}
use Rattle.th_views.specs.declared.TypeRow.{TypeRow}
use Rattle.th_views.specs.declared.Spot.{Spot}

-- the first of two answers, if there is one, else the second
abbrev pub or_else : {A : Type 0} → Option A → Option A → Option A
or_else None b = b
or_else (Some a) b = Some a

-- the k-th place upward or downward
abbrev pub placed : Bool → ℕ → Place
placed true k = Above k
placed false k = Below k

-- the offset of a method among methods whose slots follow one another
abbrev pub offset_from : Bool → ℕ → List ℕ → ℕ → Option ℤ
offset_from u k [] q = None
offset_from u k (m ∷ ms) q = cond (nat_eq m q) (Some (offset (placed u k))) (offset_from u (k + 1) ms q)

-- the first place of a number, counted from k
abbrev pub index_from : ℕ → List ℕ → ℕ → Option ℕ
index_from k [] q = None
index_from k (x ∷ xs) q = cond (nat_eq x q) (Some k) (index_from (k + 1) xs q)

-- the offset of a method where the first type seen owns it
abbrev pub offset_in : List TypeRow → List Spot → ℕ → Option ℤ
offset_in rows [] q = None
offset_in rows (s ∷ ss) q = or_else (option_map offset (own_place q (tree_of rows s.name))) (offset_in rows ss q)
