-- The views gathered from the supertypes are the tree's.
use Rattle.std.proofs.Common.{◌≡◌, ◌^◌, ℕ, zero, suc, ◌+◌, ◌<◌, ◌≤◌, List, [], ◌∷◌, ◌++◌, length, get_or, drop, Bool, true, false, refl, sym, ap, ◌∙◌, subst, inl, inr, arith, add-one, drop-cons, length-append, append_assoc, append-nil}
use Rattle.std.specs.Prelude.{slice_get}
use Rattle.th_offsets.specs.declared.heads.Walk.{Walk}
use Rattle.th_views.specs.declared.TypeRow.{TypeRow}
use Rattle.th_offsets.specs.declared.heads.Facts.{Facts}
use Rattle.th_views.specs.declared.Spot.{Spot}
use Rattle.th_offsets.specs.declared.views.Spots.{Spots}
use Rattle.th_views.specs.declared.Turn.{Turn}
use Rattle.th_views.specs.declared.Turn.TheVariants.{First}
use Rattle.th_views.specs.Tree.{Tree, Node, is_up, next, merged_at, topped, room, at, span}
use Rattle.th_views.specs.Graph.{trees_by, EachLower}
use Rattle.th_offsets.specs.Walks.{walk_on, walk_all}
use Rattle.th_views.specs.Listed.{spots, spots_in, lowered, HasSpot}
use Rattle.th_views.specs.Rows.{supers_in, marked_in, own_in, tree_of, Ordered}
use Rattle.th_offsets.specs.Known.{Done, IsFacts, Spotted, SpotsAt}
use Rattle.th_views.proofs.Views.{seen_below, span_some}
use Rattle.th_views.proofs.Lists.{shown, Shown}
use Rattle.th_offsets.proofs.Walked.{lower_at, facts_at, step_on, walk_few, tree_at, drop_past}

pub list_at : (done : List Spots) (k : ℕ) (d : Spots) (x : Tree) → k < length done → SpotsAt (slice_get done k) x → (get_or done k d).list.items ≡ spots x
list_at [] k d x h g = absurd g
list_at (y ∷ ys) zero d x h g = g
list_at (y ∷ ys) (suc k) d x h g = list_at ys k d x (omega arith) g

pub spot_at : (l : List Spot) (k b : ℕ) → 1 ≤ b → ((n w : ℕ) → HasSpot l n w → w < b) → (get_or l k (record { name = 0; word = 0 })).word < b
spot_at [] zero b a h = omega arith
spot_at [] (suc k) b a h = omega arith
spot_at (s ∷ ss) zero b a h = h s.name s.word (inl (refl, refl))
spot_at (s ∷ ss) (suc k) b a h = spot_at ss k b a (λ n w q. h n w (inr q))

pub spot_below : (x : Tree) (n w : ℕ) → HasSpot (spots x) n w → w < span x
spot_below x n w h = let k : Shown x n w = shown x n w h in seen_below x k.tree w k.seen

low_at : (m : Bool) (b : ℕ) → at m b ≤ b
low_at true b = omega arith
low_at false b = omega arith

spots_next : (f : ℕ → Tree) (p : Turn) (b : ℕ) (ss : List ℕ) (i : ℕ) → i < length ss
    → spots_in p b (trees_by f (drop i ss)) ≡ lowered (at (merged_at p (is_up (f (get_or ss i 0)))) b) (spots (f (get_or ss i 0)))
    ++ spots_in (next p (topped (f (get_or ss i 0)))) (b + room (merged_at p (is_up (f (get_or ss i 0)))) (span (f (get_or ss i 0)))) (trees_by f (drop (i + 1) ss))
spots_next f p b ss i h = ap (λ l. spots_in p b (trees_by f l)) (drop-cons ss i 0 h) ∙ rw add-one refl

rejoin : (before after full l l2 x x2 whole : List Spot) → l ≡ l2 → x ≡ x2 → whole ≡ l2 ++ x2 → after ≡ before ++ l → before ++ whole ≡ full → after ++ x ≡ full
rejoin before after full l l2 x x2 whole a b c r g = ap (λ y. y ++ x) r ∙ append_assoc before l x ∙ ap (λ y. before ++ (y ++ x)) a ∙ ap (λ y. before ++ (l2 ++ y)) b ∙ ap (λ y. before ++ y) (sym c) ∙ g

module _ (rows : List TypeRow) (facts : List Facts) (done : List Spots) (n i : ℕ) (items : List ℕ) (w z : Walk) (d : Facts) (o : Ordered rows)
    (a : Done rows facts) (al : length facts ≡ length rows) (q : Spotted rows done) (l : length done ≡ n) (nl : n < length rows)
    (e : items ≡ supers_in (slice_get rows n)) (h : i < length items) (p : walk_all w (trees_by (tree_of rows) (drop i items)) ≡ z) where
  pub super_before : get_or items i 0 < n
  super_before = lower_at (λ k. k) n items i (subst (EachLower (λ k. k) n) (sym e) (o n)) h

  known : IsFacts (get_or facts (get_or items i 0) d) (tree_of rows (get_or items i 0))
  known = let k : get_or items i 0 < n = super_before in let m : get_or items i 0 < length facts = omega arith in
      facts_at facts (get_or items i 0) d (tree_of rows (get_or items i 0)) m (a (get_or items i 0) m)

  listed : (y : Spots) → (get_or done (get_or items i 0) y).list.items ≡ spots (tree_of rows (get_or items i 0))
  listed y = let k : get_or items i 0 < n = super_before in let m : get_or items i 0 < length done = omega arith in
      list_at done (get_or items i 0) y (tree_of rows (get_or items i 0)) m (q (get_or items i 0) m)

  pub walk_step : (v : Walk) → v ≡ walk_on w (get_or facts (get_or items i 0) d).topped (get_or facts (get_or items i 0) d).upward (get_or facts (get_or items i 0) d).span
      → walk_all v (trees_by (tree_of rows) (drop (i + 1) items)) ≡ z
  walk_step v g = step_on (tree_of rows) w v z (get_or facts (get_or items i 0) d) items i h g known p

  walk_small : ((k : ℕ) → span (tree_of rows k) ≤ 64) → z ≡ walk_all (record { turn = First; span = 0; topped = false }) (trees_by (tree_of rows) items) → w.span ≤ 64
  walk_small few g =
      let x : tree_of rows n ≡ Node n (marked_in (slice_get rows n)) (own_in (slice_get rows n)) (trees_by (tree_of rows) items) =
      tree_at rows o n ∙ ap (λ s. Node n (marked_in (slice_get rows n)) (own_in (slice_get rows n)) (trees_by (tree_of rows) s)) (sym e) in
      walk_few (tree_of rows) n (marked_in (slice_get rows n)) (own_in (slice_get rows n)) items w i h (subst (λ t. span t ≤ 64) x (few n)) (p ∙ g)

  pub step_fits : ((k : ℕ) → span (tree_of rows k) ≤ 64) → z ≡ walk_all (record { turn = First; span = 0; topped = false }) (trees_by (tree_of rows) items)
      → w.span + (get_or facts (get_or items i 0) d).span < 2 ^ 32
  step_fits few g = small w.span (get_or facts (get_or items i 0) d).span (span (tree_of rows (get_or items i 0))) (walk_small few g) known.span (few (get_or items i 0))
    where
      small : (x y z : ℕ) → x ≤ 64 → y ≡ z → z ≤ 64 → x + y < 2 ^ 32
      small x y z b f g = omega arith

  pub lower_fits : ((k : ℕ) → span (tree_of rows k) ≤ 64) → z ≡ walk_all (record { turn = First; span = 0; topped = false }) (trees_by (tree_of rows) items)
      → (low : ℕ) (u : Bool) → low ≡ at (merged_at w.turn u) w.span → (y : Spots) (from : List Spot) → from ≡ (get_or done (get_or items i 0) y).list.items
      → (k : ℕ) → low + (get_or from k (record { name = 0; word = 0 })).word < 2 ^ 32
  lower_fits few g low u c y from t k =
      small low (at (merged_at w.turn u) w.span) w.span (get_or from k (record { name = 0; word = 0 })).word (span (tree_of rows (get_or items i 0))) c (low_at (merged_at w.turn u) w.span) (walk_small few g)
      (spot_at from k (span (tree_of rows (get_or items i 0))) (span_some (tree_of rows (get_or items i 0)))
      (λ n v r. spot_below (tree_of rows (get_or items i 0)) n v (subst (λ s. HasSpot s n v) (t ∙ listed y) r)))
      (few (get_or items i 0))
    where
      small : (x x2 x3 y z : ℕ) → x ≡ x2 → x2 ≤ x3 → x3 ≤ 64 → y < z → z ≤ 64 → x + y < 2 ^ 32
      small x x2 x3 y z a b c d e = omega arith

  pub list_step : (before after full : List Spot) (y : Spots) (from : List Spot) (low : ℕ) (v : Walk) → before ++ spots_in w.turn w.span (trees_by (tree_of rows) (drop i items)) ≡ full
      → from ≡ (get_or done (get_or items i 0) y).list.items → low ≡ at (merged_at w.turn (get_or facts (get_or items i 0) d).upward) w.span
      → after ≡ before ++ lowered low from
      → v ≡ walk_on w (get_or facts (get_or items i 0) d).topped (get_or facts (get_or items i 0) d).upward (get_or facts (get_or items i 0) d).span
      → after ++ spots_in v.turn v.span (trees_by (tree_of rows) (drop (i + 1) items)) ≡ full
  list_step before after full y from low v g t c r s =
      rejoin before after full (lowered low from) (lowered (at (merged_at w.turn (is_up (tree_of rows (get_or items i 0)))) w.span) (spots (tree_of rows (get_or items i 0))))
      (spots_in v.turn v.span (trees_by (tree_of rows) (drop (i + 1) items)))
      (spots_in (next w.turn (topped (tree_of rows (get_or items i 0)))) (w.span + room (merged_at w.turn (is_up (tree_of rows (get_or items i 0)))) (span (tree_of rows (get_or items i 0)))) (trees_by (tree_of rows) (drop (i + 1) items)))
      (spots_in w.turn w.span (trees_by (tree_of rows) (drop i items)))
      (ap (λ x. lowered x from) (c ∙ ap (λ u. at (merged_at w.turn u) w.span) known.upward) ∙ ap (lowered (at (merged_at w.turn (is_up (tree_of rows (get_or items i 0)))) w.span)) (t ∙ listed y))
      (ap (λ x. spots_in x.turn x.span (trees_by (tree_of rows) (drop (i + 1) items))) (s ∙ same_walk))
      (spots_next (tree_of rows) w.turn w.span items i h) r g
    where
      same_walk : walk_on w (get_or facts (get_or items i 0) d).topped (get_or facts (get_or items i 0) d).upward (get_or facts (get_or items i 0) d).span
          ≡ walk_on w (topped (tree_of rows (get_or items i 0))) (is_up (tree_of rows (get_or items i 0))) (span (tree_of rows (get_or items i 0)))
      same_walk = ap (λ a. walk_on w a (get_or facts (get_or items i 0) d).upward (get_or facts (get_or items i 0) d).span) known.topped
          ∙ ap (λ a. walk_on w (topped (tree_of rows (get_or items i 0))) a (get_or facts (get_or items i 0) d).span) known.upward
          ∙ ap (walk_on w (topped (tree_of rows (get_or items i 0))) (is_up (tree_of rows (get_or items i 0)))) known.span

pub list_end : (rows : List TypeRow) (n : ℕ) (o : Ordered rows) (w : Walk) (i : ℕ) (items : List ℕ) (list : List Spot) → items ≡ supers_in (slice_get rows n) → length items ≤ i
    → list ++ spots_in w.turn w.span (trees_by (tree_of rows) (drop i items)) ≡ record { name = n; word = 0 } ∷ spots_in First 0 (trees_by (tree_of rows) items)
    → list ≡ spots (tree_of rows n)
list_end rows n o w i items list e h g =
    sym (append-nil list) ∙ ap (λ l. list ++ spots_in w.turn w.span (trees_by (tree_of rows) l)) (sym (drop_past items i h)) ∙ g
    ∙ ap (λ s. record { name = n; word = 0 } ∷ spots_in First 0 (trees_by (tree_of rows) s)) e ∙ sym (ap spots (tree_at rows o n))

pub list_start : (none list : List Spot) (s : Spot) (rest : List Spot) → none ≡ [] → list ≡ none ++ s ∷ [] → list ++ rest ≡ s ∷ rest
list_start none list s rest a b = ap (λ l. l ++ rest) (b ∙ ap (λ l. l ++ s ∷ []) a)

pub push_spots : (done : List Spots) (f : Spots) (x : ℕ → Tree) → ((k : ℕ) → k < length done → SpotsAt (slice_get done k) (x k)) → f.list.items ≡ spots (x (length done))
    → (k : ℕ) → k < length (done ++ f ∷ []) → SpotsAt (slice_get (done ++ f ∷ []) k) (x k)
push_spots [] f x a b zero h = b
push_spots [] f x a b (suc k) h = absurd (omega arith)
push_spots (y ∷ ys) f x a b zero h = a zero (omega arith)
push_spots (y ∷ ys) f x a b (suc k) h = push_spots ys f (λ j. x (suc j)) (λ j l. a (suc j) (omega arith)) b k (omega arith)

pub spotted_push : (rows : List TypeRow) (done all : List Spots) (f : Spots) (n : ℕ) → length done ≡ n → Spotted rows done → f.list.items ≡ spots (tree_of rows n) → all ≡ done ++ f ∷ [] → Spotted rows all
spotted_push rows done all f n l a b e = subst (Spotted rows) (sym e) (push_spots done f (tree_of rows) a (b ∙ ap (λ k. spots (tree_of rows k)) (sym l)))

pub spots_many : (done all : List Spots) (f : Spots) (n : ℕ) → length done ≡ n → all ≡ done ++ f ∷ [] → length all ≡ n + 1
spots_many done all f n l e = let k : length all ≡ length (done ++ f ∷ []) = ap length e in let m : length (done ++ f ∷ []) ≡ length done + 1 = length-append done (f ∷ []) in omega arith
