-- The walk over a type's supertypes gives what the tree says.
use Rattle.std.proofs.Common.{◌≡◌, ◌^◌, ℕ, zero, suc, ◌+◌, ◌<◌, ◌≤◌, List, [], ◌∷◌, ◌++◌, length, get_or, drop, Bool, true, false, cond, refl, sym, ap, ◌∙◌, subst, arith, add-one, drop-cons, length-append}
use Rattle.std.proofs.lemmas.Bool.{ne_eqb}
use Rattle.std.specs.Prelude.{slice_get, nat_eq}
use Rattle.th_offsets.specs.declared.heads.Walk.{Walk}
use Rattle.th_views.specs.declared.TypeRow.{TypeRow}
use Rattle.th_offsets.specs.declared.heads.Facts.{Facts}
use Rattle.th_views.specs.Rows.{supers_in, marked_in, own_in, graph_of, tree_of, above_of, Ordered}
use Rattle.th_offsets.specs.Known.{Done, IsFacts, FactsAt}
use Rattle.th_views.proofs.Grown.{tree_is}
use Rattle.th_views.specs.declared.Turn.TheVariants.{First}
use Rattle.th_views.specs.Tree.{Tree, Node, Trees, End, Also, is_up, next, merged_at, tops, topped, topped_in, room, span, span_in}
use Rattle.th_views.specs.Graph.{trees_by, EachLower}
use Rattle.th_offsets.specs.Walks.{walk_on, walk_all, facts_from}

pub walk_next : (f : ℕ → Tree) (w : Walk) (ss : List ℕ) (i : ℕ) → i < length ss
    → walk_all w (trees_by f (drop i ss)) ≡ walk_all (walk_on w (topped (f (get_or ss i 0))) (is_up (f (get_or ss i 0))) (span (f (get_or ss i 0)))) (trees_by f (drop (i + 1) ss))
walk_next f w ss i h = ap (λ l. walk_all w (trees_by f l)) (drop-cons ss i 0 h) ∙ rw add-one refl

pub walk_span : (w : Walk) (ss : Trees) → (walk_all w ss).span ≡ w.span + span_in w.turn ss
walk_span w End = omega arith
walk_span w (Also s rest) = let k : (walk_all (walk_on w (topped s) (is_up s) (span s)) rest).span ≡ w.span + room (merged_at w.turn (is_up s)) (span s) + span_in (next w.turn (topped s)) rest =
    walk_span (walk_on w (topped s) (is_up s) (span s)) rest in omega arith

either : (a b c : Bool) → cond (cond a true b) true c ≡ cond a true (cond b true c)
either true b c = refl
either false b c = refl

either_none : (a : Bool) → a ≡ cond a true false
either_none true = refl
either_none false = refl

pub walk_topped : (w : Walk) (ss : Trees) → (walk_all w ss).topped ≡ cond w.topped true (topped_in w.turn ss)
walk_topped w End = either_none w.topped
walk_topped w (Also s rest) = walk_topped (walk_on w (topped s) (is_up s) (span s)) rest ∙ either w.topped (tops w.turn (topped s) (is_up s)) (topped_in (next w.turn (topped s)) rest)

pub lower_at : (rank : ℕ → ℕ) (k : ℕ) (ss : List ℕ) (i : ℕ) → EachLower rank k ss → i < length ss → rank (get_or ss i 0) < k
lower_at rank k [] i e h = absurd (omega arith)
lower_at rank k (s ∷ ss) zero e h = e.0
lower_at rank k (s ∷ ss) (suc i) e h = lower_at rank k ss i e.1 (omega arith)

pub drop_past : (ss : List ℕ) (i : ℕ) → length ss ≤ i → drop i ss ≡ []
drop_past [] zero h = refl
drop_past [] (suc i) h = refl
drop_past (s ∷ ss) zero h = absurd (omega arith)
drop_past (s ∷ ss) (suc i) h = drop_past ss i (omega arith)

pub gather_end : (f : ℕ → Tree) (w z : Walk) (i : ℕ) (items ss : List ℕ) → items ≡ ss → length items ≤ i
    → walk_all w (trees_by f (drop i items)) ≡ walk_all z (trees_by f items) → w ≡ walk_all z (trees_by f ss)
gather_end f w z i items ss e h p = ap (λ l. walk_all w (trees_by f l)) (sym (drop_past items i h)) ∙ p ∙ ap (λ l. walk_all z (trees_by f l)) e

-- rows and facts behind indexes
pub supers_at : (rows : List TypeRow) (n : ℕ) (r : TypeRow) → n < length rows → supers_in (slice_get rows n) ≡ (get_or rows n r).supers
supers_at [] n r h = absurd (omega arith)
supers_at (x ∷ xs) zero r h = refl
supers_at (x ∷ xs) (suc n) r h = supers_at xs n r (omega arith)

pub marked_at : (rows : List TypeRow) (n : ℕ) (r : TypeRow) → n < length rows → marked_in (slice_get rows n) ≡ (get_or rows n r).marked
marked_at [] n r h = absurd (omega arith)
marked_at (x ∷ xs) zero r h = refl
marked_at (x ∷ xs) (suc n) r h = marked_at xs n r (omega arith)

pub facts_at : (done : List Facts) (k : ℕ) (f : Facts) (x : Tree) → k < length done → FactsAt (slice_get done k) x → IsFacts (get_or done k f) x
facts_at [] k f x h g = absurd g
facts_at (y ∷ ys) zero f x h g = g
facts_at (y ∷ ys) (suc k) f x h g = facts_at ys k f x (omega arith) g

-- one step of the loop
pub step_on : (f : ℕ → Tree) (w v z : Walk) (y : Facts) (ss : List ℕ) (i : ℕ) → i < length ss
    → v ≡ walk_on w y.topped y.upward y.span → IsFacts y (f (get_or ss i 0)) → walk_all w (trees_by f (drop i ss)) ≡ z
    → walk_all v (trees_by f (drop (i + 1) ss)) ≡ z
step_on f w v z y ss i h e d p = ap (λ a. walk_all a (trees_by f (drop (i + 1) ss))) (e ∙ same_walk) ∙ sym (walk_next f w ss i h) ∙ p
  where
    same_walk : walk_on w y.topped y.upward y.span ≡ walk_on w (topped (f (get_or ss i 0))) (is_up (f (get_or ss i 0))) (span (f (get_or ss i 0)))
    same_walk = let a : y.topped ≡ topped (f (get_or ss i 0)) = d.topped in let b : y.upward ≡ is_up (f (get_or ss i 0)) = d.upward in
        let k : y.span ≡ span (f (get_or ss i 0)) = d.span in rw (a, b, k) refl

-- with a type's span at most 16, what is gathered of its supertypes is too
pub walk_few : (f : ℕ → Tree) (n : ℕ) (m : Bool) (own ss : List ℕ) (w : Walk) (i : ℕ) → i < length ss
    → span (Node n m own (trees_by f ss)) ≤ 64
    → walk_all w (trees_by f (drop i ss)) ≡ walk_all (record { turn = First; span = 0; topped = false }) (trees_by f ss) → w.span ≤ 64
walk_few f n m own [] w i h b e = absurd (omega arith)
walk_few f n m own (s ∷ ss) w i h b e =
    let p : (walk_all w (trees_by f (drop i (s ∷ ss)))).span ≡ w.span + span_in w.turn (trees_by f (drop i (s ∷ ss))) = walk_span w (trees_by f (drop i (s ∷ ss))) in
    let q : (walk_all (record { turn = First; span = 0; topped = false }) (trees_by f (s ∷ ss))).span ≡ 0 + span_in First (trees_by f (s ∷ ss)) =
    walk_span (record { turn = First; span = 0; topped = false }) (trees_by f (s ∷ ss)) in
    let r : (walk_all w (trees_by f (drop i (s ∷ ss)))).span ≡ (walk_all (record { turn = First; span = 0; topped = false }) (trees_by f (s ∷ ss))).span = ap (λ v. v.span) e in
    omega arith

-- the tree of a row
pub tree_at : (rows : List TypeRow) → Ordered rows → (n : ℕ) → tree_of rows n ≡ Node n (marked_in (slice_get rows n)) (own_in (slice_get rows n)) (above_of rows n)
tree_at rows o n = tree_is (graph_of rows) (λ k. k) o n

pub facts_is : (n : ℕ) (m : Bool) (own : List ℕ) (f : ℕ → Tree) (ss : List ℕ) (y : Facts) (w : Walk)
    → w ≡ walk_all (record { turn = First; span = 0; topped = false }) (trees_by f ss)
    → y.upward ≡ cond m (nat_eq (length ss) 0) false → y.topped ≡ cond y.upward true w.topped → y.span ≡ cond (nat_eq (length ss) 0) 1 w.span
    → IsFacts y (Node n m own (trees_by f ss))
facts_is n m own f [] y w e u t s = record { span = s; topped = t ∙ (rw (u, ap (λ v. v.topped) e) refl); upward = u }
facts_is n m own f (x ∷ ss) y w e u t s = let k : nat_eq (suc (length ss)) 0 ≡ false = ne_eqb (suc (length ss)) 0 (omega arith) in
    let q : w.span ≡ span_in First (trees_by f (x ∷ ss)) = ap (λ v. v.span) e ∙ walk_span (record { turn = First; span = 0; topped = false }) (trees_by f (x ∷ ss)) ∙ omega arith in
    let r : w.topped ≡ topped_in First (trees_by f (x ∷ ss)) = ap (λ v. v.topped) e ∙ walk_topped (record { turn = First; span = 0; topped = false }) (trees_by f (x ∷ ss)) in
    let a : y.upward ≡ cond m false false = u ∙ ap (λ b. cond m b false) k in
    let d : y.span ≡ w.span = s ∙ ap (λ b. cond b 1 w.span) k in
    record { span = d ∙ q; topped = t ∙ (rw (a, r) refl); upward = a }

module _ (rows : List TypeRow) (done : List Facts) (n i : ℕ) (items : List ℕ) (w z : Walk) (d : Facts) (o : Ordered rows) (a : Done rows done) (l : length done ≡ n)
    (e : items ≡ supers_in (slice_get rows n)) (h : i < length items) (p : walk_all w (trees_by (tree_of rows) (drop i items)) ≡ z) where
  super_lower : get_or items i 0 < n
  super_lower = lower_at (λ k. k) n items i (subst (EachLower (λ k. k) n) (sym e) (o n)) h

  super_facts : IsFacts (get_or done (get_or items i 0) d) (tree_of rows (get_or items i 0))
  super_facts = let k : get_or items i 0 < n = super_lower in let m : get_or items i 0 < length done = omega arith in
      facts_at done (get_or items i 0) d (tree_of rows (get_or items i 0)) m (a (get_or items i 0) m)

  pub gather_step : (v : Walk) → v ≡ walk_on w (get_or done (get_or items i 0) d).topped (get_or done (get_or items i 0) d).upward (get_or done (get_or items i 0) d).span
      → walk_all v (trees_by (tree_of rows) (drop (i + 1) items)) ≡ z
  gather_step v q = step_on (tree_of rows) w v z (get_or done (get_or items i 0) d) items i h q super_facts p

  pub gather_fits : ((k : ℕ) → span (tree_of rows k) ≤ 64) → z ≡ walk_all (record { turn = First; span = 0; topped = false }) (trees_by (tree_of rows) items)
      → w.span + (get_or done (get_or items i 0) d).span < 2 ^ 32
  gather_fits few q =
      let x : tree_of rows n ≡ Node n (marked_in (slice_get rows n)) (own_in (slice_get rows n)) (trees_by (tree_of rows) items) =
      tree_at rows o n ∙ ap (λ s. Node n (marked_in (slice_get rows n)) (own_in (slice_get rows n)) (trees_by (tree_of rows) s)) (sym e) in
      let b : w.span ≤ 64 = walk_few (tree_of rows) n (marked_in (slice_get rows n)) (own_in (slice_get rows n)) items w i h (subst (λ t. span t ≤ 64) x (few n)) (p ∙ q) in
      let f : (get_or done (get_or items i 0) d).span ≡ span (tree_of rows (get_or items i 0)) = super_facts.span in
      let g : span (tree_of rows (get_or items i 0)) ≤ 64 = few (get_or items i 0) in lt_trans_few w.span (get_or done (get_or items i 0) d).span (span (tree_of rows (get_or items i 0))) b f g
    where
      lt_trans_few : (x y z : ℕ) → x ≤ 64 → y ≡ z → z ≤ 64 → x + y < 2 ^ 32
      lt_trans_few x y z b f g = omega arith

pub made_facts : (n : ℕ) (m b : Bool) (own : List ℕ) (f : ℕ → Tree) (ss : List ℕ) (w : Walk)
    → w ≡ walk_all (record { turn = First; span = 0; topped = false }) (trees_by f ss) → b ≡ nat_eq (length ss) 0
    → IsFacts (facts_from m b w) (Node n m own (trees_by f ss))
made_facts n m b own f ss w e q = facts_is n m own f ss (facts_from m b w) w e (ap (λ z. cond m z false) q) refl (ap (λ z. cond z 1 w.span) q)

pub push_at : (done : List Facts) (f : Facts) (x : ℕ → Tree) → ((k : ℕ) → k < length done → FactsAt (slice_get done k) (x k)) → IsFacts f (x (length done))
    → (k : ℕ) → k < length (done ++ f ∷ []) → FactsAt (slice_get (done ++ f ∷ []) k) (x k)
push_at [] f x a b zero h = b
push_at [] f x a b (suc k) h = absurd (omega arith)
push_at (y ∷ ys) f x a b zero h = a zero (omega arith)
push_at (y ∷ ys) f x a b (suc k) h = push_at ys f (λ j. x (suc j)) (λ j l. a (suc j) (omega arith)) b k (omega arith)

pub done_push : (rows : List TypeRow) (done all : List Facts) (f : Facts) (n : ℕ) → length done ≡ n → Done rows done → IsFacts f (tree_of rows n) → all ≡ done ++ f ∷ [] → Done rows all
done_push rows done all f n l a b e = subst (Done rows) (sym e) (push_at done f (tree_of rows) a (subst (λ k. IsFacts f (tree_of rows k)) (sym l) b))

pub made_at : (rows : List TypeRow) (n : ℕ) (o : Ordered rows) (r y : TypeRow) (z : Facts) (b : Bool) (w : Walk) (items : List ℕ) → n < length rows → r ≡ get_or rows n y
    → items ≡ r.supers → b ≡ nat_eq (length items) 0
    → w ≡ walk_all (record { turn = First; span = 0; topped = false }) (above_of rows n) → z ≡ facts_from r.marked b w → IsFacts z (tree_of rows n)
made_at rows n o r y z b w items h e i q g m =
    let s : items ≡ supers_in (slice_get rows n) = i ∙ ap (λ v. v.supers) e ∙ sym (supers_at rows n y h) in
    let k : r.marked ≡ marked_in (slice_get rows n) = ap (λ v. v.marked) e ∙ sym (marked_at rows n y h) in
    let f : IsFacts (facts_from (marked_in (slice_get rows n)) b w) (Node n (marked_in (slice_get rows n)) (own_in (slice_get rows n)) (above_of rows n)) =
    made_facts n (marked_in (slice_get rows n)) b (own_in (slice_get rows n)) (tree_of rows) (supers_in (slice_get rows n)) w g (q ∙ ap (λ l. nat_eq (length l) 0) s) in
    subst (λ t. IsFacts z t) (sym (tree_at rows o n)) (subst (λ u. IsFacts u (Node n (marked_in (slice_get rows n)) (own_in (slice_get rows n)) (above_of rows n))) (sym (m ∙ ap (λ a. facts_from a b w) k)) f)

pub push_many : (done all : List Facts) (f : Facts) (n : ℕ) → length done ≡ n → all ≡ done ++ f ∷ [] → length all ≡ n + 1
push_many done all f n l e = let k : length all ≡ length (done ++ f ∷ []) = ap length e in let m : length (done ++ f ∷ []) ≡ length done + 1 = length-append done (f ∷ []) in omega arith
