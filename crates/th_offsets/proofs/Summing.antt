-- Sums that stop one above the limit.
use Rattle.std.proofs.Common.{◌≡◌, ℕ, ◌+◌, ◌<◌, ◌≤◌, List, [], ◌∷◌, length, get_or, drop, Bool, false, refl, sym, ap, ◌∙◌, subst, arith, add-one, drop-cons}
use Rattle.std.specs.Prelude.{slice_get, min, nat_eq}
use Rattle.th_views.specs.declared.TypeRow.{TypeRow}
use Rattle.th_views.specs.Tree.{Tree, Node}
use Rattle.th_views.specs.Graph.{trees_by, EachLower}
use Rattle.th_views.specs.Sums.{sum, sum_in}
use Rattle.th_views.specs.Rows.{supers_in, marked_in, own_in, tree_of, Ordered}
use Rattle.th_offsets.specs.Known.{Summed}
use Rattle.th_offsets.proofs.Walked.{lower_at, tree_at, drop_past}

pub sum_next : (f : ℕ → Tree) (ss : List ℕ) (i : ℕ) → i < length ss → sum_in (trees_by f (drop i ss)) ≡ sum (f (get_or ss i 0)) + sum_in (trees_by f (drop (i + 1) ss))
sum_next f ss i h = ap (λ l. sum_in (trees_by f l)) (drop-cons ss i 0 h) ∙ rw add-one refl

cap_on : (t d r s x y z : ℕ) → t ≤ 65 → d ≡ min 65 s → r ≡ min 65 (t + d) → x ≡ s + y → min 65 (t + x) ≡ z → min 65 (r + y) ≡ z
cap_on t d r s x y z a b c e f = omega arith

pub super_at : (rows : List TypeRow) (o : Ordered rows) (n i : ℕ) (items : List ℕ) → items ≡ supers_in (slice_get rows n) → i < length items → get_or items i 0 < n
super_at rows o n i items e h = lower_at (λ k. k) n items i (subst (EachLower (λ k. k) n) (sym e) (o n)) h

pub sum_step : (rows : List TypeRow) (o : Ordered rows) (done : List ℕ) (n i : ℕ) (items : List ℕ) (t r z : ℕ) → length done ≡ n → Summed rows done → items ≡ supers_in (slice_get rows n)
    → i < length items → t ≤ 65 → r ≡ min 65 (t + get_or done (get_or items i 0) 0)
    → min 65 (t + sum_in (trees_by (tree_of rows) (drop i items))) ≡ z → min 65 (r + sum_in (trees_by (tree_of rows) (drop (i + 1) items))) ≡ z
sum_step rows o done n i items t r z l d e h a c p =
    let k : get_or items i 0 < n = super_at rows o n i items e h in let m : get_or items i 0 < length done = omega arith in
    cap_on t (get_or done (get_or items i 0) 0) r (sum (tree_of rows (get_or items i 0))) (sum_in (trees_by (tree_of rows) (drop i items))) (sum_in (trees_by (tree_of rows) (drop (i + 1) items))) z
    a (d (get_or items i 0) m) c (sum_next (tree_of rows) items i h) p

full_sum : (n : ℕ) (m : Bool) (own : List ℕ) (f : ℕ → Tree) (ss : List ℕ) → nat_eq (length ss) 0 ≡ false → sum (Node n m own (trees_by f ss)) ≡ sum_in (trees_by f ss)
full_sum n m own f [] h = absurd (cc)
full_sum n m own f (s ∷ ss) h = refl

cap_end : (t x s : ℕ) → x ≡ 0 → min 65 (t + x) ≡ min 65 s → t ≤ 65 → t ≡ min 65 s
cap_end t x s a b c = omega arith

pub sum_end : (rows : List TypeRow) (o : Ordered rows) (n i : ℕ) (items : List ℕ) (t : ℕ) → items ≡ supers_in (slice_get rows n) → length items ≤ i → t ≤ 65 → nat_eq (length items) 0 ≡ false
    → min 65 (t + sum_in (trees_by (tree_of rows) (drop i items))) ≡ min 65 (sum_in (trees_by (tree_of rows) items)) → t ≡ min 65 (sum (tree_of rows n))
sum_end rows o n i items t e h a b p = cap_end t (sum_in (trees_by (tree_of rows) (drop i items))) (sum_in (trees_by (tree_of rows) items))
    (ap (λ l. sum_in (trees_by (tree_of rows) l)) (drop_past items i h)) p a
    ∙ ap (min 65) (ap (λ l. sum_in (trees_by (tree_of rows) l)) e ∙ sym (full_sum n (marked_in (slice_get rows n)) (own_in (slice_get rows n)) (tree_of rows) (supers_in (slice_get rows n)) (ap (λ l. nat_eq (length l) 0) (sym e) ∙ b))
    ∙ sym (ap sum (tree_at rows o n)))
