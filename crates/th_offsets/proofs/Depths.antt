-- Slots downward of types: at their own views, and the most of those above.
use Rattle.std.proofs.Common.{◌≡◌, ℕ, zero, suc, ◌+◌, ◌<◌, ◌≤◌, List, [], ◌∷◌, length, get_or, drop, refl, sym, ap, ◌∙◌, subst, arith, add-one, drop-cons, Option, Some, None, cond, nat_eq}
use Rattle.std.specs.Prelude.{slice_get, min, max}
use Rattle.th_views.specs.declared.TypeRow.{TypeRow}
use Rattle.th_views.specs.Tree.{Tree, Node}
use Rattle.th_views.specs.Graph.{trees_by, EachLower}
use Rattle.th_views.specs.Sums.{plain_depth, plain_base, greatest, greatest_in}
use Rattle.th_views.specs.Rows.{supers_in, marked_in, own_in, tree_of, Ordered}
use Rattle.th_offsets.specs.Known.{Deep, Reaching}
use Rattle.th_offsets.specs.Counts.{at_first}
use Rattle.th_offsets.proofs.Walked.{lower_at, tree_at, drop_past, supers_at}
use Rattle.th_offsets.proofs.Summing.{super_at}

first_within : (ss : List ℕ) (s : ℕ) → slice_get ss 0 ≡ Some s → 0 < length ss
first_within [] s e = absurd (cc)
first_within (x ∷ xs) s e = omega arith

first_get : (ss : List ℕ) (s : ℕ) → slice_get ss 0 ≡ Some s → get_or ss 0 0 ≡ s
first_get [] s e = absurd (cc)
first_get (x ∷ xs) s e = cc

-- the first declared supertype stands before
pub first_before : (rows : List TypeRow) (o : Ordered rows) (n s : ℕ) (r : TypeRow) → n < length rows → slice_get (get_or rows n r).supers 0 ≡ Some s → s < n
first_before rows o n s r h e =
    let ss : List ℕ = (get_or rows n r).supers in
    let q : get_or ss 0 0 ≡ s = first_get ss s e in
    let k : get_or ss 0 0 < n = super_at rows o n 0 ss (sym (supers_at rows n r h)) (first_within ss s e) in omega arith

pub own_at : (rows : List TypeRow) (n : ℕ) (r : TypeRow) → n < length rows → own_in (slice_get rows n) ≡ (get_or rows n r).own
own_at [] n r h = absurd (omega arith)
own_at (x ∷ xs) zero r h = refl
own_at (x ∷ xs) (suc n) r h = own_at xs n r (omega arith)

pub plain_node : (rows : List TypeRow) (o : Ordered rows) (n : ℕ) (r : TypeRow) → n < length rows
    → plain_depth (tree_of rows n) ≡ plain_base (trees_by (tree_of rows) (get_or rows n r).supers) + length (get_or rows n r).own
plain_node rows o n r h = ap plain_depth (tree_at rows o n)
    ∙ ap (λ ss. plain_base (trees_by (tree_of rows) ss) + length (own_in (slice_get rows n))) (supers_at rows n r h)
    ∙ ap (λ l. plain_base (trees_by (tree_of rows) (get_or rows n r).supers) + length l) (own_at rows n r h)

base_known : (rows : List TypeRow) (done : List ℕ) (ss : List ℕ) → ((s : ℕ) → slice_get ss 0 ≡ Some s → s < length done) → Deep rows done
    → at_first ss done ≡ min 251 (plain_base (trees_by (tree_of rows) ss))
base_known rows done [] h d = refl
base_known rows done (s ∷ ss) h d = d s (h s refl)

pub plain_made : (rows : List TypeRow) (o : Ordered rows) (done ss : List ℕ) (n k l t u : ℕ) (y r : TypeRow) → n < length rows → length done ≡ n → Deep rows done
    → y ≡ get_or rows n r → ss ≡ y.supers → t ≡ at_first ss done → l ≡ length y.own → k ≡ min 251 l → u ≡ min 251 (t + k) → u ≡ min 251 (plain_depth (tree_of rows n))
plain_made rows o done ss n k l t u y r h m d q e a g b c =
    let f : (s : ℕ) → slice_get (get_or rows n r).supers 0 ≡ Some s → s < length done = λ s z. subst (λ j. s < j) (sym m) (first_before rows o n s r h z) in
    let x : t ≡ min 251 (plain_base (trees_by (tree_of rows) (get_or rows n r).supers)) =
    a ∙ ap (λ z. at_first z done) (e ∙ ap (λ z. z.supers) q) ∙ base_known rows done (get_or rows n r).supers f d in
    let w : plain_depth (tree_of rows n) ≡ plain_base (trees_by (tree_of rows) (get_or rows n r).supers) + length (get_or rows n r).own = plain_node rows o n r h in
    let v : l ≡ length (get_or rows n r).own = g ∙ ap (λ z. length z.own) q in
    omega arith

greatest_next : (f : ℕ → Tree) (ss : List ℕ) (i : ℕ) → i < length ss → greatest_in (trees_by f (drop i ss)) ≡ max (greatest (f (get_or ss i 0))) (greatest_in (trees_by f (drop (i + 1) ss)))
greatest_next f ss i h = ap (λ l. greatest_in (trees_by f l)) (drop-cons ss i 0 h) ∙ rw add-one refl

max_on : (t d r s x y z : ℕ) → d ≡ min 251 s → r ≡ max t d → x ≡ max s y → max t (min 251 x) ≡ z → max r (min 251 y) ≡ z
max_on t d r s x y z b c e f = omega arith

pub greatest_step : (rows : List TypeRow) (o : Ordered rows) (done : List ℕ) (n i : ℕ) (items : List ℕ) (t r z : ℕ) → length done ≡ n → Reaching rows done → items ≡ supers_in (slice_get rows n)
    → i < length items → r ≡ max t (get_or done (get_or items i 0) 0)
    → max t (min 251 (greatest_in (trees_by (tree_of rows) (drop i items)))) ≡ z → max r (min 251 (greatest_in (trees_by (tree_of rows) (drop (i + 1) items)))) ≡ z
greatest_step rows o done n i items t r z l d e h c p =
    let k : get_or items i 0 < n = super_at rows o n i items e h in let m : get_or items i 0 < length done = omega arith in
    max_on t (get_or done (get_or items i 0) 0) r (greatest (tree_of rows (get_or items i 0))) (greatest_in (trees_by (tree_of rows) (drop i items))) (greatest_in (trees_by (tree_of rows) (drop (i + 1) items))) z
    (d (get_or items i 0) m) c (greatest_next (tree_of rows) items i h) p

pub greatest_end : (rows : List TypeRow) (o : Ordered rows) (n i : ℕ) (items : List ℕ) (t : ℕ) → items ≡ supers_in (slice_get rows n) → length items ≤ i
    → max t (min 251 (greatest_in (trees_by (tree_of rows) (drop i items)))) ≡ max (min 251 (plain_depth (tree_of rows n))) (min 251 (greatest_in (trees_by (tree_of rows) items)))
    → t ≡ min 251 (greatest (tree_of rows n))
greatest_end rows o n i items t e h p =
    let a : greatest_in (trees_by (tree_of rows) (drop i items)) ≡ 0 = ap (λ l. greatest_in (trees_by (tree_of rows) l)) (drop_past items i h) in
    let b : greatest (tree_of rows n) ≡ max (plain_depth (tree_of rows n)) (greatest_in (trees_by (tree_of rows) items)) =
    ap greatest (tree_at rows o n) ∙ ap (λ x. max (plain_depth x) (greatest_in (trees_by (tree_of rows) (supers_in (slice_get rows n))))) (sym (tree_at rows o n))
    ∙ ap (λ l. max (plain_depth (tree_of rows n)) (greatest_in (trees_by (tree_of rows) l))) (sym e) in
    omega arith
