-- The slots of types' own methods, from rows.
use Rattle.std.proofs.Common.{◌≡◌, ℕ, ℤ, zero, suc, ◌+◌, ◌<◌, ◌≤◌, List, [], ◌∷◌, length, get_or, Bool, true, false, nat_eq, cond, refl, sym, ap, ◌∙◌, subst, ◌⊎◌, inl, inr, arith, Option, Some, None}
use Rattle.std.proofs.lemmas.Bool.{cases_Bool}
use Rattle.std.specs.Prelude.{slice_get, option_map}
use Rattle.th_views.specs.declared.TypeRow.{TypeRow}
use Rattle.th_views.specs.declared.Spot.{Spot}
use Rattle.th_views.specs.Tree.{Tree, Node, Trees, End, Also, own_of, is_up, base, base_in, depth, Place, Above, Below, place}
use Rattle.th_views.specs.Graph.{trees_by}
use Rattle.th_views.specs.Sums.{plain_depth}
use Rattle.th_views.specs.Rows.{supers_in, tree_of, Ordered}
use Rattle.th_views.specs.Lookups.{index_of, after, offset, own_place}
use Rattle.th_views.proofs.Summed.{base_plain}
use Rattle.th_views.proofs.Views.{depth_down}
use Rattle.th_offsets.specs.declared.heads.Facts.{Facts}
use Rattle.th_offsets.specs.Counts.{at_first}
use Rattle.th_offsets.specs.Known.{Done, IsFacts, Placed, Shallow, Within}
use Rattle.th_offsets.specs.Maps.{placed, offset_from, or_else}
use Rattle.th_offsets.proofs.Walked.{tree_at, supers_at, facts_at}
use Rattle.th_offsets.proofs.Depths.{first_before, own_at, plain_node}

base_first : (rows : List TypeRow) (done ss : List ℕ) → ((s : ℕ) → slice_get ss 0 ≡ Some s → s < length done) → Placed rows done → at_first ss done ≡ base_in (trees_by (tree_of rows) ss)
base_first rows done [] h d = refl
base_first rows done (s ∷ ss) h d = d s (h s refl)

pub first_ok : (rows : List TypeRow) (o : Ordered rows) (done ss : List ℕ) (n : ℕ) (y r : TypeRow) → n < length rows → n ≤ length done → y ≡ get_or rows n r → ss ≡ y.supers
    → (s : ℕ) → slice_get ss 0 ≡ Some s → s < length done
first_ok rows o done ss n y r h l q e s z = let k : s < n = first_before rows o n s r h (ap (λ x. slice_get x 0) (sym (e ∙ ap (λ x. x.supers) q)) ∙ z) in omega arith

pub base_at : (rows : List TypeRow) (o : Ordered rows) (n : ℕ) (r : TypeRow) → n < length rows → base (tree_of rows n) ≡ base_in (trees_by (tree_of rows) (get_or rows n r).supers)
base_at rows o n r h = ap base (tree_at rows o n) ∙ ap (λ ss. base_in (trees_by (tree_of rows) ss)) (supers_at rows n r h)

pub first_base : (rows : List TypeRow) (o : Ordered rows) (done ss : List ℕ) (n t : ℕ) (y r : TypeRow) → n < length rows → n ≤ length done → Placed rows done → y ≡ get_or rows n r → ss ≡ y.supers
    → t ≡ at_first ss done → t ≡ base (tree_of rows n)
first_base rows o done ss n t y r h l d q e a =
    a ∙ base_first rows done ss (first_ok rows o done ss n y r h l q e) d ∙ ap (λ x. base_in (trees_by (tree_of rows) x)) (e ∙ ap (λ x. x.supers) q) ∙ sym (base_at rows o n r h)

pub own_is : (rows : List TypeRow) (o : Ordered rows) (n : ℕ) (y r : TypeRow) → n < length rows → y ≡ get_or rows n r → y.own ≡ own_of (tree_of rows n)
own_is rows o n y r h q = ap (λ x. x.own) q ∙ sym (own_at rows n r h) ∙ sym (ap own_of (tree_at rows o n))

-- the slots of a type are few
pub room_at : (rows : List TypeRow) (o : Ordered rows) (n : ℕ) → Shallow rows → n < length rows → (y r : TypeRow) → y ≡ get_or rows n r → base (tree_of rows n) + length y.own ≤ 250
room_at rows o n few h y r q =
    let a : base (tree_of rows n) ≡ base_in (trees_by (tree_of rows) (get_or rows n r).supers) = base_at rows o n r h in
    let b : plain_depth (tree_of rows n) ≡ _ = plain_node rows o n r h in
    let c : base_in (trees_by (tree_of rows) (get_or rows n r).supers) ≤ _ = base_plain (trees_by (tree_of rows) (get_or rows n r).supers) in
    let d : length y.own ≡ length (get_or rows n r).own = ap (λ x. length x.own) q in
    let e : plain_depth (tree_of rows n) ≤ 250 = few n in omega arith

pub depth_made : (x : Tree) (b l t : ℕ) → is_up x ≡ false → b ≡ base x → l ≡ length (own_of x) → t ≡ b + l → t ≡ depth x
depth_made x b l t u e f g = let k : depth x ≡ base x + length (own_of x) = depth_down x u in omega arith

pub upward_at : (rows : List TypeRow) (facts : List Facts) (n : ℕ) (f : Facts) → length facts ≡ length rows → n < length rows → Done rows facts → (get_or facts n f).upward ≡ is_up (tree_of rows n)
upward_at rows facts n f l h d = let k : n < length facts = omega arith in let g : IsFacts (get_or facts n f) (tree_of rows n) = facts_at facts n f (tree_of rows n) k (d n k) in g.upward

up_base : (x : Tree) → is_up x ≡ true → base x ≡ 0
up_base (Node n f own End) u = refl
up_base (Node n f own (Also s rest)) u = absurd (none f u)
  where
    none : (f : Bool) → cond f false false ≡ true → ⊥
    none true u = cc
    none false u = cc

after_offset : (u : Bool) (k : ℕ) (o : Option ℕ) → option_map (λ i. offset (placed u (k + 1 + i))) o ≡ option_map (λ i. offset (placed u (k + i))) (after o)
after_offset u k None = refl
after_offset u k (Some i) = let e : k + 1 + i ≡ k + (i + 1) = omega arith in ap (λ j. Some (offset (placed u j))) e

pub offset_from_is : (u : Bool) (k : ℕ) (l : List ℕ) (q : ℕ) → offset_from u k l q ≡ option_map (λ i. offset (placed u (k + i))) (index_of q l)
offset_from_is u k [] q = refl
offset_from_is u k (x ∷ xs) q = by (nat_eq x q) (offset_from_is u (k + 1) xs q ∙ after_offset u k (index_of q xs))
  where
    by : (b : Bool) → offset_from u (k + 1) xs q ≡ option_map (λ i. offset (placed u (k + i))) (after (index_of q xs))
        → cond b (Some (offset (placed u k))) (offset_from u (k + 1) xs q) ≡ option_map (λ i. offset (placed u (k + i))) (cond b (Some 0) (after (index_of q xs)))
    by true e = let z : k ≡ k + 0 = omega arith in ap (λ j. Some (offset (placed u j))) z
    by false e = e

pub same_place : (x : Tree) (i : ℕ) → (is_up x ≡ true) ⊎ (is_up x ≡ false) → placed (is_up x) (base x + i) ≡ place x i
same_place x i (inl u) = let k : base x ≡ 0 = up_base x u in let z : base x + i ≡ i = omega arith in rw u (ap Above z)
same_place x i (inr u) = rw u refl

map_place : (x : Tree) (o : Option ℕ) → option_map (λ i. offset (placed (is_up x) (base x + i))) o ≡ option_map offset (option_map (place x) o)
map_place x None = refl
map_place x (Some i) = ap (λ p. Some (offset p)) (same_place x i (cases_Bool (is_up x)))

pub own_offset : (x : Tree) (u : Bool) (b q : ℕ) (l : List ℕ) → u ≡ is_up x → b ≡ base x → l ≡ own_of x → offset_from u b l q ≡ option_map offset (own_place q x)
own_offset x u b q l e f g = ap (λ v. offset_from v b l q) e ∙ ap (λ v. offset_from (is_up x) v l q) f ∙ ap (λ v. offset_from (is_up x) (base x) v q) g
    ∙ offset_from_is (is_up x) (base x) (own_of x) q ∙ map_place x (index_of q (own_of x))

pub within_at : (n : ℕ) (l : List Spot) (i : ℕ) (d : Spot) → Within n l → i < length l → (get_or l i d).name < n
within_at n [] i d w h = absurd (omega arith)
within_at n (s ∷ ss) zero d w h = w.0
within_at n (s ∷ ss) (suc i) d w h = within_at n ss i d w.1 (omega arith)
