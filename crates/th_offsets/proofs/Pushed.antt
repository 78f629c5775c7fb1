-- One more entry keeps what is known of each, and the types seen stand before.
use Rattle.std.proofs.Common.{◌≡◌, ℕ, zero, suc, ◌+◌, ◌<◌, ◌≤◌, List, [], ◌∷◌, ◌++◌, length, get_or, refl, sym, ap, ◌∙◌, subst, arith, length-append, nat_eq, le_refl, Option, Some, None}
use Rattle.std.specs.Prelude.{slice_get, option_map}
use Rattle.std.specs.HashMap.{get}
use Rattle.th_views.specs.declared.TypeRow.{TypeRow}
use Rattle.th_views.specs.declared.Spot.{Spot}
use Rattle.th_views.specs.declared.Turn.{Turn}
use Rattle.th_views.specs.declared.Turn.TheVariants.{First}
use Rattle.th_views.specs.Tree.{Tree, is_up, next, merged_at, topped, room, at, span, own_of}
use Rattle.th_views.specs.Graph.{grow, trees_by, EachLower}
use Rattle.th_views.specs.Listed.{spots, spots_in, lowered, first_of}
use Rattle.th_views.specs.Lookups.{offset, method_place}
use Rattle.th_views.specs.Rows.{graph_of, tree_of, supers_in, own_in, Ordered}
use Rattle.th_views.specs.Sums.{plain_depth}
use Rattle.th_offsets.specs.declared.maps.Casts.{Casts}
use Rattle.th_offsets.specs.declared.maps.Offsets.{Offsets}
use Rattle.th_offsets.specs.declared.views.Spots.{Spots}
use Rattle.th_offsets.specs.Known.{Cast, CastAt, Homed, HomedAt, Within, Shallow, Spotted, SpotsAt}
use Rattle.th_offsets.specs.Maps.{offset_in}
use Rattle.th_offsets.proofs.Mapped.{offset_is}
use Rattle.th_offsets.proofs.Spotting.{list_at}

pub push_each : {A : Type 0} (P : ℕ → Option A → Type 0) (done : List A) (x : A) → ((k : ℕ) → k < length done → P k (slice_get done k)) → P (length done) (Some x)
    → (k : ℕ) → k < length (done ++ x ∷ []) → P k (slice_get (done ++ x ∷ []) k)
push_each P [] x a b zero h = b
push_each P [] x a b (suc k) h = absurd (omega arith)
push_each P (y ∷ ys) x a b zero h = a zero (omega arith)
push_each P (y ∷ ys) x a b (suc k) h = push_each (λ j. P (suc j)) ys x (λ j l. a (suc j) (omega arith)) b k (omega arith)

pub one_more : {A : Type 0} (done all : List A) (x : A) (n : ℕ) → length done ≡ n → all ≡ done ++ x ∷ [] → length all ≡ n + 1
one_more done all x n l e = let k : length all ≡ length (done ++ x ∷ []) = ap length e in let m : length (done ++ x ∷ []) ≡ length done + 1 = length-append done (x ∷ []) in omega arith

pub got_spots : (l : List Spots) (n : ℕ) (r : Spots) → n < length l → slice_get l n ≡ Some (get_or l n r)
got_spots [] n r h = absurd (omega arith)
got_spots (x ∷ xs) zero r h = refl
got_spots (x ∷ xs) (suc n) r h = got_spots xs n r (omega arith)

pub cast_push : (spots : List Spots) (done all : List Casts) (x : Casts) (n : ℕ) (s r : Spots) → length done ≡ n → n < length spots → Cast spots done → s ≡ get_or spots n r
    → ((q : ℕ) → get nat_eq x.words q ≡ first_of q s.list.items) → all ≡ done ++ x ∷ [] → Cast spots all
cast_push spots done all x n s r l h d e g a =
    let y : CastAt (Some x) (slice_get spots n) = subst (λ o. CastAt (Some x) o) (sym (got_spots spots n r h ∙ ap Some (sym e))) g in
    subst (Cast spots) (sym a) (push_each (λ k o. CastAt o (slice_get spots k)) done x d (subst (λ k. CastAt (Some x) (slice_get spots k)) (sym l) y))

pub homed_push : (rows : List TypeRow) (o : Ordered rows) (seen : List Spots) (done all : List Offsets) (x : Offsets) (n : ℕ) (s r : Spots) (list : List Spot) → length done ≡ n → n < length rows → length seen ≡ length rows
    → Spotted rows seen → Homed rows done → s ≡ get_or seen n r → list ≡ s.list.items
    → ((q : ℕ) → get nat_eq x.bytes q ≡ offset_in rows list q) → all ≡ done ++ x ∷ [] → Homed rows all
homed_push rows o seen done all x n s r list l h m w d e f g a =
    let b : n < length seen = omega arith in
    let y : list ≡ spots (tree_of rows n) = f ∙ ap (λ z. z.list.items) e ∙ list_at seen n r (tree_of rows n) b (w n b) in
    let z : HomedAt (Some x) (tree_of rows n) = λ q. g q ∙ ap (λ t. offset_in rows t q) y ∙ offset_is rows o n q in
    subst (Homed rows) (sym a) (push_each (λ k v. HomedAt v (tree_of rows k)) done x d (subst (λ k. HomedAt (Some x) (tree_of rows k)) (sym l) z))

-- the types seen stand before
pub within_more : (n m : ℕ) (l : List Spot) → n ≤ m → Within n l → Within m l
within_more n m [] h w = tt
within_more n m (s ∷ ss) h w = (omega arith, within_more n m ss h w.1)

pub within_append : (n : ℕ) (a b : List Spot) → Within n a → Within n b → Within n (a ++ b)
within_append n [] b h g = g
within_append n (s ∷ ss) b h g = (h.0, within_append n ss b h.1 g)

pub within_lowered : (n k : ℕ) (l : List Spot) → Within n l → Within n (lowered k l)
within_lowered n k [] h = tt
within_lowered n k (s ∷ ss) h = (h.0, within_lowered n k ss h.1)

within_list : (f : ℕ → Tree) (p : Turn) (b k : ℕ) (ss : List ℕ) → EachLower (λ n. n) k ss → ((s : ℕ) → s < k → Within k (spots (f s))) → Within k (spots_in p b (trees_by f ss))
within_list f p b k [] e again = tt
within_list f p b k (s ∷ ss) e again = within_append k (lowered (at (merged_at p (is_up (f s))) b) (spots (f s)))
    (spots_in (next p (topped (f s))) (b + room (merged_at p (is_up (f s))) (span (f s))) (trees_by f ss))
    (within_lowered k (at (merged_at p (is_up (f s))) b) (spots (f s)) (again s e.0))
    (within_list f (next p (topped (f s))) (b + room (merged_at p (is_up (f s))) (span (f s))) k ss e.1 again)

pub within_grow : (rows : List TypeRow) → Ordered rows → (h n : ℕ) → n ≤ h → Within (suc n) (spots (grow (graph_of rows) h n))
within_grow rows o zero n l = (omega arith, tt)
within_grow rows o (suc h) n l = (
  omega arith,
  within_more n (suc n) (spots_in First 0 (trees_by (grow (graph_of rows) h) (supers_in (slice_get rows n)))) (omega arith)
      (within_list (grow (graph_of rows) h) First 0 n (supers_in (slice_get rows n)) (o n)
      (λ s k. within_more (suc s) n (spots (grow (graph_of rows) h s)) (omega arith) (within_grow rows o h s (omega arith)))),
)

pub within_rows : (rows : List TypeRow) (o : Ordered rows) (seen : List Spots) (n : ℕ) (s r : Spots) (list : List Spot) → n < length rows → length seen ≡ length rows → Spotted rows seen
    → s ≡ get_or seen n r → list ≡ s.list.items → Within (length rows) list
within_rows rows o seen n s r list h m w e f =
    let b : n < length seen = omega arith in
    let y : list ≡ spots (tree_of rows n) = f ∙ ap (λ z. z.list.items) e ∙ list_at seen n r (tree_of rows n) b (w n b) in
    subst (Within (length rows)) (sym y) (within_more (suc n) (length rows) (spots (tree_of rows n)) (omega arith) (within_grow rows o n n (le_refl n)))

own_few : (rows : List TypeRow) (n : ℕ) → length (own_in (slice_get rows n)) ≤ plain_depth (tree_of rows n)
own_few rows zero = omega arith
own_few rows (suc n) = omega arith

own_got : (rows : List TypeRow) (n : ℕ) (r : TypeRow) → n < length rows → own_in (slice_get rows n) ≡ (get_or rows n r).own
own_got [] n r h = absurd (omega arith)
own_got (x ∷ xs) zero r h = refl
own_got (x ∷ xs) (suc n) r h = own_got xs n r (omega arith)

pub own_short : (rows : List TypeRow) (n : ℕ) (r : TypeRow) → n < length rows → Shallow rows → length (get_or rows n r).own ≤ 250
own_short rows n r h few = let a : length (own_in (slice_get rows n)) ≤ plain_depth (tree_of rows n) = own_few rows n in let b : plain_depth (tree_of rows n) ≤ 250 = few n in
    let e : length (own_in (slice_get rows n)) ≡ length (get_or rows n r).own = ap length (own_got rows n r h) in omega arith
