-- The numbers of classes in an order, and what the making of rows asks.
use Rattle.std.proofs.Common.{◌≡◌, ◌^◌, ℕ, zero, suc, ◌+◌, ◌<◌, ◌≤◌, List, [], ◌∷◌, ◌++◌, map, length, get_or, take, refl, sym, ap, ◌∙◌, subst, arith, length-append, Option, Some, None}
use Rattle.std.specs.Prelude.{slice_get, option_map, option_and_then, IsSome}
use Rattle.std.specs.HashMap.{get}
use Rattle.th_type.specs.Declarations.{DeclaredType}
use Rattle.th_views.specs.Lookups.{index_of}
use Rattle.th_shape.specs.declared.class_rows.ClassResults.{ClassResults}
use Rattle.th_views.specs.declared.ClassShape.{ClassShape}
use Rattle.th_views.specs.declared.ClassRow.{ClassRow}
use Rattle.th_views.specs.Shapes.{Shape, shape_of, shapes_of, names_of}
use Rattle.th_shape.specs.Order.{IsOrder}
use Rattle.th_shape.specs.Placed.{place_by}
use Rattle.th_shape.specs.Built.{ups_in, names_at, name_in, Ready, UpResults, HasResults, ClassesBuilt}
use Rattle.th_shape.proofs.Partial.{AllDone, RowsSoFar}
use Rattle.th_shape.proofs.Lining.{many_map, same_ups, some_within}
use Rattle.th_shape.proofs.Rowing.{got_or, base_before, order_within}

pub taken_more : (l : List ℕ) (k : ℕ) → k < length l → take (k + 1) l ≡ take k l ++ get_or l k 0 ∷ []
taken_more [] k h = absurd (omega arith)
taken_more (x ∷ xs) zero h = refl
taken_more (x ∷ xs) (suc k) h = same ∙ ap (λ l. x ∷ l) (taken_more xs k (omega arith))
  where
    same : take (suc k + 1) (x ∷ xs) ≡ x ∷ take (k + 1) xs
    same = let e : suc k + 1 ≡ suc (k + 1) = omega arith in ap (λ n. take n (x ∷ xs)) e

taken_all : (l : List ℕ) (k : ℕ) → length l ≤ k → take k l ≡ l
taken_all [] zero h = refl
taken_all [] (suc k) h = refl
taken_all (x ∷ xs) zero h = absurd (omega arith)
taken_all (x ∷ xs) (suc k) h = ap (λ l. x ∷ l) (taken_all xs k (omega arith))

names_append : (S : List Shape) (a b : List ℕ) → names_at S (a ++ b) ≡ names_at S a ++ names_at S b
names_append S [] b = refl
names_append S (x ∷ xs) b = ap (λ l. name_in (slice_get S x) ∷ l) (names_append S xs b)

pub names_more : (S : List Shape) (order : List ℕ) (k : ℕ) (s : Shape) (names more : List ℕ) → k < length order → slice_get S (get_or order k 0) ≡ Some s → names ≡ names_at S (take k order) → more ≡ names ++ s.name ∷ [] → more ≡ names_at S (take (k + 1) order)
names_more S order k s names more h e i g =
    g ∙ ap (λ l. l ++ s.name ∷ []) i ∙ ap (λ n. names_at S (take k order) ++ n ∷ []) (sym (ap name_in e)) ∙ sym (names_append S (take k order) (get_or order k 0 ∷ [])) ∙ ap (names_at S) (sym (taken_more order k h))

pub names_end : (S : List Shape) (order : List ℕ) (k : ℕ) (names : List ℕ) → length order ≤ k → names ≡ names_at S (take k order) → names ≡ names_at S order
names_end S order k names h e = e ∙ ap (names_at S) (taken_all order k h)

pub few_names : (cs : List ClassShape) (names : List ℕ) → names ≡ names_of (shapes_of cs) → length cs < 2 ^ 32 → length names < 2 ^ 32
few_names cs names e h = let a : length names ≡ length cs = ap length e ∙ many_map (λ s. s.name) (shapes_of cs) ∙ many_map shape_of cs in subst (λ n. n < 2 ^ 32) (sym a) h

pub few_ups : (cs : List ClassShape) (f : ℕ → Option ℕ) (ups : List (Option ℕ)) → ups ≡ ups_in f (shapes_of cs) → length cs < 2 ^ 32 → length ups < 2 ^ 32
few_ups cs f ups e h = let a : length ups ≡ length cs = ap length e ∙ many_map (λ s. option_and_then (place_by f) s.inherits) (shapes_of cs) ∙ many_map shape_of cs in subst (λ n. n < 2 ^ 32) (sym a) h

-- the places of inherited classes, by the numbers of the classes
pub ups_are : (cs : List ClassShape) (f g : ℕ → Option ℕ) (names slice : List ℕ) (ups : List (Option ℕ)) → names ≡ names_of (shapes_of cs) → slice ≡ names → ((q : ℕ) → f q ≡ index_of q slice) → ups ≡ ups_in f (shapes_of cs)
    → ups ≡ ups_in (λ q. index_of q (names_of (shapes_of cs))) (shapes_of cs)
ups_are cs f g names slice ups e d p u = u ∙ same_ups f (λ q. index_of q (names_of (shapes_of cs))) (λ q. p q ∙ ap (index_of q) (d ∙ e)) (shapes_of cs)

pub order_in : (cs : List ClassShape) (order : List ℕ) → ((k : ℕ) → k < length order → get_or order k 0 < length (shapes_of cs)) → (k : ℕ) → k < length order → get_or order k 0 < length cs
order_in cs order w k h = let m : length (shapes_of cs) ≡ length cs = many_map shape_of cs in subst (λ n. get_or order k 0 < n) m (w k h)

module _ (D : List DeclaredType) (types : List ℕ) (f : ℕ → Option ℕ) (S : List Shape) (order : List ℕ) (g : ℕ → Option ℕ) (r : Ready D types f S order g) where
  pub up_done : (k : ℕ) (s : Shape) (up : Option ℕ) (done : List ClassResults) → k < length order → slice_get S (get_or order k 0) ≡ Some s → up ≡ option_and_then (place_by g) s.inherits → length done ≡ k
      → (j : ℕ) → up ≡ Some j → j < length done
  up_done k s up done h e u m j q =
      let b = base_before D types f S order g r k (get_or order k 0) j s (got_or order k 0 h) e (sym u ∙ q) in
      subst (λ n. j < n) (sym m) b.0

  pub up_placed : (k : ℕ) (s : Shape) → k < length order → slice_get S (get_or order k 0) ≡ Some s → (j : ℕ) → option_and_then (place_by g) s.inherits ≡ Some j → j < length order
  up_placed k s h e j q =
      let b = base_before D types f S order g r k (get_or order k 0) j s (got_or order k 0 h) e q in
      let z : j < k = b.0 in omega arith

  pub row_typed : (k : ℕ) (s : Shape) → slice_get S (get_or order k 0) ≡ Some s → IsSome (place_by f s.of)
  row_typed k s e = r.typed (get_or order k 0) s e

  pub results_by : (s : Shape) (up : Option ℕ) (slice done : List ClassResults) (x : ClassResults) → slice ≡ done → up ≡ option_and_then (place_by g) s.inherits → ((above : List Shape) → UpResults D slice up above → HasResults D (s ∷ above) x)
      → (above : List Shape) → UpResults D done (option_and_then (place_by g) s.inherits) above → HasResults D (s ∷ above) x
  results_by s up slice done x e u h above q = h above (subst (λ l. UpResults D l up above) (sym e) (subst (λ o. UpResults D done o above) (sym u) q))

  pub done_start : (done : List ClassResults) → done ≡ [] → AllDone D S order done
  done_start done e = subst (AllDone D S order) (sym e) (λ k x q. absurd (cc (q)))

  pub built_start : (rows : List ClassRow) → rows ≡ [] → RowsSoFar D f g S order rows
  built_start rows e = subst (RowsSoFar D f g S order) (sym e) (λ k x q. absurd (cc (q)))

  pub built_end : (rows : List ClassRow) (k : ℕ) → length rows ≡ k → k ≤ length order → length order ≤ k → RowsSoFar D f g S order rows → ClassesBuilt D f g S order rows
  built_end rows k m a b h = record { many = (omega arith); each = h }

pub one_more : {A : Type 0} (done all : List A) (x : A) (n : ℕ) → length done ≡ n → all ≡ done ++ x ∷ [] → length all ≡ n + 1
one_more done all x n l e = let k : length all ≡ length (done ++ x ∷ []) = ap length e in let m : length (done ++ x ∷ []) ≡ length done + 1 = length-append done (x ∷ []) in omega arith

ups_many : (cs : List ClassShape) → length (ups_in (λ q. index_of q (names_of (shapes_of cs))) (shapes_of cs)) ≡ length cs
ups_many cs = many_map (λ s. option_and_then (place_by (λ q. index_of q (names_of (shapes_of cs)))) s.inherits) (shapes_of cs) ∙ many_map shape_of cs

pub order_in_by : (cs : List ClassShape) (slice order : List ℕ) → slice ≡ order → IsOrder (ups_in (λ q. index_of q (names_of (shapes_of cs))) (shapes_of cs)) order → (k : ℕ) → k < length slice → get_or slice k 0 < length cs
order_in_by cs slice order e o = subst (λ l. (k : ℕ) → k < length l → get_or l k 0 < length cs) (sym e) (λ k h. subst (λ n. get_or order k 0 < n) (ups_many cs) (o.within k (get_or order k 0) (got_or order k 0 h)))

pub few_order : (cs : List ClassShape) (order slice names : List ℕ) → slice ≡ order → IsOrder (ups_in (λ q. index_of q (names_of (shapes_of cs))) (shapes_of cs)) order → names ≡ names_at (shapes_of cs) slice → length cs < 2 ^ 32 → length names < 2 ^ 32
few_order cs order slice names e o n h =
    let a : length names ≡ length cs = ap length n ∙ many_map (λ k. name_in (slice_get (shapes_of cs) k)) slice ∙ ap length e ∙ o.many ∙ ups_many cs in subst (λ m. m < 2 ^ 32) (sym a) h
