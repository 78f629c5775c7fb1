-- The rows of classes, one after another.
use Rattle.std.proofs.Common.{◌≡◌, ℕ, zero, suc, ◌+◌, ◌<◌, ◌≤◌, ◌↔◌, List, [], ◌∷◌, ◌++◌, map, length, get_or, take, Bool, true, false, nat_eq, cond, refl, sym, ap, ◌∙◌, subst, ◌⊎◌, inl, inr, arith, Option, Some, None, IsTrue}
use Rattle.std.proofs.lemmas.Bool.{cases_Bool, eqb-true}
use Rattle.std.specs.List.{Contains}
use Rattle.std.specs.List.Sorted.{IsPermutation}
use Rattle.std.specs.Prelude.{slice_get, option_map, option_and_then, IsSome, ◌||◌}
use Rattle.th_type.specs.Closure.{Distinct}
use Rattle.th_type.specs.Lists.{IsIn, is_in}
use Rattle.th_type.specs.Ordering.{SupersFirst}
use Rattle.th_type.specs.Types.{TypeExpr}
use Rattle.th_type.specs.Declarations.{DeclaredType}
use Rattle.th_views.specs.declared.ClassRow.{ClassRow}
use Rattle.th_views.specs.Lookups.{index_of, class_numbers}
use Rattle.th_shape.specs.declared.class_rows.ClassResults.{ClassResults}
use Rattle.th_views.specs.declared.ClassShape.{ClassShape}
use Rattle.th_views.specs.Shapes.{Shape, shape_of, names_of, find_shape, base_name, IsLine, HasLines}
use Rattle.th_shape.specs.Placed.{place_by, place_in, IsClassRow, IsRowOf, ClassRows}
use Rattle.th_shape.specs.Order.{up_at, Closed, IsOrder}
use Rattle.th_shape.specs.Lines.{Extends, sig_result, arrival, named_by}
use Rattle.th_shape.specs.Built.{ups_in, names_at, name_in, shape_at, base_at, Ready, HasResults, ResultsAt, UpResults, ResultsBuilt, ClassBuilt, RowBuilt, ClassesBuilt, ExtendsBase}
use Rattle.th_shape.proofs.Partial.{DoneAt, AllDone, RowsSoFar}
use Rattle.th_shape.proofs.Chaining.{get_map, got_in, index_first, index_got}
use Rattle.th_shape.proofs.Headed.{head_named}
use Rattle.th_shape.proofs.Lining.{place_base, find_index, found_self, get_up, within_some, some_within, many_map, line_at, same_place, same_base}

-- a member of the first ones stands there
taken_at : (l : List ℕ) (k n : ℕ) → is_in n (take k l) ≡ true → (j : ℕ) × (j < k) × (slice_get l j ≡ Some n)
taken_at l zero n e = absurd (cc)
taken_at [] (suc k) n e = absurd (cc)
taken_at (x ∷ xs) (suc k) n e = by (cases_Bool (nat_eq n x)) (taken_at xs k n)
  where
    by : (nat_eq n x ≡ true) ⊎ (nat_eq n x ≡ false) → (is_in n (take k xs) ≡ true → (j : ℕ) × (j < k) × (slice_get xs j ≡ Some n)) → (j : ℕ) × (j < suc k) × (slice_get (x ∷ xs) j ≡ Some n)
    by (inl t) again = (0, omega arith, ap Some (sym (eqb-true n x t)))
    by (inr f) again = let r = again (rw f at e) in (suc r.0, (let h : r.0 < k = r.1 in omega arith), r.2)

in_at : (l : List ℕ) (n : ℕ) → is_in n l ≡ true → (j : ℕ) × (slice_get l j ≡ Some n)
in_at [] n e = absurd (cc)
in_at (x ∷ xs) n e = by (cases_Bool (nat_eq n x)) (in_at xs n)
  where
    by : (nat_eq n x ≡ true) ⊎ (nat_eq n x ≡ false) → (is_in n xs ≡ true → (j : ℕ) × (slice_get xs j ≡ Some n)) → (j : ℕ) × (slice_get (x ∷ xs) j ≡ Some n)
    by (inl t) again = (0, ap Some (sym (eqb-true n x t)))
    by (inr f) again = let r = again (rw f at e) in (suc r.0, r.1)

pub got_or : (l : List ℕ) (k d : ℕ) → k < length l → slice_get l k ≡ Some (get_or l k d)
got_or [] k d h = absurd (omega arith)
got_or (x ∷ xs) zero d h = refl
got_or (x ∷ xs) (suc k) d h = got_or xs k d (omega arith)

pub shape_got : (cs : List ClassShape) (k : ℕ) (c d : ClassShape) → k < length cs → c ≡ get_or cs k d → slice_get (map shape_of cs) k ≡ Some (shape_of c)
shape_got [] k c d h e = absurd (omega arith)
shape_got (x ∷ xs) zero c d h e = ap (λ v. Some (shape_of v)) (sym e)
shape_got (x ∷ xs) (suc k) c d h e = shape_got xs k c d (omega arith) e

module _ (D : List DeclaredType) (types : List ℕ) (f : ℕ → Option ℕ) (S : List Shape) (order : List ℕ) (g : ℕ → Option ℕ) (r : Ready D types f S order g) where
  pub order_many : length order ≡ length S
  order_many = r.ordered.many ∙ many_map (λ s. option_and_then (place_by (λ q. index_of q (names_of S))) s.inherits) S

  pub order_within : (k : ℕ) → k < length order → get_or order k 0 < length S
  order_within k h =
      let w : get_or order k 0 < length (ups_in (λ q. index_of q (names_of S)) S) = r.ordered.within k (get_or order k 0) (got_or order k 0 h) in
      let m : length (ups_in (λ q. index_of q (names_of S)) S) ≡ length S = many_map (λ s. option_and_then (place_by (λ q. index_of q (names_of S))) s.inherits) S in omega arith

  -- the class at a place of the order
  pub at_place : (j p : ℕ) → slice_get order j ≡ Some p → (b : Shape) × (slice_get S p ≡ Some b)
  at_place j p e =
      let w : p < length (ups_in (λ q. index_of q (names_of S)) S) = r.ordered.within j p e in
      let m : length (ups_in (λ q. index_of q (names_of S)) S) ≡ length S = many_map (λ s. option_and_then (place_by (λ q. index_of q (names_of S))) s.inherits) S in within_some S p (omega arith)

  pub name_got : (j p : ℕ) (b : Shape) → slice_get order j ≡ Some p → slice_get S p ≡ Some b → slice_get (names_at S order) j ≡ Some b.name
  name_got j p b e h = get_map (λ k. name_in (slice_get S k)) order j ∙ ap (option_map (λ k. name_in (slice_get S k))) e ∙ ap (λ o. Some (name_in o)) h

  -- a number of the names is that of a class
  name_at : (j n : ℕ) → slice_get (names_at S order) j ≡ Some n → (b : Shape) × (shape_at S (slice_get order j) ≡ Some b) × (b.name ≡ n)
  name_at j n e = by (slice_get order j) refl (sym (get_map (λ k. name_in (slice_get S k)) order j) ∙ e)
    where
      by : (o : Option ℕ) → slice_get order j ≡ o → option_map (λ k. name_in (slice_get S k)) o ≡ Some n → (b : Shape) × (shape_at S o ≡ Some b) × (b.name ≡ n)
      by None q h = absurd (cc (h))
      by (Some p) q h = let b = at_place j p q in (b.0, b.1, (let z : name_in (slice_get S p) ≡ n = cc (h) in ap name_in (sym b.1) ∙ z))

  -- each class has its place in the order
  pub placed_name : (p : ℕ) (b : Shape) → slice_get S p ≡ Some b → (j : ℕ) × (slice_get order j ≡ Some p) × ((i : ℕ) × (g b.name ≡ Some i))
  placed_name p b e =
      let w : p < length S = some_within S p b e in
      let m : length (ups_in (λ q. index_of q (names_of S)) S) ≡ length S = many_map (λ s. option_and_then (place_by (λ q. index_of q (names_of S))) s.inherits) S in
      let j = in_at order p (r.ordered.all p (omega arith)) in
      let i = index_first (names_at S order) b.name j.0 (name_got j.0 p b j.1 e) in
      (j.0, j.1, (i.0, r.class_places b.name ∙ i.1))

  -- the class that is inherited stands before
  pub base_before : (k p j : ℕ) (s : Shape) → slice_get order k ≡ Some p → slice_get S p ≡ Some s → option_and_then (place_by g) s.inherits ≡ Some j
      → (j < k) × ((b : Shape) × (shape_at S (slice_get order j) ≡ Some b) × (base_name s ≡ Some b.name))
  base_before k p j s e h q = by (base_name s) refl (sym (place_base g s) ∙ q)
    where
      by : (o : Option ℕ) → base_name s ≡ o → option_and_then g o ≡ Some j → (j < k) × ((b : Shape) × (shape_at S (slice_get order j) ≡ Some b) × (base_name s ≡ Some b.name))
      by None a u = absurd (cc (u))
      by (Some n) a u =
          let here = name_at j n (index_got (names_at S order) n j (sym (r.class_places n) ∙ u)) in
          let spot = found here.0 here.1 here.2 in
          let up : up_at (ups_in (λ q. index_of q (names_of S)) S) p ≡ Some spot.0 = get_up (λ q. index_of q (names_of S)) S p s h ∙ ap (option_and_then (λ q. index_of q (names_of S))) a ∙ spot.1 in
          let t = taken_at order k spot.0 (r.ordered.closed k p spot.0 e up) in
          let base = at_place t.0 spot.0 t.2 in
          let named : base.0.name ≡ n = name_of_spot spot.0 base.0 spot.1 base.1 in
          let i = index_first (names_at S order) n t.0 (name_got t.0 spot.0 base.0 t.2 base.1 ∙ ap Some named) in
          let same : Some i.0 ≡ Some j = sym i.1 ∙ sym (r.class_places n) ∙ u in
          let eq : i.0 ≡ j = cc in
          let l : i.0 ≤ t.0 = i.2 in let m : t.0 < k = t.1 in
          ((omega arith), (here.0, here.1, a ∙ ap Some (sym here.2)))
        where
          found : (b : Shape) → shape_at S (slice_get order j) ≡ Some b → b.name ≡ n → (i : ℕ) × (index_of n (names_of S) ≡ Some i)
          found b v w = go (slice_get order j) v
            where
              go : (o : Option ℕ) → shape_at S o ≡ Some b → (i : ℕ) × (index_of n (names_of S) ≡ Some i)
              go None v = absurd (cc (v))
              go (Some x) v = let z = index_first (names_of S) n x (get_map (λ y. y.name) S x ∙ ap (option_map (λ y. y.name)) v ∙ ap Some w) in (z.0, z.1)

          name_of_spot : (i : ℕ) (b : Shape) → index_of n (names_of S) ≡ Some i → slice_get S i ≡ Some b → b.name ≡ n
          name_of_spot i b v w = let z : Some b.name ≡ Some n = sym (get_map (λ y. y.name) S i ∙ ap (option_map (λ y. y.name)) w) ∙ index_got (names_of S) n i v in cc

  pub up_results : (k p : ℕ) (s : Shape) (above : List Shape) (done : List ClassResults) → slice_get order k ≡ Some p → slice_get S p ≡ Some s → length done ≡ k → AllDone D S order done
      → IsLine S (base_name s) above → UpResults D done (option_and_then (place_by g) s.inherits) above
  up_results k p s above done e h m d l = by (option_and_then (place_by g) s.inherits) refl
    where
      empty : (o : Option ℕ) (m : List Shape) → base_name s ≡ o → option_and_then (place_by g) s.inherits ≡ None → IsLine S o m → m ≡ []
      empty None [] a b i = refl
      empty None (x ∷ xs) a b i = absurd i
      empty (Some n) [] a b i = absurd i
      empty (Some n) (x ∷ xs) a b i =
          let q = find_index S n x i.0 in
          let w = placed_name q.0 x q.2 in
          let z : option_and_then (place_by g) s.inherits ≡ Some w.2.0 = place_base g s ∙ ap (option_and_then g) a ∙ ap g (sym q.3) ∙ w.2.1 in absurd (cc (b, z))

      results : (j : ℕ) (b : Shape) (m : List Shape) → shape_at S (slice_get order j) ≡ Some b → IsLine S (Some b.name) m → (x : ClassResults) → DoneAt D S (slice_get order j) x → HasResults D m x
      results j b [] v i x y = absurd i
      results j b (c ∷ cs) v i x y =
          let same : y.0 ≡ b = cc (y.1, v) in
          let first : c ≡ b = one (slice_get order j) v in
          let line : IsLine S (base_name y.0) cs = subst (λ z. IsLine S (base_name z) cs) (first ∙ sym same) i.1 in
          subst (λ z. HasResults D (z ∷ cs) x) (same ∙ sym first) (y.2.fits cs line)
        where
          one : (o : Option ℕ) → shape_at S o ≡ Some b → c ≡ b
          one None v = absurd (cc (v))
          one (Some z) v = cc (i.0, found_self S z b r.differ v)

      got : (j : ℕ) (b : Shape) → shape_at S (slice_get order j) ≡ Some b → base_name s ≡ Some b.name → (o : Option ClassResults) → slice_get done j ≡ o → j < length done → ResultsAt D above o
      got j b v a None q w = let z = within_some done j w in absurd (cc (q, z.1))
      got j b v a (Some x) q w = results j b above v (subst (λ o. IsLine S o above) a l) x (d j x q)

      by : (o : Option ℕ) → option_and_then (place_by g) s.inherits ≡ o → UpResults D done o above
      by None q = empty (base_name s) above refl q l
      by (Some j) q = let b = base_before k p j s e h q in let w : j < length done = (let z : j < k = b.0 in omega arith) in got j b.1.0 b.1.1 b.1.2 (slice_get done j) refl w

  -- what the class that is inherited is, in the order and in the line
  pub base_line : (k p : ℕ) (s : Shape) (above : List Shape) → slice_get order k ≡ Some p → slice_get S p ≡ Some s → IsLine S (base_name s) above
      → ExtendsBase D s (base_at S order (option_and_then (place_by g) s.inherits)) ↔ Extends D s above
  base_line k p s above e h l = by (option_and_then (place_by g) s.inherits) refl above l
    where
      none : (o : Option ℕ) (m : List Shape) → base_name s ≡ o → option_and_then (place_by g) s.inherits ≡ None → IsLine S o m → ⊥ ↔ Extends D s m
      none None [] a b i = ((λ x. x), (λ x. x))
      none None (x ∷ xs) a b i = absurd i
      none (Some n) [] a b i = absurd i
      none (Some n) (x ∷ xs) a b i =
          let q = find_index S n x i.0 in
          let w = placed_name q.0 x q.2 in
          let z : option_and_then (place_by g) s.inherits ≡ Some w.2.0 = place_base g s ∙ ap (option_and_then g) a ∙ ap g (sym q.3) ∙ w.2.1 in absurd (cc (b, z))

      some : (j : ℕ) (b : Shape) (m : List Shape) → shape_at S (slice_get order j) ≡ Some b → IsLine S (Some b.name) m → ExtendsBase D s (shape_at S (slice_get order j)) ↔ Extends D s m
      some j b [] v i = absurd i
      some j b (c ∷ cs) v i =
          let first : c ≡ b = one (slice_get order j) v in
          subst (λ o. ExtendsBase D s o ↔ Extends D s (c ∷ cs)) (sym v) (subst (λ z. ExtendsBase D s (Some z) ↔ Extends D s (c ∷ cs)) first ((λ x. x), (λ x. x)))
        where
          one : (o : Option ℕ) → shape_at S o ≡ Some b → c ≡ b
          one None v = absurd (cc (v))
          one (Some z) v = cc (i.0, found_self S z b r.differ v)

      by : (o : Option ℕ) → option_and_then (place_by g) s.inherits ≡ o → (m : List Shape) → IsLine S (base_name s) m → ExtendsBase D s (base_at S order o) ↔ Extends D s m
      by None q m i = none (base_name s) m refl q i
      by (Some j) q m i = let b = base_before k p j s e h q in some j b.1.0 m b.1.1 (subst (λ o. IsLine S o m) b.1.2 i)

  -- one more class
  pub done_push : (k p : ℕ) (s : Shape) (done all : List ClassResults) (x : ClassResults) → length done ≡ k → AllDone D S order done → slice_get order k ≡ Some p → slice_get S p ≡ Some s
      → ((above : List Shape) → UpResults D done (option_and_then (place_by g) s.inherits) above → HasResults D (s ∷ above) x) → all ≡ done ++ x ∷ [] → AllDone D S order all
  done_push k p s done all x m d e h t a = subst (AllDone D S order) (sym a) (more done (λ j y. DoneAt D S (slice_get order j) y) d
      (subst (λ j. DoneAt D S (slice_get order j) x) (sym m) (s, ap (shape_at S) e ∙ h, record { fits = λ above l. t above (up_results k p s above done e h m d l) })))
    where
      more : (ds : List ClassResults) (P : ℕ → ClassResults → Type 0) → ((j : ℕ) (y : ClassResults) → slice_get ds j ≡ Some y → P j y) → P (length ds) x → (j : ℕ) (y : ClassResults) → slice_get (ds ++ x ∷ []) j ≡ Some y → P j y
      more [] P h p zero y g = let e : x ≡ y = cc in subst (P 0) e p
      more [] P h p (suc j) y g = absurd (cc)
      more (d ∷ ds) P h p zero y g = h 0 y g
      more (d ∷ ds) P h p (suc j) y g = more ds (λ i. P (suc i)) (λ i z e. h (suc i) z e) p j y g

  pub rows_push : (k p : ℕ) (s : Shape) (rows all : List ClassRow) (done : List ClassResults) (x : ClassResults) (y : ClassRow) → length rows ≡ k → length done ≡ k → AllDone D S order done → RowsSoFar D f g S order rows
      → slice_get order k ≡ Some p → slice_get S p ≡ Some s
      → ((above : List Shape) → UpResults D done (option_and_then (place_by g) s.inherits) above → HasResults D (s ∷ above) x)
      → ClassBuilt D f g s (base_at S order (option_and_then (place_by g) s.inherits)) x y → all ≡ rows ++ y ∷ [] → RowsSoFar D f g S order all
  rows_push k p s rows all done x y m n d q e h t b a = subst (RowsSoFar D f g S order) (sym a) (more rows (λ j z. RowBuilt D f g S order (slice_get order j) z) q
      (subst (λ j. RowBuilt D f g S order (slice_get order j) y) (sym m) (record { shape = s; results = x; here = ap (shape_at S) e ∙ h; row = b; named = record { fits = λ above l. t above (up_results k p s above done e h n d l) } })))
    where
      more : (ds : List ClassRow) (P : ℕ → ClassRow → Type 0) → ((j : ℕ) (z : ClassRow) → slice_get ds j ≡ Some z → P j z) → P (length ds) y → (j : ℕ) (z : ClassRow) → slice_get (ds ++ y ∷ []) j ≡ Some z → P j z
      more [] P h p zero z g = let e : y ≡ z = cc in subst (P 0) e p
      more [] P h p (suc j) z g = absurd (cc)
      more (d ∷ ds) P h p zero z g = h 0 z g
      more (d ∷ ds) P h p (suc j) z g = more ds (λ i. P (suc i)) (λ i v e. h (suc i) v e) p j z g
