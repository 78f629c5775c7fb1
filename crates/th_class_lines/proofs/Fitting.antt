-- Classes of which a layout can be made.
use Rattle.std.proofs.Common.{Equal, ◌≡◌, ℕ, zero, suc, ◌+◌, ◌<◌, ◌≤◌, List, [], ◌∷◌, map, length, get_or, take, drop, refl, sym, ap, ◌∙◌, subst, ◌⊎◌, inl, inr, arith, Option, Some, None}
use Rattle.std.specs.Prelude.{slice_get, IsTrue, IfOk, Result, Ok, Err, is_ok}
use Rattle.std.specs.List.{Contains, HoldsAt}
use Rattle.std.specs.List.Sorted.{IsPermutation, IsSearchInRange}
use Rattle.std.specs.Ordering.{nat_cmp}
use Rattle.std.proofs.lemmas.List.Elements.{Contains-from_at}
use Rattle.std.proofs.lemmas.List.Sorted.{Contains-permutation, IsPermutation-sym}
use Rattle.std.proofs.lemmas.Map.Lookups.{exact_unsigned}
use Rattle.th_type.specs.Closure.{Distinct}
use Rattle.th_type.specs.Declarations.{DeclaredType}
use Rattle.th_type.specs.Lists.{IsIn}
use Rattle.th_type.specs.Subtypes.{head_of}
use Rattle.th_views.specs.declared.ClassShape.{ClassShape}
use Rattle.th_views.specs.Lookups.{index_of}
use Rattle.th_views.specs.Shapes.{Shape, shape_of, shapes_of, names_of, find_shape, base_name, IsLine, HasLines, IsTyped}
use Rattle.th_shape.proofs.Chaining.{index_got}
use Rattle.th_shape.proofs.Lining.{found_self, many_map}
use Rattle.th_class_lines.specs.Fit.{AreFit, DeclaredIn, LowerIn, FitAt}

-- what holds of the first places
lt_or_le : (i n : ℕ) → (i < n) ⊎ (n ≤ i)
lt_or_le i zero = inr (omega arith)
lt_or_le zero (suc n) = inl (omega arith)
lt_or_le (suc i) (suc n) = step (lt_or_le i n)
  where
    step : (i < n) ⊎ (n ≤ i) → (suc i < suc n) ⊎ (suc n ≤ suc i)
    step (inl h) = inl (omega arith)
    step (inr h) = inr (omega arith)

pub below_more : (P : ℕ → Type 0) (k : ℕ) → ((n : ℕ) → n < k → P n) → P k → (n : ℕ) → n < k + 1 → P n
below_more P k f p n h = by (lt_or_le n k)
  where
    by : (n < k) ⊎ (k ≤ n) → P n
    by (inl a) = f n a
    by (inr b) = let z : k ≡ n = omega arith in subst P z p

pub below_end : (P : ℕ → Type 0) (k m : ℕ) → m ≤ k → ((n : ℕ) → n < k → P n) → (n : ℕ) → n < m → P n
below_end P k m h f n w = f n (omega arith)

-- what a search finds among the numbers of declared types
pub declared_by : (names heads : List ℕ) (x : ℕ) (r : Result ℕ ℕ) → IsPermutation names heads → IsSearchInRange r (length heads) → IfOk r (HoldsAt (λ y. nat_cmp y x ≡ Equal) heads) → IsTrue (is_ok r) → Contains names x
declared_by names heads x (Ok i) p b h t = Contains-permutation heads names x (IsPermutation-sym names heads p) (Contains-from_at heads x (i, b, λ d. exact_unsigned _ x (h d)))
declared_by names heads x (Err i) p b h t = absurd (cc)

-- the class at a place
pub shape_got : (l : List ClassShape) (k : ℕ) (d x : ClassShape) → k < length l → x ≡ get_or l k d → slice_get (shapes_of l) k ≡ Some (shape_of x)
shape_got [] k d x h e = absurd (omega arith)
shape_got (y ∷ ys) zero d x h e = ap (λ z. Some (shape_of z)) (sym e)
shape_got (y ∷ ys) (suc k) d x h e = shape_got ys k d x (omega arith) e

pub fit_made : (D : List DeclaredType) (S : List Shape) (ranks : List ℕ) (k : ℕ) (x : Shape) → slice_get S k ≡ Some x → DeclaredIn D (head_of x.of) → index_of x.name (names_of S) ≡ Some k → LowerIn S ranks k (base_name x)
    → FitAt D S ranks k
fit_made D S ranks k x got t f i =
    record {
      typed = λ s g. let z : x ≡ s = cc in subst (λ v. DeclaredIn D (head_of v.of)) z t;
      first = λ s g. let z : x ≡ s = cc in subst (λ v. index_of v.name (names_of S) ≡ Some k) z f;
      inherits = λ s g. let z : x ≡ s = cc in subst (λ v. LowerIn S ranks k (base_name v)) z i;
    }

in_shapes : (l : List Shape) (s : Shape) → IsIn s l → (k : ℕ) × (k < length l) × (slice_get l k ≡ Some s)
in_shapes [] s h = absurd h
in_shapes (x ∷ xs) s (inl e) = (0, omega arith, ap Some (sym e))
in_shapes (x ∷ xs) s (inr h) = let r = in_shapes xs s h in let l : r.0 < length xs = r.1 in (suc r.0, omega arith, r.2)

at_number : (l : List ℕ) (n : ℕ) → IsIn n l → (k : ℕ) × (k < length l) × (slice_get l k ≡ Some n)
at_number [] n h = absurd h
at_number (x ∷ xs) n (inl e) = (0, omega arith, ap Some (sym e))
at_number (x ∷ xs) n (inr h) = let r = at_number xs n h in let l : r.0 < length xs = r.1 in (suc r.0, omega arith, r.2)

shape_named : (S : List Shape) (k n : ℕ) → slice_get (names_of S) k ≡ Some n → (s : Shape) × (slice_get S k ≡ Some s) × (s.name ≡ n)
shape_named [] k n h = cc
shape_named (x ∷ xs) zero n h = let e : Some x.name ≡ Some n = h in (x, refl, cc)
shape_named (x ∷ xs) (suc k) n h = shape_named xs k n h

declared_got : (D : List DeclaredType) (n : ℕ) → Contains (map (λ d. d.name) D) n → (d : DeclaredType) × IsIn d D × (Some n ≡ Some d.name)
declared_got [] n c = let h : c.0 < 0 = c.1 in absurd (omega arith)
declared_got (x ∷ xs) n c = by c.0 c.1 c.2 (declared_got xs n)
  where
    by : (k : ℕ) → k < length (map (λ d. d.name) (x ∷ xs)) → get_or (map (λ d. d.name) (x ∷ xs)) k n ≡ n → (Contains (map (λ d. d.name) xs) n → (d : DeclaredType) × IsIn d xs × (Some n ≡ Some d.name))
        → (d : DeclaredType) × IsIn d (x ∷ xs) × (Some n ≡ Some d.name)
    by zero h e again = (x, inl refl, ap Some (sym e))
    by (suc k) h e again = let r = again (k, omega arith, e) in (r.0, inr r.1, r.2)

-- numbers each of which is the first of its kind differ
distinct_by : (ns : List ℕ) → ((i j n : ℕ) → slice_get ns i ≡ Some n → slice_get ns j ≡ Some n → i ≡ j) → Distinct ns
distinct_by [] f = tt
distinct_by (n ∷ ns) f = (λ h. alone (at_number ns n h), distinct_by ns (λ i j m a b. let e : suc i ≡ suc j = f (suc i) (suc j) m a b in omega arith))
  where
    alone : (j : ℕ) × (j < length ns) × (slice_get ns j ≡ Some n) → ⊥
    alone r = let e : 0 ≡ suc r.0 = f 0 (suc r.0) n refl r.2 in absurd (omega arith)

within : (ns : List ℕ) (k n : ℕ) → slice_get ns k ≡ Some n → k < length ns
within [] k n h = cc
within (x ∷ xs) zero n h = omega arith
within (x ∷ xs) (suc k) n h = let l : k < length xs = within xs k n h in omega arith

module _ (D : List DeclaredType) (S : List Shape) (ranks : List ℕ) (all : (k : ℕ) → k < length S → FitAt D S ranks k) where
  named_at : (i n : ℕ) → slice_get (names_of S) i ≡ Some n → index_of n (names_of S) ≡ Some i
  named_at i n h =
      let s = shape_named S i n h in
      let l : i < length (names_of S) = within (names_of S) i n h in
      let m : length (names_of S) ≡ length S = many_map (λ x. x.name) S in
      subst (λ q. index_of q (names_of S) ≡ Some i) s.2 ((all i (omega arith)).first s.0 s.1)

  differ : Distinct (names_of S)
  differ = distinct_by (names_of S) (λ i j n a b. let e : Some i ≡ Some j = sym (named_at i n a) ∙ named_at j n b in cc)

  all_typed : IsTyped D S
  all_typed s h = let r = in_shapes S s h in by (head_of s.of) refl ((all r.0 r.1).typed s r.2)
    where
      by : (o : Option ℕ) → head_of s.of ≡ o → DeclaredIn D o → (d : DeclaredType) × IsIn d D × (head_of s.of ≡ Some d.name)
      by None e c = absurd c
      by (Some n) e c = let r = declared_got D n c in (r.0, r.1, e ∙ r.2)

  line_from : (h k : ℕ) (s : Shape) → get_or ranks k 0 < h → k < length S → slice_get S k ≡ Some s → (l : List Shape) × IsLine S (Some s.name) l
  line_from zero k s w m e = absurd (omega arith)
  line_from (suc h) k s w m e = by (base_name s) refl ((all k m).inherits s e) (λ j b l n g. line_from h j b (omega arith) n g)
    where
      here : find_shape S s.name ≡ Some s
      here = found_self S k s differ e

      by : (o : Option ℕ) → base_name s ≡ o → LowerIn S ranks k o → ((j : ℕ) (b : Shape) → get_or ranks j 0 < get_or ranks k 0 → j < length S → slice_get S j ≡ Some b → (l : List Shape) × IsLine S (Some b.name) l)
          → (l : List Shape) × IsLine S (Some s.name) l
      by None q c again = (s ∷ [], (here, subst (λ o. IsLine S o []) (sym q) tt))
      by (Some n) q c again =
          let got : slice_get (names_of S) c.0 ≡ Some n = index_got (names_of S) n c.0 c.1 in
          let b = shape_named S c.0 n got in
          let l : c.0 < length (names_of S) = within (names_of S) c.0 n got in
          let m : length (names_of S) ≡ length S = many_map (λ x. x.name) S in
          let r = again c.0 b.0 c.2 (omega arith) b.1 in
          (s ∷ r.0, (here, subst (λ o. IsLine S o r.0) (ap Some b.2 ∙ sym q) r.1))

  all_lines : HasLines S
  all_lines s h = let r = in_shapes S s h in line_from (suc (get_or ranks r.0 0)) r.0 s (omega arith) r.1 r.2

  fit : AreFit D S
  fit = record { names = differ; typed = all_typed; lines = all_lines }

-- classes each of which is fit are fit
pub are_fit : (D : List DeclaredType) (l : List ClassShape) (ranks : List ℕ) → ((k : ℕ) → k < length l → FitAt D (shapes_of l) ranks k) → AreFit D (shapes_of l)
are_fit D l ranks all = fit D (shapes_of l) ranks (λ k h. all k (let m : length (shapes_of l) ≡ length l = many_map shape_of l in omega arith))
