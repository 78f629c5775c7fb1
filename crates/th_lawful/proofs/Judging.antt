-- Classes of which a layout can be made, and the numbers of its classes.
use Rattle.std.proofs.Common.{Equal, ◌≡◌, ℕ, zero, suc, ◌+◌, ◌-◌, ◌<◌, ◌≤◌, List, [], ◌∷◌, map, length, get_or, refl, sym, ap, ◌∙◌, subst, ◌⊎◌, inl, inr, arith, Option, Some, None}
use Rattle.std.specs.Prelude.{slice_get, IsSome, IsTrue, IfOk, Result, Ok, Err, is_ok}
use Rattle.std.specs.List.{Contains, HoldsAt}
use Rattle.std.specs.List.Sorted.{IsPermutation, IsSearchInRange}
use Rattle.std.specs.Ordering.{nat_cmp}
use Rattle.std.proofs.lemmas.List.Elements.{Contains-from_at}
use Rattle.std.proofs.lemmas.List.Sorted.{Contains-permutation, IsPermutation-sym}
use Rattle.std.proofs.lemmas.Map.Lookups.{exact_unsigned}
use Rattle.th_type.specs.Closure.{Distinct}
use Rattle.th_type.specs.Declarations.{DeclaredType}
use Rattle.th_type.specs.Lists.{IsIn}
use Rattle.th_type.specs.Subtypes.{head_of}
use Rattle.th_views.specs.declared.ClassShape.{ClassShape}
use Rattle.th_views.specs.Lookups.{class_numbers, class_place}
use Rattle.th_views.specs.Rows.{Program}
use Rattle.th_views.specs.Shapes.{Shape, shape_of, shapes_of, names_of, find_shape, base_name, IsLine, HasLines, IsTyped}
use Rattle.th_shape.specs.Placed.{IsProgramOf}
use Rattle.th_shape.proofs.Chaining.{index_first}
use Rattle.th_shape.proofs.Lining.{found_self, many_map}
use Rattle.th_shape.proofs.Marking.{contains_got}
use Rattle.th_table.specs.Shown.{AllOfLayout}
use Rattle.th_lawful.specs.Lawful.{IsEarlier, EarlierIn, DeclaredIn, RisesAt, LawfulAt}

lt_or_le : (i n : ℕ) → (i < n) ⊎ (n ≤ i)
lt_or_le i zero = inr (omega arith)
lt_or_le zero (suc n) = inl (omega arith)
lt_or_le (suc i) (suc n) = step (lt_or_le i n)
  where
    step : (i < n) ⊎ (n ≤ i) → (suc i < suc n) ⊎ (suc n ≤ suc i)
    step (inl h) = inl (omega arith)
    step (inr h) = inr (omega arith)

-- what holds of the first places
pub below_more : (P : ℕ → Type 0) (k : ℕ) → ((n : ℕ) → n < k → P n) → P k → (n : ℕ) → n < k + 1 → P n
below_more P k f p n h = by (lt_or_le n k)
  where
    by : (n < k) ⊎ (k ≤ n) → P n
    by (inl a) = f n a
    by (inr b) = let z : k ≡ n = omega arith in subst P z p

pub below_end : (P : ℕ → Type 0) (k m : ℕ) → m ≤ k → ((n : ℕ) → n < k → P n) → (n : ℕ) → n < m → P n
below_end P k m h f n w = f n (omega arith)

-- what a search finds among the numbers of declared types
pub declared_by : (names heads : List ℕ) (x : ℕ) (r : Result ℕ ℕ) → IsPermutation names heads → IsSearchInRange r (length heads) → IfOk r (HoldsAt (λ y. nat_cmp y x ≡ Equal) heads) → IsTrue (is_ok r) → Contains names x
declared_by names heads x (Ok i) p b h t = Contains-permutation heads names x (IsPermutation-sym names heads p) (Contains-from_at heads x (i, b, λ d. exact_unsigned _ x (h d)))
declared_by names heads x (Err i) p b h t = absurd (cc)

-- the class at a place, and its number
pub shape_got : (l : List ClassShape) (k : ℕ) (d x : ClassShape) → k < length l → x ≡ get_or l k d → slice_get (shapes_of l) k ≡ Some (shape_of x)
shape_got [] k d x h e = absurd (omega arith)
shape_got (y ∷ ys) zero d x h e = ap (λ z. Some (shape_of z)) (sym e)
shape_got (y ∷ ys) (suc k) d x h e = shape_got ys k d x (omega arith) e

pub name_got : (l : List ClassShape) (k : ℕ) (d x : ClassShape) → k < length l → x ≡ get_or l k d → get_or (names_of (shapes_of l)) k 0 ≡ x.name
name_got [] k d x h e = absurd (omega arith)
name_got (y ∷ ys) zero d x h e = ap (λ z. z.name) (sym e)
name_got (y ∷ ys) (suc k) d x h e = name_got ys k d x (omega arith) e

pub one_less : (k : ℕ) → (k ≡ 0 → ⊥) → k - 1 + 1 ≡ k
one_less zero h = absurd (h refl)
one_less (suc k) h = omega arith

pub rises_made : (l : List ClassShape) (i k : ℕ) (a b d e : ClassShape) → i + 1 ≡ k → k < length l → a ≡ get_or l i d → b ≡ get_or l k e → a.name < b.name → RisesAt (names_of (shapes_of l)) k
rises_made l i k a b d e q h f g w j s =
    let z : j ≡ i = omega arith in
    let x : get_or (names_of (shapes_of l)) i 0 ≡ a.name = name_got l i d a (omega arith) f in
    let y : get_or (names_of (shapes_of l)) k 0 ≡ b.name = name_got l k e b h g in
    subst (λ n. get_or (names_of (shapes_of l)) n 0 < get_or (names_of (shapes_of l)) k 0) (sym z) (omega arith)

pub earlier_made : (l : List ClassShape) (k j n : ℕ) (d x : ClassShape) → j < k → k ≤ length l → x ≡ get_or l j d → x.name ≡ n → IsEarlier (shapes_of l) k n
earlier_made l k j n d x h m e q = (j, h, shape_of x, shape_got l j d x (omega arith) e, q)

pub lawful_made : (D : List DeclaredType) (l : List ClassShape) (k : ℕ) (d x : ClassShape) → k < length l → x ≡ get_or l k d → DeclaredIn D (head_of (shape_of x).of) → RisesAt (names_of (shapes_of l)) k
    → EarlierIn (shapes_of l) k (base_name (shape_of x)) → LawfulAt D (shapes_of l) k
lawful_made D l k d x h e t r i =
    let got : slice_get (shapes_of l) k ≡ Some (shape_of x) = shape_got l k d x h e in
    record {
      typed = λ s g. let z : shape_of x ≡ s = cc in subst (λ v. DeclaredIn D (head_of v.of)) z t;
      rises = r;
      inherits = λ s g. let z : shape_of x ≡ s = cc in subst (λ v. EarlierIn (shapes_of l) k (base_name v)) z i;
    }

-- members and their places
in_place : (ns : List ℕ) (n : ℕ) → IsIn n ns → (j : ℕ) × (j < length ns) × (get_or ns j 0 ≡ n)
in_place [] n h = absurd h
in_place (x ∷ xs) n (inl e) = (0, omega arith, sym e)
in_place (x ∷ xs) n (inr h) = let r = in_place xs n h in let l : r.0 < length xs = r.1 in (suc r.0, omega arith, r.2)

in_shapes : (l : List Shape) (s : Shape) → IsIn s l → (k : ℕ) × (k < length l) × (slice_get l k ≡ Some s)
in_shapes [] s h = absurd h
in_shapes (x ∷ xs) s (inl e) = (0, omega arith, ap Some (sym e))
in_shapes (x ∷ xs) s (inr h) = let r = in_shapes xs s h in let l : r.0 < length xs = r.1 in (suc r.0, omega arith, r.2)

declared_got : (D : List DeclaredType) (n : ℕ) → Contains (map (λ d. d.name) D) n → (d : DeclaredType) × IsIn d D × (Some n ≡ Some d.name)
declared_got [] n c = let h : c.0 < 0 = c.1 in absurd (omega arith)
declared_got (x ∷ xs) n c = by c.0 c.1 c.2 (declared_got xs n)
  where
    by : (k : ℕ) → k < length (map (λ d. d.name) (x ∷ xs)) → get_or (map (λ d. d.name) (x ∷ xs)) k n ≡ n → (Contains (map (λ d. d.name) xs) n → (d : DeclaredType) × IsIn d xs × (Some n ≡ Some d.name))
        → (d : DeclaredType) × IsIn d (x ∷ xs) × (Some n ≡ Some d.name)
    by zero h e again = (x, inl refl, ap Some (sym e))
    by (suc k) h e again = let r = again (k, omega arith, e) in (r.0, inr r.1, r.2)

-- numbers that rise differ
distinct_by : (ns : List ℕ) → ((i j : ℕ) → i < j → j < length ns → get_or ns i 0 < get_or ns j 0) → Distinct ns
distinct_by [] f = tt
distinct_by (n ∷ ns) f = (λ h. alone (in_place ns n h), distinct_by ns (λ i j l m. f (suc i) (suc j) (omega arith) (omega arith)))
  where
    alone : (j : ℕ) × (j < length ns) × (get_or ns j 0 ≡ n) → ⊥
    alone r = let l : r.0 < length ns = r.1 in let a : n < get_or ns r.0 0 = f 0 (suc r.0) (omega arith) (omega arith) in let b : get_or ns r.0 0 ≡ n = r.2 in omega arith

module _ (D : List DeclaredType) (S : List Shape) (all : (k : ℕ) → k < length S → LawfulAt D S k) where
  rising : (i j : ℕ) → i < j → j < length S → get_or (names_of S) i 0 < get_or (names_of S) j 0
  rising i zero h l = absurd (omega arith)
  rising i (suc j) h l = by (lt_or_le i j) (λ g. rising i j g (omega arith))
    where
      step : get_or (names_of S) j 0 < get_or (names_of S) (suc j) 0
      step = (all (suc j) l).rises j (omega arith)

      by : (i < j) ⊎ (j ≤ i) → (i < j → get_or (names_of S) i 0 < get_or (names_of S) j 0) → get_or (names_of S) i 0 < get_or (names_of S) (suc j) 0
      by (inl g) again = let a : get_or (names_of S) i 0 < get_or (names_of S) j 0 = again g in let b : get_or (names_of S) j 0 < get_or (names_of S) (suc j) 0 = step in omega arith
      by (inr g) again = let z : j ≡ i = omega arith in subst (λ n. get_or (names_of S) n 0 < get_or (names_of S) (suc j) 0) z step

  pub differ : Distinct (names_of S)
  differ = distinct_by (names_of S) (λ i j h l. rising i j h (let m : length (names_of S) ≡ length S = many_map (λ s. s.name) S in omega arith))

  pub all_typed : IsTyped D S
  all_typed s h = let r = in_shapes S s h in by (head_of s.of) refl ((all r.0 r.1).typed s r.2)
    where
      by : (o : Option ℕ) → head_of s.of ≡ o → DeclaredIn D o → (d : DeclaredType) × IsIn d D × (head_of s.of ≡ Some d.name)
      by None e c = absurd c
      by (Some n) e c = let r = declared_got D n c in (r.0, r.1, e ∙ r.2)

  line_from : (h k : ℕ) (s : Shape) → k < h → k < length S → slice_get S k ≡ Some s → (l : List Shape) × IsLine S (Some s.name) l
  line_from zero k s w m e = absurd (omega arith)
  line_from (suc h) k s w m e = by (base_name s) refl ((all k m).inherits s e) (λ j b l g. line_from h j b (omega arith) (omega arith) g)
    where
      here : find_shape S s.name ≡ Some s
      here = found_self S k s differ e

      by : (o : Option ℕ) → base_name s ≡ o → EarlierIn S k o → ((j : ℕ) (b : Shape) → j < k → slice_get S j ≡ Some b → (l : List Shape) × IsLine S (Some b.name) l) → (l : List Shape) × IsLine S (Some s.name) l
      by None q c again = (s ∷ [], (here, subst (λ o. IsLine S o []) (sym q) tt))
      by (Some n) q c again = let r = again c.0 c.2 c.1 c.3 in (s ∷ r.0, (here, subst (λ o. IsLine S o r.0) (ap Some c.4 ∙ sym q) r.1))

  pub all_lines : HasLines S
  all_lines s h = let r = in_shapes S s h in line_from (length S) r.0 s r.1 r.1 r.2

pub all_below : (D : List DeclaredType) (l : List ClassShape) (k : ℕ) → length l ≤ k → ((n : ℕ) → n < k → LawfulAt D (shapes_of l) n) → (n : ℕ) → n < length (shapes_of l) → LawfulAt D (shapes_of l) n
all_below D l k h f = below_end (LawfulAt D (shapes_of l)) k (length (shapes_of l)) (let m : length (shapes_of l) ≡ length l = many_map shape_of l in omega arith) f

-- the classes of a program have the numbers of the classes whose rows they are
name_in : (l : List Shape) (n : ℕ) → IsIn n (names_of l) → (s : Shape) × IsIn s l × (s.name ≡ n)
name_in [] n h = absurd h
name_in (x ∷ xs) n (inl e) = (x, inl refl, sym e)
name_in (x ∷ xs) n (inr h) = let r = name_in xs n h in (r.0, inr r.1, r.2)

pub of_layout : (D : List DeclaredType) (S : List Shape) (p : Program) → IsProgramOf D S p → AllOfLayout p (names_of S)
of_layout D S p i n h =
    let r = name_in S n h in
    let c = contains_got (class_numbers p.classes) r.0.name (i.every r.0 r.1) in
    let f = index_first (class_numbers p.classes) r.0.name c.0 c.1 in
    subst (λ m. IsSome (class_place p m)) r.2 (subst IsSome (sym f.1) refl)
