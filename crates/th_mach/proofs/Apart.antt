-- In areas that are apart, a look-up or a store is that in the one area that has the address.
use Rattle.std.proofs.Common.{◌≡◌, ℕ, zero, suc, ◌+◌, ◌-◌, ◌/◌, ◌%◌, ◌<◌, ◌≤◌, List, [], ◌∷◌, ◌++◌, length, get_or, map, replicate, Some, None, true, false, cond, nat_le, nat_lt, refl, sym, ap, ◌∙◌, subst, ⊎_elim, arith}
use Rattle.std.specs.Prelude.{slice_get, slice_set, AllPairs}
use Rattle.std.proofs.lemmas.Bool.{cases_Bool, cases_eq, le-leb, lt-ltb, leb-true, ltb-true, false≢true}
use Rattle.std.proofs.lemmas.List.{length-set, length-append, length-replicate, length-map, set-get_or, get_or-set_same, get_or-set_other, get_or-map}
use Rattle.std.proofs.lemmas.List.Elements.{All-get_or}
use Rattle.std.proofs.lemmas.List.Quantifiers.{all_pairs_push}
use Rattle.std.proofs.lemmas.Option.{slice_get-get_or}
use Rattle.th_elf.specs.declared.segments.Segment.{Segment}
use Rattle.th_elf.specs.Lawful.{HasAddress, AreLawful}
use Rattle.th_elf.specs.Run.{area_of, region}
use Rattle.th_rv.specs.Memory.{Area, byte_at, put_at, area_set, has, allows, with_byte, number_at, put_number}
use Rattle.th_mach.specs.Apart.{NoneOfBoth, Apart, Spans, Holds, IsNowhere}

-- One area.

pub has_at : (m : Area) (a : ℕ) → m.at ≤ a → a - m.at < length m.bytes → has m a ≡ true
unfolding has
has_at m a from within =
    let e : nat_le m.at a ≡ true = le-leb m.at a from in
    let f : nat_lt (a - m.at) (length m.bytes) ≡ true = lt-ltb (a - m.at) (length m.bytes) within in
    rw (e, f) refl

pub has_within : (m : Area) (a : ℕ) → has m a ≡ true → (m.at ≤ a) × (a - m.at < length m.bytes)
unfolding has
has_within m a h = ⊎_elim yes no (cases_Bool (nat_le m.at a))
  where
    yes : nat_le m.at a ≡ true → (m.at ≤ a) × (a - m.at < length m.bytes)
    yes e = (leb-true m.at a e, ltb-true (a - m.at) (length m.bytes) (rw e at h))

    no : nat_le m.at a ≡ false → (m.at ≤ a) × (a - m.at < length m.bytes)
    no e = let h2 = rw e at h in absurd (false≢true h2)

spans_has : (m : Area) (a n : ℕ) → Spans m a (suc n) → has m a ≡ true
spans_has m a n s = has_at m a s.from (omega arith)

spans_next : (m : Area) (a n : ℕ) → Spans m a (suc n) → Spans m (a + 1) n
spans_next m a n s = record { from = omega arith; within = omega arith }

-- areas with the same first address and count of bytes have the same addresses
pub same_has : (x y : Area) (a : ℕ) → y.at ≡ x.at → length y.bytes ≡ length x.bytes → has y a ≡ has x a
unfolding has
same_has x y a first size = rw (first, size) refl

pub area_set-size : (m : Area) (i v : ℕ) → length (area_set m i v).bytes ≡ length m.bytes
unfolding area_set
area_set-size m i v = length-set m.bytes i v

pub area_set-at : (m : Area) (i v : ℕ) → (area_set m i v).at ≡ m.at
unfolding area_set
area_set-at m i v = refl

-- a byte of an area where the flag allows it
pub read_byte : (flag : ℕ) (m : Area) (a b : ℕ) → m.at ≤ a → a - m.at < length m.bytes → allows flag m.flags ≡ true → b ≡ get_or m.bytes (a - m.at) b → Some b ≡ byte_at flag (m ∷ []) a
read_byte flag m a b from within allowed e = rw (has_at m a from within, allowed) (sym (slice_get-get_or m.bytes (a - m.at) b within ∙ ap Some (sym e)))

-- a byte put into an area
pub put_alone : (m : Area) (a v : ℕ) → m.at ≤ a → a - m.at < length m.bytes → put_at (m ∷ []) a v ≡ area_set m (a - m.at) v ∷ []
put_alone m a v from within = rw (has_at m a from within) refl

-- Areas that are apart.

rest_apart : (m : Area) (ms : List Area) → Apart (m ∷ ms) → Apart ms
rest_apart m ms apart i j d lt below = apart (suc i) (suc j) d (omega arith) (omega arith)

-- where a later area has the address, the first doesn't
not_first : (m : Area) (ms : List Area) (k a : ℕ) (x : Area) → Apart (m ∷ ms) → k < length ms → x ≡ get_or ms k x → has x a ≡ true → has m a ≡ false
not_first m ms k a x apart lt e h =
    let here : has (get_or ms k x) a ≡ true = ap (λ y. has y a) (sym e) ∙ h in
    ⊎_elim (λ t. absurd (apart zero (suc k) x (omega arith) (omega arith) a t here)) (λ f. f) (cases_Bool (has m a))

-- a byte is that of the area that has its address
pub byte_one : (flag : ℕ) (areas : List Area) (k a : ℕ) (x : Area) → Apart areas → k < length areas → x ≡ get_or areas k x → has x a ≡ true → byte_at flag areas a ≡ byte_at flag (x ∷ []) a
byte_one flag [] k a x apart lt e h = absurd (omega arith)
byte_one flag (m ∷ ms) zero a x apart lt e h =
    let hm : has m a ≡ true = ap (λ y. has y a) (sym e) ∙ h in
    ap (λ b. cond b (cond (allows flag m.flags) (slice_get m.bytes (a - m.at)) None) (byte_at flag ms a)) hm
    ∙ sym (ap (λ b. cond b (cond (allows flag m.flags) (slice_get m.bytes (a - m.at)) None) None) hm)
    ∙ ap (λ y. byte_at flag (y ∷ []) a) (sym e)
byte_one flag (m ∷ ms) (suc k) a x apart lt e h =
    ap (λ b. cond b (cond (allows flag m.flags) (slice_get m.bytes (a - m.at)) None) (byte_at flag ms a)) (not_first m ms k a x apart (omega arith) e h)
    ∙ byte_one flag ms k a x (rest_apart m ms apart) (omega arith) e h

-- a number is that of the area that has all of its addresses
pub number_one : (n flag : ℕ) (areas : List Area) (k a : ℕ) (x : Area) → Apart areas → k < length areas → x ≡ get_or areas k x → Spans x a n → number_at n flag areas a ≡ number_at n flag (x ∷ []) a
number_one zero flag areas k a x apart lt e s = refl
number_one (suc n) flag areas k a x apart lt e s =
    ap (λ o. with_byte o (number_at n flag areas (a + 1))) (byte_one flag areas k a x apart lt e (spans_has x a n s))
    ∙ ap (λ o. with_byte (byte_at flag (x ∷ []) a) o) (number_one n flag areas k (a + 1) x apart lt e (spans_next x a n s))

-- a byte is put into the area that has its address
pub put_one : (areas : List Area) (k a v : ℕ) (x : Area) → Apart areas → k < length areas → x ≡ get_or areas k x → has x a ≡ true → put_at areas a v ≡ slice_set areas k (area_set x (a - x.at) v)
put_one [] k a v x apart lt e h = absurd (omega arith)
put_one (m ∷ ms) zero a v x apart lt e h =
    let hm : has m a ≡ true = ap (λ y. has y a) (sym e) ∙ h in
    ap (λ b. cond b (area_set m (a - m.at) v ∷ ms) (m ∷ put_at ms a v)) hm
    ∙ ap (λ y. area_set y (a - y.at) v ∷ ms) (sym e)
put_one (m ∷ ms) (suc k) a v x apart lt e h =
    ap (λ b. cond b (area_set m (a - m.at) v ∷ ms) (m ∷ put_at ms a v)) (not_first m ms k a x apart (omega arith) e h)
    ∙ ap (λ l. m ∷ l) (put_one ms k a v x (rest_apart m ms apart) (omega arith) e h)

set_again : (areas : List Area) (k : ℕ) (x y : Area) → slice_set (slice_set areas k x) k y ≡ slice_set areas k y
set_again [] k x y = refl
set_again (m ∷ ms) zero x y = refl
set_again (m ∷ ms) (suc k) x y = ap (λ l. m ∷ l) (set_again ms k x y)

any_default : (xs : List Area) (i : ℕ) (a b : Area) → i < length xs → get_or xs i a ≡ get_or xs i b
any_default [] i a b lt = absurd (omega arith)
any_default (x ∷ xs) zero a b lt = refl
any_default (x ∷ xs) (suc i) a b lt = any_default xs i a b (omega arith)

-- areas stay apart where one gives way to an area with the same addresses
pub apart_set : (areas : List Area) (k : ℕ) (x y : Area) → k < length areas → x ≡ get_or areas k x → y.at ≡ x.at → length y.bytes ≡ length x.bytes → Apart areas → Apart (slice_set areas k y)
apart_set areas k x y within e first size apart i j d lt below a hi hj =
    apart i j d lt (omega (arith, length-set areas k y)) a (sym (same i) ∙ hi) (sym (same j) ∙ hj)
  where
    same : (n : ℕ) → has (get_or (slice_set areas k y) n d) a ≡ has (get_or areas n d) a
    same n = ⊎_elim here other (cases_eq n k)
      where
        here : n ≡ k → has (get_or (slice_set areas k y) n d) a ≡ has (get_or areas n d) a
        here q =
            ap (λ i. has (get_or (slice_set areas k y) i d) a) q
            ∙ ap (λ z. has z a) (get_or-set_same areas k y d within)
            ∙ same_has x y a first size
            ∙ ap (λ z. has z a) (e ∙ any_default areas k x d within)
            ∙ ap (λ i. has (get_or areas i d) a) (sym q)

        other : (n ≡ k → ⊥) → has (get_or (slice_set areas k y) n d) a ≡ has (get_or areas n d) a
        other ne = ap (λ z. has z a) (get_or-set_other areas k n y d ne)

-- a number is put into the area that has all of its addresses
pub put_number_one : (n : ℕ) (areas : List Area) (k a v : ℕ) (x y : Area) → Apart areas → k < length areas → x ≡ get_or areas k x → Spans x a n → put_number n (x ∷ []) a v ≡ y ∷ [] → put_number n areas a v ≡ slice_set areas k y
put_number_one zero areas k a v x y apart lt e s alone =
    let q : y ≡ get_or areas k x = cc in
    sym (ap (λ z. slice_set areas k z) q ∙ set-get_or areas k x)
put_number_one (suc n) areas k a v x y apart lt e s alone =
    let h : has x a ≡ true = spans_has x a n s in
    let x1 = area_set x (a - x.at) (v % 256) in
    let areas1 = slice_set areas k x1 in
    let lt1 : k < length areas1 = omega (arith, length-set areas k x1) in
    let first : x1.at ≡ x.at = area_set-at x (a - x.at) (v % 256) in
    let size : length x1.bytes ≡ length x.bytes = area_set-size x (a - x.at) (v % 256) in
    let s1 : Spans x1 (a + 1) n = let t = spans_next x a n s in record { from = omega arith; within = omega arith } in
    let alone1 : put_number n (x1 ∷ []) (a + 1) (v / 256) ≡ y ∷ [] = sym (ap (λ b. put_number n (cond b (x1 ∷ []) (x ∷ [])) (a + 1) (v / 256)) h) ∙ alone in
    ap (λ l. put_number n l (a + 1) (v / 256)) (put_one areas k a (v % 256) x apart lt e h)
    ∙ put_number_one n areas1 k (a + 1) (v / 256) x1 y (apart_set areas k x x1 lt e first size apart) lt1 (sym (get_or-set_same areas k x1 x1 lt)) s1 alone1
    ∙ set_again areas k x1 y

-- The memory at the start.

segment_has : (s : Segment) (a : ℕ) → length s.bytes ≤ s.size → has (area_of s) a ≡ true → HasAddress s a
unfolding area_of
segment_has s a filled h =
    let w = has_within _ a h in
    let size : length (s.bytes ++ replicate (s.size - length s.bytes) 0) ≡ length s.bytes + (s.size - length s.bytes) = length-append s.bytes (replicate (s.size - length s.bytes) 0) ∙ ap (λ n. length s.bytes + n) (length-replicate (s.size - length s.bytes) 0) in
    (w.0, omega arith)

region_has : (room a : ℕ) → has (region room) a ≡ true → 0x10000000 ≤ a
unfolding region
region_has room a h = (has_within _ a h).0

some_segment : Segment
some_segment = record { at = 0; flags = 0; size = 0; bytes = [] }

-- lawful segments and the region are apart
pub apart_loaded : (segments : List Segment) (room : ℕ) → AreLawful segments → Apart (map area_of segments ++ region room ∷ [])
apart_loaded segments room lawful = all_pairs_push NoneOfBoth (map area_of segments) (region room) two last
  where
    at_segment : (k a : ℕ) (d : Area) → k < length segments → has (get_or (map area_of segments) k d) a ≡ true → HasAddress (get_or segments k some_segment) a
    at_segment k a d lt h =
        segment_has (get_or segments k some_segment) a
        (All-get_or (λ s. length s.bytes ≤ s.size) segments k some_segment lt lawful.filled)
        (ap (λ y. has y a) (sym (get_or-map area_of segments k some_segment d lt)) ∙ h)

    two : AllPairs NoneOfBoth (map area_of segments)
    two i j d lt below a hi hj =
        let lj : j < length segments = omega (arith, length-map segments area_of) in
        let li : i < length segments = omega arith in
        lawful.apart i j some_segment lt lj a (at_segment i a d li hi) (at_segment j a d lj hj)

    last : (k : ℕ) (d : Area) → k < length (map area_of segments) → NoneOfBoth (get_or (map area_of segments) k d) (region room)
    last k d below a hk hr =
        let lk : k < length segments = omega (arith, length-map segments area_of) in
        let low : a < 0x08000000 = All-get_or (λ s. (b : ℕ) → HasAddress s b → b < 0x08000000) segments k some_segment lk lawful.low a (at_segment k a d lk hk) in
        let high = region_has room a hr in
        absurd (omega arith)

-- Where no area has the address.

pub byte_nowhere : (flag : ℕ) (areas : List Area) (a : ℕ) → IsNowhere areas a → byte_at flag areas a ≡ None
byte_nowhere flag [] a none = refl
byte_nowhere flag (m ∷ ms) a none = rw (none zero m (omega arith)) (byte_nowhere flag ms a (λ k d lt. none (suc k) d (omega arith)))

pub put_nowhere : (areas : List Area) (a v : ℕ) → IsNowhere areas a → areas ≡ put_at areas a v
put_nowhere [] a v none = refl
put_nowhere (m ∷ ms) a v none = rw (none zero m (omega arith)) (ap (λ l. m ∷ l) (put_nowhere ms a v (λ k d lt. none (suc k) d (omega arith))))

-- What the machine's memory asks.

-- an area that has the address has one address from it on
pub holds_one : (areas : List Area) (k a : ℕ) (x : Area) → k < length areas → x ≡ get_or areas k x → x.at ≤ a → a - x.at < length x.bytes → Holds areas k a 1
holds_one areas k a x lt e from within = record {
  below = lt;
  spans = λ d. let P : Area → Type 0 = λ y. Spans y a 1 in subst P (e ∙ any_default areas k x d lt) (record { from = from; within = omega arith });
}

spans_of : (areas : List Area) (k a n : ℕ) (x : Area) → x ≡ get_or areas k x → Holds areas k a n → Spans x a n
spans_of areas k a n x e h = let P : Area → Type 0 = λ y. Spans y a n in subst P (sym e) (h.spans x)

pub byte_held : (flag : ℕ) (areas : List Area) (k a : ℕ) (x : Area) → Apart areas → x ≡ get_or areas k x → Holds areas k a 1 → byte_at flag (x ∷ []) a ≡ byte_at flag areas a
byte_held flag areas k a x apart e h = sym (byte_one flag areas k a x apart h.below e (spans_has x a zero (spans_of areas k a 1 x e h)))

pub number_held : (n flag : ℕ) (areas : List Area) (k a : ℕ) (x : Area) → Apart areas → x ≡ get_or areas k x → Holds areas k a n → number_at n flag (x ∷ []) a ≡ number_at n flag areas a
number_held n flag areas k a x apart e h = sym (number_one n flag areas k a x apart h.below e (spans_of areas k a n x e h))

pub put_held : (areas : List Area) (k a v : ℕ) (x y : Area) → Apart areas → x ≡ get_or areas k x → Holds areas k a 1 → y ≡ area_set x (a - x.at) v → slice_set areas k y ≡ put_at areas a v
put_held areas k a v x y apart e h is = ap (λ z. slice_set areas k z) is ∙ sym (put_one areas k a v x apart h.below e (spans_has x a zero (spans_of areas k a 1 x e h)))

pub put_number_held : (n : ℕ) (areas : List Area) (k a v : ℕ) (x y : Area) → Apart areas → x ≡ get_or areas k x → Holds areas k a n → put_number n (x ∷ []) a v ≡ y ∷ [] → slice_set areas k y ≡ put_number n areas a v
put_number_held n areas k a v x y apart e h alone = sym (put_number_one n areas k a v x y apart h.below e (spans_of areas k a n x e h) alone)
