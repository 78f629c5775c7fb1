-- Bytes and words of memory after a store.
use Rattle.std.proofs.Common.{◌≡◌, ◌≢◌, ℕ, zero, suc, ◌+◌, ◌-◌, ◌*◌, ◌/◌, ◌%◌, ◌<◌, ◌≤◌, List, [], ◌∷◌, length, Option, Some, None, true, false, cond, nat_le, refl, sym, ap, ◌∙◌, subst, ◌⊎◌, inl, inr, ⊎_elim, arith}
use Rattle.std.specs.Prelude.{slice_get, slice_set}
use Rattle.std.proofs.Math.ListN.{length-set}
use Rattle.std.proofs.lemmas.Bool.{cases_Bool, cases_eq, leb-true, ltb-true, false≢true}
use Rattle.th_rv.specs.Memory.{Area, has, allows, byte_at, area_set, put_at, with_byte, number_at, put_number}

slice_get-set_other : {X : Type 0} (l : List X) (i j : ℕ) (v : X) → j ≢ i → slice_get (slice_set l i v) j ≡ slice_get l j
slice_get-set_other [] i j v ne = refl
slice_get-set_other (x ∷ l) zero zero v ne = absurd (ne refl)
slice_get-set_other (x ∷ l) zero (suc j) v ne = refl
slice_get-set_other (x ∷ l) (suc i) zero v ne = refl
slice_get-set_other (x ∷ l) (suc i) (suc j) v ne = slice_get-set_other l i j v (λ e. ne (ap suc e))

slice_get-set_same : {X : Type 0} (l : List X) (i : ℕ) (v : X) → i < length l → slice_get (slice_set l i v) i ≡ Some v
slice_get-set_same [] i v lt = absurd (omega arith)
slice_get-set_same (x ∷ l) zero v lt = refl
slice_get-set_same (x ∷ l) (suc i) v lt = slice_get-set_same l i v (omega arith)

has_set : (m : Area) (i v a : ℕ) → has (area_set m i v) a ≡ has m a
unfolding has area_set
has_set m i v a = simp length-set

has_within : (m : Area) (a : ℕ) → has m a ≡ true → (m.at ≤ a) × (a - m.at < length m.bytes)
unfolding has
has_within m a h = ⊎_elim yes no (cases_Bool (nat_le m.at a))
  where
    yes : nat_le m.at a ≡ true → (m.at ≤ a) × (a - m.at < length m.bytes)
    yes e = (leb-true m.at a e, ltb-true (a - m.at) (length m.bytes) (rw e at h))

    no : nat_le m.at a ≡ false → (m.at ≤ a) × (a - m.at < length m.bytes)
    no e = let h2 = rw e at h in absurd (false≢true h2)

-- a byte elsewhere stays
byte_other_in : (flag : ℕ) (m : Area) (ms : List Area) (a v b : ℕ) → b ≢ a → has m a ≡ true → byte_at flag (area_set m (a - m.at) v ∷ ms) b ≡ byte_at flag (m ∷ ms) b
unfolding area_set
byte_other_in flag m ms a v b ne h = rw (has_set m (a - m.at) v b) (⊎_elim yes no (cases_Bool (has m b)))
  where
    yes : has m b ≡ true → cond (has m b) (cond (allows flag m.flags) (slice_get (slice_set m.bytes (a - m.at) v) (b - m.at)) None) (byte_at flag ms b) ≡ cond (has m b) (cond (allows flag m.flags) (slice_get m.bytes (b - m.at)) None) (byte_at flag ms b)
    yes e =
        let wa = has_within m a h in
        let wb = has_within m b e in
        let ne2 : b - m.at ≢ a - m.at = omega arith in
        ap (λ o. cond (has m b) (cond (allows flag m.flags) o None) (byte_at flag ms b)) (slice_get-set_other m.bytes (a - m.at) (b - m.at) v ne2)

    no : has m b ≡ false → cond (has m b) (cond (allows flag m.flags) (slice_get (slice_set m.bytes (a - m.at) v) (b - m.at)) None) (byte_at flag ms b) ≡ cond (has m b) (cond (allows flag m.flags) (slice_get m.bytes (b - m.at)) None) (byte_at flag ms b)
    no e = rw e

pub byte_other : (flag : ℕ) (ms : List Area) (a v b : ℕ) → b ≢ a → byte_at flag (put_at ms a v) b ≡ byte_at flag ms b
byte_other flag [] a v b ne = refl
byte_other flag (m ∷ ms) a v b ne =
    ⊎_elim (λ e. rw e (byte_other_in flag m ms a v b ne e)) (λ e. rw e (ap (λ o. cond (has m b) (cond (allows flag m.flags) (slice_get m.bytes (b - m.at)) None) o) (byte_other flag ms a v b ne))) (cases_Bool (has m a))

-- the byte that was stored
pub byte_same : (flag : ℕ) (ms : List Area) (a v x : ℕ) → byte_at flag ms a ≡ Some x → byte_at flag (put_at ms a v) a ≡ Some v
unfolding area_set
byte_same flag [] a v x h = absurd (cc)
byte_same flag (m ∷ ms) a v x h = ⊎_elim yes (no (λ q. byte_same flag ms a v x q)) (cases_Bool (has m a))
  where
    no : (byte_at flag ms a ≡ Some x → byte_at flag (put_at ms a v) a ≡ Some v) → has m a ≡ false → byte_at flag (put_at (m ∷ ms) a v) a ≡ Some v
    no ih e = rw (e, e) (ih (rw e at h))

    yes : has m a ≡ true → byte_at flag (put_at (m ∷ ms) a v) a ≡ Some v
    yes e = rw (e, has_set m (a - m.at) v a, e) (⊎_elim may must_not (cases_Bool (allows flag m.flags)))
      where
        may : allows flag m.flags ≡ true → cond (allows flag m.flags) (slice_get (slice_set m.bytes (a - m.at) v) (a - m.at)) None ≡ Some v
        may e2 = rw e2 (slice_get-set_same m.bytes (a - m.at) v (has_within m a e).1)

        must_not : allows flag m.flags ≡ false → cond (allows flag m.flags) (slice_get (slice_set m.bytes (a - m.at) v) (a - m.at)) None ≡ Some v
        must_not e2 = absurd (none_some x (rw (e, e2) at h))
          where
            none_some : (y : ℕ) → None ≡ Some y → ⊥
            none_some y q = cc

-- a byte that is there stays there
pub byte_stays : (flag : ℕ) (ms : List Area) (a v b x : ℕ) → byte_at flag ms b ≡ Some x → (y : ℕ) × (byte_at flag (put_at ms a v) b ≡ Some y)
byte_stays flag ms a v b x h = ⊎_elim (λ e. (v, subst (λ n. byte_at flag (put_at ms a v) n ≡ Some v) (sym e) (byte_same flag ms a v x (subst (λ n. byte_at flag ms n ≡ Some x) e h)))) (λ ne. (x, byte_other flag ms a v b ne ∙ h)) (cases_eq b a)

-- numbers of any width elsewhere stay
number_other_byte : (n flag : ℕ) (ms : List Area) (a v b : ℕ) → (b + n ≤ a) ⊎ (a < b) → number_at n flag (put_at ms a v) b ≡ number_at n flag ms b
number_other_byte zero flag ms a v b apart = refl
number_other_byte (suc n) flag ms a v b apart =
    let ne : b ≢ a = λ e. ⊎_elim (λ l. omega arith) (λ l. omega arith) apart in
    let first : byte_at flag (put_at ms a v) b ≡ byte_at flag ms b = byte_other flag ms a v b ne in
    let rest : number_at n flag (put_at ms a v) (b + 1) ≡ number_at n flag ms (b + 1) = number_other_byte n flag ms a v (b + 1) (⊎_elim (λ l. inl (omega arith)) (λ l. inr (omega arith)) apart) in
    ap (λ o. with_byte o (number_at n flag (put_at ms a v) (b + 1))) first ∙ ap (λ o. with_byte (byte_at flag ms b) o) rest

pub number_other : (m n flag : ℕ) (ms : List Area) (a v b : ℕ) → (b + n ≤ a) ⊎ (a + m ≤ b) → number_at n flag (put_number m ms a v) b ≡ number_at n flag ms b
number_other zero n flag ms a v b apart = refl
number_other (suc m) n flag ms a v b apart =
    number_other m n flag (put_at ms a (v % 256)) (a + 1) (v / 256) b (⊎_elim (λ l. inl (omega arith)) (λ l. inr (omega arith)) apart)
    ∙ number_other_byte n flag ms a (v % 256) b (⊎_elim (λ l. inl (omega arith)) (λ l. inr (omega arith)) apart)

-- a byte before what is stored stays
byte_before : (m flag : ℕ) (ms : List Area) (a v b : ℕ) → b < a → byte_at flag (put_number m ms a v) b ≡ byte_at flag ms b
byte_before zero flag ms a v b lt = refl
byte_before (suc m) flag ms a v b lt =
    byte_before m flag (put_at ms a (v % 256)) (a + 1) (v / 256) b (omega arith) ∙ byte_other flag ms a (v % 256) b (omega arith)

-- a number that is there has a first byte and a rest
abbrev pub Split : Option ℕ → Option ℕ → Type 0
Split o rest = (b n : ℕ) × ((o ≡ Some b) × (rest ≡ Some n))

split : (o rest : Option ℕ) (x : ℕ) → with_byte o rest ≡ Some x → Split o rest
split None rest x h = absurd (cc)
split (Some b) None x h = absurd (cc)
split (Some b) (Some n) x h = (b, n, (refl, refl))

joined : (o rest : Option ℕ) (b n : ℕ) → o ≡ Some b → rest ≡ Some n → with_byte o rest ≡ Some (b + 256 * n)
joined o rest b n e1 e2 = ap (λ x. with_byte x rest) e1 ∙ ap (λ x. with_byte (Some b) x) e2

-- the lower n bytes of a number
abbrev pub lower_bytes : ℕ → ℕ → ℕ
lower_bytes zero v = 0
lower_bytes (suc n) v = v % 256 + 256 * lower_bytes n (v / 256)

number_after : (n flag : ℕ) (ms : List Area) (a v x b : ℕ) → number_at n flag ms b ≡ Some x → a < b → number_at n flag (put_at ms a v) b ≡ Some x
number_after n flag ms a v x b e lt = number_other_byte n flag ms a v b (inr lt) ∙ e

-- the number that was stored
pub number_same : (n flag : ℕ) (ms : List Area) (a v x : ℕ) → number_at n flag ms a ≡ Some x → number_at n flag (put_number n ms a v) a ≡ Some (lower_bytes n v)
number_same zero flag ms a v x h = refl
number_same (suc n) flag ms a v x h = by_parts (split (byte_at flag ms a) (number_at n flag ms (a + 1)) x h) (λ y e. number_same n flag (put_at ms a (v % 256)) (a + 1) (v / 256) y e)
  where
    by_parts : Split (byte_at flag ms a) (number_at n flag ms (a + 1))
        → ((y : ℕ) → number_at n flag (put_at ms a (v % 256)) (a + 1) ≡ Some y → number_at n flag (put_number n (put_at ms a (v % 256)) (a + 1) (v / 256)) (a + 1) ≡ Some (lower_bytes n (v / 256)))
        → number_at (suc n) flag (put_number (suc n) ms a v) a ≡ Some (lower_bytes (suc n) v)
    by_parts (b, y, (e1, e2)) again =
        joined _ _ (v % 256) (lower_bytes n (v / 256))
        (byte_before n flag (put_at ms a (v % 256)) (a + 1) (v / 256) a (omega arith) ∙ byte_same flag ms a (v % 256) b e1)
        (again y (number_after n flag ms a (v % 256) y (a + 1) e2 (omega arith)))

-- a number that is there stays there, with some value
stays_byte : (n flag : ℕ) (ms : List Area) (a v b x : ℕ) → number_at n flag ms b ≡ Some x → (y : ℕ) × (number_at n flag (put_at ms a v) b ≡ Some y)
stays_byte zero flag ms a v b x h = (0, refl)
stays_byte (suc n) flag ms a v b x h = by_parts (split (byte_at flag ms b) (number_at n flag ms (b + 1)) x h) (λ y e. stays_byte n flag ms a v (b + 1) y e)
  where
    put_together : (z : (y : ℕ) × (byte_at flag (put_at ms a v) b ≡ Some y)) → (y : ℕ) × (number_at n flag (put_at ms a v) (b + 1) ≡ Some y) → (y : ℕ) × (number_at (suc n) flag (put_at ms a v) b ≡ Some y)
    put_together (c, e1) (y, e2) = (c + 256 * y, joined _ _ c y e1 e2)

    by_parts : Split (byte_at flag ms b) (number_at n flag ms (b + 1))
        → ((y : ℕ) → number_at n flag ms (b + 1) ≡ Some y → (z : ℕ) × (number_at n flag (put_at ms a v) (b + 1) ≡ Some z))
        → (y : ℕ) × (number_at (suc n) flag (put_at ms a v) b ≡ Some y)
    by_parts (c, y, (e1, e2)) again = put_together (byte_stays flag ms a v b c e1) (again y e2)

pub number_stays : (m n flag : ℕ) (ms : List Area) (a v b x : ℕ) → number_at n flag ms b ≡ Some x → (y : ℕ) × (number_at n flag (put_number m ms a v) b ≡ Some y)
number_stays zero n flag ms a v b x h = (x, h)
number_stays (suc m) n flag ms a v b x h = onward (stays_byte n flag ms a (v % 256) b x h) (λ y e. number_stays m n flag (put_at ms a (v % 256)) (a + 1) (v / 256) b y e)
  where
    onward : (y : ℕ) × (number_at n flag (put_at ms a (v % 256)) b ≡ Some y)
        → ((y : ℕ) → number_at n flag (put_at ms a (v % 256)) b ≡ Some y → (z : ℕ) × (number_at n flag (put_number m (put_at ms a (v % 256)) (a + 1) (v / 256)) b ≡ Some z))
        → (z : ℕ) × (number_at n flag (put_number (suc m) ms a v) b ≡ Some z)
    onward (y, e) again = again y e

four : (v : ℕ) → v < 4294967296 → lower_bytes 4 v ≡ v
four v h = omega arith

-- the word that was stored
pub word_same : (flag : ℕ) (ms : List Area) (a v x : ℕ) → v < 4294967296 → number_at 4 flag ms a ≡ Some x → number_at 4 flag (put_number 4 ms a v) a ≡ Some v
word_same flag ms a v x lt h = number_same 4 flag ms a v x h ∙ ap Some (four v lt)
