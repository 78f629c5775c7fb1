-- The digits of a number from the highest on, by division by powers of ten.
use Rattle.std.proofs.Common.{◌≡◌, ℕ, zero, suc, ◌+◌, ◌*◌, ◌/◌, ◌%◌, ◌^◌, ◌<◌, ◌≤◌, List, [], ◌∷◌, ◌++◌, length, refl, sym, ap, ◌∙◌, ◌⊎◌, inl, inr, ⊎_elim, subst, arith, decimal}
use Rattle.std.proofs.lemmas.Nat.{div-mul-add, mod-mul-add, div-add-mod', mod_below}
use Rattle.std.proofs.Math.Nat.{mul-le-mul_right}
use Rattle.std.proofs.lemmas.Bool.{cases_lt}
use Rattle.std.proofs.lemmas.Fmt.{decimal_step, decimal_digit}

-- a power of ten
abbrev pub power : ℕ → ℕ
power zero = 1
power (suc k) = 10 * power k

-- the digits of a number with k + 1 digits, from the highest on
abbrev pub figures : (k n : ℕ) → List ℕ
figures zero n = (48 + n) ∷ []
figures (suc k) n = (48 + n / power (suc k)) ∷ figures k (n % power (suc k))

pub power_some : (k : ℕ) → 0 < power k
power_some zero = omega arith
power_some (suc k) = let l = power_some k in omega arith

suc_plus : (d j : ℕ) → suc (d + j) ≡ suc d + j
suc_plus d j = omega arith

pub power_grows : (d j : ℕ) → power j ≤ power (d + j)
power_grows zero j = let e : power j ≡ power (zero + j) = ap power (omega arith) in omega (arith, e)
power_grows (suc d) j = let l = power_grows d j in let e : 10 * power (d + j) ≡ power (suc d + j) = ap power (suc_plus d j) in omega (arith, e)

-- division by ten times a number
record Splits (n q : ℕ) : Type 0 where
  quotients : n / (10 * q) ≡ n / 10 / q
  middles : n % (10 * q) / 10 ≡ n / 10 % q
  lasts : n % (10 * q) % 10 ≡ n % 10

splits : (n q : ℕ) → 0 < q → Splits n q
splits n q some =
    let a = n / (10 * q) in
    let m = n % (10 * q) in
    let b = m / 10 in
    let c = m % 10 in
    let whole = div-add-mod' n (10 * q) in
    let m_small = mod_below n (10 * q) (omega arith) in
    let c_small = mod_below m 10 (omega arith) in
    let m_is = div-add-mod' m 10 in
    let b_small : b < q = omega arith in
    let n_is : n ≡ (a * q + b) * 10 + c = omega arith in
    let tenth : n / 10 ≡ a * q + b = ap (λ z. z / 10) n_is ∙ div-mul-add (a * q + b) 10 c c_small in
    record {
      quotients = sym (ap (λ z. z / q) tenth ∙ div-mul-add a q b b_small);
      middles = sym (ap (λ z. z % q) tenth ∙ mod-mul-add a q b b_small);
      lasts = sym (ap (λ z. z % 10) n_is ∙ mod-mul-add (a * q + b) 10 c c_small);
    }

-- the last digit
figures_last : (k n : ℕ) → figures (suc k) n ≡ figures k (n / 10) ++ ((48 + n % 10) ∷ [])
figures_last zero n = refl
figures_last (suc k) n =
    let s = splits n (power (suc k)) (power_some (suc k)) in
    ap (λ z. (48 + z) ∷ figures (suc k) (n % power (suc (suc k)))) s.quotients
    ∙ ap (λ l. (48 + n / 10 / power (suc k)) ∷ l) (figures_last k (n % power (suc (suc k))) ∙ ap (λ z. figures k z ++ ((48 + n % power (suc (suc k)) % 10) ∷ [])) s.middles ∙ ap (λ z. figures k (n / 10 % power (suc k)) ++ ((48 + z) ∷ [])) s.lasts)

-- they are what a number is in decimal, where the highest isn't zero or is the only one
pub decimal_is : (k n : ℕ) → n < power (suc k) → (k ≡ 0) ⊎ (power k ≤ n) → n < 2 ^ 64 → decimal n ≡ figures k n
decimal_is zero n lt h small = decimal_digit n (omega arith)
decimal_is (suc k) n lt (inl e) small = absurd (omega arith)
decimal_is (suc k) n lt (inr le) small =
    let some = power_some k in
    decimal_step n (omega arith) small ∙ ap (λ l. l ++ ((48 + n % 10) ∷ [])) (decimal_is k (n / 10) (omega arith) (inr (omega arith)) (omega arith)) ∙ sym (figures_last k n)

pub length_figures : (k n : ℕ) → length (figures k n) ≡ suc k
length_figures zero n = refl
length_figures (suc k) n = ap suc (length_figures k (n % power (suc k)))

-- a quotient is a digit where it is less than ten times the divisor, and else not
pub quotient_low : (n p : ℕ) → 0 < p → n < 10 * p → n / p < 10
quotient_low n p some lt = by (n / p) (n % p) (div-add-mod' n p)
  where
    by : (q r : ℕ) → q * p + r ≡ n → q < 10
    by q r e = low (cases_lt q 10)
      where
        low : (q < 10) ⊎ (10 ≤ q) → q < 10
        low (inl l) = l
        low (inr l) = let m = mul-le-mul_right p l in absurd (omega arith)

pub quotient_high : (n p : ℕ) → 0 < p → 10 * p ≤ n → 10 ≤ n / p
quotient_high n p some le = by (n / p) (n % p) (div-add-mod' n p) (mod_below n p some)
  where
    by : (q r : ℕ) → q * p + r ≡ n → r < p → 10 ≤ q
    by q r e small = high (cases_lt q 10)
      where
        at_most : q < 10 → q ≤ 9
        at_most l = omega arith

        high : (q < 10) ⊎ (10 ≤ q) → 10 ≤ q
        high (inr l) = l
        high (inl l) = let m : q * p ≤ 9 * p = mul-le-mul_right p (at_most l) in absurd (omega arith)

-- how many digits a number has
pub record Digits (n : ℕ) : Type 0 where
  pub more : ℕ
  pub below : n < power (suc more)
  pub reached : (more ≡ 0) ⊎ (power more ≤ n)

enough : (n : ℕ) → n < power (suc n)
enough zero = omega arith
enough (suc n) = let l = enough n in omega arith

find_digits : (n fuel k : ℕ) → (k ≡ 0) ⊎ (power k ≤ n) → n < power (suc (fuel + k)) → Digits n
find_digits n zero k h lt = record { more = k; below = subst (λ m. n < power m) (ap suc (zero_plus k)) lt; reached = h }
  where
    zero_plus : (k : ℕ) → zero + k ≡ k
    zero_plus k = omega arith
find_digits n (suc fuel) k h lt = ⊎_elim (λ l. record { more = k; below = l; reached = h }) (λ l. find_digits n fuel (suc k) (inr l) (subst (λ m. n < power m) (shift fuel k) lt)) (cases_lt n (power (suc k)))
  where
    shift : (a b : ℕ) → suc (suc a + b) ≡ suc (a + suc b)
    shift a b = omega arith

pub digits_of : (n : ℕ) → Digits n
digits_of n = find_digits n n zero (inl refl) (subst (λ m. n < power (suc m)) (plus_zero n) (enough n))
  where
    plus_zero : (n : ℕ) → n ≡ n + zero
    plus_zero n = omega arith
