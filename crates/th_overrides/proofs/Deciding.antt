-- Tests that decide.
use Rattle.std.proofs.Common.{◌≡◌, ◌↔◌, ℕ, zero, suc, ◌+◌, ◌<◌, ◌≤◌, Bool, true, false, not, List, [], ◌∷◌, length, get_or, map, drop, refl, sym, ap, ◌∙◌, subst, inl, inr, arith, IsTrue, true≢false}
use Rattle.std.proofs.Math.ListN.{drop_of_length-le}
use Rattle.th_type.specs.Lists.{IsIn}
use Rattle.th_hier.proofs.Failing.{next_item}

-- what holds is decided
pub holds : {P : Type 0} → P → IsTrue true ↔ P
holds p = (λ h. p, λ q. refl)

pub fails : {P : Type 0} → (P → ⊥) → IsTrue false ↔ P
fails n = (λ h. absurd (true≢false (sym h)), λ p. absurd (n p))

-- a test that is false refutes what implies it
pub refutes : {P A : Type 0} (a : Bool) → IsTrue a ↔ A → a ≡ false → (P → A) → IsTrue false ↔ P
refutes a d e f = fails (λ p. true≢false (sym (d.1 (f p)) ∙ e))

-- where one test holds, what is left decides
pub left_decides : {P A B : Type 0} (a b : Bool) → IsTrue a ↔ A → a ≡ true → IsTrue b ↔ B → (A → B → P) → (P → B) → IsTrue b ↔ P
left_decides a b d e g j k = (λ h. j (d.0 e) (g.0 h), λ p. g.1 (k p))

-- the other way round
pub not_decides : {P A : Type 0} (a : Bool) → IsTrue a ↔ A → ((A → ⊥) → P) → (P → A → ⊥) → IsTrue (not a) ↔ P
not_decides true d f g = fails (λ p. g p (d.0 refl))
not_decides false d f g = holds (f (λ x. true≢false (sym (d.1 x))))

-- a test is as another that decides
pub same_decides : {P : Type 0} (a b : Bool) → a ≡ b → IsTrue b ↔ P → IsTrue a ↔ P
same_decides a b e d = (λ h. d.0 (sym e ∙ h), λ p. e ∙ d.1 p)

pub alike : {P Q : Type 0} (a : Bool) → IsTrue a ↔ P → (P → Q) → (Q → P) → IsTrue a ↔ Q
alike a d f g = (λ h. f (d.0 h), λ q. d.1 (g q))

pub member_at : {A V : Type 0} (view : A → V) (xs : List A) (i : ℕ) (x : A) → i < length xs → x ≡ get_or xs i x → IsIn (view x) (map view xs)
member_at view [] i x h e = absurd (omega (arith, h))
member_at view (y ∷ ys) zero x h e = inl (ap view e)
member_at view (y ∷ ys) (suc i) x h e = inr (member_at view ys i x (omega (arith, h)) e)

module _ {A V : Type 0} (view : A → V) (P : V → Type 0) where
  -- P of each
  abbrev pub Each : List A → Type 0
  Each xs = (v : V) → IsIn v (map view xs) → P v

  -- P of each, where it is of those that are left and of the next
  pub each_next : (xs : List A) (i : ℕ) (x : A) → i < length xs → x ≡ get_or xs i x → P (view x) → (Each (drop i xs) → Each xs) → Each (drop (i + 1) xs) → Each xs
  each_next xs i x below is p left later = left (subst Each (sym (next_item xs i x below is)) (λ v m. elim m [ inl e ↦ subst P (sym e) p | inr n ↦ later v n ]))

  pub each_end : (xs : List A) (i : ℕ) → length xs ≤ i → (Each (drop i xs) → Each xs) → Each xs
  each_end xs i h left = left (subst Each (sym (drop_of_length-le xs h)) (λ v m. absurd m))
