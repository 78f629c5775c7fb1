-- Lists of three elements.
use Rattle.std.proofs.Common.{◌≡◌, ℕ, ◌<◌, ◌≤◌, List, [], ◌∷◌, length, map, get_or, refl, sym, ◌∙◌, arith}
use Rattle.std.specs.Prelude.{Bool, true, false, not}
use Rattle.std.specs.Str.{bytes_eq}
use Rattle.std.proofs.lemmas.Slice.Eq.{bytes_eq-Decides}

not_false : (b : Bool) → not b ≡ false → b ≡ true
not_false true e = refl
not_false false e = sym e

pub is_three : {A : Type 0} (ws : List A) (a b c : A) → 3 ≤ length ws → length ws < 4 → a ≡ get_or ws 0 a → b ≡ get_or ws 1 b → c ≡ get_or ws 2 c → ws ≡ a ∷ b ∷ c ∷ []
is_three [] a b c more less ea eb ec = absurd (omega (arith, more))
is_three (x ∷ []) a b c more less ea eb ec = absurd (omega (arith, more))
is_three (x ∷ y ∷ []) a b c more less ea eb ec = absurd (omega (arith, more))
is_three (x ∷ y ∷ z ∷ []) a b c more less ea eb ec = rw (ea, eb, ec)
is_three (x ∷ y ∷ z ∷ w ∷ ws) a b c more less ea eb ec = absurd (omega (arith, less))

-- what is seen of three elements
pub three_words : {A B : Type 0} (f : A → B) (ws : List A) (a b c : A) (x y z : B) → ws ≡ a ∷ b ∷ c ∷ [] → f a ≡ x → f b ≡ y → f c ≡ z → map f ws ≡ x ∷ y ∷ z ∷ []
three_words f ws a b c x y z is ea eb ec = rw (is, ea, eb, ec) refl

-- two texts that a comparison doesn't tell apart
pub same_word : (a b : List ℕ) (differs : Bool) → differs ≡ not (bytes_eq a b) → differs ≡ false → a ≡ b
same_word a b differs is off = (bytes_eq-Decides a b).0 (not_false (bytes_eq a b) (sym is ∙ off))
