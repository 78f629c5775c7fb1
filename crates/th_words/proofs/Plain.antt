-- Words that are plain.
use Rattle.std.proofs.Common.{◌≡◌, ℕ, List, [], ◌∷◌, refl}
use Rattle.std.specs.Prelude.{Bool, true, false, ◌&&◌, if◌then◌else◌}
use Rattle.std.specs.List.{AllByRecursion}
use Rattle.th_words.specs.Words.{is_dashed}
use Rattle.th_words.specs.Reading.{are_plain}

pub both_true : (a b : Bool) → a && b ≡ true → (a ≡ true) × (b ≡ true)
both_true true b is = (refl, is)
both_true false b is = cc

plain_by : (w : List ℕ) (ws : List (List ℕ)) (test : Bool) → is_dashed w ≡ test → (if test then false else are_plain ws) ≡ true → (is_dashed w ≡ false) × (are_plain ws ≡ true)
plain_by w ws true e is = cc
plain_by w ws false e is = (e, is)

-- words that the test lets through are plain, and the other way round
pub plain_all : (ws : List (List ℕ)) → are_plain ws ≡ true → AllByRecursion (λ word. is_dashed word ≡ false) ws
plain_all [] is = tt
plain_all (w ∷ ws) is = let both = plain_by w ws (is_dashed w) refl is in (both.0, plain_all ws both.1)

pub all_plain : (ws : List (List ℕ)) → AllByRecursion (λ word. is_dashed word ≡ false) ws → are_plain ws ≡ true
all_plain [] is = refl
all_plain (w ∷ ws) is = rw is.0 (all_plain ws is.1)
