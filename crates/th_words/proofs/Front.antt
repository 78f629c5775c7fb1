-- The first of the words that are left.
use Rattle.std.proofs.Common.{◌≡◌, ℕ, zero, suc, ◌+◌, ◌<◌, ◌≤◌, List, [], ◌∷◌, length, map, drop, get_or, refl, sym, ◌∙◌, ap, arith, add-one}
use Rattle.std.specs.Prelude.{true, false, Option, Some, None, option_and_then}
use Rattle.std.specs.List.{slice_get}
use Rattle.th_words.specs.Words.{is_dashed}
use Rattle.th_words.specs.Reading.{with_word, are_plain, read}
use Rattle.th_words.specs.declared.options.Reading.{Reading}

-- the first of those that are left stands at their index, and the others behind it
pub front_word : {A : Type 0} (all : List A) (at : ℕ) (w : A) (ws : List A) → drop at all ≡ w ∷ ws → (slice_get all at ≡ Some w) × (drop (at + 1) all ≡ ws)
front_word [] zero w ws is = cc
front_word [] (suc at) w ws is = cc
front_word (x ∷ all) zero w ws is = (cc, cc)
front_word {A = A} (x ∷ all) (suc at) w ws is = let rest = front_word all at w ws is in (rest.0, rw add-one (rw add-one at rest.1))

-- those that are left begin with what is seen of the element at their index
pub next_word : {A B : Type 0} (f : A → B) (all : List A) (at : ℕ) (x : A) → at < length all → x ≡ get_or all at x → drop at (map f all) ≡ f x ∷ drop (at + 1) (map f all)
next_word f [] at x less is = absurd (omega arith)
next_word f (y ∷ all) zero x less is = rw is refl
next_word {A = A} {B = B} f (y ∷ all) (suc at) x less is = rw add-one (rw add-one at (next_word f all at x (omega arith) is))

-- one word is read
pub read_next : (all : List (List ℕ)) (at : ℕ) (reading next : Reading) (w : List ℕ) → drop at all ≡ w ∷ drop (at + 1) all → with_word reading.place reading at w ≡ Some next → read (drop at all) at reading ≡ read (drop (at + 1) all) (at + 1) next
read_next all at reading next w is step = ap (λ (ws : List (List ℕ)). read ws at reading) is ∙ ap (λ (o : Option Reading). option_and_then (read (drop (at + 1) all) (at + 1)) o) step

-- a word is refused
pub read_stop : (all : List (List ℕ)) (at : ℕ) (reading : Reading) (w : List ℕ) → drop at all ≡ w ∷ drop (at + 1) all → with_word reading.place reading at w ≡ None → None ≡ read (drop at all) at reading
read_stop all at reading w is step = sym (ap (λ (ws : List (List ℕ)). read ws at reading) is ∙ ap (λ (o : Option Reading). option_and_then (read (drop (at + 1) all) (at + 1)) o) step)

-- a word is looked at
pub plain_next : (all : List (List ℕ)) (at : ℕ) (w : List ℕ) → drop at all ≡ w ∷ drop (at + 1) all → is_dashed w ≡ false → are_plain (drop at all) ≡ are_plain (drop (at + 1) all)
plain_next all at w is plain = ap are_plain is ∙ rw plain refl

pub plain_stop : (all : List (List ℕ)) (at : ℕ) (w : List ℕ) → drop at all ≡ w ∷ drop (at + 1) all → is_dashed w ≡ true → false ≡ are_plain (drop at all)
plain_stop all at w is dashed = sym (ap are_plain is ∙ rw dashed refl)

-- all words were looked at
pub plain_end : {A : Type 0} (f : A → List ℕ) (all : List A) (at : ℕ) → length all ≤ at → are_plain (drop at (map f all)) ≡ true
plain_end f [] zero h = refl
plain_end f [] (suc at) h = refl
plain_end f (x ∷ all) zero h = absurd (omega (arith, h))
plain_end {A = A} f (x ∷ all) (suc at) h = plain_end f all at (omega (arith, h))
