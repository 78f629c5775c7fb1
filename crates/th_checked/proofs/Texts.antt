-- The text of a number, where there is one.
use Rattle.std.proofs.Common.{◌≡◌, ℕ, ◌<◌, ◌≤◌, List, length, get_or, unwrap_or, refl, ap}
use Rattle.std.specs.Prelude.{Option}
use Rattle.std.proofs.lemmas.Option.{slice_get_past, slice_get_read}
use Rattle.th_tree.specs.Spans.{Tokenized}
use Rattle.th_checked.specs.Checked.{no_text, text_at}

pub text_there : (xs : List Tokenized) (n : ℕ) (x : Tokenized) → n < length xs → x ≡ get_or xs n x → text_at xs n ≡ x
text_there xs n x below e = ap (λ (o : Option Tokenized). unwrap_or o no_text) (slice_get_read xs (length xs) n x refl below e)

pub text_past : (xs : List Tokenized) (n : ℕ) → length xs ≤ n → text_at xs n ≡ no_text
text_past xs n past = ap (λ (o : Option Tokenized). unwrap_or o no_text) (slice_get_past xs n past)
