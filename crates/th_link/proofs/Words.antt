-- The words of code, byte by byte.
use Rattle.std.proofs.Common.{◌≡◌, ℕ, ◌+◌, ◌<◌, List, ◌∷◌, ◌++◌, length, drop, get_or, sym, ap, ◌∙◌, append_assoc}
use Rattle.std.proofs.lemmas.List.{drop_more}
use Rattle.th_link.specs.Puts.{put_code, puts_code, code_words}

-- with the words of one more byte the words are the first of those of the bytes to come
pub words_more : (words more bytes whole : List ℕ) (i b : ℕ) → i < length bytes → b ≡ get_or bytes i b → words ++ code_words (puts_code (drop i bytes)) ≡ whole → more ≡ words ++ code_words (put_code b)
    → more ++ code_words (puts_code (drop (i + 1) bytes)) ≡ whole
words_more words more bytes whole i b within at before now =
    ap (λ l. l ++ code_words (puts_code (drop (i + 1) bytes))) now
    ∙ append_assoc words (code_words (put_code b)) (code_words (puts_code (drop (i + 1) bytes)))
    ∙ ap (λ l. words ++ code_words (puts_code l)) (sym (drop_more bytes i b within ∙ ap (λ x. x ∷ drop (i + 1) bytes) (sym at)))
    ∙ before
