-- The tokens of texts, and why texts have none.
use Rattle.std.specs.Prelude.{◌≡◌, ℕ, List, [], ◌∷◌}
use Rattle.th_tree.specs.Spans.{Tokenized}
use Rattle.th_module_rules.specs.Texts.{AreTokens}
use Rattle.th_module_rules.specs.Refusals.{IsBadByte, IsWideNumber}
use Rattle.th_type.specs.Failures.{place}
use Rattle.th_lex.specs.declared.LexError.{LexError}
use Rattle.th_lex.specs.declared.LexError.TheVariants as lexing
use Rattle.th_texts.specs.declared.error.TextError.{TextError}
use Rattle.th_texts.specs.declared.error.TextError.TheVariants.{BadByte, WideNumber, Syntax, Memory}

-- these are the texts with their tokens, in order
abbrev pub AreAllTokens : List (List ℕ) → List Tokenized → Type 0
AreAllTokens [] [] = Unit {0}
AreAllTokens [] (x ∷ xs) = ⊥
AreAllTokens (t ∷ ts) [] = ⊥
AreAllTokens (t ∷ ts) (x ∷ xs) = (x.text ≡ t) × AreTokens t x.list × AreAllTokens ts xs

-- not all of the texts have tokens, for this reason; want of memory says nothing
abbrev pub HaveNoTokens : List (List ℕ) → TextError → Type 0
HaveNoTokens texts (BadByte at) = IsBadByte texts at
HaveNoTokens texts (WideNumber at) = IsWideNumber texts at
HaveNoTokens texts (Syntax at) = ⊥
HaveNoTokens texts Memory = Unit {0}

-- why the text of this number has no tokens
abbrev pub error_of : ℕ → LexError → TextError
error_of text (lexing.BadByte at) = BadByte (place text at)
error_of text (lexing.WideNumber at) = WideNumber (place text at)
error_of text lexing.Memory = Memory
