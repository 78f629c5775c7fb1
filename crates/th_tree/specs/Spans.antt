-- A text with tokens of it.
use Rattle.std.specs.Prelude.{ℕ, ◌<◌, ◌≤◌, List, [], ◌∷◌, slice_range}
use Rattle.th_tree.specs.declared.tokens.Token.{Token}

-- a text and a list of tokens
pub record Tokenized : Type 0 where
  pub text : List ℕ
  pub list : List Token

-- the tokens are in order, apart and not empty, from byte `from` on and up to byte `to`
abbrev pub InOrder : ℕ → ℕ → List Token → Type 0
InOrder from to [] = from ≤ to
InOrder from to (t ∷ ts) = (from ≤ t.start) × (t.start < t.end) × InOrder t.end to ts

-- the bytes of a text that are the token
abbrev pub bytes_of : List ℕ → Token → List ℕ
bytes_of text t = slice_range text t.start t.end
