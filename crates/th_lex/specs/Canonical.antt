-- The canonical text of tokens.
use Rattle.std.specs.Prelude.{◌≡◌, ℕ, List, map}
use Rattle.std.specs.List.{join_with_byte}
use Rattle.std.specs.Fmt.{decimal}
use Rattle.th_tree.specs.declared.tokens.TokenKind.{TokenKind}
use Rattle.th_tree.specs.declared.tokens.TokenKind.TheVariants.{Number}
use Rattle.th_tree.specs.declared.tokens.Token.{Token}
use Rattle.th_tree.specs.Spans.{bytes_of}
use Rattle.th_tree.specs.Cut.{Cut}

-- how the canonical text writes a token of this kind and these bytes: a number in decimal without leading zeros, any other token by its bytes
abbrev pub written : TokenKind → List ℕ → List ℕ
written (Number n) bs = decimal n
written _ bs = bs

-- how the canonical text writes a token of a text
abbrev pub spelled : List ℕ → Token → List ℕ
spelled text t = written t.kind (bytes_of text t)

-- the canonical text of tokens of a text: they are joined by single spaces
abbrev pub canonical : List ℕ → List Token → List ℕ
canonical text ts = join_with_byte 32 (map (spelled text) ts)

-- the tokens of a text, each as its kind, which has the value of a number, and as the canonical text writes it
abbrev pub readings : List ℕ → List Token → List (TokenKind × List ℕ)
readings text ts = map (λ t. (t.kind, spelled text t)) ts

-- the other text has a cutting into the same tokens: of the same kinds, with the same values of numbers and the same bytes of names and literals
abbrev pub CutsAlike : List ℕ → List Token → List ℕ → Type 0
CutsAlike text ts other = (us : List Token) × Cut other us × (readings other us ≡ readings text ts)
