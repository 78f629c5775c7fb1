-- The names and the string literals among the tokens of a text, with their bytes.
use Rattle.std.specs.Prelude.{ℕ, List, [], ◌∷◌, ◌++◌, length}
use Rattle.th_tree.specs.declared.tokens.Token.{Token}
use Rattle.th_tree.specs.declared.tokens.TokenKind.{TokenKind}
use Rattle.th_tree.specs.declared.tokens.TokenKind.TheVariants as kinds
use Rattle.th_tree.specs.Spans.{bytes_of}
use Rattle.th_tree.specs.Literal.{literal_value}
use Rattle.th_module_rules.specs.Limits.{Counted, name_count, literal_count}

-- the count of a token of a kind that is written so, at a byte of the text with this number: of a name its bytes, of a
-- literal those that it means
abbrev pub kind_counts : ℕ → TokenKind → List ℕ → ℕ → List Counted
kind_counts text kinds.Name bs at = name_count text (at, length bs) ∷ []
kind_counts text kinds.Text bs at = literal_count text (at, length (literal_value bs)) ∷ []
kind_counts text (kinds.Word w) bs at = []
kind_counts text (kinds.Number n) bs at = []
kind_counts text (kinds.Symbol s) bs at = []

abbrev pub token_counts : ℕ → List ℕ → Token → List Counted
token_counts text bytes t = kind_counts text t.kind (bytes_of bytes t) t.start

-- the counts of tokens of the text
abbrev pub tokens_counts : ℕ → List ℕ → List Token → List Counted
tokens_counts text bytes [] = []
tokens_counts text bytes (t ∷ ts) = token_counts text bytes t ++ tokens_counts text bytes ts
