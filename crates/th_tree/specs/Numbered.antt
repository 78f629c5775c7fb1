-- The lexemes of tokens: names and literals by their numbers in a table.
use Rattle.std.specs.Prelude.{◌≡◌, ℕ, zero, suc, ◌+◌, Bool, true, false, nat_eq, List, [], ◌∷◌, ◌++◌, map, drop, length, if◌then◌else◌}
use Rattle.th_tree.specs.declared.tokens.TokenKind.{TokenKind}
use Rattle.th_tree.specs.declared.tokens.TokenKind.TheVariants as kinds
use Rattle.th_tree.specs.declared.tokens.Token.{Token}
use Rattle.th_tree.specs.declared.lexeme.Mark.{Mark}
use Rattle.th_tree.specs.declared.lexeme.Mark.TheVariants as marks
use Rattle.th_tree.specs.declared.lexeme.Lexeme.{Lexeme}
use Rattle.th_tree.specs.Spans.{bytes_of}
use Rattle.th_tree.specs.Names.{place_of, with_name}

-- the bytes that the inside of a literal with its closing quote stands for: an escape is `\n` for a line feed, and else the byte after the backslash
abbrev pub unescaped : List ℕ → List ℕ
unescaped [] = []
unescaped (b ∷ []) = []
unescaped (b ∷ c ∷ bs) = if nat_eq b 92 then (if nat_eq c 110 then 10 else c) ∷ unescaped bs else b ∷ unescaped (c ∷ bs)

-- the bytes that a literal stands for
abbrev pub literal_value : List ℕ → List ℕ
literal_value [] = []
literal_value (b ∷ bs) = unescaped bs

-- the mark of a token of a kind that is written so
abbrev pub mark_of : List (List ℕ) → TokenKind → List ℕ → Mark
mark_of table kinds.Name bs = marks.Name (place_of table bs)
mark_of table (kinds.Word w) bs = marks.Word w
mark_of table (kinds.Number n) bs = marks.Number n
mark_of table (kinds.Symbol s) bs = marks.Symbol s
mark_of table kinds.Text bs = marks.Text (place_of table (literal_value bs))

-- the lexeme of a token of the text
abbrev pub lexeme_of : List (List ℕ) → List ℕ → Token → Lexeme
lexeme_of table text t = record { mark = mark_of table t.kind (bytes_of text t); at = t.start }

-- the lexemes of tokens of the text
abbrev pub lexemes_of : List (List ℕ) → List ℕ → List Token → List Lexeme
lexemes_of table text ts = map (λ t. lexeme_of table text t) ts

-- the table with what a token of a kind that is written so stands for, where it is a name or a literal
abbrev pub with_token : List (List ℕ) → TokenKind → List ℕ → List (List ℕ)
with_token table kinds.Name bs = with_name table bs
with_token table kinds.Text bs = with_name table (literal_value bs)
with_token table (kinds.Word w) bs = table
with_token table (kinds.Number n) bs = table
with_token table (kinds.Symbol s) bs = table

-- the table with the names and the values of the literals of tokens of the text
abbrev pub with_tokens : List (List ℕ) → List ℕ → List Token → List (List ℕ)
with_tokens table text [] = table
with_tokens table text (t ∷ ts) = with_tokens (with_token table t.kind (bytes_of text t)) text ts
