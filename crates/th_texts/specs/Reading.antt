-- The trees of texts, by which of them are interfaces.
use Rattle.std.specs.Prelude.{◌≡◌, ℕ, ◌<◌, ◌⊎◌, List, [], ◌∷◌, length, slice_get, Some}
use Rattle.th_tree.specs.declared.tokens.Token.{Token}
use Rattle.th_tree.specs.declared.lexeme.Lexeme.{Lexeme}
use Rattle.th_tree.specs.Spans.{Tokenized}
use Rattle.th_tree.specs.Numbered.{lexemes_of, with_tokens}
use Rattle.th_tree.specs.Declarations.{WholeModule, WholeInterface}
use Rattle.th_tree.specs.Verdict.{FirstWrong, place as byte_of}
use Rattle.th_type.specs.declared.place.Place.{Place}
use Rattle.th_module_rules.specs.Texts.{AreTokens, BeginsInterface}
use Rattle.th_module_rules.specs.Refusals.{AreCut, HasTree, IsSyntax}
use Rattle.th_texts.specs.declared.error.TextError.{TextError}
use Rattle.th_texts.specs.declared.error.TextError.TheVariants.{BadByte, WideNumber, Syntax, Memory}
use Rattle.th_texts.specs.Tokens.{AreAllTokens}
use Rattle.th_texts.specs.declared.trees.Told.{Told}
use Rattle.th_texts.specs.declared.trees.Told.TheVariants.{ByFirstToken, ByPlace}

-- whether the text of this number with these tokens is an interface
abbrev pub IsInterface : Told → ℕ → List Token → Type 0
IsInterface ByFirstToken n ts = BeginsInterface ts
IsInterface ByPlace n ts = 0 < n

-- the form of the text of this number
abbrev pub HasFormIn : Told → List (List ℕ) → ℕ → List ℕ → List Token → Type 0
HasFormIn told table n t ts =
    (IsInterface told n ts × HasTree WholeInterface (lexemes_of table t ts)) ⊎ ((¬ IsInterface told n ts) × HasTree WholeModule (lexemes_of table t ts))

-- from this lexeme on it has no tree of that form
abbrev pub GoesWrongIn : Told → List (List ℕ) → ℕ → List ℕ → List Token → List Lexeme → Type 0
GoesWrongIn told table n t ts rest =
    (IsInterface told n ts × FirstWrong WholeInterface (lexemes_of table t ts) rest) ⊎ ((¬ IsInterface told n ts) × FirstWrong WholeModule (lexemes_of table t ts) rest)

-- every text is a list of tokens, each before the k-th has a tree of its form, and the k-th has none, from this byte on
abbrev pub IsSyntaxIn : Told → List (List ℕ) → List (List ℕ) → Place → Type 0
IsSyntaxIn told table texts p =
    (t : List ℕ) × (ts : List Token) × (rest : List Lexeme) × (slice_get texts p.text ≡ Some t) × AreTokens t ts × AreCut (length texts) texts
    × ((j : ℕ) (u : List ℕ) (us : List Token) → j < p.text → slice_get texts j ≡ Some u → AreTokens u us → HasFormIn told table j u us)
    × GoesWrongIn told table p.text t ts rest × (p.at ≡ byte_of (length t) rest)

-- a table with the names and the values of the literals of texts, in order
abbrev pub with_all_tokens : List (List ℕ) → List Tokenized → List (List ℕ)
with_all_tokens table [] = table
with_all_tokens table (x ∷ xs) = with_all_tokens (with_tokens table x.text x.list) xs

-- not all of the texts have trees, for this reason, where the first token of each says its form and the table is that of all of them;
-- want of memory says nothing
abbrev pub HaveNoTrees : List (List ℕ) → TextError → Type 0
HaveNoTrees texts (BadByte at) = ⊥
HaveNoTrees texts (WideNumber at) = ⊥
HaveNoTrees texts (Syntax at) = (xs : List Tokenized) × AreAllTokens texts xs × IsSyntax (with_all_tokens [] xs) texts at
HaveNoTrees texts Memory = Unit {0}

-- the same where the first text is a module and the others are interfaces, whatever they begin with
abbrev pub HaveNoTreesWith : List (List ℕ) → TextError → Type 0
HaveNoTreesWith texts (BadByte at) = ⊥
HaveNoTreesWith texts (WideNumber at) = ⊥
HaveNoTreesWith texts (Syntax at) = (xs : List Tokenized) × AreAllTokens texts xs × IsSyntaxIn ByPlace (with_all_tokens [] xs) texts at
HaveNoTreesWith texts Memory = Unit {0}

-- each text is so short that its bytes have numbers of 32 bits
abbrev pub AreShort : List Tokenized → Type 0
AreShort xs = (k : ℕ) (x : Tokenized) → slice_get xs k ≡ Some x → length x.text < 4294967296
