-- Why the texts of a program are refused, in the order in which they are judged: tokens of every text, then trees of every text, then
-- interfaces that are not given, then rules, then limits.
use Rattle.std.specs.Prelude.{◌≡◌, ℕ, ◌+◌, ◌<◌, ◌⊎◌, List, [], ◌∷◌, ◌++◌, length, slice_get, Some}
use Rattle.th_tree.specs.declared.tokens.Token.{Token}
use Rattle.th_tree.specs.Cut.{Cut, FirstBad, FirstWide}
use Rattle.th_tree.specs.Forms.{Lang}
use Rattle.th_tree.specs.Numbered.{lexemes_of}
use Rattle.th_tree.specs.Declarations.{WholeModule, WholeInterface}
use Rattle.th_tree.specs.Verdict.{FirstWrong, place as byte_of}
use Rattle.th_tree.specs.declared.lexeme.Lexeme.{Lexeme}
use Rattle.th_type.specs.declared.place.Place.{Place}
use Rattle.th_type.specs.Lists.{IsIn}
use Rattle.th_module_rules.specs.Stages.{Program}
use Rattle.th_module_rules.specs.Texts.{AreTokens, BeginsInterface, UsedName, interface_names, used_by_interfaces, used_by_modules}

-- each text up to before the k-th is a list of tokens
abbrev pub AreCut : ℕ → List (List ℕ) → Type 0
AreCut k texts = (j : ℕ) (t : List ℕ) → j < k → slice_get texts j ≡ Some t → (ts : List Token) × AreTokens t ts

-- at this byte of the k-th text, the first that is not, no token begins; a wide number stands there or not
abbrev pub IsBadByte : List (List ℕ) → Place → Type 0
IsBadByte texts p = (t : List ℕ) × (slice_get texts p.text ≡ Some t) × AreCut p.text texts × FirstBad t p.at

abbrev pub IsWideNumber : List (List ℕ) → Place → Type 0
IsWideNumber texts p = (t : List ℕ) × (slice_get texts p.text ≡ Some t) × AreCut p.text texts × FirstWide t p.at

-- lexemes have a tree of that form
abbrev pub HasTree : {A : Type 0} → Lang A → List Lexeme → Type 0
HasTree {A} F ls = (a : A) × F a ls

-- the form of a text with these tokens
abbrev pub HasForm : List (List ℕ) → List ℕ → List Token → Type 0
HasForm table t ts = (BeginsInterface ts × HasTree WholeInterface (lexemes_of table t ts)) ⊎ ((¬ BeginsInterface ts) × HasTree WholeModule (lexemes_of table t ts))

-- from this lexeme on they have no tree of that form
abbrev pub GoesWrong : List (List ℕ) → List ℕ → List Token → List Lexeme → Type 0
GoesWrong table t ts rest =
    (BeginsInterface ts × FirstWrong WholeInterface (lexemes_of table t ts) rest) ⊎ ((¬ BeginsInterface ts) × FirstWrong WholeModule (lexemes_of table t ts) rest)

-- every text is a list of tokens, each before the k-th has a tree of its form, and the k-th has none, from this byte on
abbrev pub IsSyntax : List (List ℕ) → List (List ℕ) → Place → Type 0
IsSyntax table texts p =
    (t : List ℕ) × (ts : List Token) × (rest : List Lexeme) × (slice_get texts p.text ≡ Some t) × AreTokens t ts × AreCut (length texts) texts
    × ((j : ℕ) (u : List ℕ) (us : List Token) → j < p.text → slice_get texts j ≡ Some u → AreTokens u us → HasForm table u us)
    × GoesWrong table t ts rest × (p.at ≡ byte_of (length t) rest)

-- a used name stands before another one: by text, then byte
abbrev pub StandsBefore : UsedName → UsedName → Type 0
StandsBefore a b = (a.text < b.text) ⊎ ((a.text ≡ b.text) × (a.name.at < b.name.at))

abbrev pub all_used : Program → List UsedName
all_used p = used_by_interfaces p.interfaces ++ used_by_modules p.modules

-- the first name after `uses` or `implements` that is not that of an interface
abbrev pub IsMissing : Program → UsedName → Type 0
IsMissing p u =
    IsIn u (all_used p) × (¬ IsIn u.name.name (interface_names p.interfaces))
    × ((v : UsedName) → IsIn v (all_used p) → StandsBefore v u → IsIn v.name.name (interface_names p.interfaces))
