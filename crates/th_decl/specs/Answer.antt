-- What the parsers of whole texts answer.
use Rattle.std.specs.Prelude.{◌≡◌, ℕ, List, Result, Ok, Err}
use Rattle.th_tree.specs.declared.lexeme.Lexeme.{Lexeme}
use Rattle.th_tree.specs.Verdict.{FirstWrong, place}
use Rattle.th_parse.specs.declared.body.ParseError.{ParseError}
use Rattle.th_parse.specs.declared.body.ParseError.TheVariants.{Syntax, Memory}

-- the answer for all the lexemes of a text of so many bytes: their tree; or that they have none and the place of the first wrong lexeme; or want of memory
abbrev pub IsTextAnswer : {Y A : Type 0} → (Y → A) → (A → List Lexeme → Type 0) → List Lexeme → ℕ → Result Y ParseError → Type 0
IsTextAnswer view Tree ts end (Ok y) = Tree (view y) ts
IsTextAnswer view Tree ts end (Err (Syntax p)) = (rest : List Lexeme) × FirstWrong Tree ts rest × (p ≡ place end rest)
IsTextAnswer view Tree ts end (Err Memory) = Unit {0}

-- lexemes have at most one tree
abbrev pub OneText : {A : Type 0} → (A → List Lexeme → Type 0) → Type 0
OneText {A = A} Tree = (ts : List Lexeme) (a b : A) → Tree a ts → Tree b ts → a ≡ b
