-- What the parser answers.
use Rattle.std.specs.Prelude.{◌≡◌, ℕ, ◌+◌, Bool, true, false, List, [], ◌∷◌, ◌++◌, length, Option, Some, None, Result, Ok, Err}
use Rattle.th_tree.specs.declared.lexeme.Mark.{Mark}
use Rattle.th_tree.specs.declared.lexeme.Lexeme.{Lexeme}
use Rattle.th_tree.specs.declared.tree.Body.{Body}
use Rattle.th_tree.specs.Trees.{TypeSyn, NamedSyn, BodySyn}
use Rattle.th_tree.specs.View.{body_of}
use Rattle.th_tree.specs.Grammar.{Form, Found, TypeAt, NamedAt, FormAt, BodyAt, begins_statement}
use Rattle.th_tree.specs.Verdict.{FirstWrong, place}
use Rattle.th_parse.specs.declared.body.ParseError.{ParseError}
use Rattle.th_parse.specs.declared.body.ParseError.TheVariants.{Syntax, Memory}

-- whether a statement may begin with the next lexeme
abbrev pub statement_next : List Lexeme → Bool
statement_next [] = false
statement_next (t ∷ ts) = begins_statement (Some t.mark)

-- the lexemes are those of statements up to the height `limit`, and then the rest, with whose first lexeme no statement begins
pub record BodyFront (limit : ℕ) (b : BodySyn) (ts rest : List Lexeme) : Type 0 where
  pub front : List Lexeme
  pub split : ts ≡ front ++ rest
  pub is : BodyAt limit b front
  pub ends : statement_next rest ≡ false

-- The answer for the lexemes from one on, of so many in all, of a text of so many bytes: the statements at their front and
-- how many lexemes stand before what follows; or that there are none and the place of the first wrong lexeme; or want of memory.
unfoldable pub IsBodyAnswer : ℕ → List Lexeme → ℕ → ℕ → Result (Body × ℕ) ParseError → Type 0
IsBodyAnswer limit ts all end (Ok x) = (rest : List Lexeme) × BodyFront limit (body_of x.0) ts rest × (x.1 + length rest ≡ all)
IsBodyAnswer limit ts all end (Err (Syntax p)) =
    (rest : List Lexeme) × FirstWrong (BodyAt limit) ts rest × (p ≡ place end rest) × ((b : BodySyn) (other : List Lexeme) → BodyFront limit b ts other → ⊥)
IsBodyAnswer limit ts all end (Err Memory) = Unit {0}

-- the fact holds unless memory ran out
abbrev pub UnlessMemory : {A : Type 0} → Result A ParseError → Type 0 → Type 0
UnlessMemory (Ok x) fact = fact
UnlessMemory (Err (Syntax p)) fact = fact
UnlessMemory (Err Memory) fact = Unit {0}

-- lexemes have at most one tree of each form
pub record OneTree (limit : ℕ) : Type 0 where
  pub types : (ts : List Lexeme) (a b : TypeSyn) → TypeAt limit a ts → TypeAt limit b ts → a ≡ b
  pub named : (ts : List Lexeme) (a b : NamedSyn) → NamedAt limit a ts → NamedAt limit b ts → a ≡ b
  pub expressions : (F : Form) (ts : List Lexeme) (a b : Found) → FormAt limit F a ts → FormAt limit F b ts → a ≡ b
  pub bodies : (ts : List Lexeme) (a b : BodySyn) → BodyAt limit a ts → BodyAt limit b ts → a ≡ b
