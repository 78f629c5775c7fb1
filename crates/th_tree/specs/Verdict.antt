-- What a parser owes: the tree, or the first lexeme with which no tree's lexemes go on.
use Rattle.std.specs.Prelude.{◌≡◌, ℕ, ◌+◌, Bool, true, false, List, [], ◌∷◌, ◌++◌, length, Option, Some, None}
use Rattle.th_tree.specs.declared.lexeme.Lexeme.{Lexeme}
use Rattle.th_tree.specs.Forms.{Lang}

-- `rest` is the end of the lexemes from the first one on such that no word's lexemes begin with those up to it; it is empty where the lexemes end too early
pub record FirstWrong {A : Type 0} (Tree : A → List Lexeme → Type 0) (ts rest : List Lexeme) : Type 0 where
  pub front : List Lexeme
  pub split : ts ≡ front ++ rest
  pub begins : (a : A) × (zs : List Lexeme) × Tree a (front ++ zs)
  pub wrong : (t : Lexeme) (p zs : List Lexeme) (a : A) → rest ≡ t ∷ p → Tree a (front ++ t ∷ zs) → ⊥
  pub early : (a : A) → rest ≡ [] → Tree a ts → ⊥

-- the byte at which the rest starts, of a text of this length
abbrev pub place : ℕ → List Lexeme → ℕ
place end [] = end
place end (t ∷ ts) = t.at
