-- Tables that grow.
use Rattle.std.specs.Prelude.{◌≡◌, ℕ, true, List, ◌++◌}
use Rattle.th_tree.specs.declared.tokens.TokenKind.{TokenKind}
use Rattle.th_tree.specs.declared.tokens.TokenKind.TheVariants as kinds
use Rattle.th_tree.specs.Names.{is_there}
use Rattle.th_tree.specs.Numbered.{literal_value}

-- the new table is the old one with perhaps more names at its end
abbrev pub Grown : List (List ℕ) → List (List ℕ) → Type 0
Grown old new = (more : List (List ℕ)) × (new ≡ old ++ more)

-- what the token stands for is in the table, where it is a name or a literal
abbrev pub TokenThere : List (List ℕ) → TokenKind → List ℕ → Type 0
TokenThere table kinds.Name bs = is_there table bs ≡ true
TokenThere table kinds.Text bs = is_there table (literal_value bs) ≡ true
TokenThere table (kinds.Word w) bs = Unit {0}
TokenThere table (kinds.Number n) bs = Unit {0}
TokenThere table (kinds.Symbol s) bs = Unit {0}
