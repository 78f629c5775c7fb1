-- The names under which the items of modules stand.
use Rattle.std.specs.Prelude.{ℕ, List, [], ◌∷◌}
use Rattle.th_tree.specs.Trees.{ModuleSyn}
use Rattle.th_module_rules.specs.Stages.{Numbered}
use Rattle.th_module_rules.specs.Texts.{HasOwnNames}

-- the table has the names under which the items of each module stand
abbrev pub AllNamed : List (List ℕ) → List (Numbered ModuleSyn) → Type 0
AllNamed table [] = Unit {0}
AllNamed table (m ∷ ms) = HasOwnNames table m.tree × AllNamed table ms
