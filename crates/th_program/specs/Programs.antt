-- The trees of texts as a program.
use Rattle.std.specs.Prelude.{◌≡◌, ◌<◌, ℕ, List, [], ◌∷◌, map, length}
use Rattle.th_tree.specs.DeclView.{interface_of, module_of}
use Rattle.th_tree.specs.Trees.{InterfaceSyn, ModuleSyn}
use Rattle.th_type.specs.Lists.{IsIn}
use Rattle.th_module_rules.specs.Stages.{Numbered, numbered, Program}
use Rattle.th_program.specs.declared.trees.Trees.{Trees}

-- trees with the numbers of their texts
abbrev pub with_texts : {A : Type 0} → List ℕ → List A → List (Numbered A)
with_texts [] xs = []
with_texts (n ∷ ns) [] = []
with_texts (n ∷ ns) (x ∷ xs) = numbered n x ∷ with_texts ns xs

-- the program of a table, and of interfaces and modules with the numbers of their texts
abbrev pub program : List (List ℕ) → List ℕ → List InterfaceSyn → List ℕ → List ModuleSyn → Program
program table is fs ns ms = record { table = table; interfaces = with_texts is fs; modules = with_texts ns ms }

-- the program of trees
abbrev pub program_of : Trees → Program
program_of t = program t.names t.interface_texts.items (map interface_of t.interfaces.items) t.module_texts.items (map module_of t.modules.items)

-- each tree has the number of its text
pub record IsPaired (t : Trees) : Type 0 where
  pub interfaces : length t.interface_texts.items ≡ length t.interfaces.items
  pub modules : length t.module_texts.items ≡ length t.modules.items

-- each number is below all that stand after it
abbrev pub Ascending : List ℕ → Type 0
Ascending [] = Unit {0}
Ascending (n ∷ ns) = ((m : ℕ) → IsIn m ns → n < m) × Ascending ns
