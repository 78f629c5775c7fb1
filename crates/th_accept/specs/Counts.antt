-- What is counted in the texts of a program.
use Rattle.std.specs.Prelude.{ℕ, ◌+◌, List, [], ◌∷◌, ◌++◌}
use Rattle.th_tree.specs.Spans.{Tokenized}
use Rattle.th_tree.specs.Trees.{InterfaceSyn, ModuleSyn}
use Rattle.th_meaning.specs.Program.{ProgramModule}
use Rattle.th_module_rules.specs.Limits.{Counted, items_counts, module_counts}
use Rattle.th_module_rules.specs.Stages.{Numbered, Program}
use Rattle.th_limits.specs.Words.{tokens_counts}

-- the names and the string literals of texts, of which the first has this number
abbrev pub words_counts : ℕ → List Tokenized → List Counted
words_counts n [] = []
words_counts n (x ∷ xs) = tokens_counts n x.text x.list ++ words_counts (n + 1) xs

-- the items of interfaces
abbrev pub interfaces_counts : List (Numbered InterfaceSyn) → List Counted
interfaces_counts [] = []
interfaces_counts (i ∷ is) = items_counts i.text i.tree.items ++ interfaces_counts is

-- modules that were checked
abbrev pub modules_counts : List (Numbered ModuleSyn) → List ProgramModule → List Counted
modules_counts [] cs = []
modules_counts (m ∷ ms) [] = []
modules_counts (m ∷ ms) (c ∷ cs) = module_counts m.text m.tree c ++ modules_counts ms cs

-- all counts
abbrev pub all_counts : List Tokenized → Program → List ProgramModule → List Counted
all_counts xs p cs = words_counts 0 xs ++ interfaces_counts p.interfaces ++ modules_counts p.modules cs
