-- The clauses of an item by what can be seen in it.
use Rattle.std.specs.Prelude.{nat_eq, List, [], ◌∷◌, ◌++◌, position}
use Rattle.th_tree.specs.Trees.{ClauseSyn}
use Rattle.th_type.specs.Signatures.{Constraint}
use Rattle.th_hier.specs.Naming.{Items, Visible}
use Rattle.th_hier.specs.Heads.{parts_of}
use Rattle.th_module_rules.specs.Contexts.{constraint}

-- a clause, where its first name is that of a type parameter and its parts resolve
abbrev pub clause_seen : Items → Visible → ClauseSyn → List Constraint
clause_seen items v c = constraint c.method.name (position (nat_eq c.param.name) v.params) (parts_of items v c.formals c.gives c.signals)

-- the clauses
abbrev pub clauses_seen : Items → Visible → List ClauseSyn → List Constraint
clauses_seen items v [] = []
clauses_seen items v (c ∷ cs) = clause_seen items v c ++ clauses_seen items v cs
