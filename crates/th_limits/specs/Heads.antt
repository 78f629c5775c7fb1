-- The counts of the head of a class and of its initializer.
use Rattle.std.specs.Prelude.{ℕ, List, [], ◌∷◌, length}
use Rattle.th_tree.specs.Trees.{ClassHeadSyn, InitHeadSyn}
use Rattle.th_type.specs.declared.place.What.TheVariants as whats
use Rattle.th_type.specs.Failures.{place}
use Rattle.th_module_rules.specs.Limits.{Counted, clauses_counts, counted}

-- the type parameters and the clauses of a class, and the formals of each clause
abbrev pub class_head_counts : ℕ → ClassHeadSyn → List Counted
class_head_counts text h = counted whats.Params (length h.params) (place text h.at) ∷ counted whats.Where (length h.clauses) (place text h.at) ∷ clauses_counts text h.clauses

-- the formals of an initializer
abbrev pub init_counts : ℕ → InitHeadSyn → List Counted
init_counts text i = counted whats.Formals (length i.formals) (place text i.at) ∷ []
