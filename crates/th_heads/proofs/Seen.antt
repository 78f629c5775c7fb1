-- The clauses of an item by what can be seen in it are its clauses.
use Rattle.std.proofs.Common.{◌≡◌, ◌++◌, List, [], ◌∷◌, refl, ap}
use Rattle.th_tree.specs.declared.tree.Ident.{Ident}
use Rattle.th_tree.specs.Trees.{ClauseSyn}
use Rattle.th_type.specs.Signatures.{Constraint}
use Rattle.th_hier.specs.Naming.{Items, Visible}
use Rattle.th_hier.specs.Texts.{within}
use Rattle.th_module_rules.specs.Contexts.{constraints}
use Rattle.th_heads.specs.Clauses.{clause_seen, clauses_seen}

pub seen_are : (items : Items) (v : Visible) (ps : List Ident) (cs : List ClauseSyn) → clauses_seen items (within v ps) cs ≡ constraints items (within v ps) ps cs
seen_are items v ps [] = refl
seen_are items v ps (c ∷ cs) = ap (λ (r : List Constraint). clause_seen items (within v ps) c ++ r) (seen_are items v ps cs)
