-- The head of a class: what stands after `inherits`, and the failures.
use Rattle.std.specs.Prelude.{ℕ, List, ◌++◌, Option, Some, None}
use Rattle.th_tree.specs.Trees.{NamedSyn, ClassHeadSyn}
use Rattle.th_type.specs.declared.place.Failure.{Failure}
use Rattle.th_type.specs.Declarations.{Meant}
use Rattle.th_hier.specs.Naming.{Items, Visible, meaning}
use Rattle.th_hier.specs.Resolve.{count, resolved_types}
use Rattle.th_hier.specs.Heads.{clauses_fail}
use Rattle.th_hier.specs.Texts.{inherits_fails, named_fails}
use Rattle.th_module_rules.specs.Inheriting.{class_meant}

-- what stands after `inherits`, where something does
abbrev pub meant_after : Items → Visible → Option NamedSyn → Option Meant
meant_after items v None = None
meant_after items v (Some n) = Some (class_meant (meaning items v n.item) (count n.args) (resolved_types items v n.args))

-- the failures in the head of a class, without its type parameters
abbrev pub class_parts_fail : Items → Visible → ℕ → ClassHeadSyn → List Failure
class_parts_fail items v text h = named_fails items v text h.of ++ (inherits_fails items v text h.inherits ++ clauses_fail items v text h.clauses)
