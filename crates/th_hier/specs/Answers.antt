-- What the making of a hierarchy answers.
use Rattle.std.specs.Prelude.{◌≡◌, ℕ, List, Result, Ok, Err}
use Rattle.th_tree.specs.Trees.{InterfaceSyn}
use Rattle.th_hier.specs.declared.hierarchy.HierError.{HierError}
use Rattle.th_hier.specs.declared.hierarchy.HierError.TheVariants.{Rule, Memory}
use Rattle.th_hier.specs.Hierarchies.{TypeHierarchy, hierarchy_of, items_of, NoRuleFails, IsRefusal}

-- the answer for interfaces whose names have numbers in the table: the hierarchy, where no rule fails, or the failure that is named
abbrev pub IsHierarchyAnswer : List (List ℕ) → List InterfaceSyn → Result TypeHierarchy HierError → Type 0
IsHierarchyAnswer table fs (Ok h) = (h ≡ hierarchy_of table fs) × NoRuleFails (items_of table fs) fs
IsHierarchyAnswer table fs (Err (Rule number p)) = IsRefusal (items_of table fs) fs number p
IsHierarchyAnswer table fs (Err Memory) = Unit {0}
