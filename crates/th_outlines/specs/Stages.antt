-- The stages before that of bodies, and what the judging of them answers.
use Rattle.std.specs.Prelude.{◌≡◌, ℕ, ◌⊎◌, List, [], ◌∷◌, ◌++◌, Option, Result, Ok, Err, Some}
use Rattle.th_tree.specs.Trees.{ModuleSyn}
use Rattle.th_type.specs.declared.place.Failure.{Failure}
use Rattle.th_type.specs.Failures.{failure, IsLeastOf}
use Rattle.th_type.specs.Lists.{IsIn}
use Rattle.th_hier.specs.Naming.{Items}
use Rattle.th_hier.specs.Hierarchies.{TypeHierarchy}
use Rattle.th_hier.specs.declared.hierarchy.HierError.{HierError}
use Rattle.th_hier.specs.declared.hierarchy.HierError.TheVariants as errors
use Rattle.th_module_rules.specs.Inheriting.{ClassRow, module_rows, InheritingFails}
use Rattle.th_module_rules.specs.Stages.{Numbered, Program, hierarchy_in, interfaces_fail, modules_fail, FailsFirst, FailsSecond, FailsThird, IsNamed, NothingFails}
use Rattle.th_program.specs.declared.error.RuleError.{RuleError}
use Rattle.th_program.specs.declared.error.RuleError.TheVariants.{Rule, Memory}
use Rattle.th_outlines.specs.Placing.{placed_in}

-- f is a failure of the rule on what the classes of these modules are for and inherit, where `rows` are the classes of interfaces
abbrev pub OwnFails : List (List ℕ) → List ℕ → Items → List ClassRow → List (Numbered ModuleSyn) → Failure → Type 0
OwnFails table fulls items rows ms f =
    (m : Numbered ModuleSyn) × IsIn m ms × InheritingFails fulls (module_rows table items m.text m.tree ++ rows) (module_rows table items m.text m.tree) f

-- new is the least of the failure that was kept and of the collection
abbrev pub KeepsLeast : Option Failure → (Failure → Type 0) → Option Failure → Type 0
KeepsLeast old P new = IsLeastOf (λ f. (old ≡ Some f) ⊎ P f) new

-- the stages in which the hierarchy of interfaces is judged
abbrev pub hierarchy_stages : Program → List (Failure → Type 0)
hierarchy_stages p = FailsFirst p ∷ FailsSecond p ∷ []

-- the stages before that of bodies
abbrev pub outline_stages : Program → List (Failure → Type 0)
outline_stages p = FailsFirst p ∷ FailsSecond p ∷ FailsThird p ∷ []

-- the answer of stages: the hierarchy, where nothing fails in any of them, or the failure that is named
abbrev pub IsAnswer : Program → List (Failure → Type 0) → Result TypeHierarchy RuleError → Type 0
IsAnswer p stages (Ok h) = (h ≡ hierarchy_in p) × NothingFails stages
IsAnswer p stages (Err (Rule f)) = IsNamed stages f
IsAnswer p stages (Err Memory) = Unit {0}

-- the failure of a hierarchy of interfaces at the text of its interface
abbrev pub placed_error : List ℕ → HierError → RuleError
placed_error texts (errors.Rule number p) = Rule (placed_in texts (failure number p))
placed_error texts errors.Memory = Memory

-- the failures of names, clauses and `main` outside bodies and initializers
abbrev pub lists_fail : Items → Program → List Failure
lists_fail items p = interfaces_fail p.table p.interfaces ++ modules_fail p.table items p.modules
