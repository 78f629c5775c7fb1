-- The checked units of a program's modules, and what the judging of bodies answers.
use Rattle.std.specs.Prelude.{◌≡◌, List, [], ◌∷◌, map, Result, Ok, Err, Some, None}
use Rattle.std.specs.Global.{Vec}
use Rattle.th_type.specs.Failures.{IsLeastOf}
use Rattle.th_tree.specs.Trees.{ModuleSyn}
use Rattle.th_meaning.specs.declared.declared.CoreUnit.{CoreUnit}
use Rattle.th_meaning.specs.View.{unit_of}
use Rattle.th_module_rules.specs.Modules.{Judged, judged}
use Rattle.th_module_rules.specs.Stages.{Numbered, Program, FailsFourth, hierarchy_in, interface_trees}
use Rattle.th_module_rules.specs.Units.{module_units}
use Rattle.th_scope.specs.View.{items_of}
use Rattle.th_contexts.specs.declared.known.Known.{Known}
use Rattle.th_program.specs.declared.error.RuleError.{RuleError}
use Rattle.th_program.specs.declared.error.RuleError.TheVariants.{Rule, Memory}
use Rattle.th_bodies.specs.declared.bodies.Bodies.{Bodies}

-- what a module is judged by
abbrev pub judged_in : Program → Numbered ModuleSyn → Judged
judged_in p m = judged m.text p.table (hierarchy_in p) (interface_trees p) m.tree

-- the checked units of modules, in order, and what is known of their items
abbrev pub UnitsOf : Program → List (Numbered ModuleSyn) → List (Vec CoreUnit) → List Known → Type 0
UnitsOf p [] [] [] = Unit {0}
UnitsOf p (m ∷ ms) (us ∷ rest) (k ∷ ks) =
    (module_units (judged_in p m) ≡ Some (map unit_of us.items)) × (items_of k.items ≡ (judged_in p m).items) × UnitsOf p ms rest ks
UnitsOf p _ _ _ = ⊥

abbrev pub AreBodies : Program → Bodies → Type 0
AreBodies p b = UnitsOf p p.modules b.units.items b.known.items

-- the answer: the units where no rule fails in bodies, initializers and definitions, or the least failure; want of memory says nothing
abbrev pub IsBodiesAnswer : Program → Result Bodies RuleError → Type 0
IsBodiesAnswer p (Ok b) = IsLeastOf (FailsFourth p) None × AreBodies p b
IsBodiesAnswer p (Err (Rule f)) = IsLeastOf (FailsFourth p) (Some f)
IsBodiesAnswer p (Err Memory) = Unit {0}
