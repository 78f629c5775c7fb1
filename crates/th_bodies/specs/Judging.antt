-- The modules of a program, judged one after another.
use Rattle.std.specs.Prelude.{◌≡◌, ℕ, List, [], ◌∷◌, ◌++◌, map, Option, Some, None}
use Rattle.std.specs.Global.{Vec}
use Rattle.th_tree.specs.Trees.{InterfaceSyn, ModuleSyn}
use Rattle.th_type.specs.declared.place.Failure.{Failure}
use Rattle.th_type.specs.Lists.{IsIn}
use Rattle.th_hier.specs.Hierarchies.{TypeHierarchy}
use Rattle.th_meaning.specs.declared.declared.CoreUnit.{CoreUnit}
use Rattle.th_meaning.specs.Program.{ProgramUnit}
use Rattle.th_meaning.specs.View.{unit_of}
use Rattle.th_module_rules.specs.Modules.{Judged, judged, ModuleFails}
use Rattle.th_module_rules.specs.Stages.{Numbered}
use Rattle.th_module_rules.specs.Texts.{HasOwnNames}
use Rattle.th_module_rules.specs.Units.{module_units}
use Rattle.th_scope.specs.View.{items_of}
use Rattle.th_contexts.specs.declared.known.Known.{Known}
use Rattle.th_contexts.specs.Bases.{bases_of}
use Rattle.th_modules.specs.Own.{AreOwn}
use Rattle.th_bodies.specs.declared.bodies.Bodies.{Bodies}

-- what a module is judged by where this is known of it
abbrev pub known_judged : ℕ → List (List ℕ) → TypeHierarchy → Known → ModuleSyn → Judged
known_judged text table h k m = record { text = text; table = table; hierarchy = h; items = items_of k.items; bases = bases_of k.bases; own = k.own; tree = m }

-- what a module is judged by beside these interfaces
abbrev pub judged_at : List (List ℕ) → TypeHierarchy → List InterfaceSyn → Numbered ModuleSyn → Judged
judged_at table h fs m = judged m.text table h fs m.tree

-- the table has the names under which the items of each module stand
abbrev pub AllNamed : List (List ℕ) → List (Numbered ModuleSyn) → Type 0
AllNamed table [] = Unit {0}
AllNamed table (m ∷ ms) = HasOwnNames table m.tree × AllNamed table ms

-- f is a failure in one of the modules
abbrev pub ModulesFail : (Numbered ModuleSyn → Judged) → List (Numbered ModuleSyn) → Failure → Type 0
ModulesFail g ms f = (m : Numbered ModuleSyn) × IsIn m ms × ModuleFails (g m) f

-- the units of a module, where it has units, and what is known of its items
abbrev pub UnitsAre : Judged → Vec CoreUnit → Known → Type 0
UnitsAre J us k = (AreOwn J → (ps : List ProgramUnit) → module_units J ≡ Some ps → map unit_of us.items ≡ ps) × (items_of k.items ≡ J.items)

-- the same of modules, in order
abbrev pub UnitsHere : (Numbered ModuleSyn → Judged) → List (Numbered ModuleSyn) → List (Vec CoreUnit) → List Known → Type 0
UnitsHere g [] [] [] = Unit {0}
UnitsHere g (m ∷ ms) (us ∷ rest) (k ∷ ks) = UnitsAre (g m) us k × UnitsHere g ms rest ks
UnitsHere g _ _ _ = ⊥

-- the new bodies are the old ones and those of a module, which has its units where no failure is kept
abbrev pub Pushed : Judged → Option Failure → Bodies → Bodies → Type 0
Pushed J least old new =
    (us : Vec CoreUnit) × (k : Known) × (new.units.items ≡ old.units.items ++ us ∷ []) × (new.known.items ≡ old.known.items ++ k ∷ [])
    × (least ≡ None → UnitsAre J us k)
