-- What the code holds of a module that is judged, without where it lies in memory.
use Rattle.std.specs.Prelude.{ℕ, List, ◌++◌, Option, Some, None, map, option_map}
use Rattle.std.specs.Global.{Vec}
use Rattle.th_tree.specs.Trees.{RoutineSyn}
use Rattle.th_tree.specs.DeclView.{module_of}
use Rattle.th_type.specs.Signatures.{Signature}
use Rattle.th_meaning.specs.Trees.{BodyTree}
use Rattle.th_meaning.specs.declared.declared.CoreUnit.{CoreUnit}
use Rattle.th_meaning.specs.Program.{ProgramUnit, of_routine, of_method, of_init, method_name, init_name}
use Rattle.th_meaning.specs.View.{unit_of}
use Rattle.th_rules.specs.Context.{ClassInfo, RoutineInfo}
use Rattle.th_rules.specs.Cores.{name_at}
use Rattle.th_stmt_rules.specs.Bodies.{both_parts}
use Rattle.th_scope.specs.View.{items_of}
use Rattle.th_contexts.specs.Bases.{bases_of}
use Rattle.th_module_rules.specs.Contexts.{routine_info}
use Rattle.th_module_rules.specs.Modules.{Judged, found_in, seen_in}
use Rattle.th_module_rules.specs.Units.{unit_with}
use Rattle.th_modules.specs.declared.judging.Judging.{Judging}

-- what the definitions of a module are judged by
abbrev pub judged_of : Judging → Judged
judged_of g = record {
  text = g.env.text;
  table = g.env.names.now;
  hierarchy = g.env.hierarchy.now;
  items = items_of g.env.items.now;
  bases = bases_of g.bases.now;
  own = g.own.now;
  tree = module_of g.tree.now;
}

-- a unit that there may be
abbrev pub unit_opt : Option CoreUnit → Option ProgramUnit
unit_opt None = None
unit_opt (Some u) = Some (unit_of u)

-- units that there may be
abbrev pub units_opt : Option (Vec CoreUnit) → Option (List ProgramUnit)
units_opt None = None
units_opt (Some us) = Some (map unit_of us.items)

-- units after others, where all are there
abbrev pub units_after : Option (List ProgramUnit) → Option (List ProgramUnit) → Option (List ProgramUnit)
units_after us vs = both_parts (λ xs ys. xs ++ ys) us vs

-- the unit of a routine with statements that there may be
abbrev pub routine_made : List (List ℕ) → ℕ → RoutineInfo → Option BodyTree → Option ProgramUnit
routine_made names full i b = option_map (unit_with names (name_at names full) of_routine i.params i.clauses i.sig) b

-- the unit of a method of a class
abbrev pub method_made : List (List ℕ) → ClassInfo → ℕ → Signature → ℕ → Option BodyTree → Option ProgramUnit
method_made names c full s m b =
    option_map (unit_with names (method_name (name_at names full) (name_at names m)) (of_method (name_at names full) (name_at names m)) c.params c.clauses s) b

-- the unit of the initializer of a class
abbrev pub init_made : List (List ℕ) → ClassInfo → ℕ → Option BodyTree → Option ProgramUnit
init_made names c full b = option_map (unit_with names (init_name (name_at names full)) (of_init (name_at names full)) c.params c.clauses c.init) b

-- a routine by its head
abbrev pub info_of : Judged → RoutineSyn → RoutineInfo
info_of J r = routine_info (found_in J) (seen_in J r.head.params) r.head
