-- The checked units of a module: none where a rule fails in their bodies.
use Rattle.std.specs.Prelude.{ℕ, List, [], ◌∷◌, ◌++◌, map, Option, Some, None, option_map}
use Rattle.th_tree.specs.declared.tree.Ident.{Ident}
use Rattle.th_tree.specs.Trees.{MethodSyn, ClassSyn, RoutineSyn, ModuleItemSyn, module_class, module_routine}
use Rattle.th_type.specs.Types.{list_of}
use Rattle.th_type.specs.Signatures.{Signature, Constraint}
use Rattle.th_meaning.specs.Trees as core
use Rattle.th_meaning.specs.Trees.{BodyTree, ClauseTree}
use Rattle.th_meaning.specs.Program.{UnitSort, of_routine, of_method, of_init, ProgramUnit, method_name, init_name}
use Rattle.th_rules.specs.Context.{ClassInfo, Head, exception_head, type_head, class_head, routine_head, Item, find_item}
use Rattle.th_rules.specs.Cores.{name_at, core_type}
use Rattle.th_stmt_rules.specs.Bodies.{both_parts}
use Rattle.th_stmt_rules.specs.Units.{unit_core}
use Rattle.th_module_rules.specs.Contexts.{bindings, module_item_name}
use Rattle.th_module_rules.specs.Initializers.{init_core}
use Rattle.th_module_rules.specs.Modules.{Judged, context_in, found_in, inherited_at, method_sig, seen_in}

-- a signature with full names
abbrev pub core_sig : List (List ℕ) → Signature → core.Signature
core_sig names s = record {
  iterator = s.iterator;
  formals = map (core_type names) (list_of s.formals);
  gives = option_map (core_type names) s.gives;
  signals = map (name_at names) s.signals;
}

-- a clause with full names
abbrev pub core_clause : List (List ℕ) → Constraint → ClauseTree
core_clause names c = record { param = c.param; method = record { name = name_at names c.sig.method; sig = core_sig names c.sig } }

-- a unit with its statements
abbrev pub unit_with : List (List ℕ) → List ℕ → UnitSort → ℕ → List Constraint → Signature → BodyTree → ProgramUnit
unit_with names name sort params cs s b = record { name = name; sort = sort; params = params; clauses = map (core_clause names) cs; sig = core_sig names s; body = b }

-- a routine
abbrev pub routine_unit : Judged → ℕ → RoutineSyn → Head → Option ProgramUnit
routine_unit J full r (routine_head i) =
    option_map (unit_with J.table (name_at J.table full) of_routine i.params i.clauses i.sig)
    (unit_core (context_in J r.head.params i.clauses i.sig None) (bindings (found_in J) (seen_in J r.head.params) 0 r.head.formals) r.body)
routine_unit J full r (exception_head t) = None
routine_unit J full r (type_head k) = None
routine_unit J full r (class_head c) = None

-- the body of a method
abbrev pub method_unit : Judged → List Ident → ClassInfo → ℕ → MethodSyn → Option ProgramUnit
method_unit J ps c full m =
    let name = name_at J.table full in
    option_map (unit_with J.table (method_name name (name_at J.table m.sig.name.name)) (of_method name (name_at J.table m.sig.name.name)) c.params c.clauses (method_sig J ps m.sig))
    (unit_core (context_in J ps c.clauses (method_sig J ps m.sig) (Some full)) (bindings (found_in J) (seen_in J ps) 0 m.sig.formals) m.body)

abbrev pub method_units : Judged → List Ident → ClassInfo → ℕ → List MethodSyn → Option (List ProgramUnit)
method_units J ps c full [] = Some []
method_units J ps c full (m ∷ ms) = both_parts (λ u us. u ∷ us) (method_unit J ps c full m) (method_units J ps c full ms)

-- an initializer
abbrev pub init_unit : Judged → ClassSyn → ClassInfo → ℕ → Option ProgramUnit
init_unit J s c full =
    let C = context_in J s.head.params c.clauses c.init None in
    option_map (unit_with J.table (init_name (name_at J.table full)) (of_init (name_at J.table full)) c.params c.clauses c.init)
    (init_core C (bindings (found_in J) (seen_in J s.head.params) 0 s.init.head.formals) (name_at J.table full) c (inherited_at C c.inherits) s.init)

-- the units of a class: its initializer and its methods, in the order of the text
abbrev pub class_units : Judged → ℕ → ClassSyn → Head → Option (List ProgramUnit)
class_units J full s (class_head c) = both_parts (λ u us. u ∷ us) (init_unit J s c full) (method_units J s.head.params c full s.methods)
class_units J full s (exception_head t) = None
class_units J full s (type_head k) = None
class_units J full s (routine_head r) = None

-- the units of an item
abbrev pub item_units : Judged → ModuleItemSyn → Option Item → Option (List ProgramUnit)
item_units J x None = None
item_units J (module_class s) (Some i) = class_units J i.full s i.head
item_units J (module_routine r) (Some i) = option_map (λ u. u ∷ []) (routine_unit J i.full r i.head)

-- the units of items, in the order of the text
abbrev pub items_units : Judged → List ModuleItemSyn → Option (List ProgramUnit)
items_units J [] = Some []
items_units J (x ∷ xs) = both_parts (λ us vs. us ++ vs) (item_units J x (find_item J.items None (module_item_name x).name)) (items_units J xs)

-- the units of a module, where no rule fails in their bodies
abbrev pub module_units : Judged → Option (List ProgramUnit)
module_units J = items_units J J.tree.items
