-- Declarations and classes as checked modules have them, with full names in place of numbers.
use Rattle.std.specs.Prelude.{ℕ, List, [], ◌∷◌, ◌++◌, map, Option, Some, None, option_map, unwrap_or, if◌then◌else◌}
use Rattle.th_tree.specs.Trees.{MethodSyn}
use Rattle.th_type.specs.Types.{TypeExpr, int_ty}
use Rattle.th_type.specs.Signatures.{Signature}
use Rattle.th_type.specs.Declarations.{DeclaredType, supers_of, sigs_of}
use Rattle.th_hier.specs.Naming.{is_number}
use Rattle.th_meaning.specs.Trees.{TypeTree, MethodTree}
use Rattle.th_meaning.specs.Program.{TypeDecl, ExceptionDecl, ClassHead, ClassDecl, RoutineDecl, ProgramInterface, FieldDecl, ProgramClass}
use Rattle.th_rules.specs.Context.{Binding, RoutineInfo, ClassInfo, Head, exception_head, type_head, class_head, routine_head, Item}
use Rattle.th_rules.specs.Cores.{name_at, core_type}
use Rattle.th_module_rules.specs.Units.{core_sig, core_clause}

-- a method's name and signature
abbrev pub core_method : List (List ℕ) → Signature → MethodTree
core_method names s = record { name = name_at names s.method; sig = core_sig names s }

-- a declared type, whose full name has this number, with so many parameters
abbrev pub core_type_decl : List (List ℕ) → List DeclaredType → ℕ → ℕ → TypeDecl
core_type_decl names D full params = record {
  name = name_at names full;
  params = params;
  supertypes = map (core_type names) (supers_of D full);
  methods = map (core_method names) (sigs_of D full);
}

-- an exception
abbrev pub core_exception : List (List ℕ) → ℕ → Option TypeExpr → ExceptionDecl
core_exception names full t = record { name = name_at names full; argument = option_map (core_type names) t }

-- the head of a class
abbrev pub core_head : List (List ℕ) → ℕ → ClassInfo → ClassHead
core_head names full c = record {
  name = name_at names full;
  params = c.params;
  of = core_type names c.of;
  inherits = option_map (core_type names) c.inherits;
  clauses = map (core_clause names) c.clauses;
}

-- a class of an interface
abbrev pub core_class_decl : List (List ℕ) → ℕ → ClassInfo → ClassDecl
core_class_decl names full c = record { head = core_head names full c; hidden = map (core_method names) c.hidden; init = core_sig names c.init }

-- a routine or an iterator of an interface
abbrev pub core_routine_decl : List (List ℕ) → ℕ → RoutineInfo → RoutineDecl
core_routine_decl names full r = record { name = name_at names full; params = r.params; sig = core_sig names r.sig; clauses = map (core_clause names) r.clauses }

-- what an interface declares
pub record DeclaredItems : Type 0 where
  pub types : List TypeDecl
  pub exceptions : List ExceptionDecl
  pub classes : List ClassDecl
  pub routines : List RoutineDecl

-- with a further item, which comes last
abbrev pub with_declared : List (List ℕ) → List DeclaredType → DeclaredItems → ℕ → Head → DeclaredItems
with_declared names D d full (exception_head t) = record { types = d.types; exceptions = d.exceptions ++ core_exception names full t ∷ []; classes = d.classes; routines = d.routines }
with_declared names D d full (type_head k) = record { types = d.types ++ core_type_decl names D full k ∷ []; exceptions = d.exceptions; classes = d.classes; routines = d.routines }
with_declared names D d full (class_head c) = record { types = d.types; exceptions = d.exceptions; classes = d.classes ++ core_class_decl names full c ∷ []; routines = d.routines }
with_declared names D d full (routine_head r) = record { types = d.types; exceptions = d.exceptions; classes = d.classes; routines = d.routines ++ core_routine_decl names full r ∷ [] }

-- with the items of the interface of that name, in order
abbrev pub declared_with : List (List ℕ) → List DeclaredType → ℕ → DeclaredItems → List Item → DeclaredItems
declared_with names D n d [] = d
declared_with names D n d (i ∷ is) = declared_with names D n (if is_number i.from n then with_declared names D d i.full i.head else d) is

-- what the interface of that name declares among items
abbrev pub declared_from : List (List ℕ) → List DeclaredType → ℕ → List Item → DeclaredItems
declared_from names D n is = declared_with names D n (record { types = []; exceptions = []; classes = []; routines = [] }) is

-- an interface, whose items are among these, with its canonical text
abbrev pub core_interface : List (List ℕ) → List DeclaredType → ℕ → List Item → List ℕ → ProgramInterface
core_interface names D n is canonical = record {
  name = name_at names n;
  canonical = canonical;
  types = (declared_from names D n is).types;
  exceptions = (declared_from names D n is).exceptions;
  classes = (declared_from names D n is).classes;
  routines = (declared_from names D n is).routines;
}

-- the type of a field
abbrev pub field_type : List (List ℕ) → Binding → TypeTree
field_type names b = core_type names (unwrap_or b.of int_ty)

-- a field
abbrev pub core_field : List (List ℕ) → Binding → FieldDecl
core_field names b = record { name = name_at names b.name; of = field_type names b }

-- the names of signatures, and of methods
abbrev pub sig_names : List (List ℕ) → List Signature → List (List ℕ)
sig_names names ss = map (λ s. name_at names s.method) ss

abbrev pub method_names : List (List ℕ) → List MethodSyn → List (List ℕ)
method_names names ms = map (λ m. name_at names m.sig.name.name) ms

-- a class of a module, with the canonical text of its head
abbrev pub core_class : List (List ℕ) → ℕ → ClassInfo → List MethodSyn → List ℕ → ProgramClass
core_class names full c ms text = record {
  text = text;
  head = core_head names full c;
  fields = map (core_field names) c.fields;
  hidden = sig_names names c.hidden;
  methods = method_names names ms;
}
