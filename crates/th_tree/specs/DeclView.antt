-- The code's trees of modules and interfaces, without where they lie in memory.
use Rattle.std.specs.Prelude.{List, map}
use Rattle.th_tree.specs.declared.decl.SigTree.{SigTree}
use Rattle.th_tree.specs.declared.decl.ClauseTree.{ClauseTree}
use Rattle.th_tree.specs.declared.decl.RoutineHead.{RoutineHead}
use Rattle.th_tree.specs.declared.decl.Routine.{Routine}
use Rattle.th_tree.specs.declared.decl.ClassHead.{ClassHead}
use Rattle.th_tree.specs.declared.decl.InitHead.{InitHead}
use Rattle.th_tree.specs.declared.decl.InterfaceClass.{InterfaceClass}
use Rattle.th_tree.specs.declared.decl.SuperCall.{SuperCall}
use Rattle.th_tree.specs.declared.decl.FieldAssign.{FieldAssign}
use Rattle.th_tree.specs.declared.decl.InitTree.{InitTree}
use Rattle.th_tree.specs.declared.decl.MethodTree.{MethodTree}
use Rattle.th_tree.specs.declared.decl.ClassDecl.{ClassDecl}
use Rattle.th_tree.specs.declared.decl.TypeDecl.{TypeDecl}
use Rattle.th_tree.specs.declared.decl.ExceptionDecl.{ExceptionDecl}
use Rattle.th_tree.specs.declared.decl.InterfaceItem.{InterfaceItem}
use Rattle.th_tree.specs.declared.decl.InterfaceItem.TheVariants as items
use Rattle.th_tree.specs.declared.decl.Interface.{Interface}
use Rattle.th_tree.specs.declared.decl.ModuleItem.{ModuleItem}
use Rattle.th_tree.specs.declared.decl.ModuleItem.TheVariants as parts
use Rattle.th_tree.specs.declared.decl.Module.{Module}
use Rattle.th_tree.specs.Trees.{SigSyn, ClauseSyn, RoutineHeadSyn, RoutineSyn, ClassHeadSyn, InitHeadSyn, InterfaceClassSyn, SuperCallSyn, FieldAssignSyn, InitSyn, MethodSyn, ClassSyn, TypeDeclSyn, ExceptionSyn, InterfaceItemSyn, exception_item, type_item, class_item, routine_item, InterfaceSyn, ModuleItemSyn, module_class, module_routine, ModuleSyn}
use Rattle.th_tree.specs.View.{type_of, types_of, named_of, expr_of, exprs_of, formal_of, option_of, body_of}

-- a method's signature
abbrev pub sig_of : SigTree → SigSyn
sig_of s = record { at = s.at; iterator = s.iterator; name = s.name; formals = map formal_of s.formals.items; gives = option_of type_of s.gives; signals = s.signals.items }

-- a clause after `where`
abbrev pub clause_of : ClauseTree → ClauseSyn
clause_of c = record { param = c.param; method = c.method; formals = types_of c.formals; gives = option_of type_of c.gives; signals = c.signals.items }

-- the head of a routine or an iterator
abbrev pub routine_head_of : RoutineHead → RoutineHeadSyn
routine_head_of r = record { at = r.at; iterator = r.iterator; name = r.name; params = r.params.items; formals = map formal_of r.formals.items; gives = option_of type_of r.gives; signals = r.signals.items; clauses = map clause_of r.clauses.items }

-- a routine or an iterator
abbrev pub routine_of : Routine → RoutineSyn
routine_of r = record { head = routine_head_of r.head; body = body_of r.body }

-- the head of a class
abbrev pub class_head_of : ClassHead → ClassHeadSyn
class_head_of c = record { at = c.at; name = c.name; params = c.params.items; of = named_of c.of; inherits = option_of named_of c.inherits; clauses = map clause_of c.clauses.items }

-- the head of an initializer
abbrev pub init_head_of : InitHead → InitHeadSyn
init_head_of i = record { at = i.at; formals = map formal_of i.formals.items; signals = i.signals.items }

-- a class of an interface
abbrev pub interface_class_of : InterfaceClass → InterfaceClassSyn
interface_class_of c = record { head = class_head_of c.head; hidden = map sig_of c.hidden.items; init = init_head_of c.init }

-- the super call of an initializer
abbrev pub super_call_of : SuperCall → SuperCallSyn
super_call_of s = record { at = s.at; args = exprs_of s.args }

-- an assignment of an initializer
abbrev pub field_assign_of : FieldAssign → FieldAssignSyn
field_assign_of f = record { field = f.field; value = expr_of f.value }

-- an initializer
abbrev pub init_of : InitTree → InitSyn
init_of i = record { head = init_head_of i.head; super_call = option_of super_call_of i.super_call; assigns = map field_assign_of i.assigns.items }

-- a method of a class
abbrev pub method_of : MethodTree → MethodSyn
method_of m = record { at = m.at; hidden = m.hidden; sig = sig_of m.sig; body = body_of m.body }

-- a class of a module
abbrev pub class_of : ClassDecl → ClassSyn
class_of c = record { head = class_head_of c.head; fields = map formal_of c.fields.items; init = init_of c.init; methods = map method_of c.methods.items }

-- a type of an interface
abbrev pub type_decl_of : TypeDecl → TypeDeclSyn
type_decl_of t = record { at = t.at; name = t.name; params = t.params.items; supertypes = map named_of t.supertypes.items; methods = map sig_of t.methods.items }

-- an exception of an interface
abbrev pub exception_of : ExceptionDecl → ExceptionSyn
exception_of e = record { at = e.at; name = e.name; argument = option_of type_of e.argument }

-- an item of an interface
abbrev pub interface_item_of : InterfaceItem → InterfaceItemSyn
interface_item_of (items.Exception e) = exception_item (exception_of e)
interface_item_of (items.Type t) = type_item (type_decl_of t)
interface_item_of (items.Class c) = class_item (interface_class_of c)
interface_item_of (items.Routine r) = routine_item (routine_head_of r)

-- an interface
abbrev pub interface_of : Interface → InterfaceSyn
interface_of i = record { at = i.at; name = i.name; uses = i.uses.items; items = map interface_item_of i.items.items }

-- an item of a module
abbrev pub module_item_of : ModuleItem → ModuleItemSyn
module_item_of (parts.Class c) = module_class (class_of c)
module_item_of (parts.Routine r) = module_routine (routine_of r)

-- a module
abbrev pub module_of : Module → ModuleSyn
module_of m = record { at = m.at; name = m.name; implements = m.implements; uses = m.uses.items; items = map module_item_of m.items.items }
