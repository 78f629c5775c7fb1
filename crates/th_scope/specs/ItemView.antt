-- What the code holds of items, without where it lies in memory.
use Rattle.std.specs.Prelude.{List, [], ◌∷◌, map, option_map}
use Rattle.th_type.specs.Types.{ty_of}
use Rattle.th_type.specs.Signatures.{sig_of, clause_of}
use Rattle.th_scope.specs.declared.local.Local.{Local}
use Rattle.th_scope.specs.declared.local.LocalList.{LocalList}
use Rattle.th_scope.specs.declared.local.LocalList.TheVariants.{NoLocal, MoreLocal'}
use Rattle.th_scope.specs.declared.item.RoutineItem.{RoutineItem}
use Rattle.th_scope.specs.declared.item.ClassItem.{ClassItem}
use Rattle.th_scope.specs.declared.item.Head.{Head as ItemHead}
use Rattle.th_scope.specs.declared.item.Head.TheVariants as heads
use Rattle.th_scope.specs.declared.item.Item.{Item as CodeItem}
use Rattle.th_rules.specs.Context.{Binding, RoutineInfo, ClassInfo, Head, exception_head, type_head, class_head, routine_head, Item}

-- a local
abbrev pub binding_of : Local → Binding
binding_of l = record { name = l.name; of = option_map ty_of l.ty; index = l.index }

-- locals, the nearest first
abbrev pub locals_of : LocalList → List Binding
locals_of NoLocal = []
locals_of (MoreLocal' l i ls) = binding_of l ∷ locals_of ls

-- a routine or an iterator
abbrev pub routine_of : RoutineItem → RoutineInfo
routine_of r = record { params = r.params; sig = sig_of r.sig; clauses = map clause_of r.clauses.items }

-- a class
abbrev pub class_of : ClassItem → ClassInfo
class_of c = record {
  params = c.params;
  of = ty_of c.of;
  inherits = option_map ty_of c.inherits;
  clauses = map clause_of c.clauses.items;
  init = sig_of c.init;
  hidden = map sig_of c.hidden.items;
  fields = locals_of c.fields;
}

-- what an item is
abbrev pub item_head_of : ItemHead → Head
item_head_of (heads.Exception t) = exception_head (option_map ty_of t)
item_head_of (heads.Declared k) = type_head k
item_head_of (heads.Class c) = class_head (class_of c)
item_head_of (heads.Routine r) = routine_head (routine_of r)

-- an item
abbrev pub item_of : CodeItem → Item
item_of i = record { name = i.name; from = i.from; full = i.full; head = item_head_of i.head }
