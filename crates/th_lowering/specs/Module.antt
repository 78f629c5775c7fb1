-- Modules.
use Rattle.std.specs.Prelude.{◌≡◌, ℕ, List, [], ◌∷◌, length, map, IsPermutation}
use Rattle.std.specs.Ordering.{nat_cmp, is_lt}
use Rattle.std.specs.List.Sorted.{IsSortedBy}
use Rattle.std.specs.Cmp.Lexicographic.{slice_cmp}
use Rattle.th_meaning.specs.Program.{ProgramInterface, ProgramClass, ProgramModule}
use Rattle.th_flat.specs.declared.module.FlatUnit.{FlatUnit}
use Rattle.th_flat.specs.declared.module.FlatModule.{FlatModule}
use Rattle.th_flat.specs.declared.module.Class.{Class}
use Rattle.th_flat.specs.declared.module.Iface.{Iface}
use Rattle.th_lowering.specs.Homes.{types_known}
use Rattle.th_lowering.specs.Units.{lowered_units}

-- an interface
abbrev pub lowered_interface : ProgramInterface → Iface
lowered_interface i = record { name = i.name; canonical = i.canonical }

-- a class
abbrev pub lowered_class : ProgramClass → Class
lowered_class c = record {
  name = c.head.name;
  head = c.text;
  fields = length c.fields;
  wheres = length c.head.clauses;
  hidden = c.hidden;
  methods = c.methods;
}

-- the units of a module and their stubs, in the order of the module
abbrev pub module_units : ProgramModule → List FlatUnit
module_units m = lowered_units m.name (types_known m) 0 m.units

-- the module of Flat code: what the module names, its classes, its units and their stubs, each list in bytewise order of names
pub record IsLowered (m : ProgramModule) (f : FlatModule) : Type 0 where
  pub name : f.name ≡ m.name
  pub interfaces : IsPermutation (map lowered_interface m.interfaces) f.interfaces
  pub interfaces_in_order : IsSortedBy (λ a b. is_lt (slice_cmp nat_cmp a.name b.name)) f.interfaces
  pub classes : IsPermutation (map lowered_class m.classes) f.classes
  pub classes_in_order : IsSortedBy (λ a b. is_lt (slice_cmp nat_cmp a.name b.name)) f.classes
  pub units : IsPermutation (module_units m) f.units
  pub units_in_order : IsSortedBy (λ a b. is_lt (slice_cmp nat_cmp a.name b.name)) f.units
