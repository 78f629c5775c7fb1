-- What the code holds of what an interface declares, without where it lies in memory.
use Rattle.std.specs.Prelude.{map}
use Rattle.th_meaning.specs.View.{type_decl_of, exception_of, class_decl_of, routine_decl_of}
use Rattle.th_cores.specs.declared.interface.Declared.{Declared}
use Rattle.th_cores.specs.Cores.{DeclaredItems}

abbrev pub declared_of : Declared → DeclaredItems
declared_of d = record {
  types = map type_decl_of d.types.items;
  exceptions = map exception_of d.exceptions.items;
  classes = map class_decl_of d.classes.items;
  routines = map routine_decl_of d.routines.items;
}
