-- Arguments that take the place of parameters.
use Rattle.std.specs.Prelude.{List, map}
use Rattle.th_type.specs.declared.ty.Args.{Args}
use Rattle.th_type.specs.declared.ty.Args.TheVariants.{Slice, List as ListArgs}
use Rattle.th_type.specs.Types.{TypeExpr, ty_of, tys_of, list_of}

-- the arguments as a list
abbrev pub args_items : Args → List TypeExpr
args_items (Slice items) = map ty_of items.now
args_items (ListArgs list) = list_of (tys_of list.now)
