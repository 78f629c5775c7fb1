-- The code's classes.
use Rattle.std.specs.Prelude.{List, map, option_map}
use Rattle.th_type.specs.declared.place.Place.{Place}
use Rattle.th_type.specs.Declarations.{Meant, meant_of}
use Rattle.th_module_rules.specs.Inheriting.{ClassRow}
use Rattle.th_inherits.specs.declared.row.Inherited.{Inherited}
use Rattle.th_inherits.specs.declared.row.Row.{Row}

-- what stands after `inherits`, and where
abbrev pub inherited_of : Inherited → Meant × Place
inherited_of i = (meant_of i.meaning, i.place)

-- the code's class
abbrev pub row_of : Row → ClassRow
row_of r = record { full = r.full; place = r.place; of_place = r.of_place; for_param = r.for_param; inherits = option_map inherited_of r.inherits }

-- the code's classes
abbrev pub rows_of : List Row → List ClassRow
rows_of rs = map row_of rs
