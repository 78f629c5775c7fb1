-- The own items of a text, as they are added.
use Rattle.std.specs.Prelude.{List, [], ◌∷◌, ◌++◌, is_some, if◌then◌else◌}
use Rattle.th_hier.specs.declared.item.ItemName.{ItemName}
use Rattle.th_hier.specs.declared.item.Entry.{Entry}
use Rattle.th_hier.specs.Naming.{Items, item_at}

-- the items with a further one, unless one of them has its name
abbrev pub with_own : Items → ItemName → Entry → Items
with_own items key e = if is_some (item_at items key) then items else items ++ (key, e) ∷ []
