-- The first of used names that is not among the given ones.
use Rattle.std.specs.Prelude.{ℕ, Bool, nat_eq, nat_lt, ◌&&◌, ◌||◌, List, [], ◌∷◌, Option, Some, None, if◌then◌else◌}
use Rattle.th_hier.specs.Naming.{has}
use Rattle.th_module_rules.specs.Texts.{UsedName}
use Rattle.th_full_names.specs.declared.given.Used.{Used}

-- a used name
abbrev pub used_of : Used → UsedName
used_of u = record { text = u.text; name = u.name }

-- whether a used name stands before another one
abbrev pub stands_before : UsedName → UsedName → Bool
stands_before a b = nat_lt a.text b.text || (nat_eq a.text b.text && nat_lt a.name.at b.name.at)

-- the one that is kept: whichever stands first
abbrev pub earlier : Option UsedName → UsedName → Option UsedName
earlier None u = Some u
earlier (Some v) u = if stands_before u v then Some u else Some v

-- the first of the one that is kept and of the used names that are not given
abbrev pub earliest : List ℕ → Option UsedName → List UsedName → Option UsedName
earliest given o [] = o
earliest given o (u ∷ us) = earliest given (if has given u.name.name then o else earlier o u) us
