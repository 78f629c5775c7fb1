-- The first of what is too large.
use Rattle.std.specs.Prelude.{◌-◌, ◌^◌, Bool, nat_eq, nat_lt, ◌&&◌, ◌||◌, List, [], ◌∷◌, Option, Some, None, min, if◌then◌else◌}
use Rattle.th_module_rules.specs.Limits.{Counted, limit_of, rank}
use Rattle.th_limits.specs.declared.excess.Excess.{Excess}

-- what was counted, where it is too large
abbrev pub excess_of : Counted → Excess
excess_of c = record { what = c.what; count = min c.many (2 ^ 64 - 1); place = c.place }

-- whether it is too large
abbrev pub is_excess : Counted → Bool
is_excess c = nat_lt (limit_of c.what) c.many

-- whether a stands before b: by text, then byte, then limit
abbrev pub stands_before : Excess → Excess → Bool
stands_before a b =
    nat_lt a.place.text b.place.text || (nat_eq a.place.text b.place.text && (nat_lt a.place.at b.place.at || (nat_eq a.place.at b.place.at && nat_lt (rank a.what) (rank b.what))))

-- of the one so far and a further one, whichever stands first
abbrev pub earlier : Option Excess → Excess → Option Excess
earlier None e = Some e
earlier (Some k) e = if stands_before e k then Some e else Some k

-- the first so far, after what was counted
abbrev pub kept : Option Excess → Counted → Option Excess
kept o c = if is_excess c then earlier o (excess_of c) else o

-- the first of the one so far and all of the list that is too large
abbrev pub earliest : Option Excess → List Counted → Option Excess
earliest o [] = o
earliest o (c ∷ cs) = earliest (kept o c) cs
