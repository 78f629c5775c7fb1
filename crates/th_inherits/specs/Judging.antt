-- The failures of a class by whether it reaches a height above 600.
use Rattle.std.specs.Prelude.{◌≡◌, ℕ, Bool, not, List, [], ◌++◌, Option, Some, None}
use Rattle.std.specs.Bool.{MatchBool}
use Rattle.th_type.specs.declared.place.Place.{Place}
use Rattle.th_type.specs.declared.place.Failure.{Failure}
use Rattle.th_type.specs.Failures.{unless, lowest}
use Rattle.th_type.specs.Declarations.{Meant}
use Rattle.th_module_rules.specs.Inheriting.{ClassRow, ReachesHigh, row_fails}

-- the failure of a class that reaches a height above 600, where it inherits one
abbrev pub high_fails : Bool → Option (Meant × Place) → List Failure
high_fails high None = []
high_fails high (Some i) = unless (not high) 10 i.1

-- a class was judged: what is kept is the least of what was kept before and of its failures
abbrev pub Judged : List ℕ → List ClassRow → ClassRow → Option Failure → Option Failure → Type 0
Judged fulls rows r old new = (high : Bool) × MatchBool high (ReachesHigh rows r.full) (¬ ReachesHigh rows r.full) × (new ≡ lowest old (row_fails fulls rows r ++ high_fails high r.inherits))
