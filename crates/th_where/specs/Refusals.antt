-- Why where-clauses are not satisfied.
use Rattle.std.specs.Prelude.{List}
use Rattle.th_type.specs.Types.{TypeExpr}
use Rattle.th_type.specs.Signatures.{Constraint}
use Rattle.th_where.specs.declared.satisfy.WhereError.{WhereError}
use Rattle.th_where.specs.declared.satisfy.WhereError.TheVariants.{Missing, Memory}
use Rattle.th_where.specs.Supplies.{Offer, FirstMissing}

-- the clause at the place is the first for which nothing stands; want of memory says nothing
abbrev pub RefusedBy : List (List Offer) → List TypeExpr → List Constraint → WhereError → Type 0
RefusedBy offers args cs (Missing k) = FirstMissing offers args cs k
RefusedBy offers args cs Memory = Unit {0}
