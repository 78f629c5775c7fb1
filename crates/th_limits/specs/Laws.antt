-- Laws of what is kept.
use Rattle.std.specs.Prelude.{◌≡◌, List, Some, None}
use Rattle.th_module_rules.specs.Limits.{Counted, IsFirstExcess, KeepsLimits}
use Rattle.th_limits.specs.declared.excess.Excess.{Excess}
use Rattle.th_limits.specs.Earliest.{earliest, excess_of}

-- what is kept of counts is the first that is too large
abbrev pub FirstIsKept : Type 0
FirstIsKept = (cs : List Counted) (e : Excess) → earliest None cs ≡ Some e → (c : Counted) × IsFirstExcess cs c × (e ≡ excess_of c)

-- nothing is kept exactly where the counts keep the limits
abbrev pub NoneIsKept : Type 0
NoneIsKept = (cs : List Counted) → ((earliest None cs ≡ None) → KeepsLimits cs) × (KeepsLimits cs → earliest None cs ≡ None)
