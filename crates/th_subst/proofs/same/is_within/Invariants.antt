use Rattle.std.proofs.Common.{◌≡◌, drop}
use Rattle.th_subst.specs.Tests.{names_within}
use Rattle.th_subst.proofs.same.is_within.Given as goal

abbrev pub invariant-loop-name : goal.invariant-loop-name
invariant-loop-name l = names_within (drop l.name-index l.names) l.others ≡ names_within l.names l.others
