use Rattle.std.proofs.Common.{◌≡◌, [], drop}
use Rattle.th_type.specs.Failures.{lowest}
use Rattle.th_hier.specs.Spots.{repeats}
use Rattle.th_hier.proofs.spot.judge_repeats.Given as goal

abbrev pub invariant-loop-spot : goal.invariant-loop-spot
invariant-loop-spot l = lowest l.least (repeats l.rule l.seen (drop l.spot-index l.spots)) ≡ lowest l.fn.least (repeats l.rule [] l.spots)
