use Rattle.std.proofs.Common.{◌≡◌, ◌++◌, drop}
use Rattle.th_type.specs.Failures.{lowest}
use Rattle.th_hier.specs.Heads.{refs_fail, signal_numbers, signal_spots}
use Rattle.th_hier.proofs.Signalled.{after_numbers}
use Rattle.th_heads.proofs.parts.walk_refs.Given as goal

abbrev pub invariant-loop-named : goal.invariant-loop-named
invariant-loop-named l =
    (l.spots.items ++ signal_spots l.found l.sight l.text (drop l.named-index l.refs) ≡ signal_spots l.found l.sight l.text l.refs)
    × (after_numbers l.whole l.numbers.items (signal_numbers l.found l.sight (drop l.named-index l.refs)) ≡ signal_numbers l.found l.sight l.refs)
    × (lowest l.least (refs_fail l.found l.sight l.text (drop l.named-index l.refs)) ≡ lowest l.fn.least (refs_fail l.found l.sight l.text l.refs))
