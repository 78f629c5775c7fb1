use Rattle.std.proofs.Common.{◌≤◌, length, map}
use Rattle.th_contexts.specs.BaseView.{base_of}
use Rattle.th_contexts.proofs.Placing.{PlacedFrom}
use Rattle.th_contexts.proofs.base.places_of.Given as goal

abbrev pub invariant-loop-k : goal.invariant-loop-k
invariant-loop-k l = (l.k ≤ length l.list) × PlacedFrom l.k (map base_of l.list) l.places.entries

abbrev pub decreases-loop-k : goal.decreases-loop-k
decreases-loop-k l = l.k
