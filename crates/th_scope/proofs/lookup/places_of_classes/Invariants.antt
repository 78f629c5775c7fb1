use Rattle.std.proofs.Common.{◌≤◌, length, map}
use Rattle.th_scope.specs.View.{item_of}
use Rattle.th_scope.proofs.Places.{ClassedFrom}
use Rattle.th_scope.proofs.lookup.places_of_classes.Given as goal

abbrev pub invariant-loop-k : goal.invariant-loop-k
invariant-loop-k l = (l.k ≤ length l.list) × ClassedFrom l.k (map item_of l.list) l.places.entries

abbrev pub decreases-loop-k : goal.decreases-loop-k
decreases-loop-k l = l.k
