use Rattle.std.proofs.Common.{◌≡◌, ◌+◌, length, map, option_map}
use Rattle.th_scope.specs.View.{class_of, items_of}
use Rattle.th_overrides.specs.AncestorView.{ancestor_of}
use Rattle.th_overrides.specs.Chain.{Leads, inherited_as}
use Rattle.th_overrides.proofs.chain.chain_of.Given as goal

abbrev pub invariant-loop-at : goal.invariant-loop-at
invariant-loop-at l =
    Leads (items_of l.items) (inherited_as (items_of l.items) (class_of l.class).inherits) (map ancestor_of l.done.items) (option_map ancestor_of l.at)
    × (length l.done.items + l.left ≡ length (items_of l.items))

abbrev pub decreases-loop-at : goal.decreases-loop-at
decreases-loop-at l = l.left
