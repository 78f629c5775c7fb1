use Rattle.std.proofs.Common.{◌≡◌, ◌++◌, map}
use Rattle.th_scope.specs.ItemView.{item_of}
use Rattle.th_contexts.proofs.known.joined.Given as goal

abbrev pub invariant-loop-item : goal.invariant-loop-item
invariant-loop-item l =
    map item_of l.items.items ++ map item_of l.item-iterator.rest.items ≡ map item_of l.fn.items.items ++ map item_of l.fn.others.items
