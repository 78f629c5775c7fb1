use Rattle.std.proofs.Common.{◌≡◌, map, drop}
use Rattle.th_scope.specs.View.{item_of}
use Rattle.th_cores.specs.Cores.{declared_from, declared_with}
use Rattle.th_cores.specs.View.{declared_of}
use Rattle.th_cores.proofs.interface.declared_from.Given as goal

abbrev pub invariant-loop-item : goal.invariant-loop-item
invariant-loop-item l =
    declared_with l.names l.hierarchy.types l.interface (declared_of l.done) (map item_of (drop l.item-index l.items))
    ≡ declared_from l.names l.hierarchy.types l.interface (map item_of l.items)
