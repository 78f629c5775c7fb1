use Rattle.std.proofs.Common.{◌≡◌, take}
use Rattle.th_views.specs.Shapes.{shapes_of}
use Rattle.th_shape.specs.Built.{names_at}
use Rattle.th_shape.proofs.rows.ordered_names.Given as goal

abbrev pub invariant-loop-k : goal.invariant-loop-k
invariant-loop-k l = l.names.items ≡ names_at (shapes_of l.classes) (take l.k l.order)
