use Rattle.std.proofs.Common.{◌≡◌, take}
use Rattle.th_views.specs.Shapes.{names_of, shapes_of}
use Rattle.th_shape.proofs.rows.class_names.Given as goal

abbrev pub invariant-loop-class : goal.invariant-loop-class
invariant-loop-class l = l.names.items ≡ names_of (shapes_of (take l.class-index l.classes))
