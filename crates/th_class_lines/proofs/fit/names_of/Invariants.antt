use Rattle.std.proofs.Common.{◌≡◌, ◌++◌, drop}
use Rattle.th_views.specs.Shapes.{names_of, shapes_of}
use Rattle.th_class_lines.proofs.fit.names_of.Given as goal

abbrev pub invariant-loop-class : goal.invariant-loop-class
invariant-loop-class l = l.names.items ++ names_of (shapes_of (drop l.class-index l.classes)) ≡ names_of (shapes_of l.classes)
