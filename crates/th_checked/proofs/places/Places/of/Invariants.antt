use Rattle.std.proofs.Common.{◌≡◌, [], map, drop}
use Rattle.th_tree.specs.DeclView.{interface_of}
use Rattle.th_program.specs.Programs.{with_texts}
use Rattle.th_checked.specs.Noting.{with_all}
use Rattle.th_checked.proofs.places.Places.of.Given as goal

abbrev pub invariant-loop-k : goal.invariant-loop-k
invariant-loop-k l =
    with_all l.found (with_texts (drop l.k l.texts) (map interface_of (drop l.k l.interfaces))) ≡ with_all [] (with_texts l.texts (map interface_of l.interfaces))
