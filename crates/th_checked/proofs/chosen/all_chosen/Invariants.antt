use Rattle.std.proofs.Common.{◌≡◌, ◌++◌, map, drop}
use Rattle.th_tree.specs.DeclView.{interface_of}
use Rattle.th_meaning.specs.View.{interface_of as core_interface_of}
use Rattle.th_program.specs.Programs.{with_texts}
use Rattle.th_checked.specs.Made.{all_chosen}
use Rattle.th_checked.proofs.chosen.all_chosen.Given as goal

abbrev pub invariant-loop-k : goal.invariant-loop-k
invariant-loop-k l =
    map core_interface_of l.done.items ++ all_chosen l.names l.hierarchy l.tokens l.named (with_texts (drop l.k l.texts) (map interface_of (drop l.k l.interfaces)))
    ≡ all_chosen l.names l.hierarchy l.tokens l.named (with_texts l.texts (map interface_of l.interfaces))
