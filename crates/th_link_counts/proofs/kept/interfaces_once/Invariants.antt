use Rattle.std.proofs.Common.{◌≡◌, [], map, take}
use Rattle.th_meaning.specs.View.{interface_of, program_of}
use Rattle.th_link_counts.specs.Kept.{interfaces_of, names_onto}
use Rattle.th_link_counts.specs.Seen.{Seen}
use Rattle.th_link_counts.proofs.Keeping.{all_kept}
use Rattle.th_link_counts.proofs.kept.interfaces_once.Given as goal

abbrev pub invariant-loop-module : goal.invariant-loop-module
invariant-loop-module l =
    Seen (names_onto [] (all_kept (take l.module-index l.modules))) l.seen × (map (λ i. interface_of i.now) l.kept.items ≡ interfaces_of (program_of (take l.module-index l.modules)))
