use Rattle.std.proofs.Common.{◌≡◌, ◌++◌, ℕ, List, map, take}
use Rattle.th_meaning.specs.View.{interface_of}
use Rattle.th_link_counts.specs.Kept.{firsts, names_onto}
use Rattle.th_link_counts.specs.Seen.{Seen}
use Rattle.th_link_counts.proofs.kept.keep_all.Given as goal

abbrev pub invariant-loop-interface : goal.invariant-loop-interface
invariant-loop-interface l = (names : List (List ℕ)) → Seen names l.fn.seen
    → Seen (names_onto names (map interface_of (take l.interface-index l.interfaces))) l.seen
    × (map (λ i. interface_of i.now) l.kept.items ≡ map (λ i. interface_of i.now) l.fn.kept.items ++ firsts names (map interface_of (take l.interface-index l.interfaces)))
