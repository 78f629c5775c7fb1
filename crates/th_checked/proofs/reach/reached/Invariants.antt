use Rattle.std.proofs.Common.{◌≡◌, ◌-◌, ◌^◌, map}
use Rattle.th_tree.specs.DeclView.{interface_of, module_of}
use Rattle.th_checked.specs.Reaching.{first_names, used_by}
use Rattle.th_checked.proofs.Reaching.{IsReaching}
use Rattle.th_checked.proofs.reach.reached.Given as goal

abbrev pub invariant-loop-at : goal.invariant-loop-at
invariant-loop-at l =
    (l.list.items ≡ l.found) × IsReaching (used_by (map interface_of l.interfaces)) (first_names (module_of l.program)) l.at l.found

abbrev pub decreases-loop-at : goal.decreases-loop-at
decreases-loop-at l = 2 ^ 64 - l.at
