use Rattle.std.proofs.Common.{◌≡◌, drop}
use Rattle.th_hier.specs.Naming.{with_numbers}
use Rattle.th_checked.specs.Reaching.{numbers_of}
use Rattle.th_checked.proofs.reach.find_all.Given as goal

abbrev pub invariant-loop-name : goal.invariant-loop-name
invariant-loop-name l =
    (l.list.items ≡ l.found) × (with_numbers l.found (numbers_of (drop l.name-index l.names)) ≡ with_numbers l.fn.found (numbers_of l.names))
