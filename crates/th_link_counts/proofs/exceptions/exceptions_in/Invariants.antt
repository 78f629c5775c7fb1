use Rattle.std.proofs.Common.{◌≡◌, ◌-◌, ◌^◌, length, map, take}
use Rattle.std.specs.Prelude.{min, sum_by}
use Rattle.th_meaning.specs.View.{interface_of}
use Rattle.th_link_counts.proofs.exceptions.exceptions_in.Given as goal

abbrev pub invariant-loop-interface : goal.invariant-loop-interface
invariant-loop-interface l = l.sum ≡ min (sum_by (λ i. length i.exceptions) (map (λ i. interface_of i.now) (take l.interface-index l.interfaces))) (2 ^ 64 - 1)
