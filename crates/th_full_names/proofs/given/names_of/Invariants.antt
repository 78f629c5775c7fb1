use Rattle.std.proofs.Common.{◌≡◌, [], map, drop}
use Rattle.th_hier.specs.Naming.{with_numbers}
use Rattle.th_full_names.proofs.given.names_of.Given as goal

abbrev pub invariant-loop-interface : goal.invariant-loop-interface
invariant-loop-interface l = with_numbers l.given (map (λ i. i.name.name) (drop l.interface-index l.interfaces)) ≡ with_numbers [] (map (λ i. i.name.name) l.interfaces)
