use Rattle.std.proofs.Common.{◌≡◌, ◌++◌, map, drop}
use Rattle.th_rules.specs.Cores.{name_at}
use Rattle.th_cores.proofs.signature.full_names.Given as goal

abbrev pub invariant-loop-number : goal.invariant-loop-number
invariant-loop-number l = l.done.items ++ map (name_at l.names) (drop l.number-index l.numbers) ≡ map (name_at l.names) (l.numbers)
