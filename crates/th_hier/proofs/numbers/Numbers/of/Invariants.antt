use Rattle.std.proofs.Common.{◌≡◌, drop}
use Rattle.th_hier.specs.Naming.{different, with_numbers}
use Rattle.th_hier.proofs.numbers.Numbers.of.Given as goal

abbrev pub invariant-loop-number : goal.invariant-loop-number
invariant-loop-number l = with_numbers l.found (drop l.number-index l.numbers) ≡ different l.numbers
