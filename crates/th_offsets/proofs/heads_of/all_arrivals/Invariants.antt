use Rattle.std.proofs.Common.{◌≡◌, length}
use Rattle.th_offsets.specs.Given.{Arriving}
use Rattle.th_offsets.proofs.heads_of.all_arrivals.Given as goal

abbrev pub invariant-loop-number : goal.invariant-loop-number
invariant-loop-number l = record {
  many : length l.all.items ≡ l.number;
  done : Arriving l.classes l.all.items;
}
