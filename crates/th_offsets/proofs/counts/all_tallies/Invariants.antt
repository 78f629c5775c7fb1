use Rattle.std.proofs.Common.{◌≡◌, length}
use Rattle.th_offsets.specs.Known.{Tallied}
use Rattle.th_offsets.proofs.counts.all_tallies.Given as goal

abbrev pub invariant-loop-number : goal.invariant-loop-number
invariant-loop-number l = record {
  many : length l.all.items ≡ l.number;
  done : Tallied (record { types = l.types; classes = l.classes }) l.all.items;
}
