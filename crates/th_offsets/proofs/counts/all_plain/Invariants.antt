use Rattle.std.proofs.Common.{◌≡◌, length}
use Rattle.th_offsets.specs.Known.{Deep}
use Rattle.th_offsets.proofs.counts.all_plain.Given as goal

abbrev pub invariant-loop-number : goal.invariant-loop-number
invariant-loop-number l = record {
  many : length l.all.items ≡ l.number;
  done : Deep l.rows l.all.items;
}
