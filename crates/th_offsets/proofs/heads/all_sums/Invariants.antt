use Rattle.std.proofs.Common.{◌≡◌, length}
use Rattle.th_offsets.specs.Known.{Summed}
use Rattle.th_offsets.proofs.heads.all_sums.Given as goal

abbrev pub invariant-loop-number : goal.invariant-loop-number
invariant-loop-number l = record {
  many : length l.all.items ≡ l.number;
  done : Summed l.rows l.all.items;
}
