use Rattle.std.proofs.Common.{◌≡◌, length}
use Rattle.th_offsets.specs.Known.{Viewed}
use Rattle.th_offsets.proofs.seen.all_seen.Given as goal

abbrev pub invariant-loop-number : goal.invariant-loop-number
invariant-loop-number l = record {
  many : length l.all.items ≡ l.number;
  done : Viewed (record { types = l.types; classes = l.classes }) l.all.items;
}
