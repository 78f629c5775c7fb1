use Rattle.std.proofs.Common.{◌≡◌, length}
use Rattle.th_offsets.specs.Known.{HiddenNames}
use Rattle.th_offsets.proofs.objects.all_hidden.Given as goal

abbrev pub invariant-loop-number : goal.invariant-loop-number
invariant-loop-number l = record {
  many : length l.all.items ≡ l.number;
  done : HiddenNames (record { types = l.types; classes = l.classes }) l.all.items;
}
