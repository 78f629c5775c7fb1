use Rattle.std.proofs.Common.{◌≡◌, length}
use Rattle.th_offsets.specs.Given.{BodyLists}
use Rattle.th_offsets.proofs.heads_of.all_body_lists.Given as goal

abbrev pub invariant-loop-number : goal.invariant-loop-number
invariant-loop-number l = record {
  many : length l.all.items ≡ l.number;
  done : BodyLists (record { types = l.types; classes = l.classes }) l.all.items;
}
