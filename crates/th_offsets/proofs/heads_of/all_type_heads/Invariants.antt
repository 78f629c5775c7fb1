use Rattle.std.proofs.Common.{◌≡◌, length}
use Rattle.th_offsets.specs.Given.{GivenTypes}
use Rattle.th_offsets.proofs.heads_of.all_type_heads.Given as goal

abbrev pub invariant-loop-number : goal.invariant-loop-number
invariant-loop-number l = record {
  many : length l.all.items ≡ l.number;
  done : GivenTypes l.types l.all.items;
}
