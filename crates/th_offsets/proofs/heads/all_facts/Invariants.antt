use Rattle.std.proofs.Common.{◌≡◌, length}
use Rattle.th_offsets.specs.Known.{Done}
use Rattle.th_offsets.proofs.heads.all_facts.Given as goal

abbrev pub invariant-loop-number : goal.invariant-loop-number
invariant-loop-number l = record {
  many : length l.all.items ≡ l.number;
  done : Done l.rows l.all.items;
}
