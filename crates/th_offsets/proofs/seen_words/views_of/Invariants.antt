use Rattle.std.proofs.Common.{◌≡◌, length}
use Rattle.th_offsets.specs.Known.{EachView}
use Rattle.th_offsets.proofs.seen_words.views_of.Given as goal

abbrev pub invariant-loop-word : goal.invariant-loop-word
invariant-loop-word l = record {
  many : length l.all.items ≡ l.word;
  done : EachView l.types l.seen l.all.items;
}
