use Rattle.std.proofs.Common.{◌≡◌, length}
use Rattle.th_offsets.specs.Known.{WordsViewed}
use Rattle.th_offsets.proofs.seen_words.all_views.Given as goal

abbrev pub invariant-loop-number : goal.invariant-loop-number
invariant-loop-number l = record {
  many : length l.all.items ≡ l.number;
  done : WordsViewed (record { types = l.types; classes = l.classes }) l.all.items;
}
