use Rattle.std.proofs.Common.{◌≡◌, drop}
use Rattle.std.specs.Prelude.{slice_get, min, max}
use Rattle.th_views.specs.Graph.{trees_by}
use Rattle.th_views.specs.Sums.{plain_depth, greatest_in}
use Rattle.th_views.specs.Rows.{tree_of, supers_in}
use Rattle.th_offsets.proofs.counts.greatest_of.Given as goal

abbrev pub invariant-loop-s : goal.invariant-loop-s
invariant-loop-s l = record {
  same : l.supers ≡ supers_in (slice_get l.rows l.number);
  sofar : max l.most (min 251 (greatest_in (trees_by (tree_of l.rows) (drop l.s-index l.supers)))) ≡ max (min 251 (plain_depth (tree_of l.rows l.number))) (min 251 (greatest_in (trees_by (tree_of l.rows) l.supers)));
}
