use Rattle.std.proofs.Common.{◌≡◌, ◌+◌, ◌≤◌, drop}
use Rattle.std.specs.Prelude.{slice_get, min}
use Rattle.th_views.specs.Graph.{trees_by}
use Rattle.th_views.specs.Sums.{sum_in}
use Rattle.th_views.specs.Rows.{tree_of, supers_in}
use Rattle.th_offsets.proofs.heads.sum_of.Given as goal

abbrev pub invariant-loop-s : goal.invariant-loop-s
invariant-loop-s l = record {
  same : l.supers ≡ supers_in (slice_get l.rows l.number);
  small : l.total ≤ 65;
  sofar : min 65 (l.total + sum_in (trees_by (tree_of l.rows) (drop l.s-index l.supers))) ≡ min 65 (sum_in (trees_by (tree_of l.rows) l.supers));
}
