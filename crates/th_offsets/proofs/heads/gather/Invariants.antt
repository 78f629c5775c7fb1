use Rattle.std.proofs.Common.{◌≡◌, drop, false}
use Rattle.th_views.specs.declared.Turn.TheVariants.{First}
use Rattle.th_views.specs.Graph.{trees_by}
use Rattle.th_offsets.specs.Walks.{walk_all}
use Rattle.th_views.specs.Rows.{tree_of, supers_in}
use Rattle.std.specs.Prelude.{slice_get}
use Rattle.th_offsets.proofs.heads.gather.Given as goal

abbrev pub invariant-loop-s : goal.invariant-loop-s
invariant-loop-s l = record {
  same : l.supers ≡ supers_in (slice_get l.rows l.number);
  sofar : walk_all l.walk (trees_by (tree_of l.rows) (drop l.s-index l.supers)) ≡ walk_all (record { turn = First; span = 0; topped = false }) (trees_by (tree_of l.rows) l.supers);
}
