use Rattle.std.proofs.Common.{◌≡◌, ◌++◌, drop}
use Rattle.th_views.specs.Lookups.{class_numbers}
use Rattle.th_layout.proofs.limits.class_names.Given as goal

abbrev pub invariant-loop-row : goal.invariant-loop-row
invariant-loop-row l = l.names.items ++ class_numbers (drop l.row-index l.rows) ≡ class_numbers l.rows
