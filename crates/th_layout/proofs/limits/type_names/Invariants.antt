use Rattle.std.proofs.Common.{◌≡◌, ◌++◌, drop}
use Rattle.th_views.specs.Lookups.{type_numbers}
use Rattle.th_layout.proofs.limits.type_names.Given as goal

abbrev pub invariant-loop-row : goal.invariant-loop-row
invariant-loop-row l = l.names.items ++ type_numbers (drop l.row-index l.rows) ≡ type_numbers l.rows
