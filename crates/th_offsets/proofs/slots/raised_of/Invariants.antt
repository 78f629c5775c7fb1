use Rattle.std.proofs.Common.{◌≡◌, ◌≤◌, drop}
use Rattle.std.specs.Prelude.{max}
use Rattle.th_views.specs.Objects.{raised}
use Rattle.th_offsets.proofs.slots.raised_of.Given as goal

abbrev pub invariant-loop-row : goal.invariant-loop-row
invariant-loop-row l = max l.most (raised (drop l.row-index l.rows)) ≡ raised l.rows
