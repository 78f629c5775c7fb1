use Rattle.std.proofs.Common.{◌-◌}
use Rattle.th_inherits.specs.Rows.{rows_of}
use Rattle.th_inherits.specs.Loops.{IsNoting}
use Rattle.th_inherits.proofs.loops.note_loop.Given as goal

abbrev pub invariant-loop-step : goal.invariant-loop-step
invariant-loop-step l = IsNoting (rows_of l.rows) l.full l.at (l.step-end - l.step) l.looped
