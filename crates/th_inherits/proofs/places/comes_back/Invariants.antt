use Rattle.std.proofs.Common.{◌≡◌, ◌-◌}
use Rattle.th_type.specs.Lists.{is_in}
use Rattle.th_module_rules.specs.Inheriting.{classes_up, reaches_itself}
use Rattle.th_inherits.specs.Rows.{rows_of}
use Rattle.th_inherits.proofs.places.comes_back.Given as goal

abbrev pub invariant-loop-step : goal.invariant-loop-step
invariant-loop-step l = is_in l.full (classes_up (l.step-end - l.step) (rows_of l.rows) l.at) ≡ reaches_itself (rows_of l.rows) l.full
