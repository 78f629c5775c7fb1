use Rattle.std.proofs.Common.{take}
use Rattle.th_type.specs.Failures.{IsLeastOf}
use Rattle.th_module_rules.specs.Inheriting.{InheritingFails}
use Rattle.th_inherits.specs.Rows.{rows_of}
use Rattle.th_inherits.proofs.judge.judge_inheriting.Given as goal

abbrev pub invariant-loop-row : goal.invariant-loop-row
invariant-loop-row l = IsLeastOf (InheritingFails l.fulls (rows_of l.rows) (take l.row-index (rows_of l.own))) l.least
