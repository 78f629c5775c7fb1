use Rattle.std.proofs.Common.{◌≡◌, ◌-◌, length, Some}
use Rattle.th_meaning.specs.Program.{Program, classes_of}
use Rattle.th_classes.specs.Numbers.{chain_from}
use Rattle.th_classes.specs.Rows.{IsClassTable, body_in}
use Rattle.th_classes.proofs.classes.ClassTable.method_from.Given as goal

abbrev pub invariant-loop-step : goal.invariant-loop-step
invariant-loop-step l = (p : Program) → IsClassTable l.self p
    → body_in p l.method (chain_from (length (classes_of p)) p (Some l.class)) ≡ body_in p l.method (chain_from (length l.self.rows.items - l.step) p (Some l.at))
