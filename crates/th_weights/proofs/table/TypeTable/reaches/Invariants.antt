use Rattle.std.proofs.Common.{◌≡◌, ◌-◌}
use Rattle.th_meaning.specs.View.{type_of}
use Rattle.th_meaning.specs.Program.{Program}
use Rattle.th_meaning.specs.Weights.{first_reaches, steps_up}
use Rattle.th_weights.specs.Types.{IsTypeTable}
use Rattle.th_weights.proofs.table.TypeTable.reaches.Given as goal

abbrev pub invariant-loop-step : goal.invariant-loop-step
invariant-loop-step l = (p : Program) → IsTypeTable l.self p
    → first_reaches (steps_up p) p (type_of l.other) (type_of l.this) ≡ first_reaches (l.self.count - l.step) p (type_of l.other) (type_of l.at)
