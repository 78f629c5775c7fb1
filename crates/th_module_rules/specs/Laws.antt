-- Laws of refusals.
use Rattle.std.specs.Prelude.{◌≡◌}
use Rattle.th_type.specs.declared.place.Failure.{Failure}
use Rattle.th_module_rules.specs.Stages.{Program, RefusedBy, RulesHold}

-- at most one failure is named
abbrev pub OneIsNamed : Type 0
OneIsNamed = (p : Program) (f g : Failure) → RefusedBy p f → RefusedBy p g → f ≡ g

-- where every rule holds no failure is named
abbrev pub NoneIsNamed : Type 0
NoneIsNamed = (p : Program) (f : Failure) → RulesHold p → ¬ RefusedBy p f
