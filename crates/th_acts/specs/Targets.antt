-- What a call comes to, before its turn.
use Rattle.std.specs.Prelude.{◌≡◌, ℕ, List, Option, Some, None}
use Rattle.th_meaning.specs.Program.{Program, walk, init_name}
use Rattle.th_meaning.specs.World.{World}
use Rattle.th_meaning.specs.Meaning.{Value, Target as TheTarget, Enters as TheEnters, Known as TheKnown, method_of_object, method_target, where_target, entering}
use Rattle.th_steps.specs.Machine.{Callee, the_routine, the_method, the_object, the_super, the_where, the_init}
use Rattle.th_units.specs.declared.units.UnitRow.{UnitRow}
use Rattle.th_units.specs.Units.{FindsUnit}
use Rattle.th_acts.specs.declared.target.Target.{Target}
use Rattle.th_acts.specs.declared.target.Target.TheVariants.{Nothing, Enters, Known}

-- what is called, where it is there
abbrev pub target_of : Program → Callee → List Value → World Value → Option TheTarget
target_of p (the_routine unit) vs w = Some (TheEnters unit None vs)
target_of p (the_method method v) vs w = method_target p method v vs w
target_of p (the_object method k) vs w = method_of_object p method k vs w
target_of p (the_super class method k) vs w = entering (walk p class method) k vs
target_of p (the_where method v) vs w = where_target p method v vs w
target_of p (the_init class k) vs w = Some (TheEnters (init_name class) (Some k) vs)

-- a unit is entered, with the row of its name
pub record EntersUnit (p : Program) (vs : List Value) (found : Option UnitRow) (receiver : Option ℕ) (target : Option TheTarget) : Type 0 where
  pub unit : List ℕ
  pub is : target ≡ Some (TheEnters unit receiver vs)
  pub row : FindsUnit p unit found

-- what the code found is the target
abbrev pub IsTarget : Program → List Value → Target → Option TheTarget → Type 0
IsTarget p vs Nothing target = target ≡ None
IsTarget p vs (Enters row receiver) target = EntersUnit p vs row receiver target
IsTarget p vs (Known v) target = target ≡ Some (TheKnown v)
