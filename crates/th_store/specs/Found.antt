-- What a look-up found, as an effect.
use Rattle.std.specs.Prelude.{ℕ, Result, Ok, Err}
use Rattle.th_meaning.specs.World.{World, Effect, Did, Fails, Stops, Stuck, Unset, bounds}
use Rattle.th_meaning.specs.Meaning.{Value}
use Rattle.th_store.specs.declared.object.Miss.{Miss}
use Rattle.th_store.specs.declared.object.Miss.TheVariants.{Stuck as IsStuck, Unset as IsUnset, Bounds}

-- what a miss is
abbrev pub missed : {A : Type 0} → Miss → World Value → Effect Value A
missed IsStuck w = Stops Stuck w
missed IsUnset w = Stops Unset w
missed Bounds w = Fails bounds w

-- what was found, or the miss
abbrev pub found : {A : Type 0} → Result A Miss → World Value → Effect Value A
found (Ok a) w = Did a w
found (Err miss) w = missed miss w
