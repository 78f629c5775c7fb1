-- Bytes that are put, each after one turn.
use Rattle.std.specs.Prelude.{◌≡◌, ℕ, Bool, List, Option, if◌then◌else◌}
use Rattle.th_world.specs.Event.{Event, Prefix}
use Rattle.th_meaning.specs.World.{World, Effect, Did, Fails, Stops, OutOfTurns}
use Rattle.th_meaning.specs.Meaning.{Value}
use Rattle.th_acts.specs.declared.runner.Runner.{Runner}
use Rattle.th_acts.specs.Stands.{Told, Shows, Stands}

-- all bytes were put, or the turns ran out, and the run has what the world then has
pub record PutsEach (e : Told) (r : Runner) (left now : Option (List ℕ)) (all : Bool) (effect : Effect Value (Unit {0})) : Type 0 where
  pub world : World Value
  pub is : effect ≡ (if all then Did tt world else Stops OutOfTurns world)
  pub stands : Stands e r left now world

-- what was seen up to the end of an effect, the newest event first
abbrev pub trace_of : {A : Type 0} → Effect Value A → List Event
trace_of (Did a w) = w.trace
trace_of (Fails x w) = w.trace
trace_of (Stops h w) = w.trace

-- the streams show a beginning of the effect
pub record PutsPart (e : Told) (left now : Option (List ℕ)) (effect : Effect Value (Unit {0})) : Type 0 where
  pub world : World Value
  pub shows : Shows e world.trace world.input left now
  pub is_prefix : Prefix world.trace (trace_of effect)
