-- What the streams show where a run was cut off.
use Rattle.std.specs.Prelude.{◌≡◌, ℕ, List, Option, ◌⊎◌}
use Rattle.th_world.specs.Event.{Event, Prefix}
use Rattle.th_steps.specs.Machine.{Machine}
use Rattle.th_traces.specs.Traces.{trace_at}
use Rattle.th_acts.specs.Stands.{Told, Shows}

-- the streams show a beginning of what the machine did
pub record Partly (e : Told) (source sink : Option (List ℕ)) (m : Machine) : Type 0 where
  pub part : List Event
  pub rest : List ℕ
  pub is_prefix : Prefix part (trace_at m)
  pub shows : Shows e part rest source sink

-- the streams are as before, or show such a beginning
abbrev pub Kept : Told → (source sink source1 sink1 : Option (List ℕ)) → Machine → Type 0
Kept e source sink source1 sink1 m = ((source1 ≡ source) × (sink1 ≡ sink)) ⊎ Partly e source1 sink1 m
