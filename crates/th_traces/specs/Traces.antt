-- The trace of the machine.
use Rattle.std.specs.Prelude.{List}
use Rattle.th_world.specs.Event.{Event}
use Rattle.th_meaning.specs.Run.{stand_of}
use Rattle.th_steps.specs.Machine.{Machine, At, Stopped}

-- what the machine did so far, the newest event first
abbrev pub trace_at : Machine → List Event
trace_at (At now lp k st) = st.world.trace
trace_at (Stopped o) = (stand_of o).trace
