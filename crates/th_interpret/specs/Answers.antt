-- What the interpreter's answers say of a run, and what its streams show of a trace.
use Rattle.std.specs.Prelude.{◌≡◌, ℕ, List, ◌++◌, map, Option, Some, option_map}
use Rattle.th_world.specs.Event.{Event, puts, takes, entries, Prefix}
use Rattle.th_runs.specs.Stand.{Stand, End, Ended, Raised, NoTurns, NoRoom}
use Rattle.th_meaning.specs.Program.{Program}
use Rattle.th_acts.specs.Stands.{number_at}
use Rattle.th_interpret.specs.declared.run.End.{End as CodeEnd}
use Rattle.th_interpret.specs.declared.run.End.TheVariants.{Ended as CodeEnded, Raised as CodeRaised, NoTurns as CodeNoTurns, NoRoom as CodeNoRoom}
use Rattle.th_interpret.specs.declared.run.Run.{Run}

-- the end of a run that an answer names
abbrev pub end_of : CodeEnd → End
end_of CodeEnded = Ended
end_of (CodeRaised name) = Raised name
end_of CodeNoTurns = NoTurns
end_of CodeNoRoom = NoRoom

-- the answer gives the end of the run and the numbers of the units that it entered, in order
pub record Answers (p : Program) (run : Run) (stand : Stand) : Type 0 where
  pub end : end_of run.end ≡ stand.end
  pub entered : run.entered ≡ map (number_at p) (entries stand.trace)

-- the streams show the trace: the source gave the bytes taken and has the rest of those it had, and the sink has the bytes
-- put after those that it had
pub record Shown (trace : List Event) (had : List ℕ) (left : Option (List ℕ)) (before now : Option (List ℕ)) : Type 0 where
  pub taken : option_map (λ rest. takes trace ++ rest) left ≡ Some had
  pub put : now ≡ option_map (λ bytes. bytes ++ puts trace) before

-- the streams show a prefix of the trace
pub record ShownPart (trace : List Event) (had : List ℕ) (left : Option (List ℕ)) (before now : Option (List ℕ)) : Type 0 where
  pub part : List Event
  pub is_prefix : Prefix part trace
  pub shown : Shown part had left before now
