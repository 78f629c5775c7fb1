-- The laws of the machine's trace.
use Rattle.std.specs.Prelude.{◌≡◌, ℕ, List, Option}
use Rattle.th_world.specs.Event.{Prefix}
use Rattle.th_meaning.specs.Program.{Program, main_of}
use Rattle.th_meaning.specs.Meaning.{Outcome, How}
use Rattle.th_meaning.specs.Run.{start, outcome_of, source_run}
use Rattle.th_steps.specs.Machine.{Stopped, steps, first_at}
use Rattle.th_traces.specs.Traces.{trace_at}

-- what the machine did so far is a beginning of what the run does
abbrev pub IsBeginning : Type 0
IsBeginning = (p : Program) (input : List ℕ) (room : Option ℕ) (turns n : ℕ)
    → Prefix (trace_at (steps p n (first_at p (main_of p) (start input room turns)))) (source_run p input room turns).trace

-- where the machine stopped, it stopped with the outcome of the run
abbrev pub StopsWithOutcome : Type 0
StopsWithOutcome = (p : Program) (input : List ℕ) (room : Option ℕ) (turns n : ℕ) (o : Outcome How)
    → steps p n (first_at p (main_of p) (start input room turns)) ≡ Stopped o → o ≡ outcome_of p (main_of p) (start input room turns)
