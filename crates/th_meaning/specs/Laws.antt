-- Laws of the meaning.
use Rattle.std.specs.Prelude.{◌≡◌, ◌≢◌, ℕ, ◌+◌, List, Option}
use Rattle.th_world.specs.Event.{Prefix}
use Rattle.th_runs.specs.Stand.{NoTurns}
use Rattle.th_meaning.specs.Program.{Program, main_of}
use Rattle.th_meaning.specs.World.{Halt, OutOfTurns, OutOfRoom, Unset, Stuck, Deep}
use Rattle.th_meaning.specs.Meaning.{Outcome, Gives, Raises, Halts}
use Rattle.th_meaning.specs.Run.{start, outcome_of, source_run}

-- the run wasn't stopped by a bound of the definition itself
abbrev pub IsBoundless : {A : Type 0} → Outcome A → Type 0
IsBoundless (Gives a st) = Unit {0}
IsBoundless (Raises x v st) = Unit {0}
IsBoundless (Halts OutOfTurns w) = Unit {0}
IsBoundless (Halts OutOfRoom w) = Unit {0}
IsBoundless (Halts Unset w) = Unit {0}
IsBoundless (Halts Stuck w) = Unit {0}
IsBoundless (Halts Deep w) = ⊥

-- the bounds of the definition, on open calls and on the turns of loops, never run out
abbrev pub NeverDeep : Type 0
NeverDeep = (p : Program) (input : List ℕ) (room : Option ℕ) (turns : ℕ) → IsBoundless (outcome_of p (main_of p) (start input room turns))

-- with more turns a run does all that it did, and perhaps more
abbrev pub MoreTurnsExtend : Type 0
MoreTurnsExtend = (p : Program) (input : List ℕ) (room : Option ℕ) (turns more : ℕ) → Prefix (source_run p input room turns).trace (source_run p input room (turns + more)).trace

-- with more turns a run that didn't use up its turns stands as before
abbrev pub MoreTurnsKeep : Type 0
MoreTurnsKeep = (p : Program) (input : List ℕ) (room : Option ℕ) (turns more : ℕ) → (source_run p input room turns).end ≢ NoTurns
    → source_run p input room (turns + more) ≡ source_run p input room turns
