-- The runs of a whole program.
use Rattle.std.specs.Prelude.{ℕ, suc, List, [], Option, Some, None}
use Rattle.th_runs.specs.Stand.{End, Ended, Raised, NoTurns, NoRoom, Stand}
use Rattle.th_meaning.specs.Program.{ProgramUnit, Program, main_of}
use Rattle.th_meaning.specs.World.{World, Halt, OutOfTurns, OutOfRoom, Unset, Stuck, Deep}
use Rattle.th_meaning.specs.Meaning.{Value, Outcome, Gives, Raises, Halts, How, no_body, level}

-- the end of a run that stopped so. That a run of modules that fit is stuck or reads what isn't bound doesn't come, and
-- counts as an end; that a bound of the definition runs out doesn't come at all
abbrev pub halted_end : Halt → End
halted_end OutOfTurns = NoTurns
halted_end OutOfRoom = NoRoom
halted_end Unset = Ended
halted_end Stuck = Ended
halted_end Deep = Ended

-- how a run stands after its first unit came to this outcome
abbrev pub stand_of : Outcome How → Stand
stand_of (Gives how st) = record { end = Ended; trace = st.world.trace }
stand_of (Raises x v st) = record { end = Raised x; trace = st.world.trace }
stand_of (Halts h w) = record { end = halted_end h; trace = w.trace }

-- the world at the start of a run
abbrev pub start : (input : List ℕ) → (room : Option ℕ) → (turns : ℕ) → World Value
start input room turns = record { input = input; turns = turns; room = room; objects = []; trace = [] }

-- the outcome of `main`, whose entry costs no turn; each open call but that of `main` took a turn
abbrev pub outcome_of : Program → Option ProgramUnit → World Value → Outcome How
outcome_of p None w = Halts Stuck w
outcome_of p (Some main) w = level p (suc w.turns) main.name None [] no_body [] w

-- the run of a program on an input with so much room (None: unlimited) and so many turns
abbrev pub source_run : Program → (input : List ℕ) → (room : Option ℕ) → (turns : ℕ) → Stand
source_run p input room turns = stand_of (outcome_of p (main_of p) (start input room turns))
