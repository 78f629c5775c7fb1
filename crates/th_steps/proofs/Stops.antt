-- The machine stops with the outcome of the run.
use Rattle.std.proofs.Common.{◌≡◌, ℕ, suc, List, [], Option, Some, None}
use Rattle.th_meaning.specs.Program.{ProgramUnit, Program, main_of}
use Rattle.th_meaning.specs.World.{World, Halt, OutOfTurns, OutOfRoom, Unset, Stuck, Deep}
use Rattle.th_meaning.specs.Meaning.{Value, State, Outcome, Gives, Raises, Halts, How, no_body, level}
use Rattle.th_meaning.specs.Run.{start, outcome_of}
use Rattle.th_meaning.specs.Laws.{IsBoundless}
use Rattle.th_meaning.proofs.LawProofs.{never_deep}
use Rattle.th_steps.specs.Machine.{no_loop, at_end, Machine, Stopped, first_at}
use Rattle.th_steps.specs.Laws.{MachineStops}
use Rattle.th_steps.proofs.Follow.{Comes, Halting, Goes, hw, exc, here, first, on}
use Rattle.th_steps.proofs.Forms.{no_visits, level_to}

halting_stops : (p : Program) (c : Machine) (h : Halt) (w : World Value) → IsBoundless {A = How} (Halts h w) → Halting p c h w → Comes p c (Stopped (Halts h w))
halting_stops p c OutOfTurns w b g = g
halting_stops p c OutOfRoom w b g = g
halting_stops p c Unset w b g = g
halting_stops p c Stuck w b g = g
halting_stops p c Deep w b g = absurd b

stops : (p : Program) (c : Machine) (o : Outcome How) → IsBoundless o → Goes p c o (hw no_loop at_end) (exc no_loop at_end) → Comes p c (Stopped o)
stops p c (Gives how st) b g = on g (first here)
stops p c (Raises x v st) b g = on g (first here)
stops p c (Halts h w) b g = halting_stops p c h w b g

main_goes : (p : Program) (main : Option ProgramUnit) (w : World Value) → Goes p (first_at p main w) (outcome_of p main w) (hw no_loop at_end) (exc no_loop at_end)
main_goes p None w = here
main_goes p (Some main) w = (level_to p (suc w.turns)).by main.name None [] no_body no_loop at_end [] w no_visits

run_comes : (p : Program) (input : List ℕ) (room : Option ℕ) (turns : ℕ) → Comes p (first_at p (main_of p) (start input room turns)) (Stopped (outcome_of p (main_of p) (start input room turns)))
run_comes p input room turns = stops p (first_at p (main_of p) (start input room turns)) (outcome_of p (main_of p) (start input room turns)) (never_deep p input room turns) (main_goes p (main_of p) (start input room turns))

pub machine_stops : MachineStops
machine_stops p input room turns = let c = run_comes p input room turns in (c.count, c.is)
