-- The law of the machine.
use Rattle.std.specs.Prelude.{◌≡◌, ℕ, List, Option}
use Rattle.th_meaning.specs.Program.{Program, main_of}
use Rattle.th_meaning.specs.Run.{start, outcome_of}
use Rattle.th_steps.specs.Machine.{Stopped, steps, first_at}

-- the machine stops with the outcome of the run
abbrev pub MachineStops : Type 0
MachineStops = (p : Program) (input : List ℕ) (room : Option ℕ) (turns : ℕ)
    → (count : ℕ) × (steps p count (first_at p (main_of p) (start input room turns)) ≡ Stopped (outcome_of p (main_of p) (start input room turns)))
