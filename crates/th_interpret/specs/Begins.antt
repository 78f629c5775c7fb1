-- Runs before their first step.
use Rattle.std.specs.Prelude.{◌≡◌, ℕ, List, [], Option}
use Rattle.th_meaning.specs.Program.{Program}
use Rattle.th_meaning.specs.Run.{start}
use Rattle.th_acts.specs.declared.runner.Runner.{Runner}
use Rattle.th_acts.specs.Stands.{Told, AreTables, Stands}

-- a run of the program with so many turns and so much room, that did nothing yet
pub record Starts (p : Program) (turns : ℕ) (room : Option ℕ) (r : Runner) : Type 0 where
  pub tables : AreTables p r.tables.now
  pub store : r.store ≡ record { turns = turns; room = room; objects = [] }
  pub rest : r.control.rest ≡ []
  pub homes : r.control.homes ≡ []
  pub entered : r.entered.items ≡ []

-- the run has what the world has at the start of a run
pub record Begins (e : Told) (turns : ℕ) (room : Option ℕ) (r : Runner) (left now : Option (List ℕ)) : Type 0 where
  pub stands : Stands e r left now (start e.had room turns)
  pub rest : r.control.rest ≡ []
  pub homes : r.control.homes ≡ []
