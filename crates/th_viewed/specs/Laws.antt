-- The laws of runs on words.
use Rattle.std.specs.Prelude.{◌≡◌, ℕ, List, Option}
use Rattle.th_runs.specs.Stand.{Stand}
use Rattle.th_meaning.specs.Program.{ProgramModule}
use Rattle.th_flat.specs.declared.module.FlatModule.{FlatModule}
use Rattle.th_flat.specs.Program.{FlatProgram, Declared}
use Rattle.th_flat.specs.Runs.{FlatRun}
use Rattle.th_viewed.specs.Sources.{WordProgram, AreLoweredFrom}
use Rattle.th_viewed.specs.Levels.{words_outcome, words_run, IsFit}
use Rattle.th_viewed.specs.Modules.{Origin, words_of, AreLowered, ComeFrom}

-- the run with so many turns and a room or none comes to its end so, and in no other way
pub record OnlyRun (p : FlatProgram) (input : List ℕ) (room : Option ℕ) (turns : ℕ) (stand : Stand) : Type 0 where
  pub run : FlatRun p input room turns stand
  pub only : (other : Stand) → FlatRun p input room turns other → other ≡ stand

-- the Flat run of lowered units comes to the end of the run on words, with its trace, where that isn't stuck and no bound of the
-- definition ran out
abbrev pub RunsAreThoseOnWords : Type 0
RunsAreThoseOnWords = (w : WordProgram) → AreLoweredFrom w → (input : List ℕ) (room : Option ℕ) (turns : ℕ) → IsFit (words_outcome w input room turns) → OnlyRun w.flat input room turns (words_run w input room turns)

-- each name in modules that are lowered leads to a unit that was lowered from what the name leads to, whatever their interfaces and
-- heads of classes tell
abbrev pub ModulesAreLoweredFrom : Type 0
ModulesAreLoweredFrom = (d : Declared) (modules : List ProgramModule) (flats : List FlatModule) → AreLowered modules flats
    → (origins : List Origin) × ComeFrom modules flats origins × AreLoweredFrom (words_of d flats origins)
