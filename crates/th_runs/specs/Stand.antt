-- How a bounded run stands after it, and what was seen of it.
use Rattle.std.specs.Prelude.{ℕ, List}
use Rattle.th_world.specs.Event.{Event}

-- how a run stands: it goes on, it ended, it raised the exception of a name, it used up its turns,
-- it found no room, it trapped. A source never goes on or traps; a machine has no turns.
pub data End : Type 0 where
  GoesOn : End
  Ended : End
  Raised : (name : List ℕ) → End
  NoTurns : End
  NoRoom : End
  Trapped : End

-- how a run stands, and its trace, the newest event first
pub record Stand : Type 0 where
  pub end : End
  pub trace : List Event
