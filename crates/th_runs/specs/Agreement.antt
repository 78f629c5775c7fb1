-- What it means that a machine's run agrees with a program's source, on one input and in one region.
use Rattle.std.specs.Prelude.{◌≡◌, ◌≢◌, ℕ, ◌+◌, ◌*◌, List, Option, Some, None, ◌⊎◌}
use Rattle.th_world.specs.Event.{Prefix}
use Rattle.th_runs.specs.Stand.{GoesOn, Ended, Raised, NoRoom, Trapped, Stand}

-- all that the source did, the machine did: its trace begins with the source's, and it ended or raised as the source
pub record HasDone (source machine : Stand) : Type 0 where
  pub trace : Prefix source.trace machine.trace
  pub ended : source.end ≡ Ended → machine.end ≡ Ended
  pub raised : (x : List ℕ) → source.end ≡ Raised x → machine.end ≡ Raised x

-- `source room turns` is how the source stands with a room, or with none, and so many turns; `machine steps` is how
-- the machine stands after so many steps in a region of `region` bytes; its code has `words` words
pub record Agreement (source : Option ℕ → ℕ → Stand) (machine : ℕ → Stand) (region words : ℕ) : Type 0 where
  -- the machine never traps
  pub never_traps : (m : ℕ) → (machine m).end ≢ Trapped
  -- where the machine ended after m steps, the source with m turns ended, with an equal trace
  pub ends_alike : (m : ℕ) → (machine m).end ≡ Ended → ((source None m).end ≡ Ended) × ((source None m).trace ≡ (machine m).trace)
  -- where the machine raised x after m steps, the source with m turns raised x, with an equal trace
  pub raises_alike : (m : ℕ) (x : List ℕ) → (machine m).end ≡ Raised x → ((source None m).end ≡ Raised x) × ((source None m).trace ≡ (machine m).trace)
  -- where the machine goes on or stopped for room after m steps, its trace is a prefix of the source's with m turns
  pub prefix : (m : ℕ) → ((machine m).end ≡ GoesOn) ⊎ ((machine m).end ≡ NoRoom) → Prefix (machine m).trace (source None m).trace
  -- where the machine stopped for room after m steps, the source with the region as its room and m turns is out of
  -- room, and its trace is a prefix of the machine's
  pub room : (m : ℕ) → (machine m).end ≡ NoRoom → ((source (Some region) m).end ≡ NoRoom) × Prefix (source (Some region) m).trace (machine m).trace
  -- after 2 * words * (n + 1) steps the machine stopped for room, or it did all that the source does with n turns
  pub pace : (n : ℕ) → ((machine (2 * words * (n + 1))).end ≡ NoRoom) ⊎ HasDone (source None n) (machine (2 * words * (n + 1)))
