-- Some instructions, at least one and at most so many, lead from a run to one that goes on and is seen so.
use Rattle.std.specs.Prelude.{◌≡◌, ℕ, suc, ◌≤◌, List}
use Rattle.th_runs.specs.Runs.{steps}
use Rattle.th_world.specs.Event.{Event}
use Rattle.th_rv.specs.Step.{RoomUsed}
use Rattle.th_elf.specs.Run.{Run, Running, Stopped, machine, trace}
use Rattle.th_stands.specs.Seen.{Seen, Loaded, Sees}

pub record Leads (g : Loaded) (r : Run) (words : ℕ) (Then : Seen → Type 0) : Type 0 where
  pub last : ℕ
  pub within : suc last ≤ words
  pub seen : Seen
  pub sees : Sees g (steps (machine g.names) (suc last) r) seen
  pub lands : Then seen

-- the same of an operation that takes so many turns before anything is seen of it
pub record LeadsLater (g : Loaded) (r : Run) (turns words : ℕ) (Then : Seen → Type 0) : Type 0 where
  pub leads : Leads g r words Then
  pub paid : turns ≤ suc leads.last
  pub early : ℕ
  pub enough : turns ≤ early
  pub hushed : trace g.names (steps (machine g.names) early r).log ≡ trace g.names r.log

-- the machine stops for room with the last of at most so many instructions, after these events and no other
pub record StopsForRoom (g : Loaded) (r : Run) (words : ℕ) (events : List Event) : Type 0 where
  pub last : ℕ
  pub within : suc last ≤ words
  pub goes : (steps (machine g.names) last r).status ≡ Running
  pub stopped : (steps (machine g.names) (suc last) r).status ≡ Stopped RoomUsed
  pub seen : trace g.names (steps (machine g.names) (suc last) r).log ≡ events
