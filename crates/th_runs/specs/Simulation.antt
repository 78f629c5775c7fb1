-- When a machine does a program operation by operation: what is to be shown of one operation at a time.
use Rattle.std.specs.Prelude.{◌≡◌, ◌≢◌, ℕ, suc, ◌+◌, ◌-◌, ◌*◌, ◌<◌, ◌≤◌, Option, ◌⊎◌}
use Rattle.th_world.specs.Event.{Prefix}
use Rattle.th_runs.specs.Stand.{GoesOn, NoRoom, Stand}
use Rattle.th_runs.specs.Runs.{Program, Machine, IsOwn, bounded_run, steps, machine_run}

-- `last + 1` instructions lead from s to a state that stands for the program's state after the operation of g
pub record Moves {G S : Type 0} (p : Program G) (m : Machine S) (Meets : G → S → Type 0) (size : G → ℕ) (g : G) (s : S) : Type 0 where
  pub last : ℕ
  -- they are at least as many as the turns, and at most the operation's size
  pub paid : p.cost g ≤ suc last
  pub within : suc last ≤ size g
  -- where the program is over after the operation, the machine goes on before the last of them
  pub goes : p.end (p.next g) ≢ GoesOn → m.end (steps m last s) ≡ GoesOn
  -- no event comes before as many instructions as the operation has turns
  pub quiet : m.trace (steps m (p.cost g) s) ≡ m.trace s
  pub lands : Meets (p.next g) (steps m (suc last) s)

-- with the last of `last + 1` instructions from s the machine stops for room
pub record Stops {G S : Type 0} (p : Program G) (m : Machine S) (size : G → ℕ) (region : ℕ) (g : G) (s : S) : Type 0 where
  pub last : ℕ
  pub paid : p.cost g ≤ suc last
  pub within : suc last ≤ size g
  pub goes : m.end (steps m last s) ≡ GoesOn
  pub halts : m.end (steps m (suc last) s) ≡ NoRoom
  pub quiet : m.trace (steps m (p.cost g) s) ≡ m.trace s
  -- the machine did no more than the operation does
  pub ahead : Prefix (m.trace (steps m (suc last) s)) (p.trace (p.next g))
  -- the operation needs more room than the region has
  pub short : region < p.used g + p.need g

-- the machine m does the program p: `Meets g s` says that the machine's state s stands for the program's state g,
-- `size g` bounds the instructions of the operation of g, `potential n g` those of all operations from g on with n turns;
-- the machine's stands `machine` are its run from s0, and the source's stands `source` are runs of p from g0
pub record Simulation {G S : Type 0} (p : Program G) (m : Machine S) (Meets : G → S → Type 0) (size : G → ℕ) (potential : ℕ → G → ℕ) (g0 : G) (s0 : S) (source : Option ℕ → ℕ → Stand) (machine : ℕ → Stand) (region words : ℕ) : Type 0 where
  -- a machine that no longer goes on stays as it is, and a step only adds to the trace
  pub stays : (s : S) → m.end s ≢ GoesOn → m.step s ≡ s
  pub grows : (s : S) → Prefix (m.trace s) (m.trace (m.step s))
  -- an operation only adds to the trace
  pub longer : (g : G) → p.end g ≡ GoesOn → Prefix (p.trace g) (p.trace (p.next g))
  -- states that meet stand alike, and have equal traces
  pub own : (g : G) (s : S) → Meets g s → IsOwn (p.end g)
  pub same_end : (g : G) (s : S) → Meets g s → m.end s ≡ p.end g
  pub same_trace : (g : G) (s : S) → Meets g s → m.trace s ≡ p.trace g
  -- from states that meet the machine does the operation, or stops for room
  pub law : (g : G) (s : S) → Meets g s → p.end g ≡ GoesOn → Moves p m Meets size g s ⊎ Stops p m size region g s
  -- each operation pays its instructions
  pub falls : (n : ℕ) (g : G) (s : S) → Meets g s → p.end g ≡ GoesOn → p.cost g ≤ n → size g + potential (n - p.cost g) (p.next g) ≤ potential n g
  -- the starts meet, and with n turns the instructions from there are at most 2 * words * (n + 1)
  pub starts : Meets g0 s0
  pub bounded : (n : ℕ) → potential n g0 ≤ 2 * words * (n + 1)
  -- the machine's stands, and the source's, which never goes on
  pub machine_is : (k : ℕ) → machine k ≡ machine_run m k s0
  pub source_is : (room : Option ℕ) (turns : ℕ) → (operations : ℕ) × (source room turns ≡ bounded_run p room operations turns g0)
  pub source_over : (room : Option ℕ) (turns : ℕ) → (source room turns).end ≢ GoesOn
