-- Runs step by step: of a program by its operations, with turns and room, and of a machine by its instructions.
use Rattle.std.specs.Prelude.{ℕ, zero, suc, ◌+◌, ◌-◌, List, Option, Some, None, Bool, false, nat_lt, cond}
use Rattle.th_world.specs.Event.{Event}
use Rattle.th_runs.specs.Stand.{End, GoesOn, Ended, Raised, NoTurns, NoRoom, Trapped, Stand}

-- a program by its operations: the state after the operation that a state is at, how a state stands and the trace
-- up to it, the turns and the bytes of room that the operation takes, and the bytes that are in use before it
pub record Program (G : Type 0) : Type 0 where
  pub next : G → G
  pub end : G → End
  pub trace : G → List Event
  pub cost : G → ℕ
  pub need : G → ℕ
  pub used : G → ℕ

-- a machine by its instructions: the state after one of them, how a state stands and the trace up to it
pub record Machine (S : Type 0) : Type 0 where
  pub step : S → S
  pub end : S → End
  pub trace : S → List Event

-- how a program's state can stand by itself: it goes on, ended or raised
abbrev pub IsOwn : End → Type 0
IsOwn GoesOn = Unit {0}
IsOwn Ended = Unit {0}
IsOwn (Raised x) = Unit {0}
IsOwn NoTurns = ⊥
IsOwn NoRoom = ⊥
IsOwn Trapped = ⊥

-- are so many bytes more than the room; without a room they never are
abbrev pub exceeds : ℕ → Option ℕ → Bool
exceeds bytes None = false
exceeds bytes (Some room) = nat_lt room bytes

-- the first where the program goes on, the second where it is over
abbrev pub while_on : End → Stand → Stand → Stand
while_on GoesOn on over = on
while_on other on over = over

-- the stand of a program's run of at most so many operations, with so many turns and a room or none: each operation
-- first takes its turns, then its room, then has its effect
abbrev pub bounded_run : {G : Type 0} → Program G → Option ℕ → ℕ → ℕ → G → Stand
bounded_run p room zero turns g = record { end = p.end g; trace = p.trace g }
bounded_run p room (suc operations) turns g =
    while_on (p.end g)
    (cond (nat_lt turns (p.cost g)) (record { end = NoTurns; trace = p.trace g })
    (cond (exceeds (p.used g + p.need g) room) (record { end = NoRoom; trace = p.trace g })
    (bounded_run p room operations (turns - p.cost g) (p.next g))))
    (record { end = p.end g; trace = p.trace g })

-- the state of a machine after so many steps
abbrev pub steps : {S : Type 0} → Machine S → ℕ → S → S
steps m zero s = s
steps m (suc k) s = steps m k (m.step s)

-- the stand of a machine after so many steps
abbrev pub machine_run : {S : Type 0} → Machine S → ℕ → S → Stand
machine_run m k s = record { end = m.end (steps m k s); trace = m.trace (steps m k s) }
