-- The machine from its start on: what it retires, how it stands, and what is seen of it.
use Rattle.std.specs.Prelude.{◌≡◌, ℕ, ◌+◌, ◌-◌, ◌<◌, List, [], ◌∷◌, ◌++◌, length, map, replicate, Option, Some, None, ◌⊎◌, unwrap_or, option_to_list, option_map, find, nat_eq, slice_set}
use Rattle.th_world.specs.Event.{Event, Put, Took, FoundEnd, Entered}
use Rattle.th_runs.specs.Stand.{End, Stand}
use Rattle.th_runs.specs.Stand as ends
use Rattle.th_runs.specs.Runs as runs
use Rattle.th_rv.specs.declared.instr.Cause.{Cause}
use Rattle.th_rv.specs.Memory.{Area, bytes_at}
use Rattle.th_rv.specs.Step.{State, Halt, Ended, Raised, RoomUsed, Act, Next, Puts, Gets, Halts, Traps, step}
use Rattle.th_elf.specs.declared.image.Map.{Map}
use Rattle.th_elf.specs.declared.segments.Segment.{Segment}
use Rattle.th_elf.specs.declared.segments.Segments.{Segments}

-- the memory of a segment: its bytes, then zeros up to its size
unfoldable pub area_of : Segment → Area
area_of s = record { at = s.at; flags = s.flags; bytes = s.bytes ++ replicate (s.size - length s.bytes) 0 }

-- the region: so many zeros at 0x10000000, stored to and loaded from
unfoldable pub region : ℕ → Area
region room = record { at = 0x10000000; flags = 6; bytes = replicate room 0 }

-- the registers at the start: a0 (x10) is the region's first address, a1 (x11) the address after its last,
-- all others are 0
unfoldable pub first_regs : ℕ → List ℕ
first_regs room = slice_set (slice_set (replicate 32 0) 10 0x10000000) 11 (0x10000000 + room)

-- the machine's state at the start, with segments and a region of so many bytes
unfoldable pub loaded : Segments → ℕ → State
loaded segments room = record { pc = segments.entry; regs = first_regs room; areas = map area_of segments.list ++ region room ∷ [] }

-- how a machine stands: it runs, it stopped by an environment call, it trapped at an address
pub data Status : Type 0 where
  Running : Status
  Stopped : Halt → Status
  Trapped : Cause → (pc : ℕ) → Status

-- a machine: its state and how it stands
pub record Machine : Type 0 where
  pub state : State
  pub status : Status

-- one instruction retired: its address, and what it put or took
pub record Retired : Type 0 where
  pub pc : ℕ
  pub did : Option Event

-- a run so far: the machine, the input that is left, the instructions retired (the newest first)
pub record Run : Type 0 where
  pub state : State
  pub status : Status
  pub input : List ℕ
  pub log : List Retired

-- a state with another word in a0 (x10)
unfoldable pub with_a0 : State → ℕ → State
with_a0 s word = record s { regs = slice_set s.regs 10 word }

-- the word in a0 after a call for a byte at the end of the input: -1
abbrev pub no_byte : ℕ
no_byte = 0xFFFFFFFF

-- the machine in a state that runs
abbrev pub running : State → Machine
running s = record { state = s; status = Running }

-- the run of a machine with an input left and a log
abbrev pub run_of : Machine → List ℕ → List Retired → Run
run_of m input log = record { state = m.state; status = m.status; input = input; log = log }

-- Given an input, a run is a function.

-- a run that begins
abbrev pub start : State → List ℕ → Run
start s input = run_of (running s) input []

-- a run after the instruction that it is at is retired: what that did, how the machine then stands, the input left
abbrev pub retired : Run → Option Event → State → Status → List ℕ → Run
retired r did s status input = record { state = s; status = status; input = input; log = record { pc = r.state.pc; did = did } ∷ r.log }

-- a run after a call for a byte, by the input that is left
abbrev pub after_get : Run → State → List ℕ → Run
after_get r s [] = retired r (Some FoundEnd) (with_a0 s no_byte) Running []
after_get r s (b ∷ bs) = retired r (Some (Took b)) (with_a0 s b) Running bs

-- a run after the instruction that it is at, by what that does; one that traps isn't retired and changes the status alone
abbrev pub after : Run → Act → Run
after r (Next s) = retired r None s Running r.input
after r (Puts b s) = retired r (Some (Put b)) s Running r.input
after r (Gets s) = after_get r s r.input
after r (Halts h s) = retired r None s (Stopped h) r.input
after r (Traps c) = record r { status = Trapped c r.state.pc }

-- the first where the machine runs, else the second
abbrev pub while_running : Status → Run → Run → Run
while_running Running on over = on
while_running (Stopped h) on over = over
while_running (Trapped c pc) on over = over

-- a run after one more instruction; a machine that stopped or trapped stays as it is
unfoldable pub run_step : Run → Run
run_step r = while_running r.status (after r (step r.state)) r

-- the name of the exception that a run raised: the bytes at its place in memory
abbrev pub name_of : State → ℕ → ℕ → List ℕ
name_of s at n = unwrap_or (bytes_at n s.areas at) []

-- how a run stands, seen from outside
abbrev pub end_of : State → Status → End
end_of s Running = ends.GoesOn
end_of s (Stopped Ended) = ends.Ended
end_of s (Stopped (Raised at n)) = ends.Raised (name_of s at n)
end_of s (Stopped RoomUsed) = ends.NoRoom
end_of s (Trapped c pc) = ends.Trapped

-- the event that a unit was entered, where there is one
abbrev pub entry_of : Option (List ℕ) → List Event
entry_of None = []
entry_of (Some unit) = Entered unit ∷ []

-- what is seen of the instructions retired, with names of units by the addresses where they begin: each whose
-- address has a name is first the event that this unit was entered, and then what it did
abbrev pub trace : (ℕ → Option (List ℕ)) → List Retired → List Event
trace names [] = []
trace names (e ∷ log) = option_to_list e.did ++ entry_of (names e.pc) ++ trace names log

-- a run's stand: how it stands, and its trace
unfoldable pub stand : (ℕ → Option (List ℕ)) → Run → Stand
stand names r = record { end = end_of r.state r.status; trace = trace names r.log }

-- runs as a machine by its instructions
abbrev pub machine : (ℕ → Option (List ℕ)) → runs.Machine Run
machine names = record { step = run_step; end = λ r. (stand names r).end; trace = λ r. (stand names r).trace }

-- no address has a name
abbrev pub no_names : ℕ → Option (List ℕ)
no_names a = None

-- a run after so many more instructions
abbrev pub run : ℕ → Run → Run
run k r = runs.steps (machine no_names) k r

-- the name of the unit that begins at an address, by an image's list of units
abbrev pub names_of : List Map → ℕ → Option (List ℕ)
names_of units a = option_map (λ u. u.unit) (find (λ u. nat_eq u.at a) units)

-- Whatever the input, a run is a relation between machines, with the log of what was retired.

-- a machine that asked for a byte is then in such a way: it took one, or found the end of the input
abbrev pub Got : State → Option Event → Machine → Type 0
Got s did m = ((b : ℕ) × (b < 256) × (did ≡ Some (Took b)) × (m ≡ running (with_a0 s b))) ⊎ ((did ≡ Some FoundEnd) × (m ≡ running (with_a0 s no_byte)))

-- an instruction of such an effect is retired with such an event, and the machine is then in such a way
abbrev pub Leads : Act → Option Event → Machine → Type 0
Leads (Next s) did m = (did ≡ None) × (m ≡ running s)
Leads (Puts b s) did m = (did ≡ Some (Put b)) × (m ≡ running s)
Leads (Gets s) did m = Got s did m
Leads (Halts h s) did m = (did ≡ None) × (m ≡ record { state = s; status = Stopped h })
Leads (Traps c) did m = ⊥

-- a machine that runs retires one instruction and is then another machine
pub record Did (before : Machine) (e : Retired) (later : Machine) : Type 0 where
  pub runs : before.status ≡ Running
  pub pc : e.pc ≡ before.state.pc
  pub leads : Leads (step before.state) e.did later

-- a machine that runs retires the instructions of a log (the newest first) and is then another machine
abbrev pub Retires : Machine → List Retired → Machine → Type 0
Retires before [] later = before ≡ later
Retires before (e ∷ log) later = (m : Machine) × Retires before log m × Did m e later

-- a machine that runs comes to an instruction that traps, which changes its status alone
pub record Trapping (before later : Machine) : Type 0 where
  pub cause : Cause
  pub runs : before.status ≡ Running
  pub traps : step before.state ≡ Traps cause
  pub is : later ≡ record before { status = Trapped cause before.state.pc }

-- an event's part in what is taken from an input
abbrev pub TakesOne : List ℕ → Option Event → List ℕ → Type 0
TakesOne left None rest = left ≡ rest
TakesOne left (Some (Put b)) rest = left ≡ rest
TakesOne left (Some (Took b)) rest = left ≡ b ∷ rest
TakesOne left (Some FoundEnd) rest = (left ≡ []) × (rest ≡ [])
TakesOne left (Some (Entered unit)) rest = left ≡ rest

-- the bytes that a log took are the first of an input, in order, and the end is found only where nothing is left
abbrev pub Takes : List ℕ → List Retired → List ℕ → Type 0
Takes left [] rest = left ≡ rest
Takes left (e ∷ log) rest = (middle : List ℕ) × Takes left log middle × TakesOne middle e.did rest
