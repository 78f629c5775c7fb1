-- What a call of `run` does, whatever the streams answer.
use Rattle.std.specs.Prelude.{◌≡◌, ℕ, zero, suc, ◌+◌, ◌<◌, ◌≤◌, min, List, [], ◌∷◌, ◌++◌, length, map, Option, Some, None, option_map, true, ◌⊎◌}
use Rattle.th_world.specs.Event.{puts}
use Rattle.th_world.specs.Outside.{Rose}
use Rattle.th_watch.specs.Watch.{Watch, after}
use Rattle.th_rv.specs.Step as halt
use Rattle.th_rv.specs.Step.{step}
use Rattle.th_elf.specs.Run.{Machine, Status, Running, Stopped, Trapped, Retired, Retires, Trapping, Takes, trace, no_names}
use Rattle.th_mach.specs.declared.answer.Outcome.{Outcome}
use Rattle.th_mach.specs.declared.answer.Outcome.TheVariants.{Ended, Raised, RoomUsed, StepsUsed, Trap, ReadFault, WriteFault}
use Rattle.th_mach.specs.Counted.{Counted, is_put, is_get}

-- the outcome for each way to come to an end
abbrev pub outcome_of : halt.Halt → Outcome
outcome_of halt.Ended = Ended
outcome_of (halt.Raised at length) = Raised at length
outcome_of halt.RoomUsed = RoomUsed

-- the machine, its count of retired instructions, what its streams tell (the bytes put, the bytes left, none where
-- they aren't told, and the counts of faults), and what its watchers mean
pub record Seen : Type 0 where
  pub machine : Machine
  pub retired : ℕ
  pub put : Option (List ℕ)
  pub left : Option (List ℕ)
  pub read_faults : ℕ
  pub write_faults : ℕ
  pub watches : List Watch

-- the bytes that a log took are the first of those that were left, where both are told
abbrev pub TakesTold : Option (List ℕ) → List Retired → Option (List ℕ) → Type 0
TakesTold None log None = Unit {0}
TakesTold None log (Some rest) = ⊥
TakesTold (Some left) log None = ⊥
TakesTold (Some left) log (Some rest) = Takes left log rest

-- the count after so many more instructions; it stays at the greatest 64-bit number
abbrev pub count_after : ℕ → ℕ → ℕ
count_after n zero = n
count_after n (suc k) = min (n + suc k) 18446744073709551615

-- the addresses of the instructions of a log
abbrev pub pcs : List Retired → List ℕ
pcs log = map (λ e. e.pc) log

-- the instructions of a log, the newest first, are retired without a fault of a stream
pub record Retiring (before : Seen) (log : List Retired) (later : Seen) : Type 0 where
  -- each is what the definition of the machine retires next
  pub retires : Retires before.machine log later.machine
  -- each is counted
  pub count : later.retired ≡ count_after before.retired (length log)
  -- the bytes put are those that the log put, in order, after the earlier ones
  pub put : later.put ≡ option_map (λ bytes. bytes ++ puts (trace no_names log)) before.put
  -- the bytes taken are those that the log took
  pub left : TakesTold before.left log later.left
  -- each watcher counts those in its span
  pub watches : later.watches ≡ map (λ w. after w (pcs log)) before.watches
  -- no stream's count of faults changes
  pub read_faults : later.read_faults ≡ before.read_faults
  pub write_faults : later.write_faults ≡ before.write_faults

-- the instruction at the program counter traps now: only the machine's status changes
pub record TrapsNow (before later : Seen) : Type 0 where
  pub trapping : Trapping before.machine later.machine
  pub rest : later ≡ record before { machine = later.machine }

-- the source failed: its count of faults rose, the instruction at the program counter asks for a byte and isn't
-- retired, and all else is as before
pub record ReadFails (before later : Seen) : Type 0 where
  pub runs : before.machine.status ≡ Running
  pub asks : is_get (step before.machine.state) ≡ true
  pub rose : Rose before.read_faults later.read_faults
  pub never_falls : before.read_faults ≤ later.read_faults
  pub rest : later ≡ record before { read_faults = later.read_faults }

-- the sink failed: its count of faults rose, the instruction at the program counter puts a byte and isn't retired,
-- and all else is as before
pub record WriteFails (before later : Seen) : Type 0 where
  pub runs : before.machine.status ≡ Running
  pub asks : is_put (step before.machine.state) ≡ true
  pub rose : Rose before.write_faults later.write_faults
  pub never_falls : before.write_faults ≤ later.write_faults
  pub rest : later ≡ record before { write_faults = later.write_faults }

-- how a call with this outcome goes on after the last instruction that it retired, with so many retired of at most
-- so many. A trap stood already, or comes now.
abbrev pub Ends : Outcome → (retired steps : ℕ) → Seen → Seen → Type 0
Ends Ended n steps middle later = (later ≡ middle) × (middle.machine.status ≡ Stopped halt.Ended) × (n ≤ steps)
Ends (Raised at length) n steps middle later = (later ≡ middle) × (middle.machine.status ≡ Stopped (halt.Raised at length)) × (n ≤ steps)
Ends RoomUsed n steps middle later = (later ≡ middle) × (middle.machine.status ≡ Stopped halt.RoomUsed) × (n ≤ steps)
Ends StepsUsed n steps middle later = (later ≡ middle) × (middle.machine.status ≡ Running) × (n ≡ steps)
Ends (Trap cause pc) n steps middle later = (later.machine.status ≡ Trapped cause pc) × (((later ≡ middle) × (n ≡ 0)) ⊎ (TrapsNow middle later × (n < steps)))
Ends ReadFault n steps middle later = ReadFails middle later × (n < steps)
Ends WriteFault n steps middle later = WriteFails middle later × (n < steps)

-- what a call of `run` with at most so many steps and this outcome does
pub record Ran (steps : ℕ) (before : Seen) (outcome : Outcome) (later : Seen) : Type 0 where
  -- the instructions that it retired, the newest first
  pub log : List Retired
  -- the machine and the streams after the last of them
  pub middle : Seen
  pub retiring : Retiring before log middle
  pub ends : Ends outcome (length log) steps middle later

-- the machine, what its streams tell, and what its watchers mean
abbrev pub seen : Counted → (put left : Option (List ℕ)) → (read_faults write_faults : ℕ) → List Watch → Seen
seen c put left read_faults write_faults watches = record { machine = c.machine; retired = c.retired; put = put; left = left; read_faults = read_faults; write_faults = write_faults; watches = watches }

-- the outcome of a machine that retires nothing more in a call
abbrev pub outcome_by : Status → Outcome
outcome_by Running = StepsUsed
outcome_by (Stopped end) = outcome_of end
outcome_by (Trapped cause pc) = Trap cause pc

-- a further call goes on after the outcome
abbrev pub IsPause : Outcome → Type 0
IsPause Ended = ⊥
IsPause (Raised at length) = ⊥
IsPause RoomUsed = ⊥
IsPause StepsUsed = Unit {0}
IsPause (Trap cause pc) = ⊥
IsPause ReadFault = Unit {0}
IsPause WriteFault = Unit {0}

-- the outcome of a call after which the machine stands so
abbrev pub Stands : Status → Outcome → Type 0
Stands Running outcome = IsPause outcome
Stands (Stopped end) outcome = outcome ≡ outcome_of end
Stands (Trapped cause pc) outcome = outcome ≡ Trap cause pc

-- whether an outcome is an end, not the last of the steps
abbrev pub IsOver : Outcome → Type 0
IsOver Ended = Unit {0}
IsOver (Raised at length) = Unit {0}
IsOver RoomUsed = Unit {0}
IsOver StepsUsed = ⊥
IsOver (Trap cause pc) = Unit {0}
IsOver ReadFault = Unit {0}
IsOver WriteFault = Unit {0}

-- one turn of a run: one instruction is retired and the machine goes on, or the run is over with at most one
abbrev pub Turned : Seen → Option Outcome → Seen → Type 0
Turned before None later = (e : Retired) × Retiring before (e ∷ []) later × (later.machine.status ≡ Running)
Turned before (Some outcome) later = Ran 1 before outcome later × IsOver outcome
