-- Whole Flat runs: with so many turns and a room or none; and operation by operation, with their costs told apart.
use Rattle.std.specs.Prelude.{◌≡◌, ◌≢◌, ℕ, ◌+◌, ◌-◌, List, [], Option, Some, None, ℕ}
use Rattle.th_runs.specs.Stand.{End, GoesOn, Ended, Raised, NoTurns, NoRoom, Trapped, Stand}
use Rattle.th_runs.specs.Runs.{Program}
use Rattle.th_meaning.specs.World.{OutOfTurns, OutOfRoom, Unset, Stuck, Deep, yield_weight}
use Rattle.th_flat.specs.declared.module.FlatUnit.{FlatUnit}
use Rattle.th_flat.specs.Values.{FlatWorld}
use Rattle.th_flat.specs.Program.{FlatProgram}
use Rattle.th_flat.specs.Deeds.{Charge, no_charge, takes_turns, takes_room, takes_both}
use Rattle.th_flat.specs.Configs.{Stack, Bottom, Call, Paused, FlatEnd, Ends, Raises, Halts, Config, Run, Entering, Visiting, Returned, Putting, Over, stuck, weight_of, room_of, deed, world_of, steps}

-- how a run stands that is over; what lawful code never does is told as a trap
abbrev pub stand_end : FlatEnd → End
stand_end Ends = Ended
stand_end (Raises x) = Raised x
stand_end (Halts OutOfTurns) = NoTurns
stand_end (Halts OutOfRoom) = NoRoom
stand_end (Halts Unset) = Trapped
stand_end (Halts Stuck) = Trapped
stand_end (Halts Deep) = Trapped

abbrev pub end_of_config : Config → End
end_of_config (Run u at loop h held below w) = GoesOn
end_of_config (Entering u args below w) = GoesOn
end_of_config (Visiting v u at ls held below w) = GoesOn
end_of_config (Returned s v below w) = GoesOn
end_of_config (Putting bytes u at h held below w) = GoesOn
end_of_config (Over e w) = stand_end e

-- the world at the start of a run
abbrev pub start : (input : List ℕ) → (room : Option ℕ) → (turns : ℕ) → FlatWorld
start input room turns = record { input = input; turns = turns; room = room; objects = []; trace = [] }

-- before the entry of the unit that runs first, which takes no turn
abbrev pub begin : Option FlatUnit → FlatWorld → Config
begin None w = stuck w
begin (Some u) w = Entering u [] Bottom w

module _ (p : FlatProgram) where
  -- how a configuration stands
  abbrev pub stand_of : Config → Stand
  stand_of c = record { end = end_of_config c; trace = (world_of p c).trace }

  -- the stand of a run after so many steps
  abbrev pub flat_stand : (input : List ℕ) → (room : Option ℕ) → (turns : ℕ) → (count : ℕ) → Stand
  flat_stand input room turns count = stand_of (steps p count (begin p.main (start input room turns)))

  -- the run with so many turns and a room or none comes to its end so
  pub record FlatRun (input : List ℕ) (room : Option ℕ) (turns : ℕ) (stand : Stand) : Type 0 where
    pub count : ℕ
    pub is : flat_stand input room turns count ≡ stand
    pub over : stand.end ≢ GoesOn

-- the turns and the room of a charge
abbrev pub turns_of : Charge → ℕ
turns_of no_charge = 0
turns_of (takes_turns k) = k
turns_of (takes_room r) = 0
turns_of (takes_both k r) = k

abbrev pub room_of_charge : Charge → ℕ
room_of_charge no_charge = 0
room_of_charge (takes_turns k) = 0
room_of_charge (takes_room r) = r
room_of_charge (takes_both k r) = r

-- the room of the open calls and yields below the running unit
abbrev pub room_below : Stack → ℕ
room_below Bottom = 0
room_below (Call u at st ls held loop below) = weight_of u + room_of held + room_below below
room_below (Paused u at st ls holds home loop rest) = 0

-- the room of the open calls and yields
abbrev pub open_room : Config → ℕ
open_room (Run u at loop h held below w) = weight_of u + room_of held + room_below below
open_room (Entering u args below w) = room_below below
open_room (Visiting v u at ls held below w) = weight_of u + room_of held - yield_weight + room_below below
open_room (Returned s v below w) = room_below below
open_room (Putting bytes u at h held below w) = weight_of u + room_of held + room_below below
open_room (Over e w) = 0

-- a configuration with the room of the objects and the joined texts that were made, which is never given back
pub record Metered : Type 0 where
  pub config : Config
  pub heap : ℕ

-- the room that a step takes for good
abbrev pub heap_room : Config → ℕ → ℕ
heap_room (Run u at loop h held below w) r = r
heap_room (Entering u args below w) r = 0
heap_room (Visiting v u at ls held below w) r = 0
heap_room (Returned s v below w) r = 0
heap_room (Putting bytes u at h held below w) r = 0
heap_room (Over e w) r = 0

module _ (p : FlatProgram) where
  -- the turns and the room that a step takes
  abbrev pub cost : Config → ℕ
  cost c = turns_of (deed p c).charge

  abbrev pub need : Config → ℕ
  need c = room_of_charge (deed p c).charge

  -- a step without its charge
  abbrev pub unpaid_step : Config → Config
  unpaid_step c = (deed p c).act (world_of p c)

  -- the program step by step
  abbrev pub flat_program : Program Metered
  flat_program = record {
    next = λ g. record { config = unpaid_step g.config; heap = g.heap + heap_room g.config (need g.config) };
    end = λ g. end_of_config g.config;
    trace = λ g. (world_of p g.config).trace;
    cost = λ g. cost g.config;
    need = λ g. need g.config;
    used = λ g. g.heap + open_room g.config;
  }

  -- the start of a run whose costs are told apart
  abbrev pub metered_start : (input : List ℕ) → Metered
  metered_start input = record { config = begin p.main (start input None 0); heap = 0 }
