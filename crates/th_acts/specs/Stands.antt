-- What a run's code has, beside the world of the meaning.
use Rattle.std.specs.Prelude.{◌≡◌, ℕ, List, ◌++◌, map, Option, Some, None, option_map}
use Rattle.th_world.specs.Event.{Event, puts, takes, entries}
use Rattle.th_runs.specs.Stand.{End, Ended, Raised, NoTurns, NoRoom}
use Rattle.th_meaning.specs.Program.{Program}
use Rattle.th_meaning.specs.World.{World, Stuck, Unset, OutOfTurns, OutOfRoom, bounds}
use Rattle.th_meaning.specs.Meaning.{Value, Outcome, Halts, How}
use Rattle.th_meaning.specs.Run.{stand_of}
use Rattle.th_steps.specs.Machine.{Machine, At, Stopped, now_raise}
use Rattle.th_control.specs.declared.control.Control.{Control}
use Rattle.th_control.specs.declared.control.Now.{Now}
use Rattle.th_control.specs.Config.{now_of, state_of, machine_at}
use Rattle.th_control.specs.Acts.{the_loop, the_rest}
use Rattle.th_store.specs.Alike.{Alike}
use Rattle.th_store.specs.declared.object.Miss.{Miss}
use Rattle.th_store.specs.declared.object.Miss.TheVariants.{Stuck as IsStuck, Unset as IsUnset, Bounds}
use Rattle.th_store.specs.declared.store.Short.{Short}
use Rattle.th_store.specs.declared.store.Short.TheVariants.{Turns, Room}
use Rattle.th_units.specs.Units.{IsTable, unit_number}
use Rattle.th_classes.specs.Rows.{IsClassTable}
use Rattle.th_weights.specs.Sizes.{AreWeights}
use Rattle.th_acts.specs.declared.runner.Over.{Over as CodeOver}
use Rattle.th_acts.specs.declared.runner.Over.TheVariants.{Ended as CodeEnded, Raised as CodeRaised, NoTurns as CodeNoTurns, NoRoom as CodeNoRoom, Stuck as CodeStuck}
use Rattle.th_acts.specs.declared.runner.Next.{Next}
use Rattle.th_acts.specs.declared.runner.Next.TheVariants.{Go, Over}
use Rattle.th_acts.specs.declared.runner.Tables.{Tables}
use Rattle.th_acts.specs.declared.runner.Runner.{Runner}

-- what is told of a run: its program, the bytes that its source had, and those of its sink
pub record Told : Type 0 where
  pub program : Program
  pub had : List ℕ
  pub before : Option (List ℕ)

-- the number of a unit that is there
abbrev pub number_at : Program → List ℕ → ℕ
number_at p name = elim (unit_number p name) [ None ↦ 0 | Some n ↦ n ]

-- a source with the rest left and a sink show the trace
pub record Shows (e : Told) (trace : List Event) (rest : List ℕ) (source sink : Option (List ℕ)) : Type 0 where
  pub left : source ≡ Some rest
  pub taken : takes trace ++ rest ≡ e.had
  pub put : sink ≡ option_map (λ bytes. bytes ++ puts trace) e.before

-- these are the numbers of the units entered
abbrev pub AreEntered : Told → List ℕ → List Event → Type 0
AreEntered e numbers trace = numbers ≡ map (number_at e.program) (entries trace)

-- the tables are those of the program
pub record AreTables (p : Program) (tables : Tables) : Type 0 where
  pub units : IsTable tables.units p
  pub classes : IsClassTable tables.classes p
  pub weights : AreWeights p tables.weights

-- the run has what the world has
pub record Stands (e : Told) (r : Runner) (left now : Option (List ℕ)) (w : World Value) : Type 0 where
  pub tables : AreTables e.program r.tables.now
  pub alike : Alike w r.store
  pub shows : Shows e w.trace w.input left now
  pub units : AreEntered e r.entered.items w.trace

-- the end of a run that is over so
abbrev pub over_end : CodeOver → End
over_end CodeEnded = Ended
over_end (CodeRaised x) = Raised x.now
over_end CodeNoTurns = NoTurns
over_end CodeNoRoom = NoRoom
over_end CodeStuck = Ended

-- the machine goes on so from a world that the run has
pub record LeadsOn (e : Told) (r : Runner) (left now : Option (List ℕ)) (next : Now) (m : Machine) : Type 0 where
  pub world : World Value
  pub is : m ≡ machine_at (now_of next) r.control world
  pub stands : Stands e r left now world

-- the machine stopped so
pub record IsOver (e : Told) (r : Runner) (left now : Option (List ℕ)) (over : CodeOver) (m : Machine) : Type 0 where
  pub outcome : Outcome How
  pub is : m ≡ Stopped outcome
  pub end : over_end over ≡ (stand_of outcome).end
  pub rest : List ℕ
  pub shows : Shows e (stand_of outcome).trace rest left now
  pub units : AreEntered e r.entered.items (stand_of outcome).trace

-- the machine is where the run goes on, or stopped as the run did
abbrev pub Leads : Told → Runner → (left now : Option (List ℕ)) → Next → Machine → Type 0
Leads e r left now (Go next) m = LeadsOn e r left now next m
Leads e r left now (Over over) m = IsOver e r left now over m

-- the machine after a look-up that found nothing
abbrev pub missed_at : Miss → Control → World Value → Machine
missed_at IsStuck c w = Stopped (Halts Stuck w)
missed_at IsUnset c w = Stopped (Halts Unset w)
missed_at Bounds c w = At (now_raise bounds None) (the_loop c) (the_rest c) (state_of c w)

-- the machine after a charge that there was too little for
abbrev pub short_at : Short → World Value → Machine
short_at Turns w = Stopped (Halts OutOfTurns w)
short_at Room w = Stopped (Halts OutOfRoom w)
