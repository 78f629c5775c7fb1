-- What a program does that puts bytes.
use Rattle.std.specs.Prelude.{◌≡◌, ℕ, List, [], ◌∷◌, ◌++◌, map, reverse, Option, if◌then◌else◌, codes}
use Rattle.th_world.specs.Event.{Event, Put, Entered}
use Rattle.th_runs.specs.Stand.{Ended, NoRoom, Stand}
use Rattle.th_meaning.specs.Program.{Program, full_name}
use Rattle.th_meaning.specs.Counts.{call_weight}
use Rattle.th_meaning.specs.World.{lacks_room}
use Rattle.th_meaning.specs.Run.{source_run}
use Rattle.th_puts.specs.Form.{main_unit, puts_body, PutsBytes}

-- the trace in which the unit is entered and then these bytes are put in order, the newest event first
abbrev pub puts_trace : (unit bytes : List ℕ) → List Event
puts_trace unit bytes = reverse (map Put bytes) ++ (Entered unit ∷ [])

-- with room for the open call the unit is entered, puts the bytes and ends; with less nothing is done
abbrev pub puts_stand : (unit : List ℕ) → (weight : ℕ) → (bytes : List ℕ) → (room : Option ℕ) → Stand
puts_stand unit weight bytes room = if lacks_room room weight then record { end = NoRoom; trace = [] } else record { end = Ended; trace = puts_trace unit bytes }

-- the room of the open call of a `main` of the module m that puts these bytes
abbrev pub puts_weight : (m bytes : List ℕ) → ℕ
puts_weight m bytes = call_weight (main_unit m (puts_body bytes))

-- a program that puts bytes enters its `main`, puts them in order and ends, whatever the input and the turns
abbrev pub RunsAsPuts : Type 0
RunsAsPuts = (p : Program) (m bytes : List ℕ) → PutsBytes p m bytes → (input : List ℕ) (room : Option ℕ) (turns : ℕ)
    → source_run p input room turns ≡ puts_stand (full_name m (codes "main")) (puts_weight m bytes) bytes room
