-- Units that are let in.
use Rattle.std.specs.Prelude.{◌≡◌, ℕ, List, Option, Some, None}
use Rattle.th_meaning.specs.Program.{ProgramUnit}
use Rattle.th_meaning.specs.Counts.{call_weight}
use Rattle.th_meaning.specs.World.{World, Did, Stops, OutOfRoom, enter}
use Rattle.th_meaning.specs.Meaning.{Value, Frame, frame_of}
use Rattle.th_acts.specs.declared.runner.Runner.{Runner}
use Rattle.th_acts.specs.Stands.{Told, Stands}

-- the unit is entered with this frame, and the run has what the world then has
pub record LetIn (e : Told) (u : ProgramUnit) (receiver : Option ℕ) (args : List Value) (frame : Frame) (r : Runner) (left now : Option (List ℕ)) (w : World Value) : Type 0 where
  pub world : World Value
  pub did : enter (call_weight u) u.name w ≡ Did tt world
  pub stands : Stands e r left now world
  pub frame_is : frame ≡ frame_of u receiver args

-- there is too little room for the unit, and the run has what the world has
pub record KeptOut (e : Told) (u : ProgramUnit) (r : Runner) (left now : Option (List ℕ)) (w : World Value) : Type 0 where
  pub short : enter (call_weight u) u.name w ≡ Stops OutOfRoom w
  pub stands : Stands e r left now w

-- the unit is entered with the frame, where there is one
abbrev pub Admits : Told → ProgramUnit → (receiver : Option ℕ) → (args : List Value) → Option Frame → Runner → (left now : Option (List ℕ)) → World Value → Type 0
Admits e u receiver args None r left now w = KeptOut e u r left now w
Admits e u receiver args (Some frame) r left now w = LetIn e u receiver args frame r left now w
