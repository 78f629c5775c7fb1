-- The activations of a configuration in the order of their places in memory, the topmost first.
use Rattle.std.specs.Prelude.{ℕ, List, [], ◌∷◌, Option}
use Rattle.th_flat.specs.declared.module.FlatUnit.{FlatUnit}
use Rattle.th_flat.specs.Values.{FlatValue}
use Rattle.th_flat.specs.Configs.{Stack, Bottom, Call, Paused, Config, Run, Entering, Visiting, Returned, Putting, Over, home_unit}

-- an activation with a frame of its own: its unit, its operation, its stack and its local words; or a loop body that is at work
-- in the frame of its home
pub data Activation : Type 0 where
  Own : (unit : FlatUnit) → (at : ℕ) → (stack : List FlatValue) → (locals : List (Option FlatValue)) → Activation
  Body : (unit : FlatUnit) → (at : ℕ) → (stack : List FlatValue) → Activation

-- a unit at work with all that it holds, above what lies below
abbrev pub activations : FlatUnit → ℕ → List FlatValue → List (Option FlatValue) → (held : Stack) → List Activation → List Activation
activations u at st ls Bottom tail = Own u at st ls ∷ tail
activations u at st ls (Call u1 at1 st1 ls1 held1 loop1 below1) tail = Own u at st ls ∷ tail
activations u at st ls (Paused it it_at its itl holds home loop rest) tail = Body u at st ∷ activations it it_at its itl holds (activations (home_unit loop u) home [] ls rest tail)

-- what lies below the running unit
abbrev pub activations_below : Stack → List Activation
activations_below Bottom = []
activations_below (Call u at st ls held loop below) = activations u at st ls held (activations_below below)
activations_below (Paused it at st ls holds home loop rest) = []

-- all activations that have a frame
abbrev pub frames_of : Config → List Activation
frames_of (Run u at loop h held below w) = activations u at h.stack h.locals held (activations_below below)
frames_of (Entering u args below w) = activations_below below
frames_of (Visiting v u at ls held below w) = activations u at (v ∷ []) ls held (activations_below below)
frames_of (Returned s v below w) = activations_below below
frames_of (Putting bytes u at h held below w) = activations u at h.stack h.locals held (activations_below below)
frames_of (Over e w) = []
