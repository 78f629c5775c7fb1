-- Units that are entered, and loop bodies that yields run.
use Rattle.std.specs.Prelude.{ℕ, [], ◌∷◌, Option, Some, None}
use denote.Ref.{Bor}
use Rattle.th_meaning.specs.declared.stmt.CoreBody.{CoreBody}
use Rattle.th_meaning.specs.Trees.{BodyTree}
use Rattle.th_meaning.specs.View.{body_of}
use Rattle.th_meaning.specs.World.{World, Stuck}
use Rattle.th_meaning.specs.Meaning.{Value, Frame, State, Halts}
use Rattle.th_steps.specs.Machine.{Purpose, a_use, a_for, Loop, no_loop, a_loop, Rest, then_close, then_back, then_for, Machine, At, Stopped, now_body}
use Rattle.th_control.specs.declared.control.Control.{Control}
use Rattle.th_control.specs.Config.{machine_at}

-- the machine in the frame of a unit that was entered for a purpose
abbrev pub opened : Purpose → Frame → (weight : ℕ) → BodyTree → Loop → Rest → State → Machine
opened (a_use u) frame weight body lp k st = At (now_body body) no_loop (then_close weight (then_back u st.frame st.homes lp k)) (record { frame = frame; homes = []; world = st.world })
opened (a_for x b) frame weight body lp k st = At (now_body body) (a_loop x b lp) (then_close weight (then_for lp k)) (record { frame = frame; homes = st.frame ∷ st.homes; world = st.world })

-- the machine at a loop's body, where one is open
abbrev pub visited : Option (Bor CoreBody) → Control → World Value → Machine
visited None c w = Stopped (Halts Stuck w)
visited (Some body) c w = machine_at (now_body (body_of body.now)) c w
