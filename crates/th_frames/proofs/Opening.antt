-- Units that are entered, and loop bodies that yields run.
use Rattle.std.proofs.Common.{◌≡◌, refl, sym, ap, ◌∙◌, ℕ, List, [], ◌∷◌, set, Option, Some, None}
use denote.Ref.{Bor}
use Rattle.th_meaning.specs.declared.expr.CoreExpr.{CoreExpr}
use Rattle.th_meaning.specs.declared.stmt.CoreBody.{CoreBody}
use Rattle.th_meaning.specs.Trees.{BodyTree}
use Rattle.th_meaning.specs.View.{expr_of, body_of}
use Rattle.th_meaning.specs.World.{World, Stuck}
use Rattle.th_meaning.specs.Meaning.{Value, Frame, State, Halts}
use Rattle.th_steps.specs.Machine.{Machine, At, Stopped, now_body, then_again, visit}
use Rattle.th_control.specs.declared.control.Control.{Control}
use Rattle.th_control.specs.declared.control.Home.{Home}
use Rattle.th_control.specs.declared.control.Usage.{Usage}
use Rattle.th_control.specs.declared.control.Purpose.TheVariants.{Plain, For as ForLoop}
use Rattle.th_control.specs.declared.control.Rest.{Rest as CodeRest}
use Rattle.th_control.specs.declared.control.Rest.TheVariants.{Close, Back, For, Resume, Again}
use Rattle.th_control.specs.Config.{purpose_of, loop_of, rest_of, frames_of, machine_at, state_of}
use Rattle.th_control.specs.Acts.{the_loop, the_rest}
use Rattle.th_frames.specs.Opened.{opened, visited}

-- a call that isn't a `for`
pub opened_plain : (old new : Control) (frame : Frame) (usage : Usage) (weight : ℕ) → new ≡ record { rest = Close weight ∷ Back usage old.frame old.homes ∷ old.rest; frame = frame; homes = [] }
    → (body : BodyTree) (w : World Value) → machine_at (now_body body) new w ≡ opened (purpose_of (Plain usage)) frame weight body (the_loop old) (the_rest old) (state_of old w)
opened_plain old new frame usage weight is body w = ap (λ c. machine_at (now_body body) c w) is

-- a `for`
pub opened_for : (old new : Control) (frame : Frame) (x : ℕ) (b : Bor CoreBody) (weight : ℕ)
    → new ≡ record { rest = Close weight ∷ For ∷ old.rest; frame = frame; homes = record { frame = old.frame; local = x; body = b } ∷ old.homes }
    → (body : BodyTree) (w : World Value) → machine_at (now_body body) new w ≡ opened (purpose_of (ForLoop x b)) frame weight body (the_loop old) (the_rest old) (state_of old w)
opened_for old new frame x b weight is body w = ap (λ c. machine_at (now_body body) c w) is

-- no loop is open
pub visit_none : (old new : Control) (v : Value) → old.homes ≡ []
    → (w : World Value) → visit (the_loop old) v (the_loop old) (the_rest old) (state_of old w) ≡ visited None new w
visit_none old new v none w =
    ap (λ hs. visit (loop_of hs) v (loop_of hs) (rest_of (loop_of hs) old.rest) (record { frame = old.frame; homes = frames_of hs; world = w })) none

-- the machine in the nearest home
visit_at : (old new : Control) (h : Home) (v : Value) (w : World Value) → new.frame ≡ record { receiver = h.frame.receiver; locals = set h.frame.locals h.local (Some v) }
    → new.rest ≡ Resume old.frame h.local h.body ∷ old.rest
    → At (now_body (body_of h.body.now)) (loop_of new.homes) (rest_of (loop_of new.homes) (Resume old.frame h.local h.body ∷ old.rest))
    (record { frame = record { receiver = h.frame.receiver; locals = set h.frame.locals h.local (Some v) }; homes = frames_of new.homes; world = w })
    ≡ visited (Some h.body) new w
visit_at old new h v w frame rest =
    ap (λ f. At (now_body (body_of h.body.now)) (loop_of new.homes) (rest_of (loop_of new.homes) (Resume old.frame h.local h.body ∷ old.rest)) (record { frame = f; homes = frames_of new.homes; world = w })) (sym frame)
    ∙ ap (λ ks. At (now_body (body_of h.body.now)) (loop_of new.homes) (rest_of (loop_of new.homes) ks) (record { frame = new.frame; homes = frames_of new.homes; world = w })) (sym rest)

pub visit_some : (old new : Control) (h : Home) (homes : List Home) (b : Bor CoreBody) (v : Value) → old.homes ≡ h ∷ homes → b ≡ h.body → new.homes ≡ homes
    → new.frame ≡ record { receiver = h.frame.receiver; locals = set h.frame.locals h.local (Some v) } → new.rest ≡ Resume old.frame h.local h.body ∷ old.rest
    → (w : World Value) → visit (the_loop old) v (the_loop old) (the_rest old) (state_of old w) ≡ visited (Some b) new w
visit_some old new h homes b v there is kept frame rest w =
    ap (λ hs. visit (loop_of hs) v (loop_of hs) (rest_of (loop_of hs) old.rest) (record { frame = old.frame; homes = frames_of hs; world = w })) there
    ∙ ap (λ hs. At (now_body (body_of h.body.now)) (loop_of hs) (rest_of (loop_of hs) (Resume old.frame h.local h.body ∷ old.rest))
    (record { frame = record { receiver = h.frame.receiver; locals = set h.frame.locals h.local (Some v) }; homes = frames_of hs; world = w })) (sym kept)
    ∙ visit_at old new h v w frame rest
    ∙ ap (λ x. visited (Some x) new w) (sym is)

-- the body of a `while` whose test held
pub waits : (old new : Control) (e : Bor CoreExpr) (b : Bor CoreBody) → new ≡ record old { rest = Again e b ∷ old.rest } → (w : World Value)
    → At (now_body (body_of b.now)) (the_loop old) (then_again (expr_of e.now) (body_of b.now) (the_rest old)) (state_of old w) ≡ machine_at (now_body (body_of b.now)) new w
waits old new e b is w = sym (ap (λ c. machine_at (now_body (body_of b.now)) c w) is)
