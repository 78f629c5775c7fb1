-- Homes that go on, and iterators that go on after their loop's body.
use Rattle.std.proofs.Common.{◌≡◌, sym, ap, ◌∙◌, ℕ, List, [], ◌∷◌}
use denote.Ref.{Bor}
use Rattle.th_meaning.specs.declared.stmt.CoreBody.{CoreBody}
use Rattle.th_meaning.specs.View.{body_of}
use Rattle.th_meaning.specs.World.{World, give_back}
use Rattle.th_meaning.specs.Meaning.{Value, Frame, State, Gives, How, at_home, for_how, yielded, again_in}
use Rattle.th_steps.specs.Machine.{Loop, a_loop, At, on_how, now_how, now_raise, how_at, raise_at}
use Rattle.th_control.specs.declared.control.Control.{Control}
use Rattle.th_control.specs.declared.control.Act.{Act}
use Rattle.th_control.specs.declared.control.Act.TheVariants.{Go, GiveBack}
use Rattle.th_control.specs.declared.control.Now.TheVariants.{How as NowHow, Raise as NowRaise}
use Rattle.th_control.specs.declared.control.How.{How as CodeHow}
use Rattle.th_control.specs.declared.control.Home.{Home}
use Rattle.th_control.specs.declared.control.Raised.{Raised}
use Rattle.th_control.specs.declared.control.Rest.TheVariants.{For, Resume}
use Rattle.th_control.specs.Config.{how_of, rest_of, loop_of, outer_of, frames_of, state_of}
use Rattle.th_control.specs.Acts.{Does, HasEnd, doing}

module _ (old new : Control) where
  -- an exception passes a `for`
  pub raise_home : (r : Raised) → ((w : World Value) → state_of new w ≡ at_home (state_of old w)) → new.rest ≡ old.rest → loop_of new.homes ≡ outer_of (loop_of old.homes)
      → Does (Go (NowRaise r)) new (λ p lp k st. raise_at p r.name.now r.argument (rest_of lp (For ∷ old.rest)) lp st) old
  raise_home r same rest outer p w =
      ap (λ st. At (now_raise r.name.now r.argument) (loop_of new.homes) (rest_of (loop_of new.homes) new.rest) st) (same w)
      ∙ ap (λ items. At (now_raise r.name.now r.argument) (loop_of new.homes) (rest_of (loop_of new.homes) items) (at_home (state_of old w))) rest
      ∙ ap (λ lp. At (now_raise r.name.now r.argument) lp (rest_of lp old.rest) (at_home (state_of old w))) outer

  -- a `for` ends
  pub how_home : (act : Act) (how : How) → ((w : World Value) → state_of new w ≡ at_home (state_of old w)) → new.rest ≡ old.rest → loop_of new.homes ≡ outer_of (loop_of old.homes)
      → HasEnd act (for_how how) → Does act new (λ p lp k st. how_at p how (rest_of lp (For ∷ old.rest)) lp st) old
  how_home act how same rest outer ends p w =
      ends new p w
      ∙ ap (λ st. on_how (for_how how st) (loop_of new.homes) (rest_of (loop_of new.homes) new.rest)) (same w)
      ∙ ap (λ items. on_how (for_how how (at_home (state_of old w))) (loop_of new.homes) (rest_of (loop_of new.homes) items)) rest
      ∙ ap (λ lp. on_how (for_how how (at_home (state_of old w))) lp (rest_of lp old.rest)) outer

  -- an iterator goes on
  pub how_resumed : (how ended : CodeHow) (frame : Frame) (x : ℕ) (b : Bor CoreBody) → new.frame ≡ frame → new.rest ≡ old.rest
      → new.homes ≡ record { frame = old.frame; local = x; body = b } ∷ old.homes
      → ((f : Frame) (st : State) → yielded (record { frame = f; homes = []; world = st.world }) (Gives (how_of how) st) ≡ Gives (how_of ended) (again_in (record { frame = f; homes = []; world = st.world }) st))
      → Does (GiveBack 64 (NowHow ended)) new (λ p lp k st. how_at p (how_of how) (rest_of lp (Resume frame x b ∷ old.rest)) lp st) old
  how_resumed how ended frame x b same rest homes ends p w =
      ap (λ f. At (now_how (how_of ended)) (loop_of new.homes) (rest_of (loop_of new.homes) new.rest) (record { frame = f; homes = frames_of new.homes; world = give_back 64 w })) same
      ∙ ap (λ items. At (now_how (how_of ended)) (loop_of new.homes) (rest_of (loop_of new.homes) items) (record { frame = frame; homes = frames_of new.homes; world = give_back 64 w })) rest
      ∙ ap (λ (hs : List Home). At (now_how (how_of ended)) (loop_of hs) (rest_of (loop_of hs) old.rest) (record { frame = frame; homes = frames_of hs; world = give_back 64 w })) homes
      ∙ sym (ap (λ o. on_how o (a_loop x (body_of b.now) (loop_of old.homes)) (rest_of (a_loop x (body_of b.now) (loop_of old.homes)) old.rest)) (ends frame (state_of old w)))
