-- What the streams show where a run was cut off, and how a step leads on.
use Rattle.std.proofs.Common.{◌≡◌, refl, sym, ap, ◌∙◌, subst, ℕ, ◌⊎◌, inl, inr, List, [], ◌∷◌, ◌++◌, Option, Result, Ok, Err, OnErr}
use Rattle.th_world.specs.Event.{Event, Prefix}
use Rattle.th_meaning.specs.Program.{Program}
use Rattle.th_meaning.specs.World.{World}
use Rattle.th_meaning.specs.Meaning.{Value, Outcome, How}
use Rattle.th_meaning.specs.Run.{stand_of}
use Rattle.th_steps.specs.Machine.{Machine, Stopped, step, step_at}
use Rattle.th_control.specs.declared.control.Control.{Control}
use Rattle.th_control.specs.declared.control.Act.{Act}
use Rattle.th_control.specs.declared.control.Now.{Now}
use Rattle.th_control.specs.Config.{now_of, machine_at}
use Rattle.th_control.specs.Acts.{Does, doing}
use Rattle.th_traces.specs.Traces.{trace_at}
use Rattle.th_traces.proofs.Grows.{step_grows}
use Rattle.th_acts.specs.declared.runner.Runner.{Runner}
use Rattle.th_acts.specs.declared.runner.Over.{Over as CodeOver}
use Rattle.th_acts.specs.declared.runner.Next.{Next}
use Rattle.th_acts.specs.declared.runner.Next.TheVariants.{Over}
use Rattle.th_acts.specs.Stands.{Told, Shows, AreEntered, Stands, Leads, LeadsOn, over_end}
use Rattle.th_acts.specs.Parts.{Partly, Kept}
use Rattle.th_acts.proofs.Acts.{stands_same}

-- the run is over with this outcome
pub ends : (e : Told) (r : Runner) (left now : Option (List ℕ)) (w : World Value) (over : CodeOver) (o : Outcome How) → Stands e r left now w → over_end over ≡ (stand_of o).end → (stand_of o).trace ≡ w.trace
    → Leads e r left now (Over over) (Stopped o)
ends e r left now w over o h end trace = record {
  outcome = o;
  is = refl;
  end = end;
  rest = w.input;
  shows = subst (λ t. Shows e t w.input left now) (sym trace) h.shows;
  units = subst (λ t. AreEntered e r.entered.items t) (sym trace) h.units;
}

-- before a step the streams show a beginning of what it leads to
pub same_part : (e : Told) (old : Runner) (left now left1 now1 : Option (List ℕ)) (next : Now) (m : Machine) → LeadsOn e old left now next m → left1 ≡ left → now1 ≡ now → Partly e left1 now1 (step e.program m)
same_part e old left now left1 now1 next m from same_left same_now = record {
  part = from.world.trace;
  rest = from.world.input;
  is_prefix = subst (λ t. Prefix t (trace_at (step e.program m))) (ap trace_at from.is) (step_grows e.program m);
  shows = subst (λ s. Shows e from.world.trace from.world.input s now1) (sym same_left) (subst (λ s. Shows e from.world.trace from.world.input left s) (sym same_now) from.stands.shows);
}

-- a step is what its act does
step_is : (p : Program) (old : Control) (next : Now) (m : Machine) (w : World Value) (act : Act) (new : Control) → m ≡ machine_at (now_of next) old w → Does act new (λ p1. step_at p1 (now_of next)) old
    → step p m ≡ doing p act new w
step_is p old next m w act new is does = ap (step p) is ∙ sym (does p w)

module _ (e : Told) (old mid : Runner) (left now : Option (List ℕ)) (next : Now) (act : Act) (m : Machine) (from : LeadsOn e old left now next m)
    (does : Does act mid.control (λ p. step_at p (now_of next)) old.control) (tables : mid.tables ≡ old.tables) (entered : mid.entered ≡ old.entered) (store : mid.store ≡ old.store) where
  -- the act of a step leads where the step does
  pub step_leads : (new : Runner) (left1 now1 : Option (List ℕ)) (to : Next) → ((w : World Value) → Stands e mid left now w → Leads e new left1 now1 to (doing e.program act mid.control w))
      → Leads e new left1 now1 to (step e.program m)
  step_leads new left1 now1 to leads =
      subst (Leads e new left1 now1 to) (sym (step_is e.program old.control next m from.world act mid.control from.is does))
      (leads from.world (stands_same e old mid left now from.world from.stands tables entered store))

  -- where the act was cut off, the step was
  pub step_part : (left1 now1 : Option (List ℕ)) → ((w : World Value) → Stands e mid left now w → Kept e left now left1 now1 (doing e.program act mid.control w)) → Partly e left1 now1 (step e.program m)
  step_part left1 now1 kept =
      kept_by left1 now1 (subst (Kept e left now left1 now1) (sym (step_is e.program old.control next m from.world act mid.control from.is does))
      (kept from.world (stands_same e old mid left now from.world from.stands tables entered store)))
    where
      kept_by : (left2 now2 : Option (List ℕ)) → Kept e left now left2 now2 (step e.program m) → Partly e left2 now2 (step e.program m)
      kept_by left2 now2 (inl h) = same_part e old left now left2 now2 next m from h.0 h.1
      kept_by left2 now2 (inr h) = h

-- what holds anyway holds after an error
pub on_err_of : {T E P : Type 0} → (r : Result T E) → P → OnErr r P
on_err_of (Ok a) h = tt
on_err_of (Err e) h = h
