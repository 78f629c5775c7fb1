-- Acts on the world, one after another.
use Rattle.std.proofs.Common.{◌≡◌, refl, sym, ap, ◌∙◌, subst, ℕ, ℤ, pos, List, [], ◌∷◌, ◌++◌, Option, Some, None}
use Rattle.th_world.specs.Event.{Event}
use Rattle.th_meaning.specs.Trees.{ExprTrees}
use Rattle.th_meaning.specs.Program.{Program}
use Rattle.th_meaning.specs.View.{expr_of, exprs_of, body_of}
use Rattle.th_meaning.specs.World.{World, Effect, Did, Fails, Stops, Halt, Stuck, Unset, bounds, OutOfTurns, OutOfRoom, and_then, spend, reserve, give_back, open_yield, new_object, new_array, array_length, element, field_value, set_element, set_field}
use Rattle.th_meaning.specs.Meaning.{Value, Int, Ref, Outcome, Halts, How, Done, State, act, act_as}
use Rattle.th_meaning.specs.Run.{halted_end}
use Rattle.th_steps.specs.Machine.{Machine, Stopped, Loop, Rest, on_value, on_how, on_some}
use Rattle.th_control.specs.declared.control.Control.{Control}
use Rattle.th_control.specs.declared.control.Now.{Now}
use Rattle.th_control.specs.declared.control.Now.TheVariants.{Value as NowValue, How as NowHow}
use Rattle.th_control.specs.declared.control.How.TheVariants.{Done as CodeDone}
use Rattle.th_control.specs.Config.{now_of, state_of, machine_at}
use Rattle.th_control.specs.Acts.{the_loop, the_rest, done_of}
use Rattle.th_store.specs.Stock.{Stock}
use Rattle.th_store.specs.Found.{missed}
use Rattle.th_store.specs.Charges.{charged, with_left}
use Rattle.th_store.specs.Alike.{Alike, SetsTo}
use Rattle.th_store.proofs.Charges.{left_alike}
use Rattle.th_store.specs.declared.object.Miss.{Miss}
use Rattle.th_store.specs.declared.object.Miss.TheVariants.{Stuck as IsStuck, Unset as IsUnset, Bounds}
use Rattle.th_store.specs.declared.store.Short.{Short}
use Rattle.th_store.specs.declared.store.Short.TheVariants.{Turns, Room}
use Rattle.th_acts.specs.declared.runner.Runner.{Runner}
use Rattle.th_acts.specs.declared.runner.Over.{Over as CodeOver}
use Rattle.th_acts.specs.declared.runner.Over.TheVariants.{Stuck as CodeStuck}
use Rattle.th_acts.specs.declared.runner.Next.{Next}
use Rattle.th_acts.specs.declared.runner.Next.TheVariants.{Go, Over}
use Rattle.th_acts.specs.Stands.{Told, Shows, AreEntered, AreTables, Stands, over_end, Leads, LeadsOn, IsOver, missed_at, short_at}

-- what is shown of equals
pub shows_at : (e : Told) (s t : List Event) (i j : List ℕ) (left now : Option (List ℕ)) → t ≡ s → j ≡ i → Shows e s i left now → Shows e t j left now
shows_at e s t i j left now g h shows = subst (λ x. Shows e x j left now) (sym g) (subst (λ x. Shows e s x left now) (sym h) shows)

pub entered_at : (e : Told) (a b : List ℕ) (s t : List Event) → b ≡ a → t ≡ s → AreEntered e a s → AreEntered e b t
entered_at e a b s t f g units = subst (λ x. AreEntered e x t) (sym f) (subst (λ x. AreEntered e a x) (sym g) units)

-- the run with another store has a world with these turns, room and objects
pub stands_by : (e : Told) (old new : Runner) (left now : Option (List ℕ)) (w v : World Value) → Stands e old left now w → new.tables ≡ old.tables → new.entered ≡ old.entered
    → Alike v new.store → v.trace ≡ w.trace → v.input ≡ w.input → Stands e new left now v
stands_by e old new left now w v h tables entered alike trace input = record {
  tables = subst (λ t. AreTables e.program t.now) (sym tables) h.tables;
  alike = alike;
  shows = shows_at e w.trace v.trace w.input v.input left now trace input h.shows;
  units = entered_at e old.entered.items new.entered.items w.trace v.trace (ap (λ x. x.items) entered) trace h.units;
}

-- the run with the same store has the same world
pub stands_same : (e : Told) (old new : Runner) (left now : Option (List ℕ)) (w : World Value) → Stands e old left now w → new.tables ≡ old.tables → new.entered ≡ old.entered
    → new.store ≡ old.store → Stands e new left now w
stands_same e old new left now w h tables entered store = stands_by e old new left now w w h tables entered (subst (Alike w) (sym store) h.alike) refl refl

-- the run goes on
pub goes_on : (e : Told) (new : Runner) (left now : Option (List ℕ)) (v : World Value) (next : Now) (m : Machine) → Stands e new left now v → m ≡ machine_at (now_of next) new.control v
    → Leads e new left now (Go next) m
goes_on e new left now v next m h is = record { world = v; is = is; stands = h }

-- the run stops
pub stops : (e : Told) (new : Runner) (left now : Option (List ℕ)) (v : World Value) (over : CodeOver) (halt : Halt) (m : Machine) → Stands e new left now v → over_end over ≡ halted_end halt
    → m ≡ Stopped (Halts halt v) → Leads e new left now (Over over) m
stops e new left now v over halt m h end is = record { outcome = Halts halt v; is = is; end = end; rest = v.input; shows = h.shows; units = h.units }

-- the run with the turns and the room that are left
pub stands_left : (e : Told) (old new : Runner) (left now : Option (List ℕ)) (w : World Value) → Stands e old left now w → new.tables ≡ old.tables → new.entered ≡ old.entered
    → new.store.objects ≡ old.store.objects → Stands e new left now (with_left new.store w)
stands_left e old new left now w h tables entered objects =
    stands_by e old new left now w (with_left new.store w) h tables entered (left_alike w old.store new.store h.alike objects) refl refl

module _ (e : Told) (r : Runner) (left now : Option (List ℕ)) (w : World Value) where
  -- a value that was found
  pub value_found : (eff : Effect Value Value) (v : Value) → Stands e r left now w → eff ≡ Did v w
      → Leads e r left now (Go (NowValue v)) (on_value (act eff (state_of r.control w)) (the_loop r.control) (the_rest r.control))
  value_found eff v h found = record { world = w; is = rw found refl; stands = h }

  -- a number that was found
  pub number_found : (eff : Effect Value ℕ) (n : ℕ) → Stands e r left now w → eff ≡ Did n w
      → Leads e r left now (Go (NowValue (Int (pos n)))) (on_value (act_as (λ k. Int (pos k)) eff (state_of r.control w)) (the_loop r.control) (the_rest r.control))
  number_found eff n h found = record { world = w; is = rw found refl; stands = h }

  value_missed : (miss : Miss) → on_value (act {A = Value} (missed miss w) (state_of r.control w)) (the_loop r.control) (the_rest r.control) ≡ missed_at miss r.control w
  value_missed IsStuck = refl
  value_missed IsUnset = refl
  value_missed Bounds = refl

  number_missed : (miss : Miss) → on_value (act_as {A = ℕ} (λ k. Int (pos k)) (missed miss w) (state_of r.control w)) (the_loop r.control) (the_rest r.control) ≡ missed_at miss r.control w
  number_missed IsStuck = refl
  number_missed IsUnset = refl
  number_missed Bounds = refl

  end_missed : (miss : Miss) → on_how (done_of (act {A = Unit {0}} (missed miss w) (state_of r.control w))) (the_loop r.control) (the_rest r.control) ≡ missed_at miss r.control w
  end_missed IsStuck = refl
  end_missed IsUnset = refl
  end_missed Bounds = refl

  -- a value that was missed
  pub value_not_found : (next : Next) (eff : Effect Value Value) (miss : Miss) → Leads e r left now next (missed_at miss r.control w) → eff ≡ missed miss w
      → Leads e r left now next (on_value (act eff (state_of r.control w)) (the_loop r.control) (the_rest r.control))
  value_not_found next eff miss h gone = rw (gone, value_missed miss) h

  pub number_not_found : (next : Next) (eff : Effect Value ℕ) (miss : Miss) → Leads e r left now next (missed_at miss r.control w) → eff ≡ missed miss w
      → Leads e r left now next (on_value (act_as (λ k. Int (pos k)) eff (state_of r.control w)) (the_loop r.control) (the_rest r.control))
  number_not_found next eff miss h gone = rw (gone, number_missed miss) h

  pub end_not_found : (next : Next) (eff : Effect Value (Unit {0})) (miss : Miss) → Leads e r left now next (missed_at miss r.control w) → eff ≡ missed miss w
      → Leads e r left now next (on_how (done_of (act eff (state_of r.control w))) (the_loop r.control) (the_rest r.control))
  end_not_found next eff miss h gone = rw (gone, end_missed miss) h

-- an object was set
pub object_set : (e : Told) (old new : Runner) (left now : Option (List ℕ)) (w : World Value) (eff : Effect Value (Unit {0})) → Stands e old left now w → SetsTo eff w new.store
    → new.control ≡ old.control → new.tables ≡ old.tables → new.entered ≡ old.entered
    → Leads e new left now (Go (NowHow CodeDone)) (on_how (done_of (act eff (state_of old.control w))) (the_loop old.control) (the_rest old.control))
object_set e old new left now w eff h set same tables units =
    goes_on e new left now (record w { objects = set.objects }) (NowHow CodeDone) _
    (stands_by e old new left now w (record w { objects = set.objects }) h tables units set.alike refl refl)
    (rw set.is (ap (λ c. machine_at (now_of (NowHow CodeDone)) c (record w { objects = set.objects })) (sym same)))

-- no object of the number was there to be set
pub object_not_set : (e : Told) (old new : Runner) (left now : Option (List ℕ)) (w : World Value) (eff : Effect Value (Unit {0})) → Stands e old left now w → (eff ≡ Stops Stuck w) × Alike w new.store
    → new.tables ≡ old.tables → new.entered ≡ old.entered → Leads e new left now (Over CodeStuck) (on_how (done_of (act eff (state_of old.control w))) (the_loop old.control) (the_rest old.control))
object_not_set e old new left now w eff h not tables units =
    stops e new left now w CodeStuck Stuck _ (stands_by e old new left now w w h tables units not.1 refl refl) refl
    (ap (λ x. on_how (done_of (act x (state_of old.control w))) (the_loop old.control) (the_rest old.control)) not.0)

-- room was given back
pub room_given : (e : Told) (old new : Runner) (left now : Option (List ℕ)) (w : World Value) (bytes : ℕ) (next : Now) → Stands e old left now w → give_back bytes w ≡ with_left new.store w
    → new.control ≡ old.control → new.tables ≡ old.tables → new.entered ≡ old.entered → new.store.objects ≡ old.store.objects
    → Leads e new left now (Go next) (machine_at (now_of next) old.control (give_back bytes w))
room_given e old new left now w bytes next h given same tables units objects =
    goes_on e new left now (with_left new.store w) next _ (stands_left e old new left now w h tables units objects)
    (ap (machine_at (now_of next) old.control) given ∙ ap (λ c. machine_at (now_of next) c (with_left new.store w)) (sym same))
