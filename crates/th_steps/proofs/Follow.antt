-- The machine goes on to what an evaluation gives.
use Rattle.std.proofs.Common.{◌≡◌, ℕ, zero, suc, ◌+◌, Bool, true, false, List, [], ◌∷◌, ◌++◌, Option, Some, None, refl, sym, ap, subst}
use Rattle.std.specs.Prelude.{ℤ, if◌then◌else◌}
use Rattle.th_meaning.specs.World.{World, Halt, OutOfTurns, OutOfRoom, Unset, Stuck, Deep}
use Rattle.th_meaning.specs.Program.{Program}
use Rattle.th_meaning.specs.Meaning.{Value, Int, Truth, Ref, Text, State, Outcome, Gives, Raises, Halts, How, then_do, with_truth, with_some, with_self, catch}
use Rattle.th_meaning.specs.Trees.{WhenTrees}
use Rattle.th_steps.specs.Machine.{Loop, Rest, then_caught, Machine, At, Stopped, now_value, now_how, now_raise, now_handle, on_value, on_how, on_some, on_truth, on_number, on_self, step, steps}

-- the machine comes from c to d
pub record Comes (p : Program) (c d : Machine) : Type 0 where
  pub count : ℕ
  pub is : steps p count c ≡ d

abbrev pub Halting : Program → Machine → Halt → World Value → Type 0
Halting p c OutOfTurns w = Comes p c (Stopped (Halts OutOfTurns w))
Halting p c OutOfRoom w = Comes p c (Stopped (Halts OutOfRoom w))
Halting p c Unset w = Comes p c (Stopped (Halts Unset w))
Halting p c Stuck w = Comes p c (Stopped (Halts Stuck w))
Halting p c Deep w = Unit {0}

-- the machine comes to what the outcome says
abbrev pub Goes : {A : Type 0} → Program → Machine → Outcome A → (A → State → Machine) → (List ℕ → Option Value → State → Machine) → Type 0
Goes p c (Gives a st) good bad = Comes p c (good a st)
Goes p c (Raises x v st) good bad = Comes p c (bad x v st)
Goes p c (Halts h w) good bad = Halting p c h w

-- from the machine's states c the evaluation f leads to `good`, or by an exception to `bad`
pub record To {A : Type 0} (p : Program) (c : State → Machine) (f : State → Outcome A) (good : A → State → Machine) (bad : List ℕ → Option Value → State → Machine) : Type 0 where
  pub goes : (st : State) → Goes p (c st) (f st) good bad

abbrev pub val : Loop → Rest → Value → State → Machine
val lp k v st = At (now_value v) lp k st

abbrev pub hw : Loop → Rest → How → State → Machine
hw lp k how st = At (now_how how) lp k st

abbrev pub exc : Loop → Rest → List ℕ → Option Value → State → Machine
exc lp k x v st = At (now_raise x v) lp k st

module _ {p : Program} where
  pub here : {c : Machine} → Comes p c c
  here = record { count = 0; is = refl }

  pub first : {c d : Machine} → Comes p (step p c) d → Comes p c d
  first h = record { count = suc h.count; is = h.is }

  comes_from : (n : ℕ) (c d e : Machine) → steps p n c ≡ d → Comes p d e → Comes p c e
  comes_from zero c d e q h = subst (λ x. Comes p x e) (sym q) h
  comes_from (suc n) c d e q h = first (comes_from n (step p c) d e q h)

  pub on : {c d e : Machine} → Comes p c d → Comes p d e → Comes p c e
  on {c = c} {d = d} {e = e} g h = comes_from g.count c d e g.is h

  step_comes : (c d : Machine) → step p c ≡ d → Comes p c d
  step_comes c d q = subst (λ x. Comes p c x) q (first here)

module _ (p : Program) where
  pub halting_after : (c d : Machine) (h : Halt) (w : World Value) → Comes p c d → Halting p d h w → Halting p c h w
  halting_after c d OutOfTurns w g k = on g k
  halting_after c d OutOfRoom w g k = on g k
  halting_after c d Unset w g k = on g k
  halting_after c d Stuck w g k = on g k
  halting_after c d Deep w g k = tt

  pub goes_after : {A : Type 0} (c d : Machine) (o : Outcome A) (good : A → State → Machine) (bad : List ℕ → Option Value → State → Machine) → Comes p c d → Goes p d o good bad → Goes p c o good bad
  goes_after c d (Gives a st) good bad g h = on g h
  goes_after c d (Raises x v st) good bad g h = on g h
  goes_after c d (Halts x w) good bad g h = halting_after c d x w g h

  pub halts_at : (h : Halt) (w : World Value) → Halting p (Stopped (Halts h w)) h w
  halts_at OutOfTurns w = here
  halts_at OutOfRoom w = here
  halts_at Unset w = here
  halts_at Stuck w = here
  halts_at Deep w = tt

  goes_then : {A B : Type 0} (c : Machine) (o : Outcome A) (g : A → State → Outcome B) (mid : A → State → Machine) (bad1 : List ℕ → Option Value → State → Machine) (good : B → State → Machine) (bad : List ℕ → Option Value → State → Machine)
      → ((x : List ℕ) (v : Option Value) (st : State) → Comes p (bad1 x v st) (bad x v st)) → Goes p c o mid bad1 → ((a : A) (st : State) → Goes p (mid a st) (g a st) good bad) → Goes p c (then_do o g) good bad
  goes_then c (Gives a st) g mid bad1 good bad pop h k = goes_after c (mid a st) (g a st) good bad h (k a st)
  goes_then c (Raises x v st) g mid bad1 good bad pop h k = on h (pop x v st)
  goes_then c (Halts x w) g mid bad1 good bad pop h k = h

  value_goes : (o : Outcome Value) (lp : Loop) (k : Rest) → Goes p (on_value o lp k) o (val lp k) (exc lp k)
  value_goes (Gives v st) lp k = here
  value_goes (Raises x v st) lp k = here
  value_goes (Halts h w) lp k = halts_at h w

  pub how_goes : (o : Outcome How) (lp : Loop) (k : Rest) → Goes p (on_how o lp k) o (hw lp k) (exc lp k)
  how_goes (Gives how st) lp k = here
  how_goes (Raises x v st) lp k = here
  how_goes (Halts h w) lp k = halts_at h w

  some_goes : {A : Type 0} (o : Outcome A) (lp : Loop) (k : Rest) (go : A → State → Machine) → Goes p (on_some o lp k go) o go (exc lp k)
  some_goes (Gives a st) lp k go = here
  some_goes (Raises x v st) lp k go = here
  some_goes (Halts h w) lp k go = halts_at h w

  number_goes : {A : Type 0} (o : Option ℕ) (st : State) {go : ℕ → State → Machine} {f : ℕ → State → Outcome A} {good : A → State → Machine} {bad : List ℕ → Option Value → State → Machine} → ((n : ℕ) → To p (go n) (f n) good bad)
      → Goes p (on_number o st (λ n. go n st)) (with_some o Stuck st (λ n. f n st)) good bad
  number_goes None st h = here
  number_goes (Some n) st h = (h n).goes st

  catch_goes : (lp : Loop) (k : Rest) (ws : WhenTrees) (c : Machine) (o : Outcome How) (f : List ℕ → Option Value → State → Outcome How) → Goes p c o (hw lp (then_caught ws k)) (exc lp (then_caught ws k))
      → ((x : List ℕ) (v : Option Value) → To p (λ st. At (now_handle ws x v) lp k st) (f x v) (hw lp k) (exc lp k)) → Goes p c (catch o f) (hw lp k) (exc lp k)
  catch_goes lp k ws c (Gives how st) f g h = on g (first here)
  catch_goes lp k ws c (Raises x v st) f g h = goes_after c (At (now_handle ws x v) lp k st) (f x v st) (hw lp k) (exc lp k) (on g (first here)) ((h x v).goes st)
  catch_goes lp k ws c (Halts x w) f g h = g

module _ {p : Program} where
  -- one step first
  pub to_step : {A : Type 0} {c c1 : State → Machine} {f : State → Outcome A} {good : A → State → Machine} {bad : List ℕ → Option Value → State → Machine} → ((st : State) → step p (c st) ≡ c1 st) → To p c1 f good bad → To p c f good bad
  to_step {c = c} {c1 = c1} {f = f} {good = good} {bad = bad} q h = record { goes = λ st. goes_after p (c st) (c1 st) (f st) good bad (step_comes (c st) (c1 st) (q st)) (h.goes st) }

  -- one evaluation after another, where an exception passes what waited for the first
  pub to_then : {A B : Type 0} {c : State → Machine} {f : State → Outcome A} {g : A → State → Outcome B} {mid : A → State → Machine} {bad1 : List ℕ → Option Value → State → Machine} {good : B → State → Machine} {bad : List ℕ → Option Value → State → Machine}
      → To p c f mid bad1 → ((x : List ℕ) (v : Option Value) (st : State) → step p (bad1 x v st) ≡ bad x v st) → ((a : A) → To p (mid a) (g a) good bad) → To p c (λ st. then_do (f st) g) good bad
  to_then {c = c} {f = f} {g = g} {mid = mid} {bad1 = bad1} {good = good} {bad = bad} h q k = record {
    goes = λ st. goes_then p (c st) (f st) g mid bad1 good bad (λ x v st1. step_comes (bad1 x v st1) (bad x v st1) (q x v st1)) (h.goes st) (λ a st1. (k a).goes st1);
  }

  -- one evaluation after another
  pub to_seq : {A B : Type 0} {c : State → Machine} {f : State → Outcome A} {g : A → State → Outcome B} {mid : A → State → Machine} {good : B → State → Machine} {bad : List ℕ → Option Value → State → Machine}
      → To p c f mid bad → ((a : A) → To p (mid a) (g a) good bad) → To p c (λ st. then_do (f st) g) good bad
  to_seq {c = c} {f = f} {g = g} {mid = mid} {good = good} {bad = bad} h k = record { goes = λ st. goes_then p (c st) (f st) g mid bad good bad (λ x v st1. here) (h.goes st) (λ a st1. (k a).goes st1) }

  pub to_value : (f : State → Outcome Value) (lp : Loop) (k : Rest) → To p (λ st. on_value (f st) lp k) f (val lp k) (exc lp k)
  to_value f lp k = record { goes = λ st. value_goes p (f st) lp k }

  pub to_how : (f : State → Outcome How) (lp : Loop) (k : Rest) → To p (λ st. on_how (f st) lp k) f (hw lp k) (exc lp k)
  to_how f lp k = record { goes = λ st. how_goes p (f st) lp k }

  pub to_some : {A : Type 0} (f : State → Outcome A) (lp : Loop) (k : Rest) (go : A → State → Machine) → To p (λ st. on_some (f st) lp k go) f go (exc lp k)
  to_some f lp k go = record { goes = λ st. some_goes p (f st) lp k go }

  pub to_gives : {A : Type 0} (a : A) {good : A → State → Machine} {bad : List ℕ → Option Value → State → Machine} → To p (λ st. good a st) (λ st. Gives a st) good bad
  to_gives a = record { goes = λ st. here }

  pub to_raises : {A : Type 0} (x : List ℕ) (v : Option Value) {good : A → State → Machine} {bad : List ℕ → Option Value → State → Machine} → To {A = A} p (λ st. bad x v st) (λ st. Raises x v st) good bad
  to_raises x v = record { goes = λ st. here }

  pub to_stuck : {A : Type 0} {good : A → State → Machine} {bad : List ℕ → Option Value → State → Machine} → To {A = A} p (λ st. Stopped (Halts Stuck st.world)) (λ st. Halts Stuck st.world) good bad
  to_stuck = record { goes = λ st. here }

  pub to_truth : {A : Type 0} (v : Value) {yes other : State → Machine} {f g : State → Outcome A} {good : A → State → Machine} {bad : List ℕ → Option Value → State → Machine} → To p yes f good bad → To p other g good bad
      → To p (λ st. on_truth v st (yes st) (other st)) (λ st. with_truth v st (λ x. if x then f st else g st)) good bad
  to_truth (Int n) h k = to_stuck
  to_truth (Truth true) h k = h
  to_truth (Truth false) h k = k
  to_truth (Ref n) h k = to_stuck
  to_truth (Text bytes) h k = to_stuck

  pub to_self : {A : Type 0} {go : ℕ → State → Machine} {f : ℕ → State → Outcome A} {good : A → State → Machine} {bad : List ℕ → Option Value → State → Machine} → ((n : ℕ) → To p (go n) (f n) good bad)
      → To p (λ st. on_self st (λ n. go n st)) (λ st. with_self st (λ n. f n st)) good bad
  to_self h = record { goes = λ st. number_goes p st.frame.receiver st h }

  pub to_choice : {A : Type 0} (b : Bool) {yes other : State → Machine} {f g : State → Outcome A} {good : A → State → Machine} {bad : List ℕ → Option Value → State → Machine} → To p yes f good bad → To p other g good bad
      → To p (λ st. if b then yes st else other st) (λ st. if b then f st else g st) good bad
  to_choice true h k = h
  to_choice false h k = k

  pub to_catch : {lp : Loop} {k : Rest} {ws : WhenTrees} {c : State → Machine} {g : State → Outcome How} {f : List ℕ → Option Value → State → Outcome How} → To p c g (hw lp (then_caught ws k)) (exc lp (then_caught ws k))
      → ((x : List ℕ) (v : Option Value) → To p (λ st. At (now_handle ws x v) lp k st) (f x v) (hw lp k) (exc lp k)) → To p c (λ st. catch (g st) f) (hw lp k) (exc lp k)
  to_catch {lp = lp} {k = k} {ws = ws} {c = c} {g = g} {f = f} h i = record { goes = λ st. catch_goes p lp k ws (c st) (g st) f (h.goes st) i }

  -- an evaluation after a change of the state
  pub to_map : {A : Type 0} {c : State → Machine} {f : State → Outcome A} {good : A → State → Machine} {bad : List ℕ → Option Value → State → Machine} (g : State → State) → To p c f good bad → To p (λ st. c (g st)) (λ st. f (g st)) good bad
  to_map g h = record { goes = λ st. h.goes (g st) }
