-- Evaluations with more turns: they do the same, or they stopped for want of turns; an evaluation only adds to the trace and
-- takes turns, and its bounds don't run out before the turns do. One relation has all three, and each form keeps it.
use Rattle.std.proofs.Common.{◌≡◌, ℕ, zero, suc, ◌+◌, ◌-◌, ◌<◌, ◌≤◌, Bool, true, false, List, [], ◌∷◌, Option, Some, None, refl, sym, ap, subst, arith}
use Rattle.std.specs.Prelude.{ℤ, nat_lt, if◌then◌else◌}
use Rattle.std.proofs.lemmas.Bool.{ltb-false}
use Rattle.th_world.specs.Event.{Event, Prefix}
use Rattle.th_meaning.specs.World.{World, Halt, OutOfTurns, OutOfRoom, Unset, Stuck, Deep, Effect, Did, Fails, Stops, and_then, spend}
use Rattle.th_meaning.specs.Meaning.{Value, Int, Truth, Ref, Text, State, Outcome, Gives, Raises, Halts, then_do, with_world, act, act_as, with_int, with_truth, with_ref, with_text, with_some, with_self, both}
use Rattle.th_meaning.proofs.Effects.{plus, effect_world, Later, NotDeep, later_refl, later_trans, prefix_refl, prefix_trans, EffectLater, StopsMore, EffectMore, FineEffect, fine_spend, spent}

-- the world that an outcome left
abbrev pub outcome_world : {A : Type 0} → Outcome A → World Value
outcome_world (Gives a st) = st.world
outcome_world (Raises x v st) = st.world
outcome_world (Halts h w) = w

abbrev pub trace_of : {A : Type 0} → Outcome A → List Event
trace_of o = (outcome_world o).trace

-- the state with d more turns
abbrev pub plus_state : ℕ → State → State
plus_state d st = record st { world = plus d st.world }

-- an evaluation came to a later world, and where fewer than k turns were left no bound ran out
abbrev pub Sane : {A : Type 0} → ℕ → World Value → Outcome A → Type 0
Sane k w (Gives a st) = Later w st.world
Sane k w (Raises x v st) = Later w st.world
Sane k w (Halts h w1) = Later w w1 × (w.turns < k → NotDeep h)

abbrev pub HaltMore : {A : Type 0} → ℕ → Halt → World Value → Outcome A → Type 0
HaltMore d OutOfTurns w o = Prefix w.trace (trace_of o)
HaltMore d OutOfRoom w o = o ≡ Halts OutOfRoom (plus d w)
HaltMore d Unset w o = o ≡ Halts Unset (plus d w)
HaltMore d Stuck w o = o ≡ Halts Stuck (plus d w)
HaltMore d Deep w o = Unit {0}

-- the second outcome is what the evaluation of the first comes to with d more turns
abbrev pub More : {A : Type 0} → ℕ → Outcome A → Outcome A → Type 0
More d (Gives a st) o = o ≡ Gives a (plus_state d st)
More d (Raises x v st) o = o ≡ Raises x v (plus_state d st)
More d (Halts h w) o = HaltMore d h w o

-- c1 is the evaluation c with perhaps greater bounds
pub record Fine {A : Type 0} (k d : ℕ) (c c1 : State → Outcome A) : Type 0 where
  pub sane : (st : State) → Sane k st.world (c st)
  pub more : (st : State) → More d (c st) (c1 (plus_state d st))
  pub grows : (st : State) → Prefix st.world.trace (trace_of (c1 st))

-- the same, and a result has taken a turn
abbrev pub Spends : {A : Type 0} → ℕ → World Value → Outcome A → Type 0
Spends k w (Gives a st) = Later w st.world × (st.world.turns < w.turns)
Spends k w (Raises x v st) = Later w st.world
Spends k w (Halts h w1) = Later w w1 × (w.turns < suc k → NotDeep h)

pub record Spent {A : Type 0} (k d : ℕ) (c c1 : State → Outcome A) : Type 0 where
  pub spends : (st : State) → Spends k st.world (c st)
  pub more : (st : State) → More d (c st) (c1 (plus_state d st))
  pub grows : (st : State) → Prefix st.world.trace (trace_of (c1 st))

pub sane_from : {A : Type 0} (k : ℕ) (w w1 : World Value) (o : Outcome A) → Later w w1 → Sane k w1 o → Sane k w o
sane_from k w w1 (Gives a st) l h = later_trans w w1 st.world l h
sane_from k w w1 (Raises x v st) l h = later_trans w w1 st.world l h
sane_from k w w1 (Halts x w2) l h = (later_trans w w1 w2 l h.0, λ lt. h.1 (omega (arith, l.turns, lt)))

sane_then : {A B : Type 0} (k : ℕ) (w : World Value) (o : Outcome A) (f : A → State → Outcome B) → Sane k w o → ((a : A) (st : State) → Sane k st.world (f a st)) → Sane k w (then_do o f)
sane_then k w (Gives a st) f h g = sane_from k w st.world (f a st) h (g a st)
sane_then k w (Raises x v st) f h g = h
sane_then k w (Halts x w1) f h g = h

grows_then : {A B : Type 0} (t : List Event) (o : Outcome A) (f : A → State → Outcome B) → Prefix t (trace_of o) → ((a : A) (st : State) → Prefix st.world.trace (trace_of (f a st))) → Prefix t (trace_of (then_do o f))
grows_then t (Gives a st) f h g = prefix_trans t st.world.trace (trace_of (f a st)) h (g a st)
grows_then t (Raises x v st) f h g = h
grows_then t (Halts x w) f h g = h

halt_then : {A B : Type 0} (d : ℕ) (h : Halt) (w : World Value) (o : Outcome A) (f : A → State → Outcome B) → HaltMore d h w o → ((a : A) (st : State) → Prefix st.world.trace (trace_of (f a st))) → HaltMore d h w (then_do o f)
halt_then d OutOfTurns w o f m g = grows_then w.trace o f m g
halt_then d OutOfRoom w o f m g = ap (λ x. then_do x f) m
halt_then d Unset w o f m g = ap (λ x. then_do x f) m
halt_then d Stuck w o f m g = ap (λ x. then_do x f) m
halt_then d Deep w o f m g = tt

more_then : {A B : Type 0} (d : ℕ) (o o1 : Outcome A) (f f1 : A → State → Outcome B) → More d o o1 → ((a : A) (st : State) → More d (f a st) (f1 a (plus_state d st))) → ((a : A) (st : State) → Prefix st.world.trace (trace_of (f1 a st)))
    → More d (then_do o f) (then_do o1 f1)
more_then d (Gives a st) o1 f f1 m h g = subst (λ x. More d (f a st) (then_do x f1)) (sym m) (h a st)
more_then d (Raises x v st) o1 f f1 m h g = ap (λ y. then_do y f1) m
more_then d (Halts x w) o1 f f1 m h g = halt_then d x w o1 f1 m g

-- one evaluation after another
pub fine_then : {A B : Type 0} {k d : ℕ} {c c1 : State → Outcome A} {f f1 : A → State → Outcome B} → Fine k d c c1 → ((a : A) → Fine k d (f a) (f1 a)) → Fine k d (λ st. then_do (c st) f) (λ st. then_do (c1 st) f1)
fine_then {k = k} {d = d} {c = c} {c1 = c1} {f = f} {f1 = f1} h g = record {
  sane = λ st. sane_then k st.world (c st) f (h.sane st) (λ a st1. (g a).sane st1);
  more = λ st. more_then d (c st) (c1 (plus_state d st)) f f1 (h.more st) (λ a st1. (g a).more st1) (λ a st1. (g a).grows st1);
  grows = λ st. grows_then st.world.trace (c1 st) f1 (h.grows st) (λ a st1. (g a).grows st1);
}

sane_spent : {A : Type 0} (k : ℕ) (w w1 : World Value) (o : Outcome A) → Later w w1 → w1.turns < w.turns → Sane k w1 o → Sane (suc k) w o
sane_spent k w w1 (Gives a st) l less h = later_trans w w1 st.world l h
sane_spent k w w1 (Raises x v st) l less h = later_trans w w1 st.world l h
sane_spent k w w1 (Halts x w2) l less h = (later_trans w w1 w2 l h.0, λ lt. h.1 (omega (arith, less, lt)))

spends_then : {A B : Type 0} (k : ℕ) (w : World Value) (o : Outcome A) (f : A → State → Outcome B) → Spends k w o → ((a : A) (st : State) → Sane k st.world (f a st)) → Sane (suc k) w (then_do o f)
spends_then k w (Gives a st) f h g = sane_spent k w st.world (f a st) h.0 h.1 (g a st)
spends_then k w (Raises x v st) f h g = h
spends_then k w (Halts x w1) f h g = h

-- an evaluation that takes a turn, and another one after it
pub spent_then : {A B : Type 0} {k d : ℕ} {c c1 : State → Outcome A} {f f1 : A → State → Outcome B} → Spent k d c c1 → ((a : A) → Fine k d (f a) (f1 a)) → Fine (suc k) d (λ st. then_do (c st) f) (λ st. then_do (c1 st) f1)
spent_then {k = k} {d = d} {c = c} {c1 = c1} {f = f} {f1 = f1} h g = record {
  sane = λ st. spends_then k st.world (c st) f (h.spends st) (λ a st1. (g a).sane st1);
  more = λ st. more_then d (c st) (c1 (plus_state d st)) f f1 (h.more st) (λ a st1. (g a).more st1) (λ a st1. (g a).grows st1);
  grows = λ st. grows_then st.world.trace (c1 st) f1 (h.grows st) (λ a st1. (g a).grows st1);
}

spends_from : {A : Type 0} (k : ℕ) (w w1 : World Value) (o : Outcome A) → Later w w1 → Spends k w1 o → Spends k w o
spends_from k w w1 (Gives a st) l h = (later_trans w w1 st.world l h.0, omega (arith, l.turns, h.1))
spends_from k w w1 (Raises x v st) l h = later_trans w w1 st.world l h
spends_from k w w1 (Halts x w2) l h = (later_trans w w1 w2 l h.0, λ lt. h.1 (omega (arith, l.turns, lt)))

then_spends : {A B : Type 0} (k : ℕ) (w : World Value) (o : Outcome A) (f : A → State → Outcome B) → Sane (suc k) w o → ((a : A) (st : State) → Spends k st.world (f a st)) → Spends k w (then_do o f)
then_spends k w (Gives a st) f h g = spends_from k w st.world (f a st) h (g a st)
then_spends k w (Raises x v st) f h g = h
then_spends k w (Halts x w1) f h g = h

-- an evaluation, and another one after it that takes a turn
pub then_spent : {A B : Type 0} {k d : ℕ} {c c1 : State → Outcome A} {f f1 : A → State → Outcome B} → Fine (suc k) d c c1 → ((a : A) → Spent k d (f a) (f1 a)) → Spent k d (λ st. then_do (c st) f) (λ st. then_do (c1 st) f1)
then_spent {k = k} {d = d} {c = c} {c1 = c1} {f = f} {f1 = f1} h g = record {
  spends = λ st. then_spends k st.world (c st) f (h.sane st) (λ a st1. (g a).spends st1);
  more = λ st. more_then d (c st) (c1 (plus_state d st)) f f1 (h.more st) (λ a st1. (g a).more st1) (λ a st1. (g a).grows st1);
  grows = λ st. grows_then st.world.trace (c1 st) f1 (h.grows st) (λ a st1. (g a).grows st1);
}

-- an evaluation that takes a turn is followed by one of the state it left
spent_sane : {A : Type 0} (k : ℕ) (w : World Value) (o : Outcome A) → Spends k w o → Sane (suc k) w o
spent_sane k w (Gives a st) h = h.0
spent_sane k w (Raises x v st) h = h
spent_sane k w (Halts x w1) h = h

sane_less : {A : Type 0} (j k : ℕ) (w : World Value) (o : Outcome A) → k ≤ j → Sane j w o → Sane k w o
sane_less j k w (Gives a st) le h = h
sane_less j k w (Raises x v st) le h = h
sane_less j k w (Halts x w1) le h = (h.0, λ lt. h.1 (omega (arith, le, lt)))

pub fine_less : {A : Type 0} {j k d : ℕ} {c c1 : State → Outcome A} → k ≤ j → Fine j d c c1 → Fine k d c c1
fine_less {j = j} {k = k} {c = c} le h = record { sane = λ st. sane_less j k st.world (c st) le (h.sane st); more = h.more; grows = h.grows }

act_sane : {A : Type 0} (k : ℕ) (w : World Value) (e : Effect Value A) (st : State) → EffectLater w e → Sane k w (act e st)
act_sane k w (Did a w1) st h = h
act_sane k w (Fails x w1) st h = h
act_sane k w (Stops x w1) st h = (h.0, λ lt. h.1)

act_grows : {A : Type 0} (w : World Value) (e : Effect Value A) (st : State) → EffectLater w e → Prefix w.trace (trace_of (act e st))
act_grows w (Did a w1) st h = h.trace
act_grows w (Fails x w1) st h = h.trace
act_grows w (Stops x w1) st h = h.0.trace

act_trace : {A : Type 0} (e : Effect Value A) (st : State) → (effect_world e).trace ≡ trace_of (act e st)
act_trace (Did a w) st = refl
act_trace (Fails x w) st = refl
act_trace (Stops x w) st = refl

stops_more : {A : Type 0} (d : ℕ) (h : Halt) (w : World Value) (e : Effect Value A) (st : State) → StopsMore d h w e → HaltMore d h w (act e st)
stops_more d OutOfTurns w e st m = subst (λ t. Prefix w.trace t) (act_trace e st) m
stops_more d OutOfRoom w e st m = ap (λ x. act x st) m
stops_more d Unset w e st m = ap (λ x. act x st) m
stops_more d Stuck w e st m = ap (λ x. act x st) m
stops_more d Deep w e st m = tt

act_more : {A : Type 0} (d : ℕ) (e e1 : Effect Value A) (st : State) → EffectMore d e e1 → More d (act e st) (act e1 (plus_state d st))
act_more d (Did a w) e1 st m = ap (λ x. act x (plus_state d st)) m
act_more d (Fails x w) e1 st m = ap (λ y. act y (plus_state d st)) m
act_more d (Stops x w) e1 st m = stops_more d x w e1 (plus_state d st) m

-- an effect on the state's world
pub fine_act : {A : Type 0} {k d : ℕ} {e : World Value → Effect Value A} → FineEffect d e → Fine k d (λ st. act (e st.world) st) (λ st. act (e st.world) st)
fine_act {k = k} {d = d} {e = e} h = record {
  sane = λ st. act_sane k st.world (e st.world) st (h.later st.world);
  more = λ st. act_more d (e st.world) (e (plus d st.world)) st (h.more st.world);
  grows = λ st. act_grows st.world (e st.world) st (h.later st.world);
}

-- a result in a state whose world is as it was
pub fine_gives : {A : Type 0} {k d : ℕ} (a : A) (g : State → State) → ((st : State) → Later st.world (g st).world) → ((st : State) → g (plus_state d st) ≡ plus_state d (g st)) → Fine k d (λ st. Gives a (g st)) (λ st. Gives a (g st))
fine_gives a g l m = record { sane = l; more = λ st. ap (λ s. Gives a s) (m st); grows = λ st. (l st).trace }

pub fine_result : {A : Type 0} {k d : ℕ} (a : A) → Fine k d (λ st. Gives a st) (λ st. Gives a st)
fine_result a = fine_gives a (λ st. st) (λ st. later_refl st.world) (λ st. refl)

pub fine_raise : {A : Type 0} {k d : ℕ} (x : List ℕ) (v : Option Value) → Fine {A = A} k d (λ st. Raises x v st) (λ st. Raises x v st)
fine_raise x v = record { sane = λ st. later_refl st.world; more = λ st. refl; grows = λ st. prefix_refl st.world.trace }

pub fine_stuck : {A : Type 0} {k d : ℕ} → Fine {A = A} k d (λ st. Halts Stuck st.world) (λ st. Halts Stuck st.world)
fine_stuck = record { sane = λ st. (later_refl st.world, λ lt. tt); more = λ st. refl; grows = λ st. prefix_refl st.world.trace }

pub fine_unset : {A : Type 0} {k d : ℕ} → Fine {A = A} k d (λ st. Halts Unset st.world) (λ st. Halts Unset st.world)
fine_unset = record { sane = λ st. (later_refl st.world, λ lt. tt); more = λ st. refl; grows = λ st. prefix_refl st.world.trace }

pub fine_int : {A : Type 0} {k d : ℕ} (v : Value) {g g1 : ℤ → State → Outcome A} → ((n : ℤ) → Fine k d (g n) (g1 n)) → Fine k d (λ st. with_int v st (λ n. g n st)) (λ st. with_int v st (λ n. g1 n st))
fine_int (Int n) h = h n
fine_int (Truth b) h = fine_stuck
fine_int (Ref k) h = fine_stuck
fine_int (Text bytes) h = fine_stuck

pub fine_truth : {A : Type 0} {k d : ℕ} (v : Value) {g g1 : Bool → State → Outcome A} → ((b : Bool) → Fine k d (g b) (g1 b)) → Fine k d (λ st. with_truth v st (λ b. g b st)) (λ st. with_truth v st (λ b. g1 b st))
fine_truth (Int n) h = fine_stuck
fine_truth (Truth b) h = h b
fine_truth (Ref k) h = fine_stuck
fine_truth (Text bytes) h = fine_stuck

pub fine_ref : {A : Type 0} {k d : ℕ} (v : Value) {g g1 : ℕ → State → Outcome A} → ((n : ℕ) → Fine k d (g n) (g1 n)) → Fine k d (λ st. with_ref v st (λ n. g n st)) (λ st. with_ref v st (λ n. g1 n st))
fine_ref (Int n) h = fine_stuck
fine_ref (Truth b) h = fine_stuck
fine_ref (Ref k) h = h k
fine_ref (Text bytes) h = fine_stuck

pub fine_text : {A : Type 0} {k d : ℕ} (v : Value) {g g1 : List ℕ → State → Outcome A} → ((bytes : List ℕ) → Fine k d (g bytes) (g1 bytes)) → Fine k d (λ st. with_text v st (λ n. g n st)) (λ st. with_text v st (λ n. g1 n st))
fine_text (Int n) h = fine_stuck
fine_text (Truth b) h = fine_stuck
fine_text (Ref k) h = fine_stuck
fine_text (Text bytes) h = h bytes

-- an evaluation that depends on a part of the state which isn't the turns
pub fine_by : {A B : Type 0} {k d : ℕ} (part : State → B) {c c1 : B → State → Outcome A} → ((st : State) → part (plus_state d st) ≡ part st) → ((b : B) → Fine k d (c b) (c1 b)) → Fine k d (λ st. c (part st) st) (λ st. c1 (part st) st)
fine_by {d = d} part {c = c} {c1 = c1} same h = record {
  sane = λ st. (h (part st)).sane st;
  more = λ st. subst (λ b. More d (c (part st) st) (c1 b (plus_state d st))) (sym (same st)) ((h (part st)).more st);
  grows = λ st. (h (part st)).grows st;
}

pub spent_by : {A B : Type 0} {k d : ℕ} (part : State → B) {c c1 : B → State → Outcome A} → ((st : State) → part (plus_state d st) ≡ part st) → ((b : B) → Spent k d (c b) (c1 b)) → Spent k d (λ st. c (part st) st) (λ st. c1 (part st) st)
spent_by {d = d} part {c = c} {c1 = c1} same h = record {
  spends = λ st. (h (part st)).spends st;
  more = λ st. subst (λ b. More d (c (part st) st) (c1 b (plus_state d st))) (sym (same st)) ((h (part st)).more st);
  grows = λ st. (h (part st)).grows st;
}

fine_option : {A B : Type 0} {k d : ℕ} (o : Option A) {g g1 : A → State → Outcome B} → ((a : A) → Fine k d (g a) (g1 a)) → Fine k d (λ st. with_some o Stuck st (λ a. g a st)) (λ st. with_some o Stuck st (λ a. g1 a st))
fine_option None h = fine_stuck
fine_option (Some a) h = h a

pub fine_some : {A B : Type 0} {k d : ℕ} (o : Option A) {g g1 : A → State → Outcome B} → ((a : A) → Fine k d (g a) (g1 a)) → Fine k d (λ st. with_some o Stuck st (λ a. g a st)) (λ st. with_some o Stuck st (λ a. g1 a st))
fine_some o h = fine_option o h

-- what is done with the object whose method or initializer runs
pub fine_self : {A : Type 0} {k d : ℕ} {g g1 : ℕ → State → Outcome A} → ((n : ℕ) → Fine k d (g n) (g1 n)) → Fine k d (λ st. with_self st (λ n. g n st)) (λ st. with_self st (λ n. g1 n st))
fine_self {g = g} {g1 = g1} h = fine_by (λ st. st.frame.receiver) {c = λ o st. with_some o Stuck st (λ n. g n st)} {c1 = λ o st. with_some o Stuck st (λ n. g1 n st)} (λ st. refl) (λ o. fine_option o h)

spent_option : {A : Type 0} {k d : ℕ} (o : Option ℕ) {g g1 : ℕ → State → Outcome A} → ((n : ℕ) → Spent k d (g n) (g1 n)) → Spent k d (λ st. with_some o Stuck st (λ n. g n st)) (λ st. with_some o Stuck st (λ n. g1 n st))
spent_option None h = record { spends = λ st. (later_refl st.world, λ lt. tt); more = λ st. refl; grows = λ st. prefix_refl st.world.trace }
spent_option (Some n) h = h n

pub spent_self : {A : Type 0} {k d : ℕ} {g g1 : ℕ → State → Outcome A} → ((n : ℕ) → Spent k d (g n) (g1 n)) → Spent k d (λ st. with_self st (λ n. g n st)) (λ st. with_self st (λ n. g1 n st))
spent_self {g = g} {g1 = g1} h = spent_by (λ st. st.frame.receiver) {c = λ o st. with_some o Stuck st (λ n. g n st)} {c1 = λ o st. with_some o Stuck st (λ n. g1 n st)} (λ st. refl) (λ o. spent_option o h)

-- two evaluations, and what is done with their values
pub fine_both : {A : Type 0} {k d : ℕ} {c c1 g g1 : State → Outcome Value} {f f1 : Value → Value → State → Outcome A} → Fine k d c c1 → Fine k d g g1 → ((x y : Value) → Fine k d (f x y) (f1 x y))
    → Fine k d (λ st. both (c st) g f) (λ st. both (c1 st) g1 f1)
fine_both h i j = fine_then h (λ x. fine_then i (λ y. j x y))

-- an effect that gives a value by its kind
pub fine_act_as : {A : Type 0} {k d : ℕ} (kind : A → Value) {e : World Value → Effect Value A} → FineEffect d e → Fine k d (λ st. act_as kind (e st.world) st) (λ st. act_as kind (e st.world) st)
fine_act_as kind h = fine_then (fine_act h) (λ a. fine_result (kind a))

pub fine_choice : {A : Type 0} {k d : ℕ} (b : Bool) {c c1 g g1 : State → Outcome A} → Fine k d c c1 → Fine k d g g1 → Fine k d (λ st. if b then c st else g st) (λ st. if b then c1 st else g1 st)
fine_choice true h i = h
fine_choice false h i = i

-- a charge of one turn, by whether there is none
charge_spends : (k : ℕ) (st : State) (b : Bool) → nat_lt st.world.turns 1 ≡ b → Spends k st.world (act (spent b 1 st.world) st)
charge_spends k st true e = (later_refl st.world, λ lt. tt)
charge_spends k st false e =
    let some : 1 ≤ st.world.turns = ltb-false st.world.turns 1 e in
    (record { turns = omega arith; trace = prefix_refl st.world.trace }, omega (arith, some))

-- one turn is taken
pub spent_charge : {k d : ℕ} → Spent k d (λ st. act (spend 1 st.world) st) (λ st. act (spend 1 st.world) st)
spent_charge {k = k} {d = d} =
    let f : Fine k d (λ st. act (spend 1 st.world) st) (λ st. act (spend 1 st.world) st) = fine_act (fine_spend d 1) in
    record { spends = λ st. charge_spends k st (nat_lt st.world.turns 1) refl; more = f.more; grows = f.grows }

act_spends : {A : Type 0} (k : ℕ) (w w1 : World Value) (e : Effect Value A) (st : State) → Later w w1 → w1.turns < w.turns → EffectLater w1 e → Spends k w (act e st)
act_spends k w w1 (Did a w2) st l less h = (later_trans w w1 w2 l h, omega (arith, less, h.turns))
act_spends k w w1 (Fails x w2) st l less h = later_trans w w1 w2 l h
act_spends k w w1 (Stops x w2) st l less h = (later_trans w w1 w2 l h.0, λ lt. h.1)

first_spends : {A : Type 0} (k d : ℕ) (f : Unit {0} → World Value → Effect Value A) → FineEffect d (f tt) → (st : State) (b : Bool) → nat_lt st.world.turns 1 ≡ b → Spends k st.world (act (and_then (spent b 1 st.world) f) st)
first_spends k d f h st true e = (later_refl st.world, λ lt. tt)
first_spends k d f h st false e =
    let some : 1 ≤ st.world.turns = ltb-false st.world.turns 1 e in
    let w1 : World Value = record st.world { turns = st.world.turns - 1 } in
    act_spends k st.world w1 (f tt w1) st (record { turns = omega arith; trace = prefix_refl st.world.trace }) (omega (arith, some)) (h.later w1)

-- one turn is taken, and then a further effect comes
pub spent_first : {A : Type 0} {k d : ℕ} (f : Unit {0} → World Value → Effect Value A) → FineEffect d (f tt) → FineEffect d (λ w. and_then (spend 1 w) f) → Spent k d (λ st. act (and_then (spend 1 st.world) f) st) (λ st. act (and_then (spend 1 st.world) f) st)
spent_first {k = k} {d = d} f h all =
    let g : Fine k d (λ st. act (and_then (spend 1 st.world) f) st) (λ st. act (and_then (spend 1 st.world) f) st) = fine_act all in
    record { spends = λ st. first_spends k d f h st (nat_lt st.world.turns 1) refl; more = g.more; grows = g.grows }
