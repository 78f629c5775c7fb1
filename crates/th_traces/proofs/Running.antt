-- Many steps of the machine.
use Rattle.std.proofs.Common.{◌≡◌, refl, sym, ap, ◌∙◌, subst, ℕ, zero, suc, ◌+◌, ◌⊎◌, inl, inr, List, [], ◌++◌, Option, arith, append_assoc}
use Rattle.th_world.specs.Event.{Event, Prefix}
use Rattle.th_meaning.specs.Program.{Program, main_of}
use Rattle.th_meaning.specs.Meaning.{Outcome, How}
use Rattle.th_meaning.specs.Run.{start, outcome_of, source_run}
use Rattle.th_steps.specs.Machine.{Machine, Stopped, step, steps, first_at}
use Rattle.th_steps.specs.Laws.{MachineStops}
use Rattle.th_steps.proofs.Stops.{machine_stops}
use Rattle.th_traces.specs.Laws.{IsBeginning, StopsWithOutcome}
use Rattle.th_traces.specs.Traces.{trace_at}
use Rattle.th_traces.proofs.Grows.{step_grows}

-- a machine that stopped stays so
pub steps_stopped : (p : Program) (n : ℕ) (o : Outcome How) → steps p n (Stopped o) ≡ Stopped o
steps_stopped p zero o = refl
steps_stopped p (suc n) o = steps_stopped p n o

-- some steps and then others
pub steps_more : (p : Program) (n m : ℕ) (x : Machine) → steps p (n + m) x ≡ steps p m (steps p n x)
steps_more p zero m x = let e : 0 + m ≡ m = omega arith in ap (λ k. steps p k x) e
steps_more p (suc n) m x = let e : suc n + m ≡ suc (n + m) = omega arith in ap (λ k. steps p k x) e ∙ steps_more p n m (step p x)

-- one step more
pub steps_next : (p : Program) (n : ℕ) (x : Machine) → steps p (suc n) x ≡ step p (steps p n x)
steps_next p n x = let e : suc n ≡ n + 1 = omega arith in ap (λ k. steps p k x) e ∙ steps_more p n 1 x

pub prefix_same : (t : List Event) → Prefix t t
prefix_same t = record { more = []; is = refl }

pub prefix_then : {s t u : List Event} → Prefix s t → Prefix t u → Prefix s u
prefix_then {s} {t} {u} a b = record { more = b.more ++ a.more; is = b.is ∙ ap (λ x. b.more ++ x) a.is ∙ sym (append_assoc b.more a.more s) }

-- the trace only grows
pub steps_grow : (p : Program) (n : ℕ) (x : Machine) → Prefix (trace_at x) (trace_at (steps p n x))
steps_grow p zero x = prefix_same (trace_at x)
steps_grow p (suc n) x = prefix_then (step_grows p x) (steps_grow p n (step p x))

two_orders : (a b : ℕ) → ((d : ℕ) × (a + d ≡ b)) ⊎ ((d : ℕ) × (b + d ≡ a))
two_orders zero b = inl (b, omega arith)
two_orders (suc a) zero = inr (suc a, omega arith)
two_orders (suc a) (suc b) = elim (two_orders a b) [ inl h ↦ inl (h.0, omega (arith, h.1)) | inr h ↦ inr (h.0, omega (arith, h.1)) ]

-- where it stops, it stops with the outcome of the run
stops_by : (laws : MachineStops) (p : Program) (input : List ℕ) (room : Option ℕ) (turns n : ℕ) (o : Outcome How)
    → steps p n (first_at p (main_of p) (start input room turns)) ≡ Stopped o → o ≡ outcome_of p (main_of p) (start input room turns)
stops_by laws p input room turns n o h =
    let x : Machine = first_at p (main_of p) (start input room turns) in
    let law : (count : ℕ) × (steps p count x ≡ Stopped (outcome_of p (main_of p) (start input room turns))) = laws p input room turns in
    elim (two_orders n law.0) [
      | inl d ↦
          let a : steps p law.0 x ≡ steps p d.0 (steps p n x) = ap (λ k. steps p k x) (sym d.1) ∙ steps_more p n d.0 x in
          let b : steps p d.0 (steps p n x) ≡ Stopped o = ap (steps p d.0) h ∙ steps_stopped p d.0 o in
          let e : Stopped o ≡ Stopped (outcome_of p (main_of p) (start input room turns)) = sym b ∙ sym a ∙ law.1 in
          cc
      | inr d ↦
          let a : steps p n x ≡ steps p d.0 (steps p law.0 x) = ap (λ k. steps p k x) (sym d.1) ∙ steps_more p law.0 d.0 x in
          let b : steps p d.0 (steps p law.0 x) ≡ Stopped (outcome_of p (main_of p) (start input room turns)) = ap (steps p d.0) law.1 ∙ steps_stopped p d.0 _ in
          let e : Stopped o ≡ Stopped (outcome_of p (main_of p) (start input room turns)) = sym h ∙ a ∙ b in
          cc
    ]

-- what it did so far is a beginning of the run
part_by : (laws : MachineStops) (p : Program) (input : List ℕ) (room : Option ℕ) (turns n : ℕ)
    → Prefix (trace_at (steps p n (first_at p (main_of p) (start input room turns)))) (source_run p input room turns).trace
part_by laws p input room turns n =
    let x : Machine = first_at p (main_of p) (start input room turns) in
    let law : (count : ℕ) × (steps p count x ≡ Stopped (outcome_of p (main_of p) (start input room turns))) = laws p input room turns in
    elim (two_orders n law.0) [
      | inl d ↦
          let a : steps p d.0 (steps p n x) ≡ Stopped (outcome_of p (main_of p) (start input room turns)) = sym (steps_more p n d.0 x) ∙ ap (λ k. steps p k x) d.1 ∙ law.1 in
          subst (λ m. Prefix (trace_at (steps p n x)) (trace_at m)) a (steps_grow p d.0 (steps p n x))
      | inr d ↦
          let a : steps p n x ≡ Stopped (outcome_of p (main_of p) (start input room turns)) = ap (λ k. steps p k x) (sym d.1) ∙ steps_more p law.0 d.0 x ∙ ap (steps p d.0) law.1 ∙ steps_stopped p d.0 _ in
          subst (λ m. Prefix (trace_at m) (source_run p input room turns).trace) (sym a) (prefix_same _)
    ]

pub stops_with : StopsWithOutcome
stops_with p input room turns n o h = stops_by machine_stops p input room turns n o h

pub part_of_run : IsBeginning
part_of_run p input room turns n = part_by machine_stops p input room turns n
