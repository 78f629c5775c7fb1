-- The premises of a simulation can be met: a program of one operation, which puts a byte, and a machine that does it
-- by two instructions.
use Rattle.std.proofs.Common.{◌≡◌, ◌≢◌, ℕ, ◌+◌, ◌-◌, ◌≤◌, List, [], ◌∷◌, Option, Some, None, nat_lt, false, refl, ◌⊎◌, inl, arith}
use Rattle.std.proofs.lemmas.Bool.{le-ltb}
use Rattle.th_world.specs.Event.{Event, Put, Prefix}
use Rattle.th_runs.specs.Stand.{End, GoesOn, Ended, Stand}
use Rattle.th_runs.specs.Runs.{Program, Machine, IsOwn, bounded_run, machine_run}
use Rattle.th_runs.specs.Simulation.{Moves, Stops, Simulation}
use Rattle.th_runs.specs.Agreement.{Agreement}
use Rattle.th_runs.proofs.Prefixes.{prefix_refl}
use Rattle.th_runs.proofs.Agrees.{agrees}

pub data Place : Type 0 where
  Before : Place
  Within : Place
  After : Place

abbrev pub end_at : Place → End
end_at Before = GoesOn
end_at Within = GoesOn
end_at After = Ended

abbrev pub trace_at : Place → List Event
trace_at Before = []
trace_at Within = Put 72 ∷ []
trace_at After = Put 72 ∷ []

abbrev pub step : Place → Place
step Before = Within
step Within = After
step After = After

abbrev program : Program Place
program = record { next = λ g. After; end = end_at; trace = trace_at; cost = λ g. 0; need = λ g. 0; used = λ g. 0 }

abbrev pub machine : Machine Place
machine = record { step = step; end = end_at; trace = trace_at }

abbrev Meets : Place → Place → Type 0
Meets Before Before = Unit {0}
Meets After After = Unit {0}
Meets g s = ⊥

abbrev size : Place → ℕ
size g = 2

abbrev potential : ℕ → Place → ℕ
potential n Before = 2
potential n Within = 2
potential n After = 0

abbrev pub source : Option ℕ → ℕ → Stand
source room turns = record { end = Ended; trace = Put 72 ∷ [] }

stays : (s : Place) → end_at s ≢ GoesOn → step s ≡ s
stays Before h = absurd (h refl)
stays Within h = absurd (h refl)
stays After h = refl

grows : (s : Place) → Prefix (trace_at s) (trace_at (step s))
grows Before = record { more = Put 72 ∷ []; is = refl }
grows Within = prefix_refl _
grows After = prefix_refl _

longer : (g : Place) → end_at g ≡ GoesOn → Prefix (trace_at g) (Put 72 ∷ [])
longer Before e = record { more = Put 72 ∷ []; is = refl }
longer Within e = prefix_refl _
longer After e = prefix_refl _

own : (g s : Place) → Meets g s → IsOwn (end_at g)
own Before s me = tt
own Within s me = tt
own After s me = tt

same_end : (g s : Place) → Meets g s → end_at s ≡ end_at g
same_end Before Before me = refl
same_end After After me = refl
same_end g s me = absurd me

same_trace : (g s : Place) → Meets g s → trace_at s ≡ trace_at g
same_trace Before Before me = refl
same_trace After After me = refl
same_trace g s me = absurd me

law : (g s : Place) → Meets g s → end_at g ≡ GoesOn → Moves program machine Meets size g s ⊎ Stops program machine size 0 g s
law Before Before me e = inl (record { last = 1; paid = omega arith; within = omega arith; goes = λ h. refl; quiet = refl; lands = tt })
law After After me e = absurd (ended_goes e)
  where
    ended_goes : Ended ≢ GoesOn
    ended_goes h = cc
law g s me e = absurd me

falls : (n : ℕ) (g s : Place) → Meets g s → end_at g ≡ GoesOn → 0 ≤ n → 2 + potential (n - 0) After ≤ potential n g
falls n Before s me e le = omega arith
falls n Within s me e le = omega arith
falls n After s me e le = absurd (ended_goes e)
  where
    ended_goes : Ended ≢ GoesOn
    ended_goes h = cc

simulation : Simulation program machine Meets size potential Before Before source (λ k. machine_run machine k Before) 0 1
simulation =
    record {
      stays = stays;
      grows = grows;
      longer = longer;
      own = own;
      same_end = same_end;
      same_trace = same_trace;
      law = law;
      falls = falls;
      starts = tt;
      bounded = λ n. omega arith;
      machine_is = λ k. refl;
      source_is = λ room turns. (1, source_run room turns);
      source_over = λ room turns e. ended_goes e;
    }
  where
    fits : (room turns : ℕ) → source (Some room) turns ≡ bounded_run program (Some room) 1 turns Before
    fits room turns =
        let enough : nat_lt room 0 ≡ false = le-ltb room 0 (omega arith) in
        let paid : nat_lt turns 0 ≡ false = le-ltb turns 0 (omega arith) in rw (enough, paid)

    source_run : (room : Option ℕ) (turns : ℕ) → source room turns ≡ bounded_run program room 1 turns Before
    source_run None turns = let paid : nat_lt turns 0 ≡ false = le-ltb turns 0 (omega arith) in rw paid
    source_run (Some room) turns = fits room turns

    ended_goes : Ended ≢ GoesOn
    ended_goes h = cc

pub example_agrees : Agreement source (λ k. machine_run machine k Before) 0 1
example_agrees = agrees simulation
