-- A simulation gives the agreement.
use Rattle.std.proofs.Common.{◌≡◌, ◌≢◌, ℕ, suc, ◌+◌, ◌*◌, ◌≤◌, List, Option, Some, None, sym, ap, ◌∙◌, subst, ◌⊎◌, inl, inr, ⊎_elim, arith}
use Rattle.th_world.specs.Event.{Event, Prefix}
use Rattle.th_runs.specs.Stand.{End, GoesOn, Ended, Raised, NoTurns, NoRoom, Trapped, Stand}
use Rattle.th_runs.specs.Runs.{Program, Machine, bounded_run, steps}
use Rattle.th_runs.specs.Agreement.{Agreement, HasDone}
use Rattle.th_runs.specs.Simulation.{Simulation}
use Rattle.th_runs.proofs.Prefixes.{prefix_refl, prefix_trans}
use Rattle.th_runs.proofs.Bounded.{stand, bounded_once, bounded_within}
use Rattle.th_runs.proofs.Whole.{Tells, Did, follow, no_room, reach}

-- what the machine's stand says of the source's, clause by clause
told_trap : (e : End) (t : List Event) (st : Stand) → e ≡ Trapped → Tells e t st → ⊥
told_trap e t st h d = subst (λ x. Tells x t st) h d

told_end : (e : End) (t : List Event) (st : Stand) → e ≡ Ended → Tells e t st → st ≡ stand Ended t
told_end e t st h d = subst (λ x. Tells x t st) h d

told_raise : (e : End) (t : List Event) (st : Stand) (x : List ℕ) → e ≡ Raised x → Tells e t st → st ≡ stand (Raised x) t
told_raise e t st x h d = subst (λ y. Tells y t st) h d

told_prefix : (e : End) (t : List Event) (st : Stand) → (e ≡ GoesOn) ⊎ (e ≡ NoRoom) → Tells e t st → Prefix t st.trace
told_prefix e t st h d = ⊎_elim (λ q. subst (λ x. Tells x t st) q d) (λ q. subst (λ x. Tells x t st) q d) h

same_trace_prefix : (t u : List Event) → u ≡ t → Prefix t u
same_trace_prefix t u e = subst (λ x. Prefix t x) (sym e) (prefix_refl t)

-- what is done of a stand is that the source is over, and has been done
did_over : (e : End) (t : List Event) (h : End) (u : List Event) → Did e t h u → e ≢ GoesOn
did_over GoesOn t h u d = absurd d
did_over Ended t h u d = λ e. cc
did_over (Raised x) t h u d = λ e. cc
did_over NoTurns t h u d = λ e. cc
did_over NoRoom t h u d = absurd d
did_over Trapped t h u d = absurd d

did_done : (e : End) (t : List Event) (h : End) (u : List Event) → Did e t h u → HasDone (stand e t) (stand h u)
did_done GoesOn t h u d = absurd d
did_done Ended t h u d = record { trace = same_trace_prefix t u d.1; ended = λ e. d.0; raised = λ x e. cc }
did_done (Raised x) t h u d = record { trace = same_trace_prefix t u d.1; ended = λ e. cc; raised = λ y e. d.0 ∙ e }
did_done NoTurns t h u d = record { trace = d; ended = λ e. cc; raised = λ x e. cc }
did_done NoRoom t h u d = absurd d
did_done Trapped t h u d = absurd d

-- what the machine's stand says of a bounded run it says of the source
tells_on : (e : End) (t : List Event) (x y : Stand) → Prefix x.trace y.trace → (x.end ≢ GoesOn → y ≡ x) → Tells e t x → Tells e t y
tells_on GoesOn t x y q same d = prefix_trans t x.trace y.trace d q
tells_on Ended t x y q same d = same (λ e. ended_goes (sym (ap (λ z. z.end) d) ∙ e)) ∙ d
  where
    ended_goes : Ended ≢ GoesOn
    ended_goes e = cc
tells_on (Raised n) t x y q same d = same (λ e. raised_goes (sym (ap (λ z. z.end) d) ∙ e)) ∙ d
  where
    raised_goes : Raised n ≢ GoesOn
    raised_goes e = cc
tells_on NoRoom t x y q same d = prefix_trans t x.trace y.trace d q
tells_on NoTurns t x y q same d = absurd d
tells_on Trapped t x y q same d = absurd d

module _ (G S : Type 0) (p : Program G) (m : Machine S) (Meets : G → S → Type 0) (size : G → ℕ) (pot : ℕ → G → ℕ) (g0 : G) (s0 : S) (source : Option ℕ → ℕ → Stand) (machine : ℕ → Stand) (region words : ℕ) (sim : Simulation p m Meets size pot g0 s0 source machine region words) where
  abbrev fr : Option ℕ → ℕ → ℕ → Stand
  fr r j n = bounded_run p r j n g0

  -- a bounded run that is over is the source's
  source_at : (r : Option ℕ) (j n : ℕ) → (fr r j n).end ≢ GoesOn → source r n ≡ fr r j n
  source_at r j n h = by_run (sim.source_is r n)
    where
      by_run : ((i : ℕ) × (source r n ≡ fr r i n)) → source r n ≡ fr r j n
      by_run (i, e) = e ∙ bounded_once G p sim.longer i j n r g0 (λ g. sim.source_over r n (ap (λ x. x.end) e ∙ g)) h

  -- the trace of a bounded run is a prefix of the source's
  source_within : (r : Option ℕ) (j n : ℕ) → Prefix (fr r j n).trace (source r n).trace
  source_within r j n = by_run (sim.source_is r n)
    where
      by_run : ((i : ℕ) × (source r n ≡ fr r i n)) → Prefix (fr r j n).trace (source r n).trace
      by_run (i, e) = subst (λ x. Prefix (fr r j n).trace x.trace) (sym e) (bounded_within G p sim.longer i j n r g0 (λ g. sim.source_over r n (ap (λ x. x.end) e ∙ g)))

  told : (k : ℕ) → Tells (machine k).end (machine k).trace (source None k)
  told k = by_fate (follow G S p m Meets size region sim.stays sim.grows sim.own sim.same_end sim.same_trace sim.law k k k g0 s0 (omega arith) (omega arith) sim.starts)
    where
      by_fate : ((j : ℕ) × Tells (m.end (steps m k s0)) (m.trace (steps m k s0)) (fr None j k)) → Tells (machine k).end (machine k).trace (source None k)
      by_fate (j, d) =
          let d2 = subst (λ x. Tells x.end x.trace (fr None j k)) (sym (sim.machine_is k)) d in
          tells_on (machine k).end (machine k).trace (fr None j k) (source None k) (source_within None j k) (source_at None j k) d2

  full : (k : ℕ) → (machine k).end ≡ NoRoom → ((source (Some region) k).end ≡ NoRoom) × Prefix (source (Some region) k).trace (machine k).trace
  full k h = by_short (no_room G S p m Meets size region sim.stays sim.grows sim.own sim.same_end sim.same_trace sim.law k k k g0 s0 (omega arith) (omega arith) sim.starts (sym (ap (λ x. x.end) (sim.machine_is k)) ∙ h))
    where
      full_goes : NoRoom ≢ GoesOn
      full_goes e = cc

      by_short : ((j : ℕ) × (t : List Event) × (fr (Some region) j k ≡ stand NoRoom t) × Prefix t (m.trace (steps m k s0))) → ((source (Some region) k).end ≡ NoRoom) × Prefix (source (Some region) k).trace (machine k).trace
      by_short (j, t, e, q) =
          let same : source (Some region) k ≡ stand NoRoom t = source_at (Some region) j k (λ g. full_goes (sym (ap (λ x. x.end) e) ∙ g)) ∙ e in
          (ap (λ x. x.end) same, subst (λ x. Prefix x.trace (machine k).trace) (sym same) (subst (λ x. Prefix t x.trace) (sym (sim.machine_is k)) q))

  reached : (k n : ℕ) → pot n g0 ≤ k → ((machine k).end ≡ NoRoom) ⊎ HasDone (source None n) (machine k)
  reached k n le = ⊎_elim (λ h. inl (ap (λ x. x.end) (sim.machine_is k) ∙ h)) (λ d. inr (by_did d)) (reach G S p m Meets size region sim.stays sim.grows sim.own sim.same_end sim.same_trace sim.law pot sim.falls (suc k) k n g0 s0 (omega arith) sim.starts le)
    where
      by_did : ((j : ℕ) × Did (fr None j n).end (fr None j n).trace (m.end (steps m k s0)) (m.trace (steps m k s0))) → HasDone (source None n) (machine k)
      by_did (j, d) =
          let same = source_at None j n (did_over _ _ _ _ d) in
          subst (λ x. HasDone x (machine k)) (sym same) (subst (λ x. HasDone (fr None j n) x) (sym (sim.machine_is k)) (did_done _ _ _ _ d))

  pub simulation_agrees : Agreement source machine region words
  simulation_agrees =
      record {
        never_traps = λ k h. told_trap _ _ _ h (told k);
        ends_alike = λ k h. let e = told_end _ _ _ h (told k) in (ap (λ x. x.end) e, ap (λ x. x.trace) e);
        raises_alike = λ k x h. let e = told_raise _ _ _ x h (told k) in (ap (λ y. y.end) e, ap (λ y. y.trace) e);
        prefix = λ k h. told_prefix _ _ _ h (told k);
        room = full;
        pace = λ n. reached (2 * words * (n + 1)) n (sim.bounded n);
      }

-- a machine that does a program operation by operation agrees with its source
pub agrees : {G S : Type 0} {p : Program G} {m : Machine S} {Meets : G → S → Type 0} {size : G → ℕ} {pot : ℕ → G → ℕ} {g0 : G} {s0 : S} {source : Option ℕ → ℕ → Stand} {machine : ℕ → Stand} {region words : ℕ} → Simulation p m Meets size pot g0 s0 source machine region words → Agreement source machine region words
agrees sim = simulation_agrees _ _ _ _ _ _ _ _ _ _ _ _ _ sim
