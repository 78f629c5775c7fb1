-- A machine's steps: one that no longer goes on stays as it is, and its trace only grows.
use Rattle.std.proofs.Common.{◌≡◌, ◌≢◌, ℕ, zero, suc, ◌+◌, ◌-◌, ◌≤◌, refl, sym, ap, ◌∙◌, subst, ⊎_elim, arith}
use Rattle.th_world.specs.Event.{Prefix}
use Rattle.th_runs.specs.Stand.{GoesOn}
use Rattle.th_runs.specs.Runs.{Machine, steps}
use Rattle.th_runs.proofs.Prefixes.{prefix_refl, prefix_trans}
use Rattle.th_runs.proofs.Bounded.{end_goes}

pub steps_add : {S : Type 0} (m : Machine S) (a b : ℕ) (s : S) → steps m (a + b) s ≡ steps m b (steps m a s)
steps_add m zero b s = let e : zero + b ≡ b = omega arith in ap (λ n. steps m n s) e
steps_add m (suc a) b s = let e : suc a + b ≡ suc (a + b) = omega arith in ap (λ n. steps m n s) e ∙ steps_add m a b (m.step s)

pub steps_split : {S : Type 0} (m : Machine S) (a b : ℕ) (s : S) → a ≤ b → steps m b s ≡ steps m (b - a) (steps m a s)
steps_split m a b s le = let e : b ≡ a + (b - a) = omega arith in ap (λ n. steps m n s) e ∙ steps_add m a (b - a) s

module _ (S : Type 0) (m : Machine S) (stays : (s : S) → m.end s ≢ GoesOn → m.step s ≡ s) where
  pub steps_stay : (k : ℕ) (s : S) → m.end s ≢ GoesOn → steps m k s ≡ s
  steps_stay zero s h = refl
  steps_stay (suc k) s h = ap (steps m k) (stays s h) ∙ steps_stay k s h

  -- a machine that no longer goes on after a steps is the same after b
  pub later_stays : (a b : ℕ) (s : S) → a ≤ b → m.end (steps m a s) ≢ GoesOn → steps m b s ≡ steps m a s
  later_stays a b s le h = steps_split m a b s le ∙ steps_stay (b - a) (steps m a s) h

  -- a machine that goes on went on before
  pub goes_before : (a b : ℕ) (s : S) → a ≤ b → m.end (steps m b s) ≡ GoesOn → m.end (steps m a s) ≡ GoesOn
  goes_before a b s le e = ⊎_elim (λ h. h) (λ n. sym (ap m.end (later_stays a b s le n)) ∙ e) (end_goes (m.end (steps m a s)))

module _ (S : Type 0) (m : Machine S) (grows : (s : S) → Prefix (m.trace s) (m.trace (m.step s))) where
  pub steps_grow : (k : ℕ) (s : S) → Prefix (m.trace s) (m.trace (steps m k s))
  steps_grow zero s = prefix_refl (m.trace s)
  steps_grow (suc k) s = prefix_trans _ _ _ (grows s) (steps_grow k (m.step s))

  -- the trace of a part of a run
  pub part_grows : (a b : ℕ) (s : S) → a ≤ b → Prefix (m.trace (steps m a s)) (m.trace (steps m b s))
  part_grows a b s le = subst (λ x. Prefix (m.trace (steps m a s)) (m.trace x)) (sym (steps_split m a b s le)) (steps_grow (b - a) (steps m a s))
