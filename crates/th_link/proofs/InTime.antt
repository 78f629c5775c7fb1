-- The machine with code that puts bytes ends after as many instructions as the code has, and never traps.
use Rattle.std.proofs.Common.{◌≡◌, ℕ, suc, ◌<◌, ◌≤◌, List, [], ◌∷◌, length, Option, None, refl, sym, ◌∙◌, subst, ◌⊎◌, inl, inr, ⊎_elim, arith}
use Rattle.th_world.specs.Event.{Event}
use Rattle.th_rv.specs.declared.instr.Instr.{Instr}
use Rattle.th_rv.specs.declared.instr.Cause.{Cause}
use Rattle.th_rv.specs.Memory.{Area}
use Rattle.th_rv.specs.Step.{State, Act, Traps, Ended, step}
use Rattle.th_elf.specs.Run.{Machine, Running, Stopped, Retired, Leads, Did, Retires, Trapping, running}
use Rattle.th_link.specs.Ends.{IsInTime}
use Rattle.th_link.proofs.Spots.{Spot, Before, Loaded, Ready, Ending, ahead, Stands, Goes, Does, does, counts}

module _ (code : List Instr) (ms : List Area) (small : length code ≤ 1000000) where
  -- after so many instructions the machine is at a place, or it ended with the last of them
  abbrev pub Is : ℕ → Machine → Type 0
  Is k m = ((m.status ≡ Running) × (p : Spot) × Stands code ms k p m.state) ⊎ ((m.status ≡ Stopped Ended) × (k ≡ length code))

  went : (k : ℕ) (q : Spot) (a : Act) (did : Option Event) (later : Machine) → Goes code ms k q a → Leads a did later → Is (suc k) later
  went k q a did later (s, act, there) leads =
      let l : (did ≡ None) × (later ≡ running s) = subst (λ x. Leads x did later) act leads in
      subst (Is (suc k)) (sym l.1) (inl (refl, q, there))

  put : (k b : ℕ) (left : List ℕ) (a : Act) (did : Option Event) (later : Machine) → Does code ms k (Ready b left) a → Leads a did later → Is (suc k) later
  put k b left a did later (s, act, there) leads =
      let l = subst (λ x. Leads x did later) act leads in
      subst (Is (suc k)) (sym l.1) (inl (refl, Before left, there))

  ended : (k : ℕ) (s0 : State) (a : Act) (did : Option Event) (later : Machine) → Stands code ms k Ending s0 → Does code ms k Ending a → Leads a did later → Is (suc k) later
  ended k s0 a did later at (s, act) leads =
      let l = subst (λ x. Leads x did later) act leads in
      let all : suc k ≡ length code = omega (arith, counts code ms k Ending s0 at) in
      subst (Is (suc k)) (sym l.1) (inr (refl, all))

  led : (k : ℕ) (p : Spot) (s : State) (did : Option Event) (later : Machine) → Stands code ms k p s → Leads (step s) did later → Is (suc k) later
  led k (Before []) s did later at leads = went k Ending (step s) did later (does code ms k (Before []) s at small) leads
  led k (Before (b ∷ left)) s did later at leads = went k (Loaded b left) (step s) did later (does code ms k (Before (b ∷ left)) s at small) leads
  led k (Loaded b left) s did later at leads = went k (Ready b left) (step s) did later (does code ms k (Loaded b left) s at small) leads
  led k (Ready b left) s did later at leads = put k b left (step s) did later (does code ms k (Ready b left) s at small) leads
  led k Ending s did later at leads = ended k s (step s) did later at (does code ms k Ending s at small) leads

  stopped_runs : (m : Machine) → m.status ≡ Running → m.status ≡ Stopped Ended → ⊥
  stopped_runs m e f = cc

  one_more : (k : ℕ) (m : Machine) (e : Retired) (later : Machine) → Is k m → Did m e later → Is (suc k) later
  one_more k m e later is did =
      ⊎_elim
      (λ (runs, p, at). led k p m.state e.did later at did.leads)
      (λ (stopped, all). absurd (stopped_runs m did.runs stopped))
      is

  pub is_after : (m : Machine) (log : List Retired) (later : Machine) → Is 0 m → Retires m log later → Is (length log) later
  is_after m [] later is same = subst (Is 0) same is
  is_after m (e ∷ log) later is (m1, before, did) = one_more (length log) m1 e later (is_after m log m1 is before) did

  some_ahead : (p : Spot) → 0 < length (ahead p)
  some_ahead (Before []) = omega arith
  some_ahead (Before (b ∷ left)) = omega arith
  some_ahead (Loaded b left) = omega arith
  some_ahead (Ready b left) = omega arith
  some_ahead Ending = omega arith

  pub in_time : (log : List Retired) (m : Machine) (words : ℕ) → words ≡ length code → Is (length log) m → IsInTime words log m
  in_time log m words w is =
      ⊎_elim
      (λ (runs, p, at). inl (runs, before p at))
      (λ (stopped, all). inr (stopped, all ∙ sym w))
      is
    where
      before : (p : Spot) → Stands code ms (length log) p m.state → length log < words
      before p at = omega (arith, counts code ms (length log) p m.state at, some_ahead p, w)

  no_trap : (k : ℕ) (p : Spot) (a : Act) (c : Cause) → Does code ms k p a → a ≡ Traps c → ⊥
  no_trap k (Before []) a c (s, act, there) e = cc
  no_trap k (Before (b ∷ left)) a c (s, act, there) e = cc
  no_trap k (Loaded b left) a c (s, act, there) e = cc
  no_trap k (Ready b left) a c (s, act, there) e = cc
  no_trap k Ending a c (s, act) e = cc

  pub never_traps : (k : ℕ) (m trapped : Machine) → Is k m → Trapping m trapped → ⊥
  never_traps k m trapped is traps =
      ⊎_elim
      (λ (runs, p, at). no_trap k p (step m.state) traps.cause (does code ms k p m.state at small) traps.traps)
      (λ (stopped, all). stopped_runs m traps.runs stopped)
      is
