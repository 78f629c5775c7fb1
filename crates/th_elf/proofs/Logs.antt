-- A run by its log, and the run on an input, are one.
use Rattle.std.proofs.Common.{◌≡◌, ℕ, suc, List, [], ◌∷◌, length, Option, sym, ◌∙◌, ap, subst, ⊎_elim, add-one}
use Rattle.th_world.specs.Event.{Event}
use Rattle.th_runs.proofs.Steps.{steps_add}
use Rattle.th_rv.specs.Step.{Act, Next, Puts, Gets, Halts, Traps, step}
use Rattle.th_elf.specs.Run.{Machine, Running, Retired, Run, run, run_of, run_step, machine, no_names, after, after_get, while_running, running, with_a0, no_byte, Leads, Did, Retires, Trapping, Takes, TakesOne}

-- one more instruction at the end
pub run_more : (k : ℕ) (r : Run) → run (suc k) r ≡ run_step (run k r)
run_more k r = ap (λ n. run n r) (sym (add-one k)) ∙ steps_add (machine no_names) k 1 r

leads_after : (a : Act) (m : Machine) (left : List ℕ) (log : List Retired) (did : Option Event) (later : Machine) (rest : List ℕ) → Leads a did later → TakesOne left did rest → after (run_of m left log) a ≡ run_of later rest (record { pc = m.state.pc; did = did } ∷ log)
leads_after (Next s) m left log did later rest leads takes =
    let t : left ≡ rest = subst (λ d. TakesOne left d rest) leads.0 takes in cc
leads_after (Puts b s) m left log did later rest leads takes =
    let t : left ≡ rest = subst (λ d. TakesOne left d rest) leads.0 takes in cc
leads_after (Gets s) m left log did later rest leads takes =
    ⊎_elim
    (λ (b, small, is, later_is).
    let t : left ≡ b ∷ rest = subst (λ d. TakesOne left d rest) is takes in
    ap (after_get (run_of m left log) s) t ∙ cc)
    (λ (is, later_is).
    let t : (left ≡ []) × (rest ≡ []) = subst (λ d. TakesOne left d rest) is takes in
    ap (after_get (run_of m left log) s) t.0
    ∙ ap (λ d. run_of (running (with_a0 s no_byte)) [] (record { pc = m.state.pc; did = d } ∷ log)) (sym is)
    ∙ ap (λ x. run_of x [] (record { pc = m.state.pc; did = did } ∷ log)) (sym later_is)
    ∙ ap (λ r. run_of later r (record { pc = m.state.pc; did = did } ∷ log)) (sym t.1))
    leads
leads_after (Halts h s) m left log did later rest leads takes =
    let t : left ≡ rest = subst (λ d. TakesOne left d rest) leads.0 takes in cc
leads_after (Traps c) m left log did later rest leads takes = absurd leads

goes_on : (m : Machine) (left : List ℕ) (log : List Retired) → m.status ≡ Running → run_step (run_of m left log) ≡ after (run_of m left log) (step m.state)
unfolding run_step
goes_on m left log on = ap (λ s. while_running s (after (run_of m left log) (step m.state)) (run_of m left log)) on

one_more : (m : Machine) (e : Retired) (later : Machine) (left rest : List ℕ) (log : List Retired) → Did m e later → TakesOne left e.did rest → run_step (run_of m left log) ≡ run_of later rest (e ∷ log)
one_more m e later left rest log did takes =
    goes_on m left log did.runs
    ∙ leads_after (step m.state) m left log e.did later rest did.leads takes
    ∙ ap (λ pc. run_of later rest (record { pc = pc; did = e.did } ∷ log)) (sym did.pc)

-- a machine that retires a log, on an input whose bytes the log takes, is what the run on this input is after as many steps
pub retires_run : (m : Machine) (log : List Retired) (later : Machine) (left rest : List ℕ) → Retires m log later → Takes left log rest → run (length log) (run_of m left []) ≡ run_of later rest log
retires_run m [] later left rest retires takes = cc
retires_run m (e ∷ log) later left rest retires takes = last retires takes (retires_run m log)
  where
    last : (m1 : Machine) × Retires m log m1 × Did m1 e later → (mid : List ℕ) × Takes left log mid × TakesOne mid e.did rest → ((m1 : Machine) (left mid : List ℕ) → Retires m log m1 → Takes left log mid → run (length log) (run_of m left []) ≡ run_of m1 mid log) → run (suc (length log)) (run_of m left []) ≡ run_of later rest (e ∷ log)
    last (m1, before, did) (mid, took, takes) again =
        run_more (length log) (run_of m left [])
        ∙ ap run_step (again m1 left mid before took)
        ∙ one_more m1 e later mid rest log did takes

-- a machine that then traps is what the run is after one more step, which retires nothing
pub trapping_run : (m : Machine) (log : List Retired) (m1 later : Machine) (left rest : List ℕ) → Retires m log m1 → Trapping m1 later → Takes left log rest → run (suc (length log)) (run_of m left []) ≡ run_of later rest log
trapping_run m log m1 later left rest retires traps takes =
    run_more (length log) (run_of m left [])
    ∙ ap run_step (retires_run m log m1 left rest retires takes)
    ∙ goes_on m1 rest log traps.runs
    ∙ ap (after (run_of m1 rest log)) traps.traps
    ∙ ap (λ x. run_of x rest log) (sym traps.is)
