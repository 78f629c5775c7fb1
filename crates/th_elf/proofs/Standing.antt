-- A run that came to an end stays as it is, and traces only grow.
use Rattle.std.proofs.Common.{◌≡◌, ◌≢◌, ℕ, zero, suc, List, [], ◌∷◌, ◌++◌, Option, Some, None, refl, ap}
use Rattle.std.specs.Prelude.{option_to_list}
use Rattle.th_world.specs.Event.{Put, Took, FoundEnd, Prefix}
use Rattle.th_runs.specs.Stand as ends
use Rattle.th_runs.specs.Runs as runs
use Rattle.th_rv.specs.Step.{State, Act, Next, Puts, Gets, Halts, Traps, step}
use Rattle.th_elf.specs.Run.{Status, Running, Stopped, Trapped, Retired, Run, run_step, after, after_get, while_running, end_of, entry_of, trace, stand, machine, run}

stays_at : (s : Status) (on r : Run) → end_of r.state s ≢ ends.GoesOn → while_running s on r ≡ r
stays_at Running on r ended = absurd (ended refl)
stays_at (Stopped h) on r ended = refl
stays_at (Trapped c pc) on r ended = refl

-- a run that stopped or trapped stays as it is
pub run_stays : (names : ℕ → Option (List ℕ)) (r : Run) → (stand names r).end ≢ ends.GoesOn → run_step r ≡ r
unfolding stand run_step
run_stays names r ended = stays_at r.status (after r (step r.state)) r ended

grows_with : (names : ℕ → Option (List ℕ)) (e : Retired) (log : List Retired) → Prefix (trace names log) (trace names (e ∷ log))
grows_with names e log = record { more = option_to_list e.did ++ entry_of (names e.pc); is = refl }

grows_got : (names : ℕ → Option (List ℕ)) (r : Run) (s : State) (input : List ℕ) → Prefix (trace names r.log) (trace names (after_get r s input).log)
grows_got names r s [] = grows_with names (record { pc = r.state.pc; did = Some FoundEnd }) r.log
grows_got names r s (b ∷ bs) = grows_with names (record { pc = r.state.pc; did = Some (Took b) }) r.log

grows_after : (names : ℕ → Option (List ℕ)) (r : Run) (a : Act) → Prefix (trace names r.log) (trace names (after r a).log)
grows_after names r (Next s) = grows_with names (record { pc = r.state.pc; did = None }) r.log
grows_after names r (Puts b s) = grows_with names (record { pc = r.state.pc; did = Some (Put b) }) r.log
grows_after names r (Gets s) = grows_got names r s r.input
grows_after names r (Halts h s) = grows_with names (record { pc = r.state.pc; did = None }) r.log
grows_after names r (Traps c) = record { more = []; is = refl }

grows_at : (names : ℕ → Option (List ℕ)) (s : Status) (on r : Run) → Prefix (trace names r.log) (trace names on.log) → Prefix (trace names r.log) (trace names (while_running s on r).log)
grows_at names Running on r grows = grows
grows_at names (Stopped h) on r grows = record { more = []; is = refl }
grows_at names (Trapped c pc) on r grows = record { more = []; is = refl }

-- the trace after one more instruction has the earlier one as a prefix
pub run_grows : (names : ℕ → Option (List ℕ)) (r : Run) → Prefix (stand names r).trace (stand names (run_step r)).trace
unfolding stand run_step
run_grows names r = grows_at names r.status (after r (step r.state)) r (grows_after names r (step r.state))

-- names change nothing of what a run does
pub run_with_names : (names : ℕ → Option (List ℕ)) (k : ℕ) (r : Run) → runs.steps (machine names) k r ≡ run k r
run_with_names names zero r = refl
run_with_names names (suc k) r = run_with_names names k (run_step r)

-- a run's stand after so many steps, by the general word for a machine's run
pub stand_of_run : (names : ℕ → Option (List ℕ)) (k : ℕ) (r : Run) → runs.machine_run (machine names) k r ≡ stand names (run k r)
unfolding stand
stand_of_run names k r = ap (λ x. stand names x) (run_with_names names k r)
