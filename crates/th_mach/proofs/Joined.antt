-- Two parts of a run, one after the other.
use Rattle.std.proofs.Common.{◌≡◌, ℕ, zero, suc, ◌+◌, ◌<◌, List, [], ◌∷◌, ◌++◌, length, Option, Some, None, refl, sym, ap, ◌∙◌, subst, ◌⊎◌, inl, inr, ⊎_elim, append_assoc, append-nil, length-append, add-one, zero-add, add-zero, min, map, arith}
use Rattle.std.specs.Prelude.{option_map, option_to_list}
use Rattle.std.proofs.lemmas.Bool.{cases_eq}
use Rattle.std.proofs.lemmas.List.{map-append}
use Rattle.th_world.specs.Event.{Event, Put, Took, FoundEnd, Entered, puts}
use Rattle.th_watch.specs.Watch.{Watch, after}
use Rattle.th_watch.proofs.AfterLemmas.{after-append}
use Rattle.th_elf.specs.Run.{Machine, Running, Trapped, Retired, Retires, Takes, trace, no_names, Status, Stopped}
use Rattle.th_rv.specs.declared.instr.Cause.{Cause}
use Rattle.th_rv.specs.Step as halt
use Rattle.th_mach.specs.declared.answer.Outcome.{Outcome}
use Rattle.th_mach.specs.declared.answer.Outcome.TheVariants.{Ended, Raised, RoomUsed, StepsUsed, Trap, ReadFault, WriteFault}
use Rattle.th_mach.proofs.Turns.{still}
use Rattle.th_mach.specs.Ran.{Seen, TakesTold, count_after, pcs, Retiring, TrapsNow, Ends, Ran, IsOver, Turned, IsPause, Stands, outcome_of, outcome_by}

retires_join : (a b : Machine) (first later : List Retired) (c : Machine) → Retires a first b → Retires b later c → Retires a (later ++ first) c
retires_join a b first [] c r q = subst (λ m. Retires a first m) q r
retires_join a b first (e ∷ later) c r (m, q, did) = (m, retires_join a b first later m r q, did)

takes_join : (a b : List ℕ) (first later : List Retired) (c : List ℕ) → Takes a first b → Takes b later c → Takes a (later ++ first) c
takes_join a b first [] c t q = subst (λ l. Takes a first l) q t
takes_join a b first (e ∷ later) c t (m, q, one) = (m, takes_join a b first later m t q, one)

told_join : (a b c : Option (List ℕ)) (first later : List Retired) → TakesTold a first b → TakesTold b later c → TakesTold a (later ++ first) c
told_join None None None first later t q = tt
told_join None None (Some c) first later t q = absurd q
told_join None (Some b) c first later t q = absurd t
told_join (Some a) None c first later t q = absurd t
told_join (Some a) (Some b) None first later t q = absurd q
told_join (Some a) (Some b) (Some c) first later t q = takes_join a b first later c t q

puts-append : (t u : List Event) → puts (t ++ u) ≡ puts u ++ puts t
puts-append [] u = sym (append-nil (puts u))
puts-append (Put b ∷ t) u = ap (λ l. l ++ b ∷ []) (puts-append t u) ∙ append_assoc (puts u) (puts t) (b ∷ [])
puts-append (Took b ∷ t) u = puts-append t u
puts-append (FoundEnd ∷ t) u = puts-append t u
puts-append (Entered n ∷ t) u = puts-append t u

trace-append : (first later : List Retired) → trace no_names (later ++ first) ≡ trace no_names later ++ trace no_names first
trace-append first [] = refl
trace-append first (e ∷ later) = ap (λ l. option_to_list e.did ++ [] ++ l) (trace-append first later) ∙ sym (append_assoc (option_to_list e.did ++ []) (trace no_names later) (trace no_names first))

bytes-append : (first later : List Retired) → puts (trace no_names (later ++ first)) ≡ puts (trace no_names first) ++ puts (trace no_names later)
bytes-append first later = ap puts (trace-append first later) ∙ puts-append (trace no_names later) (trace no_names first)

put_join : (a b c : Option (List ℕ)) (first later : List Retired) → b ≡ option_map (λ bytes. bytes ++ puts (trace no_names first)) a → c ≡ option_map (λ bytes. bytes ++ puts (trace no_names later)) b → c ≡ option_map (λ bytes. bytes ++ puts (trace no_names (later ++ first))) a
put_join None b c first later p q = q ∙ ap (λ o. option_map (λ bytes. bytes ++ puts (trace no_names later)) o) p
put_join (Some a) b c first later p q =
    q ∙ ap (λ o. option_map (λ bytes. bytes ++ puts (trace no_names later)) o) p
    ∙ ap Some (append_assoc a (puts (trace no_names first)) (puts (trace no_names later)) ∙ ap (λ l. a ++ l) (sym (bytes-append first later)))

count_some : (n k : ℕ) → 0 < k → count_after n k ≡ min (n + k) 18446744073709551615
count_some n zero some = absurd (omega arith)
count_some n (suc k) some = refl

cut_twice : (n j k limit : ℕ) → min (min (n + k) limit + j) limit ≡ min (n + (j + k)) limit
cut_twice n j k limit = omega arith

count_join : (n j k : ℕ) → count_after (count_after n k) j ≡ count_after n (j + k)
count_join n zero k = rw zero-add refl
count_join n (suc j) zero = rw add-zero refl
count_join n (suc j) (suc k) = cut_twice n (suc j) (suc k) 18446744073709551615 ∙ sym (count_some n (suc j + suc k) (omega arith))

watches_join : (first later : List Retired) (ws : List Watch) → map (λ w. after w (pcs later)) (map (λ w. after w (pcs first)) ws) ≡ map (λ w. after w (pcs (later ++ first))) ws
watches_join first later [] = refl
watches_join first later (w ∷ ws) =
    let one : after (after w (pcs first)) (pcs later) ≡ after w (pcs (later ++ first)) = after-append w (pcs later) (pcs first) ∙ ap (λ l. after w l) (sym (map-append (λ e. e.pc) later first)) in
    ap (λ v. v ∷ map (λ w. after w (pcs later)) (map (λ w. after w (pcs first)) ws)) one ∙ ap (λ vs. after w (pcs (later ++ first)) ∷ vs) (watches_join first later ws)

-- the instructions of two logs, one after the other
pub retiring_join : (a b c : Seen) (first later : List Retired) → Retiring a first b → Retiring b later c → Retiring a (later ++ first) c
retiring_join a b c first later r q = record {
  retires = retires_join a.machine b.machine first later c.machine r.retires q.retires;
  count = q.count ∙ ap (λ n. count_after n (length later)) r.count ∙ count_join a.retired (length later) (length first) ∙ ap (λ k. count_after a.retired k) (sym (length-append later first));
  watches = q.watches ∙ ap (λ vs. map (λ w. after w (pcs later)) vs) r.watches ∙ watches_join first later a.watches;
  put = put_join a.put b.put c.put first later r.put q.put;
  left = told_join a.left b.left c.left first later r.left q.left;
  read_faults = q.read_faults ∙ r.read_faults;
  write_faults = q.write_faults ∙ r.write_faults;
}

running_trapped : (cause : Cause) (pc : ℕ) → Running ≡ Trapped cause pc → ⊥
running_trapped cause pc e = cc

-- one more turn that ends the run, after so many
ends_join : (o : Outcome) (n k steps : ℕ) (middle later : Seen) → n < steps → IsOver o → (k ≡ 0 → 0 < n → middle.machine.status ≡ Running) → Ends o k 1 middle later → Ends o (k + n) steps middle later
ends_join Ended n k steps middle later lt over runs (same, status, le) = (same, status, omega arith)
ends_join (Raised at size) n k steps middle later lt over runs (same, status, le) = (same, status, omega arith)
ends_join RoomUsed n k steps middle later lt over runs (same, status, le) = (same, status, omega arith)
ends_join StepsUsed n k steps middle later lt over runs e = absurd over
ends_join (Trap cause pc) n k steps middle later lt over runs (status, how) = (status, ⊎_elim stood now how)
  where
    stood : (later ≡ middle) × (k ≡ 0) → ((later ≡ middle) × (k + n ≡ 0)) ⊎ (TrapsNow middle later × (k + n < steps))
    stood (same, none) = ⊎_elim (λ e. inl (same, omega arith)) (λ ne. absurd (running_trapped cause pc (sym (runs none (omega arith)) ∙ ap (λ s. s.machine.status) (sym same) ∙ status))) (cases_eq n 0)

    now : TrapsNow middle later × (k < 1) → ((later ≡ middle) × (k + n ≡ 0)) ⊎ (TrapsNow middle later × (k + n < steps))
    now (traps, le) = inr (traps, omega arith)
ends_join ReadFault n k steps middle later lt over runs (fails, le) = (fails, omega arith)
ends_join WriteFault n k steps middle later lt over runs (fails, le) = (fails, omega arith)

-- where nothing is retired the machine is as before
none_retired : (a : Machine) (log : List Retired) (b : Machine) → length log ≡ 0 → Retires a log b → a ≡ b
none_retired a [] b e r = r
none_retired a (x ∷ log) b e r = absurd (omega (arith, e))

-- a run so far: so many instructions are retired, and after the first of them the machine runs
abbrev pub Far : ℕ → Seen → Seen → Type 0
Far n a b = (log : List Retired) × (length log ≡ n) × Retiring a log b × (0 < n → b.machine.status ≡ Running)

-- a run that begins
pub not_yet : (s : Seen) → Far 0 s s
not_yet s = ([], refl, still s, λ some. absurd (omega (arith, some)))

-- a run so far, and the turn that ends it
pub over_join : (steps n : ℕ) (a b c : Seen) (o : Outcome) → Far n a b → n < steps → Turned b (Some o) c → Ran steps a o c
over_join steps n a b c o (first, size, r, runs) lt (ran, over) =
    let still_runs : length ran.log ≡ 0 → 0 < n → ran.middle.machine.status ≡ Running = λ e some. ap (λ m. m.status) (sym (none_retired b.machine ran.log ran.middle.machine e ran.retiring.retires)) ∙ runs some in
    let total : length ran.log + n ≡ length (ran.log ++ first) = ap (λ k. length ran.log + k) (sym size) ∙ sym (length-append ran.log first) in
    record {
      log = ran.log ++ first;
      middle = ran.middle;
      retiring = retiring_join a b ran.middle first ran.log r ran.retiring;
      ends = subst (λ k. Ends o k steps ran.middle c) total (ends_join o n (length ran.log) steps ran.middle c lt over still_runs ran.ends);
    }

-- a run so far, and one more turn
pub goes_join : (n : ℕ) (a b c : Seen) → Far n a b → Turned b None c → Far (n + 1) a c
goes_join n a b c (first, size, r, runs) (e, q, goes_on) =
    (e ∷ first, rw add-one (ap suc size), retiring_join a b c first (e ∷ []) r q, λ some. goes_on)

-- a run whose steps are used up, or that retired nothing since the machine had stopped
pub used_up : (steps n : ℕ) (a b : Seen) (o : Outcome) → n ≡ steps → Far n a b → o ≡ outcome_by b.machine.status → Ran steps a o b
used_up steps n a b o all (log, size, r, runs) tells = subst (λ x. Ran steps a x b) (sym tells) (by_status b.machine.status refl)
  where
    by_end : (h : halt.Halt) → b.machine.status ≡ Stopped h → Ran steps a (outcome_of h) b
    by_end halt.Ended e = record { log = log; middle = b; retiring = r; ends = (refl, e, omega (arith, size, all)) }
    by_end (halt.Raised at k) e = record { log = log; middle = b; retiring = r; ends = (refl, e, omega (arith, size, all)) }
    by_end halt.RoomUsed e = record { log = log; middle = b; retiring = r; ends = (refl, e, omega (arith, size, all)) }

    by_status : (s : Status) → b.machine.status ≡ s → Ran steps a (outcome_by s) b
    by_status Running e = record { log = log; middle = b; retiring = r; ends = (refl, e, size ∙ all) }
    by_status (Stopped h) e = by_end h e
    by_status (Trapped cause pc) e = record { log = log; middle = b; retiring = r; ends = (e, inl (refl, ⊎_elim (λ none. size ∙ none) (λ some. absurd (running_trapped cause pc (sym (runs (omega arith)) ∙ e))) (cases_eq n 0))) }

-- after a run the machine stands as its outcome says
pub ran_stands : (steps : ℕ) (a : Seen) (o : Outcome) (b : Seen) → Ran steps a o b → Stands b.machine.status o
ran_stands steps a o b ran = by_outcome o ran.ends
  where
    stopped : (h : halt.Halt) → b ≡ ran.middle → ran.middle.machine.status ≡ Stopped h → Stands b.machine.status (outcome_of h)
    stopped h same e = subst (λ s. Stands s (outcome_of h)) (sym (ap (λ x. x.machine.status) same ∙ e)) refl

    by_outcome : (x : Outcome) → Ends x (length ran.log) steps ran.middle b → Stands b.machine.status x
    by_outcome Ended (same, e, le) = stopped halt.Ended same e
    by_outcome (Raised at n) (same, e, le) = stopped (halt.Raised at n) same e
    by_outcome RoomUsed (same, e, le) = stopped halt.RoomUsed same e
    by_outcome StepsUsed (same, e, le) = subst (λ s. Stands s StepsUsed) (sym (ap (λ x. x.machine.status) same ∙ e)) tt
    by_outcome (Trap cause pc) (e, how) = subst (λ s. Stands s (Trap cause pc)) (sym e) refl
    by_outcome ReadFault (fails, le) = subst (λ s. Stands s ReadFault) (sym (ap (λ x. x.machine.status) fails.rest ∙ fails.runs)) tt
    by_outcome WriteFault (fails, le) = subst (λ s. Stands s WriteFault) (sym (ap (λ x. x.machine.status) fails.rest ∙ fails.runs)) tt

-- the outcome of a machine that retires nothing more
pub still_stands : (s : Status) (o : Outcome) → o ≡ outcome_by s → Stands s o
still_stands Running o e = subst (λ x. IsPause x) (sym e) tt
still_stands (Stopped end) o e = e
still_stands (Trapped cause pc) o e = e
