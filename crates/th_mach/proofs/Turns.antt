-- One turn of a run, by what the instruction does and what the streams answer.
use Rattle.std.proofs.Common.{◌≡◌, ℕ, ◌<◌, ◌≤◌, List, [], ◌∷◌, ◌++◌, map, Option, Some, None, refl, sym, ap, ◌∙◌, subst, inl, inr, append-nil, lit<, lit≤}
use Rattle.std.specs.Prelude.{option_map, IfSome}
use Rattle.th_world.specs.Event.{Event, Put, Took, FoundEnd}
use Rattle.th_world.specs.Outside.{Rose, first_byte, without_first}
use Rattle.th_watch.specs.Watch.{Watch, after}
use Rattle.th_watch.proofs.AfterLemmas.{all_after-none}
use Rattle.th_rv.specs.declared.instr.Cause.{Cause}
use Rattle.th_rv.specs.Step.{State, Next, Puts, Gets, Halts, Traps, Halt, Ended, Raised, RoomUsed, with_reg, step}
use Rattle.th_elf.specs.Run.{Running, Stopped, Trapped, Retired, Leads, Retires, with_a0, no_byte}
use Rattle.th_mach.specs.declared.answer.Outcome.{Outcome}
use Rattle.th_mach.specs.declared.answer.Outcome.TheVariants as outcome
use Rattle.th_mach.specs.Counted.{Counted, retire, trap, next_count, is_put, is_get}
use Rattle.th_mach.specs.Ran.{Seen, seen, TakesTold, Retiring, TrapsNow, Turned, outcome_of}

no_put : (o : Option (List ℕ)) → o ≡ option_map (λ bytes. bytes ++ []) o
no_put None = refl
no_put (Some bytes) = ap Some (sym (append-nil bytes))

-- nothing is retired
pub still : (s : Seen) → Retiring s [] s
still s = record { retires = refl; count = refl; put = no_put s.put; left = same_left s.left; watches = sym (all_after-none s.watches); read_faults = refl; write_faults = refl }
  where
    same_left : (o : Option (List ℕ)) → TakesTold o [] o
    same_left None = tt
    same_left (Some bytes) = refl

entry : Counted → Option Event → Retired
entry c did = record { pc = c.machine.state.pc; did = did }

-- the watchers after the machine retired its next instruction
watched : Counted → List Watch → List Watch
watched c ws = map (λ w. after w (c.machine.state.pc ∷ [])) ws

-- watchers that retired the instruction at an address
pub at_pc : (pc n : ℕ) (ws ws' : List Watch) → pc ≡ n → ws' ≡ map (λ w. after w (pc ∷ [])) ws → ws' ≡ map (λ w. after w (n ∷ [])) ws
at_pc pc n ws ws' e watches = watches ∙ ap (λ k. map (λ w. after w (k ∷ [])) ws) e

-- one instruction is retired with an event, and the machine then stands so
did_one : (c d : Counted) (did : Option Event) → c.machine.status ≡ Running → Leads (step c.machine.state) did d.machine → Retires c.machine (entry c did ∷ []) d.machine
unfolding entry
did_one c d did runs leads = (c.machine, refl, record { runs = runs; pc = refl; leads = leads })

-- an instruction without an event
quiet : (c d : Counted) (put left : Option (List ℕ)) (rf wf : ℕ) (ws ws' : List Watch) → c.machine.status ≡ Running → Leads (step c.machine.state) None d.machine → d.retired ≡ next_count c.retired → ws' ≡ watched c ws → Retiring (seen c put left rf wf ws) (entry c None ∷ []) (seen d put left rf wf ws')
unfolding entry watched
quiet c d put left rf wf ws ws' runs leads count watches = record { retires = did_one c d None runs leads; count = count; put = no_put put; left = same left; watches = watches; read_faults = refl; write_faults = refl }
  where
    same : (o : Option (List ℕ)) → TakesTold o (entry c None ∷ []) o
    same None = tt
    same (Some bytes) = (bytes, refl, refl)

pub next_turn : (c d : Counted) (put left : Option (List ℕ)) (rf wf : ℕ) (ws ws' : List Watch) → c.machine.status ≡ Running → step c.machine.state ≡ Next d.machine.state → d ≡ retire c d.machine.state Running → ws' ≡ map (λ w. after w (c.machine.state.pc ∷ [])) ws → Turned (seen c put left rf wf ws) None (seen d put left rf wf ws')
unfolding watched
next_turn c d put left rf wf ws ws' runs act is watches =
    let leads : Leads (step c.machine.state) None d.machine = subst (λ a. Leads a None d.machine) (sym act) (refl, ap (λ x. x.machine) is) in
    (entry c None, quiet c d put left rf wf ws ws' runs leads (ap (λ x. x.retired) is) watches, ap (λ x. x.machine.status) is)

pub put_turn : (c d : Counted) (b : ℕ) (put put' left : Option (List ℕ)) (rf wf wf' : ℕ) (ws ws' : List Watch) → c.machine.status ≡ Running → step c.machine.state ≡ Puts b (with_reg c.machine.state 0 0) → d ≡ retire c (with_reg c.machine.state 0 0) Running → put' ≡ option_map (λ bytes. bytes ++ b ∷ []) put → wf' ≡ wf → ws' ≡ map (λ w. after w (c.machine.state.pc ∷ [])) ws → Turned (seen c put left rf wf ws) None (seen d put' left rf wf' ws')
unfolding entry
put_turn c d b put put' left rf wf wf' ws ws' runs act is puts faults watches =
    let leads : Leads (step c.machine.state) (Some (Put b)) d.machine = subst (λ a. Leads a (Some (Put b)) d.machine) (sym act) (refl, ap (λ x. x.machine) is) in
    (entry c (Some (Put b)), record { retires = did_one c d (Some (Put b)) runs leads; count = ap (λ x. x.retired) is; put = puts; left = same left; watches = watches; read_faults = refl; write_faults = faults }, ap (λ x. x.machine.status) is)
  where
    same : (o : Option (List ℕ)) → TakesTold o (entry c (Some (Put b)) ∷ []) o
    same None = tt
    same (Some bytes) = (bytes, refl, refl)

pub take_turn : (c d : Counted) (b : ℕ) (put left left' : Option (List ℕ)) (rf rf' wf : ℕ) (ws ws' : List Watch) → c.machine.status ≡ Running → step c.machine.state ≡ Gets (with_reg c.machine.state 0 0) → b < 256 → d ≡ retire c (with_a0 (with_reg c.machine.state 0 0) b) Running → IfSome left (λ bytes. Some b ≡ first_byte bytes) → left' ≡ option_map without_first left → rf' ≡ rf → ws' ≡ map (λ w. after w (c.machine.state.pc ∷ [])) ws → Turned (seen c put left rf wf ws) None (seen d put left' rf' wf ws')
unfolding entry
take_turn c d b put left left' rf rf' wf ws ws' runs act small is first rest faults watches =
    let leads : Leads (step c.machine.state) (Some (Took b)) d.machine = subst (λ a. Leads a (Some (Took b)) d.machine) (sym act) (inl (b, small, refl, ap (λ x. x.machine) is)) in
    (entry c (Some (Took b)), record { retires = did_one c d (Some (Took b)) runs leads; count = ap (λ x. x.retired) is; put = no_put put; left = subst (λ o. TakesTold left (entry c (Some (Took b)) ∷ []) o) (sym rest) (took left first); watches = watches; read_faults = faults; write_faults = refl }, ap (λ x. x.machine.status) is)
  where
    took : (o : Option (List ℕ)) → IfSome o (λ bytes. Some b ≡ first_byte bytes) → TakesTold o (entry c (Some (Took b)) ∷ []) (option_map without_first o)
    took None h = tt
    took (Some []) h = cc
    took (Some (x ∷ bytes)) h = let same : b ≡ x = cc in (x ∷ bytes, refl, ap (λ y. y ∷ bytes) (sym same))

pub end_turn : (c d : Counted) (put left left' : Option (List ℕ)) (rf rf' wf : ℕ) (ws ws' : List Watch) → c.machine.status ≡ Running → step c.machine.state ≡ Gets (with_reg c.machine.state 0 0) → d ≡ retire c (with_a0 (with_reg c.machine.state 0 0) no_byte) Running → IfSome left (λ bytes. None ≡ first_byte bytes) → left' ≡ option_map without_first left → rf' ≡ rf → ws' ≡ map (λ w. after w (c.machine.state.pc ∷ [])) ws → Turned (seen c put left rf wf ws) None (seen d put left' rf' wf ws')
unfolding entry
end_turn c d put left left' rf rf' wf ws ws' runs act is first rest faults watches =
    let leads : Leads (step c.machine.state) (Some FoundEnd) d.machine = subst (λ a. Leads a (Some FoundEnd) d.machine) (sym act) (inr (refl, ap (λ x. x.machine) is)) in
    (entry c (Some FoundEnd), record { retires = did_one c d (Some FoundEnd) runs leads; count = ap (λ x. x.retired) is; put = no_put put; left = subst (λ o. TakesTold left (entry c (Some FoundEnd) ∷ []) o) (sym rest) (found left first); watches = watches; read_faults = faults; write_faults = refl }, ap (λ x. x.machine.status) is)
  where
    found : (o : Option (List ℕ)) → IfSome o (λ bytes. None ≡ first_byte bytes) → TakesTold o (entry c (Some FoundEnd) ∷ []) (option_map without_first o)
    found None h = tt
    found (Some []) h = ([], refl, (refl, refl))
    found (Some (x ∷ bytes)) h = cc

-- the run comes to its end with this instruction
pub halt_turn : (c d : Counted) (end : Halt) (o : Outcome) (put left : Option (List ℕ)) (rf wf : ℕ) (ws ws' : List Watch) → c.machine.status ≡ Running → step c.machine.state ≡ Halts end d.machine.state → d ≡ retire c d.machine.state (Stopped end) → o ≡ outcome_of end → ws' ≡ map (λ w. after w (c.machine.state.pc ∷ [])) ws → Turned (seen c put left rf wf ws) (Some o) (seen d put left rf wf ws')
unfolding watched
halt_turn c d end o put left rf wf ws ws' runs act is tells watches =
    let leads : Leads (step c.machine.state) None d.machine = subst (λ a. Leads a None d.machine) (sym act) (refl, ap (λ x. x.machine) is) in
    let retiring = quiet c d put left rf wf ws ws' runs leads (ap (λ x. x.retired) is) watches in
    subst (λ x. Turned (seen c put left rf wf ws) (Some x) (seen d put left rf wf ws')) (sym tells) (by_end end retiring (ap (λ x. x.machine.status) is))
  where
    by_end : (h : Halt) → Retiring (seen c put left rf wf ws) (entry c None ∷ []) (seen d put left rf wf ws') → d.machine.status ≡ Stopped h → Turned (seen c put left rf wf ws) (Some (outcome_of h)) (seen d put left rf wf ws')
    by_end Ended r e = (record { log = entry c None ∷ []; middle = seen d put left rf wf ws'; retiring = r; ends = (refl, e, lit≤ tt) }, tt)
    by_end (Raised at n) r e = (record { log = entry c None ∷ []; middle = seen d put left rf wf ws'; retiring = r; ends = (refl, e, lit≤ tt) }, tt)
    by_end RoomUsed r e = (record { log = entry c None ∷ []; middle = seen d put left rf wf ws'; retiring = r; ends = (refl, e, lit≤ tt) }, tt)

pub trap_turn : (c d : Counted) (cause : Cause) (pc : ℕ) (put left : Option (List ℕ)) (rf wf : ℕ) (ws : List Watch) → c.machine.status ≡ Running → step c.machine.state ≡ Traps cause → d ≡ trap c cause → pc ≡ c.machine.state.pc → Turned (seen c put left rf wf ws) (Some (outcome.Trap cause pc)) (seen d put left rf wf ws)
trap_turn c d cause pc put left rf wf ws runs act is here =
    let status : d.machine.status ≡ Trapped cause pc = ap (λ x. x.machine.status) is ∙ ap (λ n. Trapped cause n) (sym here) in
    let now : TrapsNow (seen c put left rf wf ws) (seen d put left rf wf ws) = record { trapping = record { cause = cause; runs = runs; traps = act; is = ap (λ x. x.machine) is }; rest = ap (λ n. seen (record { machine = d.machine; retired = n }) put left rf wf ws) (ap (λ x. x.retired) is) } in
    (record { log = []; middle = seen c put left rf wf ws; retiring = still (seen c put left rf wf ws); ends = (status, inr (now, lit< tt)) }, tt)

pub write_fault_turn : (c d : Counted) (b : ℕ) (s : State) (put put' left : Option (List ℕ)) (rf wf wf' : ℕ) (ws : List Watch) → c.machine.status ≡ Running → step c.machine.state ≡ Puts b s → d ≡ c → put' ≡ put → Rose wf wf' → wf ≤ wf' → Turned (seen c put left rf wf ws) (Some outcome.WriteFault) (seen d put' left rf wf' ws)
write_fault_turn c d b s put put' left rf wf wf' ws runs act is same rose never =
    let rest : seen d put' left rf wf' ws ≡ seen c put left rf wf' ws = ap (λ x. seen x put' left rf wf' ws) is ∙ ap (λ o. seen c o left rf wf' ws) same in
    (record { log = []; middle = seen c put left rf wf ws; retiring = still (seen c put left rf wf ws); ends = (record { runs = runs; asks = ap is_put act; rose = rose; never_falls = never; rest = rest }, lit< tt) }, tt)

pub read_fault_turn : (c d : Counted) (s : State) (put left left' : Option (List ℕ)) (rf rf' wf : ℕ) (ws : List Watch) → c.machine.status ≡ Running → step c.machine.state ≡ Gets s → d ≡ c → left' ≡ left → Rose rf rf' → rf ≤ rf' → Turned (seen c put left rf wf ws) (Some outcome.ReadFault) (seen d put left' rf' wf ws)
read_fault_turn c d s put left left' rf rf' wf ws runs act is same rose never =
    let rest : seen d put left' rf' wf ws ≡ seen c put left rf' wf ws = ap (λ x. seen x put left' rf' wf ws) is ∙ ap (λ o. seen c put o rf' wf ws) same in
    (record { log = []; middle = seen c put left rf wf ws; retiring = still (seen c put left rf wf ws); ends = (record { runs = runs; asks = ap is_get act; rose = rose; never_falls = never; rest = rest }, lit< tt) }, tt)

-- a machine that stopped or trapped before
pub stopped_turn : (c : Counted) (end : Halt) (o : Outcome) (put left : Option (List ℕ)) (rf wf : ℕ) (ws : List Watch) → c.machine.status ≡ Stopped end → o ≡ outcome_of end → Turned (seen c put left rf wf ws) (Some o) (seen c put left rf wf ws)
stopped_turn c end o put left rf wf ws e tells = subst (λ x. Turned (seen c put left rf wf ws) (Some x) (seen c put left rf wf ws)) (sym tells) (by_end end e)
  where
    by_end : (h : Halt) → c.machine.status ≡ Stopped h → Turned (seen c put left rf wf ws) (Some (outcome_of h)) (seen c put left rf wf ws)
    by_end Ended e = (record { log = []; middle = seen c put left rf wf ws; retiring = still (seen c put left rf wf ws); ends = (refl, e, lit≤ tt) }, tt)
    by_end (Raised at n) e = (record { log = []; middle = seen c put left rf wf ws; retiring = still (seen c put left rf wf ws); ends = (refl, e, lit≤ tt) }, tt)
    by_end RoomUsed e = (record { log = []; middle = seen c put left rf wf ws; retiring = still (seen c put left rf wf ws); ends = (refl, e, lit≤ tt) }, tt)

pub trapped_turn : (c : Counted) (cause : Cause) (pc : ℕ) (put left : Option (List ℕ)) (rf wf : ℕ) (ws : List Watch) → c.machine.status ≡ Trapped cause pc → Turned (seen c put left rf wf ws) (Some (outcome.Trap cause pc)) (seen c put left rf wf ws)
trapped_turn c cause pc put left rf wf ws e = (record { log = []; middle = seen c put left rf wf ws; retiring = still (seen c put left rf wf ws); ends = (e, inl (refl, refl)) }, tt)
