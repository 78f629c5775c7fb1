-- A machine that raised has an exception's name in memory.
use Rattle.std.proofs.Common.{◌≡◌, ℕ, ◌*◌, ◌/◌, ◌%◌, ◌≤◌, List, [], ◌∷◌, length, Option, Some, None, Bool, nat_le, nat_eq, refl, sym, ap, subst, ◌∙◌, inl, inr}
use Rattle.std.proofs.lemmas.Bool.{cond_both, leb-true}
use Rattle.th_word.specs.Word.{word_add, extend_13, extend_21}
use Rattle.th_rv.specs.declared.instr.Instr.{Instr}
use Rattle.th_rv.specs.declared.instr.Instr.TheVariants.{Jal, Jalr, Beq, Bne, Blt, Bge, Bltu, Bgeu, Lb, Lh, Lw, Lbu, Lhu, Sb, Sh, Sw, Ecall}
use Rattle.th_rv.specs.Memory.{Area, number_at, bytes_at}
use Rattle.th_rv.specs.Table.{decode}
use Rattle.th_rv.specs.Step.{State, Halt, Ended, Raised, RoomUsed, Act, Next, Puts, Gets, Halts, Traps, reg, with_reg, jump, branch, address, into_reg, load, into_memory, store, raise_named, raise, environment_call, execute, execute_word, execute_found, step}
use Rattle.th_watch.specs.Watch.{Watch}
use Rattle.th_mach.specs.Counted.{Counted}
use Rattle.th_mach.specs.declared.answer.Outcome.{Outcome}
use Rattle.th_mach.specs.declared.answer.Outcome.TheVariants as outcome
use Rattle.th_mach.specs.Ran as mach
use Rattle.th_mach.specs.Ran.{Seen, seen, Ran}
use Rattle.th_top.specs.Built.{HasName, IsNamed}
use Rattle.th_world.specs.Event.{Event}
use Rattle.th_elf.specs.Run.{Machine, Running, Stopped, Retired, Retires, Leads, Got, running}

-- where an end is by an exception, the name is there
abbrev pub EndNamed : Halt → State → Type 0
EndNamed Ended s = Unit {0}
EndNamed (Raised at n) s = HasName s.areas at n
EndNamed RoomUsed s = Unit {0}

abbrev pub ActNamed : Act → Type 0
ActNamed (Next s) = Unit {0}
ActNamed (Puts b s) = Unit {0}
ActNamed (Gets s) = Unit {0}
ActNamed (Halts h s) = EndNamed h s
ActNamed (Traps c) = Unit {0}

jump_named : (to : ℕ) (s : State) (rd v : ℕ) → ActNamed (jump to s rd v)
jump_named to s rd v = cond_both (nat_eq (to % 4) 0) _ _ ActNamed (λ e. tt) (λ e. tt)

branch_named : (test : Bool) (s : State) (imm : ℕ) → ActNamed (branch test s imm)
branch_named test s imm = cond_both test _ _ ActNamed (λ e. jump_named (word_add s.pc (extend_13 imm)) s 0 0) (λ e. tt)

into_reg_named : (found : Option ℕ) (extend : ℕ → ℕ) (s : State) (rd : ℕ) → ActNamed (into_reg found extend s rd)
into_reg_named None extend s rd = tt
into_reg_named (Some v) extend s rd = tt

load_named : (n : ℕ) (extend : ℕ → ℕ) (s : State) (rd a : ℕ) → ActNamed (load n extend s rd a)
load_named n extend s rd a = cond_both (nat_eq (a % n) 0) _ _ ActNamed (λ e. into_reg_named (number_at n 4 s.areas a) extend s rd) (λ e. tt)

into_memory_named : (found : Option ℕ) (n : ℕ) (s : State) (a v : ℕ) → ActNamed (into_memory found n s a v)
into_memory_named None n s a v = tt
into_memory_named (Some old) n s a v = tt

store_named : (n : ℕ) (s : State) (a v : ℕ) → ActNamed (store n s a v)
store_named n s a v = cond_both (nat_eq (a % n) 0) _ _ ActNamed (λ e. into_memory_named (number_at n 2 s.areas a) n s a v) (λ e. tt)

raise_named_named : (name : Option (List ℕ)) (s : State) → reg s.regs 11 ≤ 129 → bytes_at (reg s.regs 11) s.areas (reg s.regs 10) ≡ name → ActNamed (raise_named name s)
unfolding with_reg
raise_named_named None s short there = tt
raise_named_named (Some name) s short there = record { short = short; name = name; there = there }

raise_named_act : (s : State) → ActNamed (raise s)
raise_named_act s = cond_both (nat_le (reg s.regs 11) 129) _ _ ActNamed (λ e. raise_named_named (bytes_at (reg s.regs 11) s.areas (reg s.regs 10)) s (leb-true _ _ e) refl) (λ e. tt)

environment_call_named : (a7 : ℕ) (s : State) → ActNamed (environment_call a7 s)
unfolding environment_call
environment_call_named a7 s =
    cond_both (nat_eq a7 1) _ _ ActNamed (λ e. tt) (λ e.
    cond_both (nat_eq a7 2) _ _ ActNamed (λ e. tt) (λ e.
    cond_both (nat_eq a7 3) _ _ ActNamed (λ e. tt) (λ e.
    cond_both (nat_eq a7 4) _ _ ActNamed (λ e. raise_named_act s) (λ e.
    cond_both (nat_eq a7 5) _ _ ActNamed (λ e. tt) (λ e. tt)))))

execute_named : (instr : Instr) (s : State) → ActNamed (execute instr s)
unfolding execute
execute_named (Jal rd imm) s = jump_named (word_add s.pc (extend_21 imm)) s rd (word_add s.pc 4)
execute_named (Jalr rd rs1 imm) s = jump_named (address s rs1 imm / 2 * 2) s rd (word_add s.pc 4)
execute_named (Beq rs1 rs2 imm) s = branch_named _ s imm
execute_named (Bne rs1 rs2 imm) s = branch_named _ s imm
execute_named (Blt rs1 rs2 imm) s = branch_named _ s imm
execute_named (Bge rs1 rs2 imm) s = branch_named _ s imm
execute_named (Bltu rs1 rs2 imm) s = branch_named _ s imm
execute_named (Bgeu rs1 rs2 imm) s = branch_named _ s imm
execute_named (Lb rd rs1 imm) s = load_named 1 _ s rd (address s rs1 imm)
execute_named (Lh rd rs1 imm) s = load_named 2 _ s rd (address s rs1 imm)
execute_named (Lw rd rs1 imm) s = load_named 4 _ s rd (address s rs1 imm)
execute_named (Lbu rd rs1 imm) s = load_named 1 _ s rd (address s rs1 imm)
execute_named (Lhu rd rs1 imm) s = load_named 2 _ s rd (address s rs1 imm)
execute_named (Sb rs1 rs2 imm) s = store_named 1 s (address s rs1 imm) (reg s.regs rs2)
execute_named (Sh rs1 rs2 imm) s = store_named 2 s (address s rs1 imm) (reg s.regs rs2)
execute_named (Sw rs1 rs2 imm) s = store_named 4 s (address s rs1 imm) (reg s.regs rs2)
execute_named Ecall s = environment_call_named (reg s.regs 17) s
execute_named _ s = tt

execute_found_named : (found : Option Instr) (s : State) → ActNamed (execute_found found s)
execute_found_named None s = tt
execute_found_named (Some instr) s = execute_named instr s

execute_word_named : (found : Option ℕ) (s : State) → ActNamed (execute_word found s)
execute_word_named None s = tt
execute_word_named (Some word) s = execute_found_named (decode word) s

-- where a step ends the run by an exception, its name is there
step_named : (s : State) → ActNamed (step s)
unfolding step
step_named s = cond_both (nat_eq (s.pc % 4) 0) _ _ ActNamed (λ e. execute_word_named (number_at 4 1 s.areas s.pc) s) (λ e. tt)

-- how a machine stands that a step led to, where it raised
unfoldable pub StopNamed : Machine → Type 0
StopNamed m = (at n : ℕ) → m.status ≡ Stopped (Raised at n) → HasName m.state.areas at n

running_named : (s : State) → StopNamed (running s)
unfolding StopNamed
running_named s = λ at n is. cc

got_named : (s : State) (did : Option Event) (m : Machine) → Got s did m → StopNamed m
unfolding StopNamed
got_named s did m (inl (b, below, took, is)) = λ at n stops. let no : Running ≡ Stopped (Raised at n) = sym (ap (λ (x : Machine). x.status) is) ∙ stops in cc
got_named s did m (inr (found, is)) = λ at n stops. let no : Running ≡ Stopped (Raised at n) = sym (ap (λ (x : Machine). x.status) is) ∙ stops in cc

one_halt : (h k : Halt) → Stopped h ≡ Stopped k → h ≡ k
one_halt h k e = ap (λ s. elim s [ Stopped x ↦ x | _ ↦ h ]) e

leads_named : (act : Act) (did : Option Event) (m : Machine) → ActNamed act → Leads act did m → StopNamed m
unfolding StopNamed
leads_named (Next s) did m named leads = λ at n stops. let no : Running ≡ Stopped (Raised at n) = sym (ap (λ (x : Machine). x.status) leads.1) ∙ stops in cc
leads_named (Puts b s) did m named leads = λ at n stops. let no : Running ≡ Stopped (Raised at n) = sym (ap (λ (x : Machine). x.status) leads.1) ∙ stops in cc
leads_named (Gets s) did m named leads = got_named s did m leads
leads_named (Halts h s) did m named leads = λ at n stops.
    let same : h ≡ Raised at n = one_halt h (Raised at n) (sym (ap (λ (x : Machine). x.status) leads.1) ∙ stops) in
    let P : Halt → Type 0 = λ k. EndNamed k s in
    let Q : List Area → Type 0 = λ areas. HasName areas at n in
    subst Q (sym (ap (λ (x : Machine). x.state.areas) leads.1)) (subst P same named)
leads_named (Traps c) did m named leads = absurd leads

-- a machine that ran and then raised has the exception's name
pub retires_named : (first : Machine) (log : List Retired) (last : Machine) (at n : ℕ) → first.status ≡ Running → Retires first log last → last.status ≡ Stopped (Raised at n) → HasName last.state.areas at n
unfolding StopNamed
retires_named first [] last at n runs same stops = let no : Running ≡ Stopped (Raised at n) = sym runs ∙ ap (λ (x : Machine). x.status) same ∙ stops in cc
retires_named first (e ∷ log) last at n runs (m, before, did) stops = leads_named (step m.state) e.did last (step_named m.state) did.leads at n stops

-- a run that raised left the exception's name in memory
pub named_by : (first : Machine) (log : List Retired) (middle later : Seen) (last : Counted) (n steps : ℕ) (o : Outcome) → first.status ≡ Running → Retires first log middle.machine
    → mach.Ends o n steps middle later → later.machine ≡ last.machine → IsNamed last o
named_by first log middle later last n steps (outcome.Raised at k) runs retires ends same =
    let P : Machine → Type 0 = λ m. HasName m.state.areas at k in
    subst P (sym (ap (λ (s : Seen). s.machine) ends.0) ∙ same) (retires_named first log middle.machine at k runs retires ends.1)
named_by first log middle later last n steps outcome.Ended runs retires ends same = tt
named_by first log middle later last n steps outcome.RoomUsed runs retires ends same = tt
named_by first log middle later last n steps outcome.StepsUsed runs retires ends same = tt
named_by first log middle later last n steps (outcome.Trap cause pc) runs retires ends same = tt
named_by first log middle later last n steps outcome.ReadFault runs retires ends same = tt
named_by first log middle later last n steps outcome.WriteFault runs retires ends same = tt

pub named : (steps : ℕ) (first last : Counted) (put left : Option (List ℕ)) (rf wf : ℕ) (ws : List Watch) (o : Outcome) (put1 left1 : Option (List ℕ)) (rf1 wf1 : ℕ) (ws1 : List Watch) → first.machine.status ≡ Running
    → Ran steps (seen first put left rf wf ws) o (seen last put1 left1 rf1 wf1 ws1) → IsNamed last o
named steps first last put left rf wf ws o put1 left1 rf1 wf1 ws1 runs r = named_by first.machine r.log r.middle _ last (length r.log) steps o runs r.retiring.retires r.ends refl
