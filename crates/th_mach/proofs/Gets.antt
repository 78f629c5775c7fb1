-- The one instruction that asks for a byte.
use Rattle.std.proofs.Common.{◌≡◌, ℕ, ◌%◌, List, Option, Some, None, Bool, true, false, cond, nat_eq, nat_le, refl, sym, ◌∙◌, subst, ⊎_elim}
use Rattle.std.proofs.lemmas.Bool.{cases_eq, ne_eqb, eqb-true, false≢true}
use Rattle.th_rv.specs.declared.instr.Instr.{Instr}
use Rattle.th_rv.specs.declared.instr.Instr.TheVariants.{Jal, Jalr, Beq, Bne, Blt, Bge, Bltu, Bgeu, Lb, Lh, Lw, Lbu, Lhu, Sb, Sh, Sw, Ecall}
use Rattle.th_rv.specs.declared.instr.Cause.TheVariants as cause
use Rattle.th_rv.specs.Memory.{number_at, bytes_at}
use Rattle.th_rv.specs.Table.{decode}
use Rattle.th_rv.specs.Step.{State, Act, Next, Gets, Halts, Traps, Ended, RoomUsed, reg, with_reg, address, whole, jumped, jump, branch, load, into_reg, store, into_memory, raise, raise_named, environment_call, execute, execute_found, execute_word, step}
use Rattle.th_word.specs.Word.{extend_8, extend_16}
use Rattle.th_mach.specs.Counted.{is_get}

-- a choice of two acts neither of which asks
choice : (b : Bool) (x y : Act) → is_get x ≡ false → is_get y ≡ false → is_get (cond b x y) ≡ false
choice true x y hx hy = hx
choice false x y hx hy = hy

jump_get : (to : ℕ) (s : State) (rd v : ℕ) → is_get (jump to s rd v) ≡ false
jump_get to s rd v = choice (nat_eq (to % 4) 0) (Next (jumped s rd v to)) (Traps cause.Jump) refl refl

branch_get : (test : Bool) (s : State) (imm : ℕ) → is_get (branch test s imm) ≡ false
branch_get true s imm = jump_get _ s 0 0
branch_get false s imm = refl

into_reg_get : (o : Option ℕ) (extend : ℕ → ℕ) (s : State) (rd : ℕ) → is_get (into_reg o extend s rd) ≡ false
into_reg_get None extend s rd = refl
into_reg_get (Some v) extend s rd = refl

load_get : (n : ℕ) (extend : ℕ → ℕ) (s : State) (rd a : ℕ) → is_get (load n extend s rd a) ≡ false
load_get n extend s rd a = choice (nat_eq (a % n) 0) (into_reg (number_at n 4 s.areas a) extend s rd) (Traps cause.Misaligned) (into_reg_get (number_at n 4 s.areas a) extend s rd) refl

into_memory_get : (o : Option ℕ) (n : ℕ) (s : State) (a v : ℕ) → is_get (into_memory o n s a v) ≡ false
into_memory_get None n s a v = refl
into_memory_get (Some old) n s a v = refl

store_get : (n : ℕ) (s : State) (a v : ℕ) → is_get (store n s a v) ≡ false
store_get n s a v = choice (nat_eq (a % n) 0) (into_memory (number_at n 2 s.areas a) n s a v) (Traps cause.Misaligned) (into_memory_get (number_at n 2 s.areas a) n s a v) refl

raise_named_get : (o : Option (List ℕ)) (s : State) → is_get (raise_named o s) ≡ false
raise_named_get None s = refl
raise_named_get (Some name) s = refl

raise_get : (s : State) → is_get (raise s) ≡ false
raise_get s = choice (nat_le (reg s.regs 11) 129) (raise_named (bytes_at (reg s.regs 11) s.areas (reg s.regs 10)) s) (Traps cause.Ecall) (raise_named_get (bytes_at (reg s.regs 11) s.areas (reg s.regs 10)) s) refl

-- a call for a byte or another act that doesn't ask
get_or_other : (b : Bool) (s : State) (y : Act) → is_get y ≡ false → is_get (cond b (Gets s) y) ≡ b
get_or_other true s y h = refl
get_or_other false s y h = h

-- an environment call that doesn't put a byte
later_call : ℕ → State → Act
later_call a7 s = cond (nat_eq a7 3) (Halts Ended (with_reg s 0 0)) (cond (nat_eq a7 4) (raise s) (cond (nat_eq a7 5) (Halts RoomUsed (with_reg s 0 0)) (Traps cause.Ecall)))

later_call_get : (a7 : ℕ) (s : State) → is_get (later_call a7 s) ≡ false
unfolding later_call
later_call_get a7 s =
    choice (nat_eq a7 3) (Halts Ended (with_reg s 0 0)) (cond (nat_eq a7 4) (raise s) (cond (nat_eq a7 5) (Halts RoomUsed (with_reg s 0 0)) (Traps cause.Ecall))) refl
    (choice (nat_eq a7 4) (raise s) (cond (nat_eq a7 5) (Halts RoomUsed (with_reg s 0 0)) (Traps cause.Ecall)) (raise_get s)
    (choice (nat_eq a7 5) (Halts RoomUsed (with_reg s 0 0)) (Traps cause.Ecall) refl refl))

-- an environment call asks for a byte where a7 is 2
call_get : (a7 : ℕ) (s : State) → is_get (environment_call a7 s) ≡ nat_eq a7 2
unfolding environment_call later_call
call_get a7 s = ⊎_elim one other (cases_eq a7 1)
  where
    one : a7 ≡ 1 → is_get (environment_call a7 s) ≡ nat_eq a7 2
    one e = let P : ℕ → Type 0 = λ n. is_get (environment_call n s) ≡ nat_eq n 2 in subst P (sym e) refl

    other : (a7 ≡ 1 → ⊥) → is_get (environment_call a7 s) ≡ nat_eq a7 2
    other ne = rw (ne_eqb a7 1 ne) (get_or_other (nat_eq a7 2) (with_reg s 0 0) (later_call a7 s) (later_call_get a7 s))

call_is : (a7 : ℕ) (s : State) → is_get (environment_call a7 s) ≡ true → environment_call a7 s ≡ Gets (with_reg s 0 0)
unfolding environment_call
call_is a7 s h =
    let e : a7 ≡ 2 = eqb-true a7 2 (sym (call_get a7 s) ∙ h) in
    let P : ℕ → Type 0 = λ n. environment_call n s ≡ Gets (with_reg s 0 0) in
    subst P (sym e) refl

-- ECALL asks for a byte where a7 is 2
pub ecall_get : (s : State) → is_get (execute Ecall s) ≡ nat_eq (reg s.regs 17) 2
unfolding execute
ecall_get s = call_get (reg s.regs 17) s

-- no other instruction does
pub other_get : (i : Instr) (s : State) → (i ≡ Ecall → ⊥) → is_get (execute i s) ≡ false
unfolding execute
other_get Ecall s ne = absurd (ne refl)
other_get (Jal rd imm) s ne = jump_get _ s rd _
other_get (Jalr rd rs1 imm) s ne = jump_get _ s rd _
other_get (Beq rs1 rs2 imm) s ne = branch_get _ s imm
other_get (Bne rs1 rs2 imm) s ne = branch_get _ s imm
other_get (Blt rs1 rs2 imm) s ne = branch_get _ s imm
other_get (Bge rs1 rs2 imm) s ne = branch_get _ s imm
other_get (Bltu rs1 rs2 imm) s ne = branch_get _ s imm
other_get (Bgeu rs1 rs2 imm) s ne = branch_get _ s imm
other_get (Lb rd rs1 imm) s ne = load_get 1 extend_8 s rd (address s rs1 imm)
other_get (Lh rd rs1 imm) s ne = load_get 2 extend_16 s rd (address s rs1 imm)
other_get (Lw rd rs1 imm) s ne = load_get 4 whole s rd (address s rs1 imm)
other_get (Lbu rd rs1 imm) s ne = load_get 1 whole s rd (address s rs1 imm)
other_get (Lhu rd rs1 imm) s ne = load_get 2 whole s rd (address s rs1 imm)
other_get (Sb rs1 rs2 imm) s ne = store_get 1 s (address s rs1 imm) (reg s.regs rs2)
other_get (Sh rs1 rs2 imm) s ne = store_get 2 s (address s rs1 imm) (reg s.regs rs2)
other_get (Sw rs1 rs2 imm) s ne = store_get 4 s (address s rs1 imm) (reg s.regs rs2)
other_get _ s ne = refl

execute_is : (i : Instr) (s : State) → is_get (execute i s) ≡ true → execute i s ≡ Gets (with_reg s 0 0)
unfolding execute
execute_is Ecall s h = call_is (reg s.regs 17) s h
execute_is i s h = absurd (false≢true (sym (other_get i s (λ e. cc)) ∙ h))

found_is : (o : Option Instr) (s : State) → is_get (execute_found o s) ≡ true → execute_found o s ≡ Gets (with_reg s 0 0)
found_is None s h = absurd (false≢true h)
found_is (Some i) s h = execute_is i s h

word_is : (o : Option ℕ) (s : State) → is_get (execute_word o s) ≡ true → execute_word o s ≡ Gets (with_reg s 0 0)
word_is None s h = absurd (false≢true h)
word_is (Some w) s h = found_is (decode w) s h

aligned_is : (b : Bool) (o : Option ℕ) (s : State) → is_get (cond b (execute_word o s) (Traps cause.Fetch)) ≡ true → cond b (execute_word o s) (Traps cause.Fetch) ≡ Gets (with_reg s 0 0)
aligned_is true o s h = word_is o s h
aligned_is false o s h = absurd (false≢true h)

-- an instruction that asks for a byte goes on at the next one
pub step_is : (s : State) → is_get (step s) ≡ true → step s ≡ Gets (with_reg s 0 0)
unfolding step
step_is s h = aligned_is (nat_eq (s.pc % 4) 0) (number_at 4 1 s.areas s.pc) s h
