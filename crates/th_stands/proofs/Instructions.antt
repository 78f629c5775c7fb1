-- What each instruction does to a machine as it is seen.
use Rattle.std.proofs.Common.{◌≡◌, ◌≢◌, ℕ, zero, suc, ◌+◌, ◌*◌, ◌/◌, ◌%◌, ◌<◌, ◌≤◌, List, [], ◌∷◌, ◌++◌, length, get_or-set_same, get_or-set_other, Some, None, Bool, true, false, cond, nat_lt, nat_eq, refl, sym, ap, ◌∙◌, subst, ◌⊎◌, inl, inr, ⊎_elim, arith, lit<}
use Rattle.std.specs.Prelude.{slice_set}
use Rattle.std.proofs.Math.ListN.{length-set}
use Rattle.std.proofs.Math.Nat.{div-le_self, mod-le}
use Rattle.std.proofs.lemmas.Bool.{cond_both, cases_eq, cases_lt, eq-eqb, ne_eqb, lt-ltb, le-ltb}
use Rattle.th_world.specs.Event.{Event, Put, Took, FoundEnd}
use Rattle.th_word.specs.Word.{word_add, word_sub, signed_less, flag_word, extend_12, extend_13, extend_21, shift_right_signed, multiply, multiply_high, divide, remainder}
use Rattle.th_word.proofs.Words.{divide-word, remainder-word}
use Rattle.th_rv.specs.declared.instr.Instr.{Instr}
use Rattle.th_rv.specs.declared.instr.Instr.TheVariants.{Lui, Auipc, Jal, Jalr, Beq, Bne, Bge, Lw, Sw, Addi, Slti, Sltiu, Srai, Add, Sub, Slt, Sltu, Mul, Mulh, Div, Divu, Rem, Remu, Bltu, Bgeu, Ecall}
use Rattle.th_rv.specs.declared.instr.Cause.TheVariants as cause
use Rattle.th_rv.specs.Memory.{number_at, put_number}
use Rattle.th_rv.specs.Table.{decode}
use Rattle.th_rv.specs.Step.{State, Next, Puts, Gets, Halts, Traps, RoomUsed, reg, set_reg, with_reg, with_number, jumped, execute, execute_found, execute_word, environment_call, step}
use Rattle.th_elf.specs.Run.{Run, Stopped, run_step, after, after_get, while_running, with_a0, no_byte, entry_of, trace}
use Rattle.th_stands.specs.Seen.{word_address, Seen, Loaded, Shows, Sees}
use Rattle.th_stands.proofs.Memory.{number_other, word_same, number_stays}

-- a function with one value changed
abbrev pub upd : (ℕ → ℕ) → ℕ → ℕ → ℕ → ℕ
upd f k v j = cond (nat_eq j k) v (f j)

-- registers with one written; register 0 isn't written
abbrev pub wr : (ℕ → ℕ) → ℕ → ℕ → ℕ → ℕ
wr f k v j = cond (nat_eq k 0) (f j) (cond (nat_eq j k) v (f j))

pub wr_same : (f : ℕ → ℕ) (k v : ℕ) → 0 < k → wr f k v k ≡ v
wr_same f k v lt = let e0 : nat_eq k 0 ≡ false = ne_eqb k 0 (omega arith) in let e1 : nat_eq k k ≡ true = eq-eqb k k refl in rw (e0, e1)

pub wr_other : (f : ℕ → ℕ) (k v j : ℕ) → (j ≡ k → ⊥) → wr f k v j ≡ f j
wr_other f k v j ne = let e1 : nat_eq j k ≡ false = ne_eqb j k ne in rw e1 (cond_both (nat_eq k 0) (f j) (f j) (λ x. x ≡ f j) (λ _. refl) (λ _. refl))

pub upd_other : (f : ℕ → ℕ) (i x j : ℕ) → (j ≡ i → ⊥) → upd f i x j ≡ f j
upd_other f i x j ne = let e : nat_eq j i ≡ false = ne_eqb j i ne in rw e

pub upd_same : (f : ℕ → ℕ) (i x : ℕ) → upd f i x i ≡ x
upd_same f i x = let e : nat_eq i i ≡ true = eq-eqb i i refl in rw e

-- a register written, and on
abbrev pub seen_reg : Seen → ℕ → ℕ → Seen
seen_reg s rd x = record { pc = s.pc + 4; rf = wr s.rf rd x; wf = s.wf; input = s.input; trace = s.trace }

-- a word of the region stored, and on
abbrev pub seen_store : Seen → ℕ → ℕ → Seen
seen_store s i x = record { pc = s.pc + 4; rf = s.rf; wf = upd s.wf i x; input = s.input; trace = s.trace }

-- a jump, with a register written
abbrev pub seen_jump : Seen → ℕ → ℕ → ℕ → Seen
seen_jump s rd x to = record { pc = to; rf = wr s.rf rd x; wf = s.wf; input = s.input; trace = s.trace }

-- an event
abbrev pub seen_event : Seen → Event → Seen
seen_event s e = record { pc = s.pc; rf = s.rf; wf = s.wf; input = s.input; trace = e ∷ s.trace }

-- a byte put
abbrev pub seen_put : Seen → ℕ → Seen
seen_put s b = seen_event (seen_reg s 0 0) (Put b)

-- a byte taken, or the end of the input found
abbrev pub seen_get : List ℕ → Seen → Seen
seen_get [] s = record { pc = s.pc + 4; rf = wr s.rf 10 no_byte; wf = s.wf; input = []; trace = FoundEnd ∷ s.trace }
seen_get (b ∷ bs) s = record { pc = s.pc + 4; rf = wr s.rf 10 b; wf = s.wf; input = bs; trace = Took b ∷ s.trace }

-- an instruction stands at a place of the image that enters no unit
pub record At (g : Loaded) (pc : ℕ) (i : Instr) : Type 0 where
  pub word : ℕ
  pub fetched : number_at 4 1 g.areas pc ≡ Some word
  pub decoded : decode word ≡ Some i
  pub aligned : pc % 4 ≡ 0
  pub below : pc + 4 ≤ 268435456
  pub unnamed : g.names pc ≡ None

pub next_pc : (a pc : ℕ) → a ≡ pc → pc + 4 ≤ 268435456 → word_add a 4 ≡ pc + 4
next_pc a pc e h = omega arith

reg_other : (l : List ℕ) (i x k : ℕ) → k ≢ i → reg (slice_set l i x) k ≡ reg l k
reg_other l i x zero ne = refl
reg_other l i x (suc k) ne = get_or-set_other l i (suc k) x 0 ne

reg-set : (l : List ℕ) (rd x : ℕ) (rf : ℕ → ℕ) → rd < 32 → length l ≡ 32 → ((k : ℕ) → k < 32 → reg l k ≡ rf k) → (k : ℕ) → k < 32 → reg (set_reg l rd x) k ≡ wr rf rd x k
reg-set l zero x rf lt n h k lk = h k lk
reg-set l (suc d) x rf lt n h k lk = ⊎_elim same other (cases_eq k (suc d))
  where
    same : k ≡ suc d → reg (slice_set l (suc d) x) k ≡ wr rf (suc d) x k
    same e =
        let one : reg (slice_set l (suc d) x) (suc d) ≡ x = get_or-set_same l (suc d) x 0 (omega arith) in
        subst (λ m. reg (slice_set l (suc d) x) m ≡ wr rf (suc d) x m) (sym e) (one ∙ sym (wr_same rf (suc d) x (omega arith)))

    other : (k ≡ suc d → ⊥) → reg (slice_set l (suc d) x) k ≡ wr rf (suc d) x k
    other ne = reg_other l (suc d) x k ne ∙ h k lk ∙ sym (wr_other rf (suc d) x k ne)

small-set : (rf : ℕ → ℕ) (rd x : ℕ) → x < 4294967296 → ((k : ℕ) → k < 32 → rf k < 4294967296) → (k : ℕ) → k < 32 → wr rf rd x k < 4294967296
small-set rf rd x lt h k lk = cond_both (nat_eq rd 0) (rf k) (cond (nat_eq k rd) x (rf k)) (λ n. n < 4294967296) (λ e. h k lk) (λ e. cond_both (nat_eq k rd) x (rf k) (λ n. n < 4294967296) (λ e2. lt) (λ e2. h k lk))

zero-set : (rf : ℕ → ℕ) (rd x : ℕ) → rf 0 ≡ 0 → wr rf rd x 0 ≡ 0
zero-set rf zero x h = h
zero-set rf (suc d) x h = wr_other rf (suc d) x 0 (omega arith) ∙ h

length-set_reg : (l : List ℕ) (rd x : ℕ) → length (set_reg l rd x) ≡ length l
length-set_reg l zero x = refl
length-set_reg l (suc d) x = length-set {A = ℕ} l (suc d) x

small-upd : (n : ℕ) (wf : ℕ → ℕ) (i x : ℕ) → x < 4294967296 → ((j : ℕ) → j < n → wf j < 4294967296) → (j : ℕ) → j < n → upd wf i x j < 4294967296
small-upd n wf i x lt h j lj = cond_both (nat_eq j i) x (wf j) (λ n. n < 4294967296) (λ e. lt) (λ e. h j lj)

pub shows_reg : (g : Loaded) (m : State) (s : Seen) → Shows g m s → s.pc + 4 ≤ 268435456 → (rd x : ℕ) → rd < 32 → x < 4294967296 → Shows g (with_reg m rd x) (seen_reg s rd x)
unfolding with_reg
shows_reg g m s v below rd x lt tiny = record {
  pc_is = next_pc m.pc s.pc v.pc_is below;
  has_32 = length-set_reg m.regs rd x ∙ v.has_32;
  reg_is = reg-set m.regs rd x s.rf lt v.has_32 v.reg_is;
  loads = v.loads;
  stores = v.stores;
  code_stays = v.code_stays;
  small = small-set s.rf rd x tiny v.small;
  small_words = v.small_words;
  zero_is = zero-set s.rf rd x v.zero_is;
}

shows_jump : (g : Loaded) (m : State) (s : Seen) → Shows g m s → (rd x to : ℕ) → rd < 32 → x < 4294967296 → Shows g (jumped m rd x to) (seen_jump s rd x to)
unfolding jumped
shows_jump g m s v rd x to lt tiny = record {
  pc_is = refl;
  has_32 = length-set_reg m.regs rd x ∙ v.has_32;
  reg_is = reg-set m.regs rd x s.rf lt v.has_32 v.reg_is;
  loads = v.loads;
  stores = v.stores;
  code_stays = v.code_stays;
  small = small-set s.rf rd x tiny v.small;
  small_words = v.small_words;
  zero_is = zero-set s.rf rd x v.zero_is;
}

apart : (m i : ℕ) → (m ≡ i → ⊥) → (word_address m + 4 ≤ word_address i) ⊎ (word_address i + 4 ≤ word_address m)
apart m i ne = ⊎_elim (λ l. inl (omega arith)) (λ l. inr (omega arith)) (cases_lt m i)

loads_after : (g : Loaded) (m : State) (s : Seen) → Shows g m s → (i x : ℕ) → i < g.size → x < 4294967296 → (j : ℕ) → j < g.size → number_at 4 4 (put_number 4 m.areas (word_address i) x) (word_address j) ≡ Some (upd s.wf i x j)
loads_after g m s v i x lt small j l = ⊎_elim same other (cases_eq j i)
  where
    same : j ≡ i → number_at 4 4 (put_number 4 m.areas (word_address i) x) (word_address j) ≡ Some (upd s.wf i x j)
    same q = subst (λ k. number_at 4 4 (put_number 4 m.areas (word_address i) x) (word_address k) ≡ Some (upd s.wf i x k)) (sym q) (word_same 4 m.areas (word_address i) x (s.wf i) small (v.loads i lt) ∙ ap Some (sym (upd_same s.wf i x)))

    other : (j ≡ i → ⊥) → number_at 4 4 (put_number 4 m.areas (word_address i) x) (word_address j) ≡ Some (upd s.wf i x j)
    other q = number_other 4 4 4 m.areas (word_address i) x (word_address j) (apart j i q) ∙ v.loads j l ∙ ap Some (sym (upd_other s.wf i x j q))

shows_store : (g : Loaded) (m : State) (s : Seen) → Shows g m s → s.pc + 4 ≤ 268435456 → (i x : ℕ) → i < g.size → x < 4294967296 → Shows g (with_number 4 m (word_address i) x) (seen_store s i x)
unfolding with_number
shows_store g m s v below i x lt small = record {
  pc_is = next_pc m.pc s.pc v.pc_is below;
  has_32 = v.has_32;
  reg_is = v.reg_is;
  loads = loads_after g m s v i x lt small;
  stores = λ j l. let y = v.stores j l in number_stays 4 4 2 m.areas (word_address i) x (word_address j) y.0 y.1;
  code_stays = λ flag a low. number_other 4 4 flag m.areas (word_address i) x a (inl (omega arith)) ∙ v.code_stays flag a low;
  small = v.small;
  small_words = small-upd g.size s.wf i x small v.small_words;
  zero_is = v.zero_is;
}

fetched_at : (g : Loaded) (m : State) (s : Seen) → Shows g m s → (i : Instr) (h : At g s.pc i) → number_at 4 1 m.areas m.pc ≡ Some h.word
fetched_at g m s v i h = ap (number_at 4 1 m.areas) v.pc_is ∙ v.code_stays 1 s.pc h.below ∙ h.fetched

pub executed : (g : Loaded) (m : State) (s : Seen) → Shows g m s → (i : Instr) → At g s.pc i → step m ≡ execute i m
unfolding step
executed g m s v i h =
    let e0 : nat_eq (m.pc % 4) 0 ≡ true = eq-eqb (m.pc % 4) 0 (ap (λ x. x % 4) v.pc_is ∙ h.aligned) in
    ap (λ x. cond x (execute_word (number_at 4 1 m.areas m.pc) m) (Traps cause.Fetch)) e0
    ∙ ap (λ x. execute_word x m) (fetched_at g m s v i h) ∙ ap (λ x. execute_found x m) h.decoded

stepped : (g : Loaded) (r : Run) (s : Seen) → Sees g r s → (i : Instr) → At g s.pc i → run_step r ≡ after r (execute i r.state)
unfolding run_step
stepped g r s v i h = ap (λ x. while_running x (after r (step r.state)) r) v.goes ∙ ap (after r) (executed g r.state s v.shows i h)

-- no unit is entered
silent : (g : Loaded) (r : Run) (s : Seen) → Sees g r s → (i : Instr) → At g s.pc i → entry_of (g.names r.state.pc) ++ trace g.names r.log ≡ s.trace
silent g r s v i h = ap (λ p. entry_of (g.names p) ++ trace g.names r.log) v.shows.pc_is ∙ ap (λ o. entry_of o ++ trace g.names r.log) h.unnamed ∙ v.trace_is

view_next : (g : Loaded) (r : Run) (s : Seen) → Sees g r s → (i : Instr) → At g s.pc i → (m2 : State) (s2 : Seen) → execute i r.state ≡ Next m2 → Shows g m2 s2 → s2.input ≡ s.input → s2.trace ≡ s.trace → Sees g (run_step r) s2
view_next g r s v i h m2 s2 e shows input tr =
    let is : run_step r ≡ after r (Next m2) = stepped g r s v i h ∙ ap (after r) e in
    rw is (record { shows = shows; goes = refl; input_is = v.input_is ∙ sym input; trace_is = silent g r s v i h ∙ sym tr })

a0_reg : (m : State) (x : ℕ) → with_a0 (with_reg m 0 0) x ≡ with_reg m 10 x
unfolding with_a0 with_reg
a0_reg m x = refl

module _ {g : Loaded} {r : Run} {s : Seen} (v : Sees g r s) where
  view_reg : (i : Instr) (h : At g s.pc i) (rd x : ℕ) → rd < 32 → x < 4294967296 → execute i r.state ≡ Next (with_reg r.state rd x) → Sees g (run_step r) (seen_reg s rd x)
  view_reg i h rd x lt tiny e = view_next g r s v i h _ (seen_reg s rd x) e (shows_reg g r.state s v.shows h.below rd x lt tiny) refl refl

  view_jump : (i : Instr) (h : At g s.pc i) (rd x to : ℕ) → rd < 32 → x < 4294967296 → execute i r.state ≡ Next (jumped r.state rd x to) → Sees g (run_step r) (seen_jump s rd x to)
  view_jump i h rd x to lt tiny e = view_next g r s v i h _ (seen_jump s rd x to) e (shows_jump g r.state s v.shows rd x to lt tiny) refl refl

  reg_is : (k : ℕ) → k < 32 → reg r.state.regs k ≡ s.rf k
  reg_is = v.shows.reg_is

  flag_small : (b : Bool) → flag_word b < 4294967296
  flag_small true = omega arith
  flag_small false = omega arith

  pub do_addi : (rd rs1 imm : ℕ) → At g s.pc (Addi rd rs1 imm) → rd < 32 → rs1 < 32 → Sees g (run_step r) (seen_reg s rd (word_add (s.rf rs1) (extend_12 imm)))
  unfolding execute
  do_addi rd rs1 imm h l1 l2 = view_reg (Addi rd rs1 imm) h rd _ l1 (omega arith) (ap (λ x. Next (with_reg r.state rd (word_add x (extend_12 imm)))) (reg_is rs1 l2))

  pub do_lui : (rd imm : ℕ) → At g s.pc (Lui rd imm) → rd < 32 → imm < 1048576 → Sees g (run_step r) (seen_reg s rd (imm * 4096))
  unfolding execute
  do_lui rd imm h l1 l2 = view_reg (Lui rd imm) h rd _ l1 (omega arith) refl

  pub do_auipc : (rd imm : ℕ) → At g s.pc (Auipc rd imm) → rd < 32 → Sees g (run_step r) (seen_reg s rd (word_add s.pc (imm * 4096)))
  unfolding execute
  do_auipc rd imm h l1 = view_reg (Auipc rd imm) h rd _ l1 (omega arith) (ap (λ x. Next (with_reg r.state rd (word_add x (imm * 4096)))) v.shows.pc_is)

  pub do_add : (rd rs1 rs2 : ℕ) → At g s.pc (Add rd rs1 rs2) → rd < 32 → rs1 < 32 → rs2 < 32 → Sees g (run_step r) (seen_reg s rd (word_add (s.rf rs1) (s.rf rs2)))
  unfolding execute
  do_add rd rs1 rs2 h l1 l2 l3 = view_reg (Add rd rs1 rs2) h rd _ l1 (omega arith) (rw (reg_is rs1 l2, reg_is rs2 l3) refl)

  pub do_mul : (rd rs1 rs2 : ℕ) → At g s.pc (Mul rd rs1 rs2) → rd < 32 → rs1 < 32 → rs2 < 32 → Sees g (run_step r) (seen_reg s rd (multiply (s.rf rs1) (s.rf rs2)))
  unfolding execute
  do_mul rd rs1 rs2 h l1 l2 l3 = view_reg (Mul rd rs1 rs2) h rd _ l1 (omega arith) (rw (reg_is rs1 l2, reg_is rs2 l3) refl)

  pub do_mulh : (rd rs1 rs2 : ℕ) → At g s.pc (Mulh rd rs1 rs2) → rd < 32 → rs1 < 32 → rs2 < 32 → Sees g (run_step r) (seen_reg s rd (multiply_high (s.rf rs1) (s.rf rs2)))
  unfolding execute
  do_mulh rd rs1 rs2 h l1 l2 l3 = view_reg (Mulh rd rs1 rs2) h rd _ l1 (omega arith) (rw (reg_is rs1 l2, reg_is rs2 l3) refl)

  pub do_srai : (rd rs1 amount : ℕ) → At g s.pc (Srai rd rs1 amount) → rd < 32 → rs1 < 32 → Sees g (run_step r) (seen_reg s rd (shift_right_signed (s.rf rs1) amount))
  unfolding execute
  do_srai rd rs1 amount h l1 l2 = view_reg (Srai rd rs1 amount) h rd _ l1 (omega arith) (rw (reg_is rs1 l2) refl)

  pub do_div : (rd rs1 rs2 : ℕ) → At g s.pc (Div rd rs1 rs2) → rd < 32 → rs1 < 32 → rs2 < 32 → Sees g (run_step r) (seen_reg s rd (divide (s.rf rs1) (s.rf rs2)))
  unfolding execute
  do_div rd rs1 rs2 h l1 l2 l3 = view_reg (Div rd rs1 rs2) h rd _ l1 (divide-word (s.rf rs1) (s.rf rs2) (v.shows.small rs1 l2)) (rw (reg_is rs1 l2, reg_is rs2 l3) refl)

  pub do_rem : (rd rs1 rs2 : ℕ) → At g s.pc (Rem rd rs1 rs2) → rd < 32 → rs1 < 32 → rs2 < 32 → Sees g (run_step r) (seen_reg s rd (remainder (s.rf rs1) (s.rf rs2)))
  unfolding execute
  do_rem rd rs1 rs2 h l1 l2 l3 = view_reg (Rem rd rs1 rs2) h rd _ l1 (remainder-word (s.rf rs1) (s.rf rs2) (v.shows.small rs1 l2)) (rw (reg_is rs1 l2, reg_is rs2 l3) refl)

  pub do_sub : (rd rs1 rs2 : ℕ) → At g s.pc (Sub rd rs1 rs2) → rd < 32 → rs1 < 32 → rs2 < 32 → Sees g (run_step r) (seen_reg s rd (word_sub (s.rf rs1) (s.rf rs2)))
  unfolding execute
  do_sub rd rs1 rs2 h l1 l2 l3 = view_reg (Sub rd rs1 rs2) h rd _ l1 (omega arith) (rw (reg_is rs1 l2, reg_is rs2 l3) refl)

  pub do_slt : (rd rs1 rs2 : ℕ) → At g s.pc (Slt rd rs1 rs2) → rd < 32 → rs1 < 32 → rs2 < 32 → Sees g (run_step r) (seen_reg s rd (flag_word (signed_less (s.rf rs1) (s.rf rs2))))
  unfolding execute
  do_slt rd rs1 rs2 h l1 l2 l3 = view_reg (Slt rd rs1 rs2) h rd _ l1 (flag_small (signed_less (s.rf rs1) (s.rf rs2))) (rw (reg_is rs1 l2, reg_is rs2 l3) refl)

  pub do_sltu : (rd rs1 rs2 : ℕ) → At g s.pc (Sltu rd rs1 rs2) → rd < 32 → rs1 < 32 → rs2 < 32 → Sees g (run_step r) (seen_reg s rd (flag_word (nat_lt (s.rf rs1) (s.rf rs2))))
  unfolding execute
  do_sltu rd rs1 rs2 h l1 l2 l3 = view_reg (Sltu rd rs1 rs2) h rd _ l1 (flag_small (nat_lt (s.rf rs1) (s.rf rs2))) (rw (reg_is rs1 l2, reg_is rs2 l3) refl)

  pub do_slti : (rd rs1 imm : ℕ) → At g s.pc (Slti rd rs1 imm) → rd < 32 → rs1 < 32 → Sees g (run_step r) (seen_reg s rd (flag_word (signed_less (s.rf rs1) (extend_12 imm))))
  unfolding execute
  do_slti rd rs1 imm h l1 l2 = view_reg (Slti rd rs1 imm) h rd _ l1 (flag_small (signed_less (s.rf rs1) (extend_12 imm))) (rw (reg_is rs1 l2) refl)

  pub do_sltiu : (rd rs1 imm : ℕ) → At g s.pc (Sltiu rd rs1 imm) → rd < 32 → rs1 < 32 → Sees g (run_step r) (seen_reg s rd (flag_word (nat_lt (s.rf rs1) (extend_12 imm))))
  unfolding execute
  do_sltiu rd rs1 imm h l1 l2 = view_reg (Sltiu rd rs1 imm) h rd _ l1 (flag_small (nat_lt (s.rf rs1) (extend_12 imm))) (rw (reg_is rs1 l2) refl)

  -- a load of a word of the region
  pub do_lw : (rd rs1 imm i : ℕ) → At g s.pc (Lw rd rs1 imm) → rd < 32 → rs1 < 32 → i < g.size → word_add (s.rf rs1) (extend_12 imm) ≡ word_address i → Sees g (run_step r) (seen_reg s rd (s.wf i))
  unfolding execute
  do_lw rd rs1 imm i h l1 l2 l3 e =
      let e1 : word_add (reg r.state.regs rs1) (extend_12 imm) ≡ word_address i = ap (λ x. word_add x (extend_12 imm)) (reg_is rs1 l2) ∙ e in
      let e2 : nat_eq (word_address i % 4) 0 ≡ true = eq-eqb (word_address i % 4) 0 (omega arith) in
      view_reg (Lw rd rs1 imm) h rd _ l1 (v.shows.small_words i l3) (rw (e1, e2, v.shows.loads i l3) refl)

  -- a load of a word of the image
  pub do_lw_image : (rd rs1 imm a x : ℕ) → At g s.pc (Lw rd rs1 imm) → rd < 32 → rs1 < 32 → a + 4 ≤ 268435456 → a % 4 ≡ 0 → number_at 4 4 g.areas a ≡ Some x → x < 4294967296 → word_add (s.rf rs1) (extend_12 imm) ≡ a → Sees g (run_step r) (seen_reg s rd x)
  unfolding execute
  do_lw_image rd rs1 imm a x h l1 l2 l3 l4 w tiny e =
      let e1 : word_add (reg r.state.regs rs1) (extend_12 imm) ≡ a = ap (λ y. word_add y (extend_12 imm)) (reg_is rs1 l2) ∙ e in
      let e2 : nat_eq (a % 4) 0 ≡ true = eq-eqb (a % 4) 0 l4 in
      view_reg (Lw rd rs1 imm) h rd _ l1 tiny (rw (e1, e2, v.shows.code_stays 4 a l3, w) refl)

  pub do_sw : (rs1 rs2 imm i : ℕ) → At g s.pc (Sw rs1 rs2 imm) → rs1 < 32 → rs2 < 32 → i < g.size → word_add (s.rf rs1) (extend_12 imm) ≡ word_address i → Sees g (run_step r) (seen_store s i (s.rf rs2))
  unfolding execute
  do_sw rs1 rs2 imm i h l1 l2 l3 e =
      let e1 : word_add (reg r.state.regs rs1) (extend_12 imm) ≡ word_address i = ap (λ x. word_add x (extend_12 imm)) (reg_is rs1 l1) ∙ e in
      let e2 : nat_eq (word_address i % 4) 0 ≡ true = eq-eqb (word_address i % 4) 0 (omega arith) in
      let e3 : execute (Sw rs1 rs2 imm) r.state ≡ Next (with_number 4 r.state (word_address i) (s.rf rs2)) = rw (e1, e2, (v.shows.stores i l3).1, reg_is rs2 l2) refl in
      view_next g r s v (Sw rs1 rs2 imm) h _ (seen_store s i (s.rf rs2)) e3 (shows_store g r.state s v.shows h.below i (s.rf rs2) l3 (v.shows.small rs2 l2)) refl refl

  pub do_jal : (rd imm to : ℕ) → At g s.pc (Jal rd imm) → rd < 32 → word_add s.pc (extend_21 imm) ≡ to → to % 4 ≡ 0 → Sees g (run_step r) (seen_jump s rd (s.pc + 4) to)
  unfolding execute
  do_jal rd imm to h l1 e al =
      let e1 : word_add r.state.pc (extend_21 imm) ≡ to = ap (λ p. word_add p (extend_21 imm)) v.shows.pc_is ∙ e in
      let e2 : nat_eq (to % 4) 0 ≡ true = eq-eqb (to % 4) 0 al in
      view_jump (Jal rd imm) h rd (s.pc + 4) to l1 (omega (arith, h.below)) (rw (e1, e2, next_pc r.state.pc s.pc v.shows.pc_is h.below) refl)

  pub do_jalr : (rd rs1 imm to : ℕ) → At g s.pc (Jalr rd rs1 imm) → rd < 32 → rs1 < 32 → word_add (s.rf rs1) (extend_12 imm) ≡ to → to % 4 ≡ 0 → Sees g (run_step r) (seen_jump s rd (s.pc + 4) to)
  unfolding execute
  do_jalr rd rs1 imm to h l1 l2 e al =
      let e1 : word_add (reg r.state.regs rs1) (extend_12 imm) ≡ to = ap (λ x. word_add x (extend_12 imm)) (reg_is rs1 l2) ∙ e in
      let e2 : to / 2 * 2 ≡ to = omega arith in
      let e3 : nat_eq (to % 4) 0 ≡ true = eq-eqb (to % 4) 0 al in
      view_jump (Jalr rd rs1 imm) h rd (s.pc + 4) to l1 (omega (arith, h.below)) (rw (e1, e2, e3, next_pc r.state.pc s.pc v.shows.pc_is h.below) refl)

  pub do_beq_taken : (rs1 rs2 imm to : ℕ) → At g s.pc (Beq rs1 rs2 imm) → rs1 < 32 → rs2 < 32 → s.rf rs1 ≡ s.rf rs2 → word_add s.pc (extend_13 imm) ≡ to → to % 4 ≡ 0 → Sees g (run_step r) (seen_jump s 0 0 to)
  unfolding execute
  do_beq_taken rs1 rs2 imm to h l1 l2 q e al =
      let e0 : nat_eq (reg r.state.regs rs1) (reg r.state.regs rs2) ≡ true = eq-eqb _ _ (reg_is rs1 l1 ∙ q ∙ sym (reg_is rs2 l2)) in
      let e1 : word_add r.state.pc (extend_13 imm) ≡ to = ap (λ p. word_add p (extend_13 imm)) v.shows.pc_is ∙ e in
      let e2 : nat_eq (to % 4) 0 ≡ true = eq-eqb (to % 4) 0 al in
      view_jump (Beq rs1 rs2 imm) h 0 0 to (lit< tt) (lit< tt) (rw (e0, e1, e2) refl)

  pub do_beq_on : (rs1 rs2 imm : ℕ) → At g s.pc (Beq rs1 rs2 imm) → rs1 < 32 → rs2 < 32 → (s.rf rs1 ≡ s.rf rs2 → ⊥) → Sees g (run_step r) (seen_reg s 0 0)
  unfolding execute
  do_beq_on rs1 rs2 imm h l1 l2 q =
      let e0 : nat_eq (reg r.state.regs rs1) (reg r.state.regs rs2) ≡ false = ne_eqb _ _ (λ x. q (sym (reg_is rs1 l1) ∙ x ∙ reg_is rs2 l2)) in
      view_reg (Beq rs1 rs2 imm) h 0 0 (lit< tt) (lit< tt) (rw e0 refl)

  pub do_bne_taken : (rs1 rs2 imm to : ℕ) → At g s.pc (Bne rs1 rs2 imm) → rs1 < 32 → rs2 < 32 → (s.rf rs1 ≡ s.rf rs2 → ⊥) → word_add s.pc (extend_13 imm) ≡ to → to % 4 ≡ 0 → Sees g (run_step r) (seen_jump s 0 0 to)
  unfolding execute
  do_bne_taken rs1 rs2 imm to h l1 l2 q e al =
      let e0 : nat_eq (reg r.state.regs rs1) (reg r.state.regs rs2) ≡ false = ne_eqb _ _ (λ x. q (sym (reg_is rs1 l1) ∙ x ∙ reg_is rs2 l2)) in
      let e1 : word_add r.state.pc (extend_13 imm) ≡ to = ap (λ p. word_add p (extend_13 imm)) v.shows.pc_is ∙ e in
      let e2 : nat_eq (to % 4) 0 ≡ true = eq-eqb (to % 4) 0 al in
      view_jump (Bne rs1 rs2 imm) h 0 0 to (lit< tt) (lit< tt) (rw (e0, e1, e2) refl)

  pub do_bne_on : (rs1 rs2 imm : ℕ) → At g s.pc (Bne rs1 rs2 imm) → rs1 < 32 → rs2 < 32 → s.rf rs1 ≡ s.rf rs2 → Sees g (run_step r) (seen_reg s 0 0)
  unfolding execute
  do_bne_on rs1 rs2 imm h l1 l2 q =
      let e0 : nat_eq (reg r.state.regs rs1) (reg r.state.regs rs2) ≡ true = eq-eqb _ _ (reg_is rs1 l1 ∙ q ∙ sym (reg_is rs2 l2)) in
      view_reg (Bne rs1 rs2 imm) h 0 0 (lit< tt) (lit< tt) (rw e0 refl)

  pub do_bge_taken : (rs1 rs2 imm to : ℕ) → At g s.pc (Bge rs1 rs2 imm) → rs1 < 32 → rs2 < 32 → signed_less (s.rf rs1) (s.rf rs2) ≡ false → word_add s.pc (extend_13 imm) ≡ to → to % 4 ≡ 0 → Sees g (run_step r) (seen_jump s 0 0 to)
  unfolding execute
  do_bge_taken rs1 rs2 imm to h l1 l2 q e al =
      let e1 : word_add r.state.pc (extend_13 imm) ≡ to = ap (λ p. word_add p (extend_13 imm)) v.shows.pc_is ∙ e in
      let e2 : nat_eq (to % 4) 0 ≡ true = eq-eqb (to % 4) 0 al in
      view_jump (Bge rs1 rs2 imm) h 0 0 to (lit< tt) (lit< tt) (rw (reg_is rs1 l1, reg_is rs2 l2, q, e1, e2) refl)

  pub do_bge_on : (rs1 rs2 imm : ℕ) → At g s.pc (Bge rs1 rs2 imm) → rs1 < 32 → rs2 < 32 → signed_less (s.rf rs1) (s.rf rs2) ≡ true → Sees g (run_step r) (seen_reg s 0 0)
  unfolding execute
  do_bge_on rs1 rs2 imm h l1 l2 q = view_reg (Bge rs1 rs2 imm) h 0 0 (lit< tt) (lit< tt) (rw (reg_is rs1 l1, reg_is rs2 l2, q) refl)

  pub do_divu : (rd rs1 rs2 : ℕ) → At g s.pc (Divu rd rs1 rs2) → rd < 32 → rs1 < 32 → rs2 < 32 → (s.rf rs2 ≡ 0 → ⊥) → Sees g (run_step r) (seen_reg s rd (s.rf rs1 / s.rf rs2))
  unfolding execute
  do_divu rd rs1 rs2 h l1 l2 l3 some =
      let e : nat_eq (s.rf rs2) 0 ≡ false = ne_eqb (s.rf rs2) 0 some in
      view_reg (Divu rd rs1 rs2) h rd _ l1 (omega (arith, div-le_self (s.rf rs1) (s.rf rs2), v.shows.small rs1 l2)) (rw (reg_is rs1 l2, reg_is rs2 l3, e) refl)

  pub do_remu : (rd rs1 rs2 : ℕ) → At g s.pc (Remu rd rs1 rs2) → rd < 32 → rs1 < 32 → rs2 < 32 → (s.rf rs2 ≡ 0 → ⊥) → Sees g (run_step r) (seen_reg s rd (s.rf rs1 % s.rf rs2))
  unfolding execute
  do_remu rd rs1 rs2 h l1 l2 l3 some =
      let e : nat_eq (s.rf rs2) 0 ≡ false = ne_eqb (s.rf rs2) 0 some in
      view_reg (Remu rd rs1 rs2) h rd _ l1 (omega (arith, mod-le (s.rf rs1) (s.rf rs2), v.shows.small rs1 l2)) (rw (reg_is rs1 l2, reg_is rs2 l3, e) refl)

  pub do_bltu_taken : (rs1 rs2 imm to : ℕ) → At g s.pc (Bltu rs1 rs2 imm) → rs1 < 32 → rs2 < 32 → s.rf rs1 < s.rf rs2 → word_add s.pc (extend_13 imm) ≡ to → to % 4 ≡ 0 → Sees g (run_step r) (seen_jump s 0 0 to)
  unfolding execute
  do_bltu_taken rs1 rs2 imm to h l1 l2 q e al =
      let e0 : nat_lt (s.rf rs1) (s.rf rs2) ≡ true = lt-ltb (s.rf rs1) (s.rf rs2) q in
      let e1 : word_add r.state.pc (extend_13 imm) ≡ to = ap (λ p. word_add p (extend_13 imm)) v.shows.pc_is ∙ e in
      let e2 : nat_eq (to % 4) 0 ≡ true = eq-eqb (to % 4) 0 al in
      view_jump (Bltu rs1 rs2 imm) h 0 0 to (lit< tt) (lit< tt) (rw (reg_is rs1 l1, reg_is rs2 l2, e0, e1, e2) refl)

  pub do_bltu_on : (rs1 rs2 imm : ℕ) → At g s.pc (Bltu rs1 rs2 imm) → rs1 < 32 → rs2 < 32 → s.rf rs2 ≤ s.rf rs1 → Sees g (run_step r) (seen_reg s 0 0)
  unfolding execute
  do_bltu_on rs1 rs2 imm h l1 l2 q =
      let e0 : nat_lt (s.rf rs1) (s.rf rs2) ≡ false = le-ltb (s.rf rs1) (s.rf rs2) q in
      view_reg (Bltu rs1 rs2 imm) h 0 0 (lit< tt) (lit< tt) (rw (reg_is rs1 l1, reg_is rs2 l2, e0) refl)

  pub do_bgeu_taken : (rs1 rs2 imm to : ℕ) → At g s.pc (Bgeu rs1 rs2 imm) → rs1 < 32 → rs2 < 32 → s.rf rs2 ≤ s.rf rs1 → word_add s.pc (extend_13 imm) ≡ to → to % 4 ≡ 0 → Sees g (run_step r) (seen_jump s 0 0 to)
  unfolding execute
  do_bgeu_taken rs1 rs2 imm to h l1 l2 q e al =
      let e0 : nat_lt (s.rf rs1) (s.rf rs2) ≡ false = le-ltb (s.rf rs1) (s.rf rs2) q in
      let e1 : word_add r.state.pc (extend_13 imm) ≡ to = ap (λ p. word_add p (extend_13 imm)) v.shows.pc_is ∙ e in
      let e2 : nat_eq (to % 4) 0 ≡ true = eq-eqb (to % 4) 0 al in
      view_jump (Bgeu rs1 rs2 imm) h 0 0 to (lit< tt) (lit< tt) (rw (reg_is rs1 l1, reg_is rs2 l2, e0, e1, e2) refl)

  pub do_bgeu_on : (rs1 rs2 imm : ℕ) → At g s.pc (Bgeu rs1 rs2 imm) → rs1 < 32 → rs2 < 32 → s.rf rs1 < s.rf rs2 → Sees g (run_step r) (seen_reg s 0 0)
  unfolding execute
  do_bgeu_on rs1 rs2 imm h l1 l2 q =
      let e0 : nat_lt (s.rf rs1) (s.rf rs2) ≡ true = lt-ltb (s.rf rs1) (s.rf rs2) q in
      view_reg (Bgeu rs1 rs2 imm) h 0 0 (lit< tt) (lit< tt) (rw (reg_is rs1 l1, reg_is rs2 l2, e0) refl)

  -- the call that stops for room
  pub do_stop : At g s.pc Ecall → s.rf 17 ≡ 5 → ((run_step r).status ≡ Stopped RoomUsed) × (trace g.names (run_step r).log ≡ s.trace)
  unfolding execute environment_call
  do_stop h a7 =
      let e7 : reg r.state.regs 17 ≡ 5 = reg_is 17 (lit< tt) ∙ a7 in
      let e : execute Ecall r.state ≡ Halts RoomUsed (with_reg r.state 0 0) = ap (λ a. environment_call a r.state) e7 in
      let is : run_step r ≡ after r (Halts RoomUsed (with_reg r.state 0 0)) = stepped g r s v Ecall h ∙ ap (after r) e in
      (ap (λ q. q.status) is, ap (λ q. trace g.names q.log) is ∙ silent g r s v Ecall h)

  -- a byte put
  pub do_put : (b : ℕ) → At g s.pc Ecall → s.rf 17 ≡ 1 → s.rf 10 ≡ b → b < 256 → Sees g (run_step r) (seen_put s b)
  unfolding execute environment_call
  do_put b h a7 a0 lt =
      let e7 : reg r.state.regs 17 ≡ 1 = reg_is 17 (lit< tt) ∙ a7 in
      let e0 : reg r.state.regs 10 % 256 ≡ b = ap (λ x. x % 256) (reg_is 10 (lit< tt) ∙ a0) ∙ omega arith in
      let e : execute Ecall r.state ≡ Puts b (with_reg r.state 0 0) = ap (λ a. environment_call a r.state) e7 ∙ ap (λ x. Puts x (with_reg r.state 0 0)) e0 in
      let is : run_step r ≡ after r (Puts b (with_reg r.state 0 0)) = stepped g r s v Ecall h ∙ ap (after r) e in
      let shows = shows_reg g r.state s v.shows h.below 0 0 (lit< tt) (lit< tt) in
      rw is (record { shows = record { pc_is = shows.pc_is; has_32 = shows.has_32; reg_is = shows.reg_is; loads = shows.loads; stores = shows.stores; code_stays = shows.code_stays; small = shows.small; small_words = shows.small_words; zero_is = shows.zero_is }; goes = refl; input_is = v.input_is; trace_is = ap (λ t. Put b ∷ t) (silent g r s v Ecall h) })

  got_is : (input : List ℕ) → At g s.pc Ecall → s.rf 17 ≡ 2 → s.input ≡ input → run_step r ≡ after_get r (with_reg r.state 0 0) input
  unfolding execute environment_call
  got_is input h a7 e =
      let e7 : reg r.state.regs 17 ≡ 2 = reg_is 17 (lit< tt) ∙ a7 in
      let e1 : execute Ecall r.state ≡ Gets (with_reg r.state 0 0) = ap (λ a. environment_call a r.state) e7 in
      stepped g r s v Ecall h ∙ ap (after r) e1 ∙ ap (after_get r (with_reg r.state 0 0)) (v.input_is ∙ e)

  -- a byte taken
  pub do_get : (b : ℕ) (bytes : List ℕ) → At g s.pc Ecall → s.rf 17 ≡ 2 → s.input ≡ b ∷ bytes → b < 256 → Sees g (run_step r) (seen_get (b ∷ bytes) s)
  do_get b bytes h a7 e lt =
      let shows : Shows g (with_a0 (with_reg r.state 0 0) b) (seen_reg s 10 b) = subst (λ m. Shows g m (seen_reg s 10 b)) (sym (a0_reg r.state b)) (shows_reg g r.state s v.shows h.below 10 b (lit< tt) (omega arith)) in
      rw (got_is (b ∷ bytes) h a7 e) (record { shows = record { pc_is = shows.pc_is; has_32 = shows.has_32; reg_is = shows.reg_is; loads = shows.loads; stores = shows.stores; code_stays = shows.code_stays; small = shows.small; small_words = shows.small_words; zero_is = shows.zero_is }; goes = refl; input_is = refl; trace_is = ap (λ t. Took b ∷ t) (silent g r s v Ecall h) })

  -- the end of the input found
  pub do_get_none : At g s.pc Ecall → s.rf 17 ≡ 2 → s.input ≡ [] → Sees g (run_step r) (seen_get [] s)
  do_get_none h a7 e =
      let shows : Shows g (with_a0 (with_reg r.state 0 0) no_byte) (seen_reg s 10 no_byte) = subst (λ m. Shows g m (seen_reg s 10 no_byte)) (sym (a0_reg r.state no_byte)) (shows_reg g r.state s v.shows h.below 10 no_byte (lit< tt) (lit< tt)) in
      rw (got_is [] h a7 e) (record { shows = record { pc_is = shows.pc_is; has_32 = shows.has_32; reg_is = shows.reg_is; loads = shows.loads; stores = shows.stores; code_stays = shows.code_stays; small = shows.small; small_words = shows.small_words; zero_is = shows.zero_is }; goes = refl; input_is = refl; trace_is = ap (λ t. FoundEnd ∷ t) (silent g r s v Ecall h) })
