-- Where the machine stands in code that puts bytes and ends, and what its next instruction does.
use Rattle.std.proofs.Common.{◌≡◌, ℕ, zero, suc, ◌+◌, ◌*◌, ◌%◌, ◌<◌, ◌≤◌, List, [], ◌∷◌, ◌++◌, length, Option, Some, true, nat_lt, nat_eq, refl, sym, ap, ◌∙◌, arith, append_assoc, length-append, get_or-set_same, get_or-set_other, lit<}
use Rattle.std.specs.Prelude.{slice_get, cond}
use Rattle.std.proofs.Math.ListN.{length-set}
use Rattle.std.proofs.lemmas.Bool.{lt-ltb, eq-eqb}
use Rattle.std.proofs.lemmas.List.Elements.{All-head, All-tail}
use Rattle.th_word.specs.Word.{word_add, extend_12}
use Rattle.th_rv.specs.declared.instr.Instr.{Instr}
use Rattle.th_rv.specs.declared.instr.Instr.TheVariants.{Addi, Ecall}
use Rattle.th_rv.specs.declared.instr.Cause.TheVariants as cause
use Rattle.th_rv.specs.Memory.{Area, number_at}
use Rattle.th_rv.specs.Table.{Valid, encode, decode}
use Rattle.th_rv.specs.Step.{State, Act, Next, Puts, Halts, Traps, Ended, reg, set_reg, with_reg, execute, execute_found, execute_word, environment_call, step}
use Rattle.th_rv.proofs.EncodeLemmas.{decode_encode}
use Rattle.th_puts.specs.Form.{AreBytes}
use Rattle.th_link.specs.Puts.{puts_code, code_words}
use Rattle.th_link.proofs.Fetch.{code_area, fetched}

-- a place in the code: before the code that puts these bytes and ends; with a byte in a0 that is to be put; with the
-- call's number in a7 too; with the number in a7 that ends the run
pub data Spot : Type 0 where
  Before : (left : List ℕ) → Spot
  Loaded : (byte : ℕ) → (left : List ℕ) → Spot
  Ready : (byte : ℕ) → (left : List ℕ) → Spot
  Ending : Spot

-- the code from there on
abbrev pub ahead : Spot → List Instr
ahead (Before left) = puts_code left
ahead (Loaded b left) = Addi 17 0 1 ∷ Ecall ∷ puts_code left
ahead (Ready b left) = Ecall ∷ puts_code left
ahead Ending = Ecall ∷ []

-- the bytes that are still to be put
abbrev pub still : Spot → List ℕ
still (Before left) = left
still (Loaded b left) = b ∷ left
still (Ready b left) = b ∷ left
still Ending = []

-- what the registers hold there
abbrev pub Holds : Spot → List ℕ → Type 0
Holds (Before left) regs = Unit {0}
Holds (Loaded b left) regs = reg regs 10 ≡ b
Holds (Ready b left) regs = (reg regs 10 ≡ b) × (reg regs 17 ≡ 1)
Holds Ending regs = reg regs 17 ≡ 3

word_there : (done : List Instr) (i : Instr) (rest : List Instr) → slice_get (code_words (done ++ i ∷ rest)) (length done) ≡ Some (encode i)
word_there [] i rest = refl
word_there (x ∷ done) i rest = word_there done i rest

immediate : (b : ℕ) → b < 256 → word_add 0 (extend_12 b) ≡ b
immediate b h = let e : nat_lt b 2048 ≡ true = lt-ltb b 2048 (omega arith) in rw e (omega arith)

addi_word : (rd b : ℕ) → rd < 32 → b < 256 → encode (Addi rd 0 b) < 4294967296
addi_word rd b h k = omega arith

length-set_reg : (l : List ℕ) (rd v : ℕ) → length (set_reg l rd v) ≡ length l
length-set_reg l zero v = refl
length-set_reg l (suc rd) v = length-set l (suc rd) v

execute_at : (o : Option ℕ) (w : ℕ) (i : Instr) (s : State) → o ≡ Some w → decode w ≡ Some i → execute_word o s ≡ execute i s
execute_at o w i s e d = ap (λ x. execute_word x s) e ∙ ap (λ x. execute_found x s) d

step_at : (s : State) (a : ℕ) (ms : List Area) (w : ℕ) (i : Instr) → s.pc ≡ a → s.areas ≡ ms → a % 4 ≡ 0 → number_at 4 1 ms a ≡ Some w → decode w ≡ Some i → step s ≡ execute i s
unfolding step
step_at s a ms w i pc areas whole there spells =
    let e0 : nat_eq (s.pc % 4) 0 ≡ true = eq-eqb (s.pc % 4) 0 (ap (λ x. x % 4) pc ∙ whole) in
    let e1 : number_at 4 1 s.areas s.pc ≡ Some w = ap (λ x. number_at 4 1 x s.pc) areas ∙ ap (number_at 4 1 ms) pc ∙ there in
    ap (λ x. cond x (execute_word (number_at 4 1 s.areas s.pc) s) (Traps cause.Fetch)) e0
    ∙ execute_at (number_at 4 1 s.areas s.pc) w i s e1 spells

addi_does : (rd b : ℕ) (s : State) → b < 256 → execute (Addi rd 0 b) s ≡ Next (with_reg s rd b)
unfolding execute
addi_does rd b s h = ap (λ v. Next (with_reg s rd v)) (immediate b h)

put_does : (b : ℕ) (s : State) → reg s.regs 17 ≡ 1 → reg s.regs 10 ≡ b → b < 256 → execute Ecall s ≡ Puts b (with_reg s 0 0)
unfolding execute environment_call
put_does b s a7 a0 h =
    let byte : reg s.regs 10 % 256 ≡ b = ap (λ x. x % 256) a0 ∙ omega arith in
    ap (λ a. environment_call a s) a7 ∙ ap (λ x. Puts x (with_reg s 0 0)) byte

end_does : (s : State) → reg s.regs 17 ≡ 3 → execute Ecall s ≡ Halts Ended (with_reg s 0 0)
unfolding execute environment_call
end_does s a7 = ap (λ a. environment_call a s) a7

-- the machine with this code, and with further areas behind it
module _ (code : List Instr) (ms : List Area) where
  -- after k instructions the machine is at the place p
  pub record Stands (k : ℕ) (p : Spot) (s : State) : Type 0 where
    pub done : List Instr
    pub split : code ≡ done ++ ahead p
    pub count : length done ≡ k
    pub pc : s.pc ≡ 0x00010000 + 4 * k
    pub areas : s.areas ≡ code_area (code_words code) ∷ ms
    pub regs : length s.regs ≡ 32
    pub holds : Holds p s.regs
    pub bytes : AreBytes (still p)

  -- how many instructions there are
  pub counts : (k : ℕ) (p : Spot) (s : State) → Stands k p s → k + length (ahead p) ≡ length code
  counts k p s at = omega (arith, ap length at.split, length-append at.done (ahead p), at.count)

  -- the instruction at a place is executed
  pub executed : (k : ℕ) (p : Spot) (s : State) (i : Instr) (rest : List Instr) → Stands k p s → ahead p ≡ i ∷ rest → Valid i → encode i < 4294967296 → step s ≡ execute i s
  executed k p s i rest at next valid lt =
      let is : code ≡ at.done ++ i ∷ rest = at.split ∙ ap (λ l. at.done ++ l) next in
      let there : slice_get (code_words code) k ≡ Some (encode i) = ap (λ n. slice_get (code_words code) n) (sym at.count) ∙ ap (λ l. slice_get (code_words l) (length at.done)) is ∙ word_there at.done i rest in
      step_at s (0x00010000 + 4 * k) (code_area (code_words code) ∷ ms) (encode i) i at.pc at.areas (omega arith) (fetched (code_words code) ms k (encode i) there lt) (decode_encode i valid)

  -- the state at the next place, with a register written
  pub moved : (k : ℕ) (p q : Spot) (s : State) (i : Instr) (rd v : ℕ) → Stands k p s → length code ≤ 1000000 → ahead p ≡ i ∷ ahead q → Holds q (set_reg s.regs rd v) → AreBytes (still q) → Stands (suc k) q (with_reg s rd v)
  unfolding with_reg
  moved k p q s i rd v at small next holds bytes =
      let whole : k + length (ahead p) ≡ length code = counts k p s at in
      let pc : word_add s.pc 4 ≡ 0x00010000 + 4 * suc k = ap (λ x. word_add x 4) at.pc ∙ omega arith in
      let longer : length (at.done ++ i ∷ []) ≡ suc k = length-append at.done (i ∷ []) ∙ omega (arith, at.count) in
      record {
        done = at.done ++ i ∷ [];
        split = at.split ∙ ap (λ l. at.done ++ l) next ∙ sym (append_assoc at.done (i ∷ []) (ahead q));
        count = longer;
        pc = pc;
        areas = at.areas;
        regs = length-set_reg s.regs rd v ∙ at.regs;
        holds = holds;
        bytes = bytes;
      }

  -- the machine goes on to a place, without an event
  abbrev pub Goes : ℕ → Spot → Act → Type 0
  Goes k q a = (s : State) × (a ≡ Next s) × Stands (suc k) q s

  -- what the instruction at a place does
  abbrev pub Does : ℕ → Spot → Act → Type 0
  Does k (Before []) a = Goes k Ending a
  Does k (Before (b ∷ left)) a = Goes k (Loaded b left) a
  Does k (Loaded b left) a = Goes k (Ready b left) a
  Does k (Ready b left) a = (s : State) × (a ≡ Puts b s) × Stands (suc k) (Before left) s
  Does k Ending a = (s : State) × (a ≡ Halts Ended s)

  set_same : (l : List ℕ) (rd v : ℕ) → length l ≡ 32 → suc rd < 32 → reg (set_reg l (suc rd) v) (suc rd) ≡ v
  set_same l rd v n h = get_or-set_same l (suc rd) v 0 (omega arith)

  pub does : (k : ℕ) (p : Spot) (s : State) → Stands k p s → length code ≤ 1000000 → Does k p (step s)
  does k (Before []) s at small =
      let e : step s ≡ execute (Addi 17 0 3) s = executed k (Before []) s (Addi 17 0 3) (Ecall ∷ []) at refl (lit< tt, lit< tt, lit< tt) (addi_word 17 3 (lit< tt) (lit< tt)) in
      (with_reg s 17 3, e ∙ addi_does 17 3 s (lit< tt), moved k (Before []) Ending s (Addi 17 0 3) 17 3 at small refl (set_same s.regs 16 3 at.regs (lit< tt)) at.bytes)
  does k (Before (b ∷ left)) s at small =
      let byte : b < 256 = All-head (λ x. x < 256) b left at.bytes in
      let e : step s ≡ execute (Addi 10 0 b) s = executed k (Before (b ∷ left)) s (Addi 10 0 b) (Addi 17 0 1 ∷ Ecall ∷ puts_code left) at refl (lit< tt, lit< tt, omega arith) (addi_word 10 b (lit< tt) byte) in
      (with_reg s 10 b, e ∙ addi_does 10 b s byte, moved k (Before (b ∷ left)) (Loaded b left) s (Addi 10 0 b) 10 b at small refl (set_same s.regs 9 b at.regs (lit< tt)) at.bytes)
  does k (Loaded b left) s at small =
      let e : step s ≡ execute (Addi 17 0 1) s = executed k (Loaded b left) s (Addi 17 0 1) (Ecall ∷ puts_code left) at refl (lit< tt, lit< tt, lit< tt) (addi_word 17 1 (lit< tt) (lit< tt)) in
      let other : reg (set_reg s.regs 17 1) 10 ≡ b = get_or-set_other s.regs 17 10 1 0 (omega arith) ∙ at.holds in
      (with_reg s 17 1, e ∙ addi_does 17 1 s (lit< tt), moved k (Loaded b left) (Ready b left) s (Addi 17 0 1) 17 1 at small refl (other, set_same s.regs 16 1 at.regs (lit< tt)) at.bytes)
  does k (Ready b left) s at small =
      let byte : b < 256 = All-head (λ x. x < 256) b left at.bytes in
      let e : step s ≡ execute Ecall s = executed k (Ready b left) s Ecall (puts_code left) at refl tt (lit< tt) in
      (with_reg s 0 0, e ∙ put_does b s at.holds.1 at.holds.0 byte, moved k (Ready b left) (Before left) s Ecall 0 0 at small refl tt (All-tail (λ x. x < 256) b left at.bytes))
  does k Ending s at small =
      let e : step s ≡ execute Ecall s = executed k Ending s Ecall [] at refl tt (lit< tt) in
      (with_reg s 0 0, e ∙ end_does s at.holds)
