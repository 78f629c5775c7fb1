-- A number put in decimal: the greatest power of ten that isn't above its absolute value, the sign, and the digits from the highest on.
use Rattle.std.proofs.Common.{◌≡◌, ℕ, zero, suc, ◌+◌, ◌-◌, ◌*◌, ◌/◌, ◌%◌, ◌<◌, ◌≤◌, List, [], ◌∷◌, ◌++◌, refl, sym, ap, ◌∙◌, subst, ◌⊎◌, inl, inr, arith, lit<}
use Rattle.std.proofs.lemmas.Nat.{mod_below}
use Rattle.th_world.specs.Event.{Event, Put}
use Rattle.th_word.specs.Word.{word_add, extend_12, multiply}
use Rattle.th_rv.specs.declared.instr.Instr.TheVariants.{Jal, Addi, Mul, Divu, Remu, Bne, Bltu, Ecall}
use Rattle.th_elf.specs.Run.{Run, run_step, machine}
use Rattle.th_runs.proofs.Steps.{steps_add}
use Rattle.th_abi.specs.declared.word.PatternWord.{PatternWord}
use Rattle.th_abi.specs.Words.{plain}
use Rattle.th_abi.specs.Outside.{digits_code}
use Rattle.th_stands.specs.Seen.{Seen, Loaded, Sees}
use Rattle.th_stands.specs.Places.{HasRow}
use Rattle.th_stands.proofs.Instructions.{seen_reg, seen_jump, seen_put, do_jal, do_addi, do_mul, do_divu, do_remu, do_bne_taken, do_bne_on, do_bltu_taken, do_bltu_on, do_put}
use Rattle.th_stands.proofs.Sequences.{going, at_plain, extend_low, Quiet, quiet_trans, quiet_reg, quiet_none, apart_5, apart_6, apart_7, apart_10}
use Rattle.th_stands.proofs.Numerals.{power, figures, power_some, power_grows, quotient_low, quotient_high}
use Rattle.th_stands.proofs.Rows.{Numbers}

-- bytes that were put stand in a trace, the newest first
abbrev pub onto : List ℕ → List Event → List Event
onto [] tr = tr
onto (b ∷ bytes) tr = onto bytes (Put b ∷ tr)

-- a machine as it is seen with another trace
abbrev pub traced : Seen → List Event → Seen
traced s tr = record { pc = s.pc; rf = s.rf; wf = s.wf; input = s.input; trace = tr }

-- the loop that finds the power
abbrev pub Climb : List PatternWord
Climb = plain (Divu 7 5 6) ∷ plain (Bltu 7 28 12) ∷ plain (Mul 6 6 28) ∷ plain (Jal 0 (2 * 1048576 - 12)) ∷ []

-- a machine whose registers hold a number, a power of ten and ten
pub record Ready (s : Seen) (n k : ℕ) : Type 0 where
  pub number_is : s.rf 5 ≡ n
  pub power_is : s.rf 6 ≡ power k
  pub ten : s.rf 28 ≡ 10

-- the power was found
pub record Climbed (g : Loaded) (r : Run) (s : Seen) (n k steps : ℕ) : Type 0 where
  pub seen : Seen
  pub sees : Sees g (going g steps r) seen
  pub quiet : Quiet s seen
  pub ready : Ready seen n k
  pub sign : seen.rf 29 ≡ s.rf 29
  pub pc : seen.pc ≡ s.pc + 16

no_zero : (x p : ℕ) → x ≡ p → 0 < p → x ≡ 0 → ⊥
no_zero x p e l z = omega arith

times_ten : (x y p : ℕ) → x ≡ p → y ≡ 10 → 10 * p < 4294967296 → multiply x y ≡ 10 * p
times_ten x y p e f l = rw (e, f) (omega arith)

four_on : (d : ℕ) → 4 + (4 * d + 2) ≡ 4 * suc d + 2
four_on d = omega arith

suc_on : (d j : ℕ) → d + suc j ≡ suc d + j
suc_on d j = omega arith

-- a machine after the loop's words, with the next power
abbrev climbed_on : Seen → ℕ → Seen
climbed_on s j = seen_jump (seen_reg (seen_reg (seen_reg s 7 (s.rf 5 / s.rf 6)) 0 0) 6 (10 * power j)) 0 (s.pc + 4 + 4 + 4 + 4) s.pc

module _ (g : Loaded) (to : ℕ) (number : Numbers) (rest : List PatternWord) (n : ℕ) (small : n < 4294967296) where
  higher : (d j : ℕ) → (suc d + j ≡ 0) ⊎ (power (suc d + j) ≤ n) → 10 * power j ≤ n
  higher d j (inl e) = absurd (omega arith)
  higher d j (inr l) = let m = power_grows d (suc j) in let e = ap power (suc_on d j) in omega (arith, e)

  -- the loop once more
  climb_step : (j : ℕ) (r : Run) (s : Seen) → Sees g r s → HasRow g s.pc to number (Climb ++ rest) → Ready s n j → 10 * power j ≤ n → Sees g (going g 4 r) (climbed_on s j)
  climb_step j r s v row ready more =
      let some = power_some j in
      let v1 = do_divu v 7 5 6 (at_plain g s.pc (Divu 7 5 6) row.0 (lit< tt, lit< tt, lit< tt)) (lit< tt) (lit< tt) (lit< tt) (no_zero (s.rf 6) (power j) ready.power_is some) in
      let q = s.rf 5 / s.rf 6 in
      let q_is : q ≡ n / power j = ap (λ x. x / s.rf 6) ready.number_is ∙ ap (λ x. n / x) ready.power_is in
      let high : 10 ≤ n / power j = quotient_high n (power j) some more in
      let s1 = seen_reg s 7 q in
      let ten = ready.ten in
      let v2 = do_bltu_on v1 7 28 12 (at_plain g (s.pc + 4) (Bltu 7 28 12) row.1.0 (lit< tt, lit< tt, (lit< tt, refl))) (lit< tt) (lit< tt) (omega arith) in
      let s2 = seen_reg s1 0 0 in
      let v3 = do_mul v2 6 6 28 (at_plain g (s.pc + 4 + 4) (Mul 6 6 28) row.1.1.0 (lit< tt, lit< tt, lit< tt)) (lit< tt) (lit< tt) (lit< tt) in
      let v3b : Sees g (run_step (run_step (run_step r))) (seen_reg s2 6 (10 * power j)) = subst (λ z. Sees g (run_step (run_step (run_step r))) (seen_reg s2 6 z)) (times_ten (s.rf 6) (s.rf 28) (power j) ready.power_is ten (omega arith)) v3 in
      let word = row.1.1.1.0 in
      let even = row.0.aligned in
      let far = word.below in
      do_jal v3b 0 (2 * 1048576 - 12) s.pc (at_plain g (s.pc + 4 + 4 + 4) (Jal 0 (2 * 1048576 - 12)) word (lit< tt, (lit< tt, refl))) (lit< tt) (omega arith) even

  pub climbs : (d j : ℕ) (r : Run) (s : Seen) → Sees g r s → HasRow g s.pc to number (Climb ++ rest) → Ready s n j → n < power (suc (d + j)) → (d + j ≡ 0) ⊎ (power (d + j) ≤ n) → Climbed g r s n (d + j) (4 * d + 2)
  climbs zero j r s v row ready below reached =
      let e0 : power (suc j) ≡ power (suc (zero + j)) = ap (λ m. power (suc m)) (omega arith) in
      let ek : power j ≡ power (zero + j) = ap power (omega arith) in
      let some = power_some j in
      let v1 = do_divu v 7 5 6 (at_plain g s.pc (Divu 7 5 6) row.0 (lit< tt, lit< tt, lit< tt)) (lit< tt) (lit< tt) (lit< tt) (no_zero (s.rf 6) (power j) ready.power_is some) in
      let q = s.rf 5 / s.rf 6 in
      let q_is : q ≡ n / power j = ap (λ x. x / s.rf 6) ready.number_is ∙ ap (λ x. n / x) ready.power_is in
      let low : n / power j < 10 = quotient_low n (power j) some (omega (arith, e0)) in
      let s1 = seen_reg s 7 q in
      let word = row.1.0 in
      let even = word.aligned in
      let far = row.1.1.1.0.below in
      let target = s.pc + 4 + 4 + 4 + 4 in
      let ten = ready.ten in
      let v2 = do_bltu_taken v1 7 28 12 target (at_plain g (s.pc + 4) (Bltu 7 28 12) word (lit< tt, lit< tt, (lit< tt, refl))) (lit< tt) (lit< tt) (omega arith) (omega arith) (omega arith) in
      let t = seen_jump s1 0 0 target in
      record {
        seen = t;
        sees = v2;
        quiet = quiet_trans s s1 t (quiet_reg s 7 q refl apart_7) (quiet_none s1 0 target);
        ready = record { number_is = ready.number_is; power_is = ready.power_is ∙ ek; ten = ten };
        sign = refl;
        pc = omega arith;
      }
  climbs (suc d) j r s v row ready below reached =
      let t = climbed_on s j in
      let s1 = seen_reg s 7 (s.rf 5 / s.rf 6) in
      let s2 = seen_reg s1 0 0 in
      let s3 = seen_reg s2 6 (10 * power j) in
      let v4 = climb_step j r s v row ready (higher d j reached) in
      let q : Quiet s t = quiet_trans s s1 t (quiet_reg s 7 (s.rf 5 / s.rf 6) refl apart_7) (quiet_trans s1 s2 t (quiet_none s1 0 (s.pc + 4 + 4)) (quiet_trans s2 s3 t (quiet_reg s2 6 (10 * power j) refl apart_6) (quiet_none s3 (s.pc + 4 + 4 + 4 + 4) s.pc))) in
      let c = climbs d (suc j) (going g 4 r) t v4 row (record { number_is = ready.number_is; power_is = refl; ten = ready.ten }) (subst (λ m. n < power (suc m)) (sym (suc_on d j)) below) (subst (λ m. (m ≡ 0) ⊎ (power m ≤ n)) (sym (suc_on d j)) reached) in
      let e : going g (4 * d + 2) (going g 4 r) ≡ going g (4 * suc d + 2) r = sym (steps_add (machine g.names) 4 (4 * d + 2) r) ∙ ap (λ m. going g m r) (four_on d) in
      let power_same : power (d + suc j) ≡ power (suc d + j) = ap power (suc_on d j) in
      record {
        seen = c.seen;
        sees = subst (λ r2. Sees g r2 c.seen) e c.sees;
        quiet = quiet_trans s t c.seen q c.quiet;
        ready = record { number_is = c.ready.number_is; power_is = c.ready.power_is ∙ power_same; ten = c.ready.ten };
        sign = c.sign;
        pc = c.pc;
      }

-- the digits were put
pub record Printed (g : Loaded) (r : Run) (s : Seen) (n k steps : ℕ) : Type 0 where
  pub seen : Seen
  pub sees : Sees g (going g steps r) seen
  pub quiet : Quiet (traced s (onto (figures k n) s.trace)) seen
  pub pc : seen.pc ≡ s.pc + 24

six_on : (k : ℕ) → 6 + 6 * suc k ≡ 6 * suc (suc k)
six_on k = omega arith

-- one digit as a byte
digit_byte : (x d : ℕ) → x ≡ d → d < 10 → word_add x (extend_12 48) ≡ 48 + d
digit_byte x d e l = let z = extend_low 48 (lit< tt) in rw (e, z) (omega arith)

tenth : (x y p : ℕ) → x ≡ 10 * p → y ≡ 10 → x / y ≡ p
tenth x y p e f = rw (e, f) (omega arith)

module _ (g : Loaded) (to : ℕ) (number : Numbers) where
  -- a digit is put, and the power is divided by ten
  abbrev Next : (s : Seen) (d : ℕ) → Seen
  Next s d = seen_reg (seen_reg (seen_put (seen_reg (seen_reg s 7 (s.rf 5 / s.rf 6)) 10 d) d) 5 (s.rf 5 % s.rf 6)) 6 (s.rf 6 / s.rf 28)

  one_digit : (r : Run) (s : Seen) (n k d : ℕ) → Sees g r s → HasRow g s.pc to number digits_code → Ready s n k → s.rf 17 ≡ 1 → n / power k ≡ d → d < 10 → Sees g (going g 5 r) (Next s (48 + d))
  one_digit r s n k d v row ready call is small =
      let some = power_some k in
      let nz = no_zero (s.rf 6) (power k) ready.power_is some in
      let v1 = do_divu v 7 5 6 (at_plain g s.pc (Divu 7 5 6) row.0 (lit< tt, lit< tt, lit< tt)) (lit< tt) (lit< tt) (lit< tt) nz in
      let q = s.rf 5 / s.rf 6 in
      let q_is : q ≡ d = ap (λ x. x / s.rf 6) ready.number_is ∙ ap (λ x. n / x) ready.power_is ∙ is in
      let s1 = seen_reg s 7 q in
      let v2 = do_addi v1 10 7 48 (at_plain g (s.pc + 4) (Addi 10 7 48) row.1.0 (lit< tt, lit< tt, lit< tt)) (lit< tt) (lit< tt) in
      let v2b : Sees g (run_step (run_step r)) (seen_reg s1 10 (48 + d)) = subst (λ z. Sees g (run_step (run_step r)) (seen_reg s1 10 z)) (digit_byte q d q_is small) v2 in
      let s2 = seen_reg s1 10 (48 + d) in
      let v3 = do_put v2b (48 + d) (at_plain g (s.pc + 4 + 4) Ecall row.1.1.0 tt) call refl (omega arith) in
      let s3 = seen_put s2 (48 + d) in
      let v4 = do_remu v3 5 5 6 (at_plain g (s.pc + 4 + 4 + 4) (Remu 5 5 6) row.1.1.1.0 (lit< tt, lit< tt, lit< tt)) (lit< tt) (lit< tt) (lit< tt) nz in
      let ten = ready.ten in
      do_divu v4 6 6 28 (at_plain g (s.pc + 4 + 4 + 4 + 4) (Divu 6 6 28) row.1.1.1.1.0 (lit< tt, lit< tt, lit< tt)) (lit< tt) (lit< tt) (lit< tt) (no_zero (s.rf 28) 10 ten (lit< tt))

  quiet_next : (s : Seen) (d : ℕ) → Quiet (traced s (Put d ∷ s.trace)) (Next s d)
  quiet_next s d = record { homes = λ k l1 l2. keeps k l1 l2; words = λ i. refl; fixed = record { r0 = refl; r3 = refl; r8 = refl; r9 = refl; r24 = refl; r25 = refl; r26 = refl; r27 = refl; input_is = refl; trace_is = refl } }
    where
      s0 : Seen
      s0 = traced s (Put d ∷ s.trace)

      q : Quiet s0 (seen_reg (seen_reg (seen_reg (seen_reg s0 7 (s.rf 5 / s.rf 6)) 10 d) 5 (s.rf 5 % s.rf 6)) 6 (s.rf 6 / s.rf 28))
      q =
          let t1 = seen_reg s0 7 (s.rf 5 / s.rf 6) in
          let t2 = seen_reg t1 10 d in
          let t3 = seen_reg t2 5 (s.rf 5 % s.rf 6) in
          let t4 = seen_reg t3 6 (s.rf 6 / s.rf 28) in
          quiet_trans s0 t1 t4 (quiet_reg s0 7 (s.rf 5 / s.rf 6) refl apart_7) (quiet_trans t1 t2 t4 (quiet_reg t1 10 d refl apart_10) (quiet_trans t2 t3 t4 (quiet_reg t2 5 (s.rf 5 % s.rf 6) refl apart_5) (quiet_reg t3 6 (s.rf 6 / s.rf 28) refl apart_6)))

      keeps : (k : ℕ) → 18 ≤ k → k < 24 → (Next s d).rf k ≡ s.rf k
      keeps k l1 l2 = q.homes k l1 l2

  pub prints : (k n : ℕ) (r : Run) (s : Seen) → Sees g r s → HasRow g s.pc to number digits_code → Ready s n k → s.rf 17 ≡ 1 → n < power (suc k) → Printed g r s n k (6 * suc k)
  prints zero n r s v row ready call below =
      let e : n / 1 ≡ n = omega arith in
      let v5 = one_digit r s n zero n v row ready call e (omega arith) in
      let t5 = Next s (48 + n) in
      let over : t5.rf 6 ≡ t5.rf 0 = ap (λ x. x / s.rf 28) ready.power_is ∙ ap (λ x. 1 / x) ready.ten ∙ sym v.shows.zero_is in
      let v6 = do_bne_on v5 6 0 (8192 - 20) (at_plain g (s.pc + 4 + 4 + 4 + 4 + 4) (Bne 6 0 (8192 - 20)) row.1.1.1.1.1.0 (lit< tt, lit< tt, (lit< tt, refl))) (lit< tt) (lit< tt) over in
      let t = seen_reg t5 0 0 in
      let s0 = traced s (Put (48 + n) ∷ s.trace) in
      record { seen = t; sees = v6; quiet = quiet_trans s0 t5 t (quiet_next s (48 + n)) (quiet_none t5 0 (t5.pc + 4)); pc = omega arith }
  prints (suc k) n r s v row ready call below =
      let some = power_some (suc k) in
      let d = n / power (suc k) in
      let low = quotient_low n (power (suc k)) some below in
      let v5 = one_digit r s n (suc k) d v row ready call refl low in
      let t5 = Next s (48 + d) in
      let power_is : t5.rf 6 ≡ power k = tenth (s.rf 6) (s.rf 28) (power k) ready.power_is ready.ten in
      let number_is : t5.rf 5 ≡ n % power (suc k) = ap (λ x. x % s.rf 6) ready.number_is ∙ ap (λ x. n % x) ready.power_is in
      let word = row.1.1.1.1.1.0 in
      let even = row.0.aligned in
      let far = word.below in
      let more = power_some k in
      let v6 = do_bne_taken v5 6 0 (8192 - 20) s.pc (at_plain g (s.pc + 4 + 4 + 4 + 4 + 4) (Bne 6 0 (8192 - 20)) word (lit< tt, lit< tt, (lit< tt, refl))) (lit< tt) (lit< tt) (λ q. no_zero (t5.rf 6) (power k) power_is more (q ∙ v.shows.zero_is)) (omega arith) even in
      let t6 = seen_jump t5 0 0 s.pc in
      let c = prints k (n % power (suc k)) (going g 6 r) t6 v6 row (record { number_is = number_is; power_is = power_is; ten = ready.ten }) call (mod_below n (power (suc k)) some) in
      let s0 = traced s (Put (48 + d) ∷ s.trace) in
      let q6 : Quiet s0 t6 = quiet_trans s0 t5 t6 (quiet_next s (48 + d)) (quiet_none t5 0 s.pc) in
      let tr = onto (figures k (n % power (suc k))) (Put (48 + d) ∷ s.trace) in
      let e : going g (6 * suc k) (going g 6 r) ≡ going g (6 * suc (suc k)) r = sym (steps_add (machine g.names) 6 (6 * suc k) r) ∙ ap (λ m. going g m r) (six_on k) in
      record {
        seen = c.seen;
        sees = subst (λ r2. Sees g r2 c.seen) e c.sees;
        quiet = quiet_trans (traced s tr) (traced t6 tr) c.seen (quiet_traced s0 t6 tr q6) c.quiet;
        pc = c.pc;
      }
    where
      quiet_traced : (s t : Seen) (tr : List Event) → Quiet s t → Quiet (traced s tr) (traced t tr)
      quiet_traced s t tr q = record { homes = q.homes; words = q.words; fixed = record { r0 = q.fixed.r0; r3 = q.fixed.r3; r8 = q.fixed.r8; r9 = q.fixed.r9; r24 = q.fixed.r24; r25 = q.fixed.r25; r26 = q.fixed.r26; r27 = q.fixed.r27; input_is = q.fixed.input_is; trace_is = refl } }
