-- The row of a number put in decimal.
use Rattle.std.proofs.Common.{◌≡◌, ℕ, zero, suc, ◌+◌, ◌-◌, ◌*◌, ◌<◌, ◌≤◌, List, [], ◌∷◌, ◌++◌, length, Option, Some, true, false, refl, sym, ap, ◌∙◌, subst, ◌⊎◌, inl, inr, arith, lit<, decimal}
use Rattle.std.specs.Prelude.{slice_get, ℤ, pos, negsuc}
use Rattle.std.specs.Fmt.{signed_decimal}
use Rattle.std.proofs.lemmas.Bool.{lt-ltb, le-ltb, cases_lt}
use Rattle.th_world.specs.Event.{Event, Put}
use Rattle.th_word.specs.Word.{word_add, word_sub, signed_less, biased, extend_12}
use Rattle.th_rv.specs.declared.instr.Instr.TheVariants.{Lw, Addi, Sub, Bge, Ecall}
use Rattle.th_elf.specs.Run.{Run, run_step, machine}
use Rattle.th_runs.proofs.Steps.{steps_add}
use Rattle.th_meaning.specs.World.{put_all, note}
use Rattle.th_flat.specs.declared.module.FlatUnit.{FlatUnit}
use Rattle.th_flat.specs.Values.{FlatValue, Int, FlatWorld, signed}
use Rattle.th_flat.specs.Configs.{Loop, NoLoop, Here, Stack, Bottom}
use Rattle.th_abi.specs.declared.word.RelocKind.{RelocKind}
use Rattle.th_abi.specs.declared.word.Failure.{Failure}
use Rattle.th_abi.specs.declared.word.PatternWord.{PatternWord}
use Rattle.th_abi.specs.declared.word.Home.{Home}
use Rattle.th_abi.specs.declared.word.Home.TheVariants.{Register, Frame}
use Rattle.th_abi.specs.Words.{plain}
use Rattle.th_abi.specs.Sequences.{home, taken}
use Rattle.th_abi.specs.Outside.{power_code, sign_code, digits_code}
use Rattle.th_stands.specs.Seen.{word_address, Seen, Loaded, Sees}
use Rattle.th_stands.specs.Places.{HasRow}
use Rattle.th_stands.specs.Stands.{Places, StackIs, cell, cell_of, AtOp}
use Rattle.th_stands.specs.Law.{LeadsLater}
use Rattle.th_stands.proofs.Instructions.{seen_reg, seen_jump, seen_put, do_addi, do_sub, do_lw, do_bge_taken, do_bge_on, do_put}
use Rattle.th_stands.proofs.Sequences.{going, at_plain, extend_low, up_from, plus_zero, IsHome, Quiet, quiet_trans, quiet_reg, quiet_none, apart_5, apart_6, apart_10, apart_17, apart_28, apart_29}
use Rattle.th_stands.proofs.Signed.{signed_low, signed_high}
use Rattle.th_stands.proofs.Restand.{popped, reworld}
use Rattle.th_stands.proofs.Numerals.{power, figures, decimal_is, length_figures, Digits, digits_of}
use Rattle.th_stands.proofs.PutInt.{onto, traced, Climb, Ready, Climbed, climbs, Printed, prints}
use Rattle.th_stands.proofs.Rows.{Numbers, place_is_home, Falls}
use Rattle.th_stands.proofs.Outside.{word_of_byte}

-- a word of the stack is put into a register
pub take_does : (g : Loaded) (r : Run) (s : Seen) (h : Home) (sb into to : ℕ) (number : RelocKind → Option Failure → ℕ) (rest : List PatternWord) → Sees g r s → IsHome g sb h → into < 32 → s.rf 9 ≡ word_address sb → HasRow g s.pc to number (taken h into ∷ rest)
    → Sees g (run_step r) (seen_reg s into (cell_of h s sb))
take_does g r s (Register k) sb into to number rest v is lt e row =
    let l = is.1 in
    let small : k < 32 = omega arith in
    let v1 = do_addi v into k 0 (at_plain g s.pc (Addi into k 0) row.0 (lt, small, lit< tt)) lt small in
    subst (λ x. Sees g (run_step r) (seen_reg s into x)) (plus_zero (s.rf k) (v.shows.small k small)) v1
take_does g r s (Frame k) sb into to number rest v is lt e row =
    let small = g.small in
    let in_region = is.0 in
    let few = is.1 in
    do_lw v into 9 (4 * k) (sb + k) (at_plain g s.pc (Lw into 9 (4 * k)) row.0 (lt, lit< tt, omega arith)) lt (lit< tt) is.0 (up_from (s.rf 9) sb k e (omega arith) (omega arith))

-- the registers are ready, and one of them has the word with its sign
record Started (g : Loaded) (r : Run) (s : Seen) (n c k : ℕ) : Type 0 where
  seen : Seen
  sees : Sees g (going g k r) seen
  quiet : Quiet s seen
  ready : Ready seen n zero
  sign : seen.rf 29 ≡ c
  pc : seen.pc ≡ s.pc + 24

-- an absolute value, and the sign
not_negative : (c z : ℕ) → c < 2147483648 → z ≡ 0 → signed_less c z ≡ false
not_negative c z l e = rw e (le-ltb (biased c) (biased 0) (omega arith))

negative : (c z : ℕ) → c < 4294967296 → 2147483648 ≤ c → z ≡ 0 → signed_less c z ≡ true
negative c z lt l e = rw e (lt-ltb (biased c) (biased 0) (omega arith))

opposite_word : (z x c : ℕ) → z ≡ 0 → x ≡ c → c < 4294967296 → 2147483648 ≤ c → word_sub z x ≡ 4294967296 - c
opposite_word z x c e f lt l = rw (e, f) (omega arith)

small_constant : (z k : ℕ) → z ≡ 0 → k < 2048 → word_add z (extend_12 k) ≡ k
small_constant z k e lt = let x = extend_low k lt in rw (e, x) (omega arith)

module _ (g : Loaded) (to : ℕ) (number : Numbers) where
  abbrev Constants : Seen → Seen
  Constants s = seen_reg (seen_reg s 28 10) 6 1

  constants : (rest : List PatternWord) (r : Run) (s : Seen) → Sees g r s → HasRow g s.pc to number (plain (Addi 28 0 10) ∷ plain (Addi 6 0 1) ∷ rest) → Sees g (run_step (run_step r)) (Constants s)
  constants rest r s v row =
      let v1 = do_addi v 28 0 10 (at_plain g s.pc (Addi 28 0 10) row.0 (lit< tt, lit< tt, lit< tt)) (lit< tt) (lit< tt) in
      let v1b : Sees g (run_step r) (seen_reg s 28 10) = subst (λ x. Sees g (run_step r) (seen_reg s 28 x)) (small_constant (s.rf 0) 10 v.shows.zero_is (lit< tt)) v1 in
      let v2 = do_addi v1b 6 0 1 (at_plain g (s.pc + 4) (Addi 6 0 1) row.1.0 (lit< tt, lit< tt, lit< tt)) (lit< tt) (lit< tt) in
      subst (λ x. Sees g (run_step (run_step r)) (seen_reg (seen_reg s 28 10) 6 x)) (small_constant (s.rf 0) 1 v.shows.zero_is (lit< tt)) v2

  quiet_constants : (s : Seen) → Quiet s (Constants s)
  quiet_constants s = quiet_trans s (seen_reg s 28 10) (Constants s) (quiet_reg s 28 10 refl apart_28) (quiet_reg (seen_reg s 28 10) 6 1 refl apart_6)

  module _ (rest : List PatternWord) (r : Run) (s : Seen) (v : Sees g r s) (h : Home) (sb : ℕ) (is : IsHome g sb h) (stack_reg : s.rf 9 ≡ word_address sb) (row : HasRow g s.pc to number (taken h 5 ∷ (power_code ++ rest))) (c : ℕ) (c_is : cell_of h s sb ≡ c) (lc : c < 4294967296) where
    -- the word in both registers
    abbrev Both : Seen
    Both = seen_reg (seen_reg s 5 c) 29 c

    both : Sees g (run_step (run_step r)) Both
    both =
        let v1 = take_does g r s h sb 5 to number (power_code ++ rest) v is (lit< tt) stack_reg row in
        let v1b : Sees g (run_step r) (seen_reg s 5 c) = subst (λ x. Sees g (run_step r) (seen_reg s 5 x)) c_is v1 in
        let v2 = do_addi v1b 29 5 0 (at_plain g (s.pc + 4) (Addi 29 5 0) row.1.0 (lit< tt, lit< tt, lit< tt)) (lit< tt) (lit< tt) in
        subst (λ x. Sees g (run_step (run_step r)) (seen_reg (seen_reg s 5 c) 29 x)) (plus_zero c lc) v2

    quiet_both : Quiet s Both
    quiet_both = quiet_trans s (seen_reg s 5 c) Both (quiet_reg s 5 c refl apart_5) (quiet_reg (seen_reg s 5 c) 29 c refl apart_29)

    starts_low : c < 2147483648 → Started g r s c c 5
    starts_low low =
        let word = row.1.1.0 in
        let even = word.aligned in
        let far = row.1.1.1.0.below in
        let target = s.pc + 4 + 4 + 4 + 4 in
        let v3 = do_bge_taken both 5 0 8 target (at_plain g (s.pc + 4 + 4) (Bge 5 0 8) word (lit< tt, lit< tt, (lit< tt, refl))) (lit< tt) (lit< tt) (not_negative c (s.rf 0) low v.shows.zero_is) (omega arith) (omega arith) in
        let s3 = seen_jump Both 0 0 target in
        let v5 = constants (Climb ++ rest) (run_step (run_step (run_step r))) s3 v3 row.1.1.1.1 in
        record {
          seen = Constants s3;
          sees = v5;
          quiet = quiet_trans s Both (Constants s3) quiet_both (quiet_trans Both s3 (Constants s3) (quiet_none Both 0 target) (quiet_constants s3));
          ready = record { number_is = refl; power_is = refl; ten = refl };
          sign = refl;
          pc = omega arith;
        }

    starts_high : 2147483648 ≤ c → Started g r s (4294967296 - c) c 6
    starts_high high =
        let v3 = do_bge_on both 5 0 8 (at_plain g (s.pc + 4 + 4) (Bge 5 0 8) row.1.1.0 (lit< tt, lit< tt, (lit< tt, refl))) (lit< tt) (lit< tt) (negative c (s.rf 0) lc high v.shows.zero_is) in
        let s3 = seen_reg Both 0 0 in
        let r3 = run_step (run_step (run_step r)) in
        let v4 = do_sub v3 5 0 5 (at_plain g (s.pc + 4 + 4 + 4) (Sub 5 0 5) row.1.1.1.0 (lit< tt, lit< tt, lit< tt)) (lit< tt) (lit< tt) (lit< tt) in
        let v4b : Sees g (run_step r3) (seen_reg s3 5 (4294967296 - c)) = subst (λ x. Sees g (run_step r3) (seen_reg s3 5 x)) (opposite_word (s.rf 0) c c v.shows.zero_is refl lc high) v4 in
        let s4 = seen_reg s3 5 (4294967296 - c) in
        let v6 = constants (Climb ++ rest) (run_step r3) s4 v4b row.1.1.1.1 in
        record {
          seen = Constants s4;
          sees = v6;
          quiet = quiet_trans s Both (Constants s4) quiet_both (quiet_trans Both s3 (Constants s4) (quiet_none Both 0 (s.pc + 4 + 4 + 4)) (quiet_trans s3 s4 (Constants s4) (quiet_reg s3 5 (4294967296 - c) refl apart_5) (quiet_constants s4)));
          ready = record { number_is = refl; power_is = refl; ten = refl };
          sign = refl;
          pc = omega arith;
        }

  -- the number's environment call is chosen, and the sign put where there is one
  record Signs (r : Run) (s : Seen) (tr : List Event) (n k steps : ℕ) : Type 0 where
    seen : Seen
    sees : Sees g (going g steps r) seen
    quiet : Quiet (traced s tr) seen
    ready : Ready seen n k
    call : seen.rf 17 ≡ 1
    pc : seen.pc ≡ s.pc + 16

  module _ (rest : List PatternWord) (r : Run) (s : Seen) (v : Sees g r s) (row : HasRow g s.pc to number (sign_code ++ rest)) (n k c : ℕ) (ready : Ready s n k) (sign : s.rf 29 ≡ c) (lc : c < 4294967296) where
    abbrev Called : Seen
    Called = seen_reg s 17 1

    called : Sees g (run_step r) Called
    called =
        let v1 = do_addi v 17 0 1 (at_plain g s.pc (Addi 17 0 1) row.0 (lit< tt, lit< tt, lit< tt)) (lit< tt) (lit< tt) in
        subst (λ x. Sees g (run_step r) (seen_reg s 17 x)) (small_constant (s.rf 0) 1 v.shows.zero_is (lit< tt)) v1

    signs_low : c < 2147483648 → Signs r s s.trace n k 2
    signs_low low =
        let word = row.1.0 in
        let even = word.aligned in
        let far = row.1.1.1.0.below in
        let target = s.pc + 4 + 4 + 4 + 4 in
        let v2 = do_bge_taken called 29 0 12 target (at_plain g (s.pc + 4) (Bge 29 0 12) word (lit< tt, lit< tt, (lit< tt, refl))) (lit< tt) (lit< tt) (not_negative (s.rf 29) (s.rf 0) (subst (λ x. x < 2147483648) (sym sign) low) v.shows.zero_is) (omega arith) (omega arith) in
        let t = seen_jump Called 0 0 target in
        record {
          seen = t;
          sees = v2;
          quiet = quiet_trans s Called t (quiet_reg s 17 1 refl apart_17) (quiet_none Called 0 target);
          ready = record { number_is = ready.number_is; power_is = ready.power_is; ten = ready.ten };
          call = refl;
          pc = omega arith;
        }

    abbrev Minus : Seen
    Minus = seen_reg (seen_reg Called 0 0) 10 45

    minus : 2147483648 ≤ c → Sees g (run_step (run_step (run_step r))) Minus
    minus high =
        let v2 = do_bge_on called 29 0 12 (at_plain g (s.pc + 4) (Bge 29 0 12) row.1.0 (lit< tt, lit< tt, (lit< tt, refl))) (lit< tt) (lit< tt) (negative (s.rf 29) (s.rf 0) (subst (λ x. x < 4294967296) (sym sign) lc) (subst (λ x. 2147483648 ≤ x) (sym sign) high) v.shows.zero_is) in
        let s2 = seen_reg Called 0 0 in
        let v3 = do_addi v2 10 0 45 (at_plain g (s.pc + 4 + 4) (Addi 10 0 45) row.1.1.0 (lit< tt, lit< tt, lit< tt)) (lit< tt) (lit< tt) in
        subst (λ x. Sees g (run_step (run_step (run_step r))) (seen_reg s2 10 x)) (small_constant (s.rf 0) 45 v.shows.zero_is (lit< tt)) v3

    signs_high : 2147483648 ≤ c → Signs r s (Put 45 ∷ s.trace) n k 4
    signs_high high =
        let v4 = do_put (minus high) 45 (at_plain g (s.pc + 4 + 4 + 4) Ecall row.1.1.1.0 tt) refl refl (lit< tt) in
        let s0 = traced s (Put 45 ∷ s.trace) in
        let q : Quiet s0 (seen_reg (seen_reg s0 17 1) 10 45) = quiet_trans s0 (seen_reg s0 17 1) (seen_reg (seen_reg s0 17 1) 10 45) (quiet_reg s0 17 1 refl apart_17) (quiet_reg (seen_reg s0 17 1) 10 45 refl apart_10) in
        record {
          seen = seen_put Minus 45;
          sees = v4;
          quiet = record { homes = q.homes; words = q.words; fixed = record { r0 = q.fixed.r0; r3 = q.fixed.r3; r8 = q.fixed.r8; r9 = q.fixed.r9; r24 = q.fixed.r24; r25 = q.fixed.r25; r26 = q.fixed.r26; r27 = q.fixed.r27; input_is = refl; trace_is = refl } };
          ready = record { number_is = ready.number_is; power_is = ready.power_is; ten = ready.ten };
          call = refl;
          pc = omega arith;
        }

-- what is put of a number
record Puts (w w2 : FlatWorld) (bytes : List ℕ) : Type 0 where
  input : w2.input ≡ w.input
  trace_is : w2.trace ≡ onto bytes w.trace
  objects : w2.objects ≡ w.objects

puts_all : (bytes : List ℕ) (w : FlatWorld) → Puts w (put_all bytes w) bytes
puts_all [] w = record { input = refl; trace_is = refl; objects = refl }
puts_all (b ∷ bytes) w = let p = puts_all bytes (note (Put b) w) in record { input = p.input; trace_is = p.trace_is; objects = p.objects }

-- the row of a number put from a place
abbrev pub put_int_at : (place : ℕ) → List PatternWord
put_int_at place = taken (home place) 5 ∷ (power_code ++ (sign_code ++ digits_code))

nothing_more : (k : ℕ) → k + zero ≡ k
nothing_more k = omega arith

row_at : (g : Loaded) (to : ℕ) (number : Numbers) (words : List PatternWord) (a b : ℕ) → a ≡ b → HasRow g a to number words → HasRow g b to number words
row_at g to number words a b e = subst (λ pc. HasRow g pc to number words) e

module _ (g : Loaded) (to : ℕ) (number : Numbers) (r : Run) (s : Seen) (v : Sees g r s) (h : Home) (sb : ℕ) (is : IsHome g sb h) (stack_reg : s.rf 9 ≡ word_address sb) (row : HasRow g s.pc to number (taken h 5 ∷ (power_code ++ (sign_code ++ digits_code)))) (c : ℕ) (c_is : cell_of h s sb ≡ c) (lc : c < 4294967296) where
  -- the whole row was done; nothing was seen for so many instructions
  record Whole (tr : List Event) (n k early count : ℕ) : Type 0 where
    seen : Seen
    sees : Sees g (going g count r) seen
    quiet : Quiet (traced s (onto (figures k n) tr)) seen
    pc : seen.pc ≡ s.pc + 80
    hushed : Seen
    hushes : Sees g (going g early r) hushed
    silent : hushed.trace ≡ s.trace

  -- the power is found
  climbed : (n m : ℕ) (st : Started g r s n c m) → n < 4294967296 → (d : Digits n) → Climbed g (going g m r) st.seen n (d.more + zero) (4 * d.more + 2)
  climbed n m st small d =
      climbs g to number (sign_code ++ digits_code) n small d.more zero (going g m r) st.seen st.sees (row_at g to number (Climb ++ (sign_code ++ digits_code)) (s.pc + 4 + 4 + 4 + 4 + 4 + 4) st.seen.pc (there s.pc st.seen.pc st.pc) row.1.1.1.1.1.1) st.ready
      (subst (λ k. n < power (suc k)) (sym (nothing_more d.more)) d.below) (subst (λ k. (k ≡ 0) ⊎ (power k ≤ n)) (sym (nothing_more d.more)) d.reached)
    where
      there : (a b : ℕ) → b ≡ a + 24 → a + 4 + 4 + 4 + 4 + 4 + 4 ≡ b
      there a b e = omega arith

  -- from there on with the digits
  printed : (n k : ℕ) (t : Seen) (r2 : Run) → Sees g r2 t → t.pc ≡ s.pc + 56 → Ready t n k → t.rf 17 ≡ 1 → n < power (suc k) → Printed g r2 t n k (6 * suc k)
  printed n k t r2 v2 pc ready call below = prints g to number k n r2 t v2 (row_at g to number digits_code (s.pc + 4 + 4 + 4 + 4 + 4 + 4 + 4 + 4 + 4 + 4 + 4 + 4 + 4 + 4) t.pc (there s.pc t.pc pc) row.1.1.1.1.1.1.1.1.1.1.1.1.1.1) ready call below
    where
      there : (a b : ℕ) → b ≡ a + 56 → a + 4 + 4 + 4 + 4 + 4 + 4 + 4 + 4 + 4 + 4 + 4 + 4 + 4 + 4 ≡ b
      there a b e = omega arith

  signs_row : (pc : ℕ) → pc ≡ s.pc + 40 → HasRow g pc to number (sign_code ++ digits_code)
  signs_row pc e = row_at g to number (sign_code ++ digits_code) (s.pc + 4 + 4 + 4 + 4 + 4 + 4 + 4 + 4 + 4 + 4) pc (there s.pc pc e) row.1.1.1.1.1.1.1.1.1.1
    where
      there : (a b : ℕ) → b ≡ a + 40 → a + 4 + 4 + 4 + 4 + 4 + 4 + 4 + 4 + 4 + 4 ≡ b
      there a b e = omega arith

  same_ready : (t : Seen) (n k : ℕ) → Ready t n (k + zero) → Ready t n k
  same_ready t n k q = record { number_is = q.number_is; power_is = q.power_is ∙ ap power (nothing_more k); ten = q.ten }

  traced_quiet : (a b : Seen) (tr : List Event) → Quiet a b → Quiet (traced a tr) (traced b tr)
  traced_quiet a b tr q = record { homes = q.homes; words = q.words; fixed = record { r0 = q.fixed.r0; r3 = q.fixed.r3; r8 = q.fixed.r8; r9 = q.fixed.r9; r24 = q.fixed.r24; r25 = q.fixed.r25; r26 = q.fixed.r26; r27 = q.fixed.r27; input_is = q.fixed.input_is; trace_is = refl } }

  whole_low : c < 2147483648 → (d : Digits c) → Whole s.trace c d.more (5 + (4 * d.more + 2) + 2) (5 + (4 * d.more + 2) + 2 + 6 * suc d.more)
  whole_low low d =
      let st = starts_low g to number (sign_code ++ digits_code) r s v h sb is stack_reg row c c_is lc low in
      let cl = climbed c 5 st lc d in
      let r1 = going g 5 r in
      let r2 = going g (4 * d.more + 2) r1 in
      let pc1 = st.pc in
      let pc2 = cl.pc in
      let sg = signs_low g to number digits_code r2 cl.seen cl.sees (signs_row cl.seen.pc (omega arith)) c d.more c (same_ready cl.seen c d.more cl.ready) (cl.sign ∙ st.sign) lc low in
      let r3 = going g 2 r2 in
      let pc3 = sg.pc in
      let pr = printed c d.more sg.seen r3 sg.sees (omega arith) sg.ready sg.call d.below in
      let pc4 = pr.pc in
      let e2 : going g (4 * d.more + 2) r1 ≡ going g (5 + (4 * d.more + 2)) r = sym (steps_add (machine g.names) 5 (4 * d.more + 2) r) in
      let e3 : r3 ≡ going g (5 + (4 * d.more + 2) + 2) r = ap (going g 2) e2 ∙ sym (steps_add (machine g.names) (5 + (4 * d.more + 2)) 2 r) in
      let e4 : going g (6 * suc d.more) r3 ≡ going g (5 + (4 * d.more + 2) + 2 + 6 * suc d.more) r = ap (going g (6 * suc d.more)) e3 ∙ sym (steps_add (machine g.names) (5 + (4 * d.more + 2) + 2) (6 * suc d.more) r) in
      let q0 : Quiet s sg.seen = quiet_trans s st.seen sg.seen st.quiet (quiet_trans st.seen cl.seen sg.seen cl.quiet sg.quiet) in
      let tr = onto (figures d.more c) s.trace in
      let same_trace : onto (figures d.more c) sg.seen.trace ≡ tr = ap (onto (figures d.more c)) q0.fixed.trace_is in
      record {
        seen = pr.seen;
        sees = subst (λ r9. Sees g r9 pr.seen) e4 pr.sees;
        quiet = quiet_trans (traced s tr) (traced sg.seen tr) pr.seen (traced_quiet s sg.seen tr q0) (subst (λ l. Quiet (traced sg.seen l) pr.seen) same_trace pr.quiet);
        pc = omega arith;
        hushed = sg.seen;
        hushes = subst (λ r9. Sees g r9 sg.seen) e3 sg.sees;
        silent = q0.fixed.trace_is;
      }

  whole_high : 2147483648 ≤ c → (d : Digits (4294967296 - c)) → Whole (Put 45 ∷ s.trace) (4294967296 - c) d.more (6 + (4 * d.more + 2)) (6 + (4 * d.more + 2) + 4 + 6 * suc d.more)
  whole_high high d =
      let n = 4294967296 - c in
      let st = starts_high g to number (sign_code ++ digits_code) r s v h sb is stack_reg row c c_is lc high in
      let cl = climbed n 6 st (omega arith) d in
      let r1 = going g 6 r in
      let r2 = going g (4 * d.more + 2) r1 in
      let pc1 = st.pc in
      let pc2 = cl.pc in
      let sg = signs_high g to number digits_code r2 cl.seen cl.sees (signs_row cl.seen.pc (omega arith)) n d.more c (same_ready cl.seen n d.more cl.ready) (cl.sign ∙ st.sign) lc high in
      let r3 = going g 4 r2 in
      let pc3 = sg.pc in
      let pr = printed n d.more sg.seen r3 sg.sees (omega arith) sg.ready sg.call d.below in
      let pc4 = pr.pc in
      let e2 : going g (4 * d.more + 2) r1 ≡ going g (6 + (4 * d.more + 2)) r = sym (steps_add (machine g.names) 6 (4 * d.more + 2) r) in
      let e3 : r3 ≡ going g (6 + (4 * d.more + 2) + 4) r = ap (going g 4) e2 ∙ sym (steps_add (machine g.names) (6 + (4 * d.more + 2)) 4 r) in
      let e4 : going g (6 * suc d.more) r3 ≡ going g (6 + (4 * d.more + 2) + 4 + 6 * suc d.more) r = ap (going g (6 * suc d.more)) e3 ∙ sym (steps_add (machine g.names) (6 + (4 * d.more + 2) + 4) (6 * suc d.more) r) in
      let q1 : Quiet s cl.seen = quiet_trans s st.seen cl.seen st.quiet cl.quiet in
      let s0 = traced s (Put 45 ∷ s.trace) in
      let put_same : Put 45 ∷ cl.seen.trace ≡ Put 45 ∷ s.trace = ap (λ l. Put 45 ∷ l) q1.fixed.trace_is in
      let q2 : Quiet s0 sg.seen = quiet_trans s0 (traced cl.seen (Put 45 ∷ s.trace)) sg.seen (traced_quiet s cl.seen (Put 45 ∷ s.trace) q1) (subst (λ l. Quiet (traced cl.seen l) sg.seen) put_same sg.quiet) in
      let tr = onto (figures d.more n) (Put 45 ∷ s.trace) in
      let same_trace : onto (figures d.more n) sg.seen.trace ≡ tr = ap (onto (figures d.more n)) q2.fixed.trace_is in
      record {
        seen = pr.seen;
        sees = subst (λ r9. Sees g r9 pr.seen) e4 pr.sees;
        quiet = quiet_trans (traced s tr) (traced sg.seen tr) pr.seen (traced_quiet s0 sg.seen tr q2) (subst (λ l. Quiet (traced sg.seen l) pr.seen) same_trace pr.quiet);
        pc = omega arith;
        hushed = cl.seen;
        hushes = subst (λ r9. Sees g r9 cl.seen) e2 cl.sees;
        silent = q1.fixed.trace_is;
      }

-- the word of a number
word_low : (c n : ℕ) → signed c ≡ pos n → c < 2147483648
word_low c n e = by (cases_lt c 2147483648)
  where
    by : (c < 2147483648) ⊎ (2147483648 ≤ c) → c < 2147483648
    by (inl l) = l
    by (inr l) = absurd (no_pos (sym (signed_high c l) ∙ e))
      where
        no_pos : negsuc (4294967295 - c) ≡ pos n → ⊥
        no_pos q = cc

word_high : (c n : ℕ) → c < 4294967296 → signed c ≡ negsuc n → (2147483648 ≤ c) × (4294967296 - c ≡ suc n)
word_high c n lt e = by (cases_lt c 2147483648)
  where
    by : (c < 2147483648) ⊎ (2147483648 ≤ c) → (2147483648 ≤ c) × (4294967296 - c ≡ suc n)
    by (inl l) = absurd (no_neg (sym (signed_low c l) ∙ e))
      where
        no_neg : pos c ≡ negsuc n → ⊥
        no_neg q = cc
    by (inr l) = let same : 4294967295 - c ≡ n = same_number (sym (signed_high c l) ∙ e) in (l, omega arith)
      where
        same_number : negsuc (4294967295 - c) ≡ negsuc n → 4294967295 - c ≡ n
        same_number q = cc

module _ (p : Places) (used heap : ℕ) (u : FlatUnit) (at : ℕ) (loop : Loop) (h : Here) (below : Stack) (w : FlatWorld) (r : Run) (s : Seen) (v : Sees p.loaded r s) (a : AtOp p used heap u at loop h Bottom below w s) (to : ℕ) (number : Numbers) where
  abbrev pub Later : (turns words : ℕ) → List FlatValue → FlatWorld → Type 0
  Later turns words rest w2 = LeadsLater p.loaded r turns words (AtOp p used heap u (at + 1) NoLoop (record { stack = rest; locals = h.locals; status = h.status }) Bottom below w2)

  -- what was put is what the operation puts
  lands : (x : ℤ) (rest : List FlatValue) (bytes : List ℕ) (t : Seen) → h.stack ≡ Int x ∷ rest → Quiet (traced s (onto bytes s.trace)) t → t.pc ≡ p.op_at u.name (at + 1)
      → AtOp p used heap u (at + 1) NoLoop (record { stack = rest; locals = h.locals; status = h.status }) Bottom below (put_all bytes w) t
  lands x rest bytes t stack q pc =
      let w2 = put_all bytes w in
      let ps = puts_all bytes w in
      let s0 = traced s (onto bytes s.trace) in
      let tr0 : onto bytes s.trace ≡ w2.trace = ap (onto bytes) a.world_is.trace_is ∙ sym ps.trace_is in
      let rest_small : (i b : ℕ) → slice_get w2.input i ≡ Some b → b < 256 = λ i b e. a.world_is.bytes i b (ap (λ k. slice_get k i) (sym ps.input) ∙ e) in
      let a0 = reworld p used heap u at loop h below w w2 s s.input (onto bytes s.trace) a (a.world_is.input_is ∙ sym ps.input) tr0 ps.objects rest_small in
      popped p used heap u at loop h below w2 s0 a0 t (at + 1) rest q pc (subst (StackIs p a0.heap_at (cell s0 a0.sb)) stack a0.works.stack_is).1

  -- the whole row was done
  done : (x : ℤ) (rest : List FlatValue) (tr : List Event) (n k early last : ℕ) → h.stack ≡ Int x ∷ rest → Falls p used heap u at loop h below w r s v a to number (put_int_at (length rest)) → (bytes : List ℕ) → onto (figures k n) tr ≡ onto bytes s.trace
      → (seen : Seen) → Sees p.loaded (going p.loaded (suc last) r) seen → Quiet (traced s (onto (figures k n) tr)) seen → seen.pc ≡ s.pc + 80 → (hushed : Seen) → Sees p.loaded (going p.loaded early r) hushed → hushed.trace ≡ s.trace
      → (turns : ℕ) → turns ≤ suc last → turns ≤ early → suc last ≤ 10 * turns → Later turns (10 * turns) rest (put_all bytes w)
  done x rest tr n k early last stack next bytes same seen sees quiet pc hushed hushes silent turns paid enough within = record {
    leads = record {
      last = last;
      within = within;
      seen = seen;
      sees = sees;
      lands = lands x rest bytes seen stack (subst (λ l. Quiet (traced s l) seen) same quiet) (omega (arith, a.pc_is, next, pc));
    };
    paid = paid;
    early = early;
    enough = enough;
    hushed = hushes.trace_is ∙ silent ∙ sym v.trace_is;
  }

  -- the word on the stack
  word_here : (x : ℤ) (rest : List FlatValue) → h.stack ≡ Int x ∷ rest → signed (cell s a.sb (length rest)) ≡ x
  word_here x rest stack = (subst (StackIs p a.heap_at (cell s a.sb)) stack a.works.stack_is).0

  home_here : (rest : List FlatValue) → length rest < u.depth → length rest ≤ 400 → IsHome p.loaded a.sb (home (length rest))
  home_here rest deep high = place_is_home p used heap u at loop h below w r s v a to number (length rest) deep high

  word_small : (rest : List FlatValue) → length rest < u.depth → length rest ≤ 400 → cell s a.sb (length rest) < 4294967296
  word_small rest deep high = small (home (length rest)) (home_here rest deep high)
    where
      small : (H : Home) → IsHome p.loaded a.sb H → cell_of H s a.sb < 4294967296
      small (Register k) is = let l = is.1 in v.shows.small k (omega arith)
      small (Frame k) is = v.shows.small_words (a.sb + k) is.0

  pub put_int_law : (x : ℤ) (rest : List FlatValue) → h.stack ≡ Int x ∷ rest → length rest < u.depth → length rest ≤ 400 → HasRow p.loaded s.pc to number (put_int_at (length rest)) → Falls p used heap u at loop h below w r s v a to number (put_int_at (length rest))
      → Later (length (signed_decimal x) + 1) (10 * (length (signed_decimal x) + 1)) rest (put_all (signed_decimal x) w)
  put_int_law (pos m) rest stack deep high row next =
      let c = cell s a.sb (length rest) in
      let lc = word_small rest deep high in
      let is_m : c ≡ m = word_of_byte c m (word_here (pos m) rest stack) in
      let low = word_low c m (word_here (pos m) rest stack) in
      let d = digits_of c in
      let k = d.more in
      let o = whole_low p.loaded to number r s v (home (length rest)) a.sb (home_here rest deep high) a.works.stack_reg row c refl lc low d in
      let digits : decimal m ≡ figures k c = ap decimal (sym is_m) ∙ decimal_is k c d.below d.reached (omega arith) in
      let count : length (decimal m) ≡ suc k = ap length digits ∙ length_figures k c in
      let e : 5 + (4 * k + 2) + 2 + 6 * suc k ≡ suc (10 * k + 14) = omega arith in
      done (pos m) rest s.trace c k (5 + (4 * k + 2) + 2) (10 * k + 14) stack next (decimal m) (ap (λ l. onto l s.trace) (sym digits))
      o.seen (subst (λ i. Sees p.loaded (going p.loaded i r) o.seen) e o.sees) o.quiet o.pc o.hushed o.hushes o.silent (length (decimal m) + 1) (omega arith) (omega arith) (omega arith)
  put_int_law (negsuc m) rest stack deep high row next =
      let c = cell s a.sb (length rest) in
      let lc = word_small rest deep high in
      let is = word_high c m lc (word_here (negsuc m) rest stack) in
      let d = digits_of (4294967296 - c) in
      let k = d.more in
      let o = whole_high p.loaded to number r s v (home (length rest)) a.sb (home_here rest deep high) a.works.stack_reg row c refl lc is.0 d in
      let digits : decimal (suc m) ≡ figures k (4294967296 - c) = ap decimal (sym is.1) ∙ decimal_is k (4294967296 - c) d.below d.reached (omega arith) in
      let count : length (decimal (suc m)) ≡ suc k = ap length digits ∙ length_figures k (4294967296 - c) in
      let e : 6 + (4 * k + 2) + 4 + 6 * suc k ≡ suc (10 * k + 17) = omega arith in
      let bytes = 45 ∷ decimal (suc m) in
      let many : length bytes ≡ suc (suc k) = ap suc count in
      done (negsuc m) rest (Put 45 ∷ s.trace) (4294967296 - c) k (6 + (4 * k + 2)) (10 * k + 17) stack next bytes (ap (λ l. onto l (Put 45 ∷ s.trace)) (sym digits))
      o.seen (subst (λ i. Sees p.loaded (going p.loaded i r) o.seen) e o.sees) o.quiet o.pc o.hushed o.hushes o.silent (length bytes + 1) (omega arith) (omega arith) (omega arith)
