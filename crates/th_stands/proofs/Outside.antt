-- Bytes put and taken.
use Rattle.std.proofs.Common.{◌≡◌, ℕ, suc, ◌+◌, ◌-◌, ◌%◌, ◌<◌, ◌≤◌, List, [], ◌∷◌, ◌++◌, length, length-append, Some, None, true, false, nat_lt, refl, sym, ap, ◌∙◌, subst, ⊎_elim, arith, lit<}
use Rattle.std.specs.Prelude.{slice_get, ℤ, pos, negsuc}
use Rattle.std.proofs.lemmas.Bool.{cases_lt, lt-ltb, le-ltb}
use Rattle.th_world.specs.Event.{Put, Took, FoundEnd}
use Rattle.th_word.specs.Word.{word_add, signed_less, flag_word, biased, extend_12}
use Rattle.th_rv.specs.declared.instr.Instr.TheVariants.{Addi, Sltiu, Bne, Bge, Ecall}
use Rattle.th_elf.specs.Run.{Run, machine, no_byte}
use Rattle.th_runs.proofs.Steps.{steps_add}
use Rattle.th_meaning.specs.World.{bounds, end_of_input}
use Rattle.th_flat.specs.declared.module.FlatUnit.{FlatUnit}
use Rattle.th_flat.specs.Values.{FlatValue, Int, FlatWorld, Thrown, signed}
use Rattle.th_flat.specs.Configs.{Loop, NoLoop, Here, Stack, Bottom}
use Rattle.th_abi.specs.declared.word.RelocKind.TheVariants as reloc
use Rattle.th_abi.specs.declared.word.Failure.TheVariants.{Bounds, EndOfInput}
use Rattle.th_abi.specs.declared.word.PatternWord.{PatternWord}
use Rattle.th_abi.specs.declared.word.Home.{Home}
use Rattle.th_abi.specs.declared.word.Home.TheVariants.{Register, Frame}
use Rattle.th_abi.specs.Words.{plain}
use Rattle.th_abi.specs.Sequences.{home, register_of, fetched, moved, fail, environment}
use Rattle.th_abi.specs.Outside.{get_row}
use Rattle.th_stands.specs.Seen.{Seen, Sees}
use Rattle.th_stands.specs.Places.{HasRow}
use Rattle.th_stands.specs.Stands.{Places, StackIs, cell, AtOp}
use Rattle.th_stands.specs.Law.{Leads}
use Rattle.th_stands.proofs.Instructions.{seen_reg, seen_jump, seen_get, seen_put, do_addi, do_sltiu, do_bne_taken, do_bne_on, do_bge_taken, do_bge_on, do_put, do_get, do_get_none}
use Rattle.th_stands.proofs.Sequences.{going, at_plain, extend_low, plus_zero, words_to, register_fits, fetched_seen, moved_seen, move_does, Quiet, quiet_trans, quiet_reg, quiet_none, quiet_fetched, fetched_value, operand_stays, apart_5, apart_6, apart_10, apart_17, wrote_after, wrote_moved}
use Rattle.th_stands.proofs.Signed.{signed_low, signed_high}
use Rattle.th_stands.proofs.Restand.{pushed, popped, reworld}
use Rattle.th_stands.proofs.Failing.{failed_seen, failed_is, failed_after, fail_does, failed}
use Rattle.th_stands.proofs.Rows.{Numbers, length_fetched, fetched_pc, place_is_home, fetches, Fetched, Falls}
use Rattle.th_stands.proofs.Sums.{moved_pc, five_more}

-- the number of an environment call in its register
call_number : (z n : ℕ) → z ≡ 0 → n < 2048 → word_add z (extend_12 n) ≡ n
call_number z n e lt = let x = extend_low n lt in rw (e, x) (omega arith)

-- a byte isn't negative, and what is given at the end of the input is
byte_positive : (b z : ℕ) → b < 256 → z ≡ 0 → signed_less b z ≡ false
byte_positive b z lt e = rw e (le-ltb (biased b) (biased 0) (omega arith))

none_negative : (z : ℕ) → z ≡ 0 → signed_less no_byte z ≡ true
none_negative z e = rw e refl

six_more : (n : ℕ) → n + 6 ≡ suc (n + 5)
six_more n = omega arith

-- a word that means a number that isn't negative
pub word_of_byte : (c n : ℕ) → signed c ≡ pos n → c ≡ n
word_of_byte c n e = ⊎_elim low high (cases_lt c 2147483648)
  where
    low : c < 2147483648 → c ≡ n
    low l = same_pos (sym (signed_low c l) ∙ e)
      where
        same_pos : pos c ≡ pos n → c ≡ n
        same_pos q = cc

    high : 2147483648 ≤ c → c ≡ n
    high l = absurd (no_pos (sym (signed_high c l) ∙ e))
      where
        no_pos : negsuc (4294967295 - c) ≡ pos n → ⊥
        no_pos q = cc

-- a word that means a number that is no byte
at_least : (c : ℕ) (x : ℤ) → signed c ≡ x → ((n : ℕ) → n < 256 → x ≡ pos n → ⊥) → 256 ≤ c
at_least c x e large = ⊎_elim (λ l. absurd (large c l (sym e ∙ signed_low c (omega arith)))) (λ l. l) (cases_lt c 256)

not_zero : (flag z : ℕ) → flag ≡ 1 → z ≡ 0 → flag ≡ z → ⊥
not_zero flag z e1 e2 e3 = omega arith

-- a byte put, where it was seen before the words that put it
put_quiet : (H : Home) (s : Seen) (sb n flag y z target : ℕ)
    → Quiet (seen_reg (seen_reg (seen_reg (fetched_seen H (record { pc = s.pc; rf = s.rf; wf = s.wf; input = s.input; trace = Put n ∷ s.trace }) sb 5) 6 flag) 10 y) 17 z)
    (seen_put (seen_reg (seen_reg (seen_jump (seen_reg (fetched_seen H s sb 5) 6 flag) 0 0 target) 10 y) 17 z) n)
put_quiet (Register k) s sb n flag y z target = record { homes = λ i l1 l2. refl; words = λ i. refl; fixed = record { r0 = refl; r3 = refl; r8 = refl; r9 = refl; r24 = refl; r25 = refl; r26 = refl; r27 = refl; input_is = refl; trace_is = refl } }
put_quiet (Frame k) s sb n flag y z target = record { homes = λ i l1 l2. refl; words = λ i. refl; fixed = record { r0 = refl; r3 = refl; r8 = refl; r9 = refl; r24 = refl; r25 = refl; r26 = refl; r27 = refl; input_is = refl; trace_is = refl } }

-- the row of a byte put
abbrev pub put_at : (place : ℕ) → List PatternWord
put_at place = fetched (home place) 5 ++ (plain (Sltiu 6 (register_of (home place) 5) 256) ∷ plain (Bne 6 0 24) ∷ (fail Bounds ++ (plain (Addi 10 (register_of (home place) 5) 0) ∷ environment 1)))

abbrev After : (place : ℕ) → List PatternWord
After place = plain (Sltiu 6 (register_of (home place) 5) 256) ∷ plain (Bne 6 0 24) ∷ (fail Bounds ++ (plain (Addi 10 (register_of (home place) 5) 0) ∷ environment 1))

length_put : (place : ℕ) → length (put_at place) ≡ words_to (home place) + 10
length_put place = length-append (fetched (home place) 5) (After place) ∙ ap (λ n. n + 10) (length_fetched (home place) 5)

module _ (p : Places) (used heap : ℕ) (u : FlatUnit) (at : ℕ) (loop : Loop) (h : Here) (below : Stack) (w : FlatWorld) (r : Run) (s : Seen) (v : Sees p.loaded r s) (a : AtOp p used heap u at loop h Bottom below w s) (to : ℕ) (number : Numbers) where
  -- the state after a row stands for the unit at an operation, in a world
  abbrev In : (words at2 : ℕ) → Here → FlatWorld → Type 0
  In words at2 h2 w2 = Leads p.loaded r words (AtOp p used heap u at2 NoLoop h2 Bottom below w2)

  -- a byte is there: it is pushed
  pub get_some : (b : ℕ) (bytes : List ℕ) (w2 : FlatWorld) → w.input ≡ b ∷ bytes → w2.input ≡ bytes → w2.trace ≡ Took b ∷ w.trace → w2.objects ≡ w.objects → length h.stack < u.depth → length h.stack ≤ 400 → HasRow p.loaded s.pc to number (get_row (length h.stack)) → Falls p used heap u at loop h below w r s v a to number (get_row (length h.stack))
      → In (length (get_row (length h.stack))) (at + 1) (record { stack = Int (pos b) ∷ h.stack; locals = h.locals; status = h.status }) w2
  get_some b bytes w2 is input tr objects deep high row next =
      let H = home (length h.stack) in
      let home_is = place_is_home p used heap u at loop h below w r s v a to number (length h.stack) deep high in
      let x = word_add (s.rf 0) (extend_12 2) in
      let lt : b < 256 = a.world_is.bytes 0 b (ap (λ l. slice_get l 0) is) in
      let v1 = do_addi v 17 0 2 (at_plain p.loaded s.pc (Addi 17 0 2) row.0 (lit< tt, lit< tt, lit< tt)) (lit< tt) (lit< tt) in
      let s1 = seen_reg s 17 x in
      let v2 = do_get v1 b bytes (at_plain p.loaded (s.pc + 4) Ecall row.1.0 tt) (call_number (s.rf 0) 2 v.shows.zero_is (lit< tt)) (a.world_is.input_is ∙ is) lt in
      let s2 = seen_get (b ∷ bytes) s1 in
      let word = row.1.1.0 in
      let even = word.aligned in
      let low = word.below in
      let target = s.pc + 4 + 4 + 4 + 4 + 4 + 4 + 4 + 4 in
      let v3 = do_bge_taken v2 10 0 24 target (at_plain p.loaded (s.pc + 4 + 4) (Bge 10 0 24) word (lit< tt, lit< tt, (lit< tt, refl))) (lit< tt) (lit< tt) (byte_positive b (s.rf 0) lt v.shows.zero_is) (omega arith) (omega arith) in
      let s3 = seen_jump s2 0 0 target in
      let s0 : Seen = record { pc = s.pc; rf = s.rf; wf = s.wf; input = bytes; trace = Took b ∷ s.trace } in
      let tr0 : Took b ∷ s.trace ≡ w2.trace = ap (λ t. Took b ∷ t) a.world_is.trace_is ∙ sym tr in
      let rest_small : (i c : ℕ) → slice_get w2.input i ≡ Some c → c < 256 = λ i c e. a.world_is.bytes (suc i) c (ap (λ l. slice_get l (suc i)) is ∙ ap (λ l. slice_get l i) (sym input) ∙ e) in
      let a0 = reworld p used heap u at loop h below w w2 s bytes (Took b ∷ s.trace) a (sym input) tr0 objects rest_small in
      let q1 : Quiet s0 (seen_reg s0 17 x) = quiet_reg s0 17 x refl apart_17 in
      let q2 : Quiet (seen_reg s0 17 x) s2 = quiet_reg (seen_reg s0 17 x) 10 b refl apart_10 in
      let q3 : Quiet s0 s3 = quiet_trans s0 (seen_reg s0 17 x) s3 q1 (quiet_trans (seen_reg s0 17 x) s2 s3 q2 (quiet_none s2 0 target)) in
      let v4 = move_does p.loaded (going p.loaded 3 r) s3 H a.sb 10 to number [] v3 home_is (lit< tt) (q3.fixed.r9 ∙ a.works.stack_reg) row.1.1.1.1.1.1.1.1 in
      let t = moved_seen H s3 a.sb 10 in
      let pc2 = moved_pc H s3 a.sb 10 in
      record {
        last = 3;
        within = omega arith;
        seen = t;
        sees = v4;
        lands = pushed p used heap u at loop h below w2 s0 a0 t (at + 1) b (Int (pos b)) h.stack (wrote_after s0 s3 t a.sb (length h.stack) b q3 (wrote_moved s3 a.sb (length h.stack) 10 b refl (omega arith)))
            (omega (arith, a.pc_is, next)) a0.works.stack_is (signed_low b (omega arith));
      }

  -- the input ends: the failure
  pub get_none : (l : ℕ) (w2 : FlatWorld) → w.input ≡ [] → w2.input ≡ [] → w2.trace ≡ FoundEnd ∷ w.trace → w2.objects ≡ w.objects → HasRow p.loaded s.pc to number (get_row (length h.stack)) → to % 4 ≡ 0 → to < 268435456 → p.op_at u.name l ≡ to → number reloc.Word (Some EndOfInput) ≡ p.exception_at end_of_input
      → In (length (get_row (length h.stack))) l (record { stack = []; locals = h.locals; status = Thrown end_of_input None }) w2
  get_none l w2 is input tr objects row aligned small there named =
      let x = word_add (s.rf 0) (extend_12 2) in
      let v1 = do_addi v 17 0 2 (at_plain p.loaded s.pc (Addi 17 0 2) row.0 (lit< tt, lit< tt, lit< tt)) (lit< tt) (lit< tt) in
      let s1 = seen_reg s 17 x in
      let v2 = do_get_none v1 (at_plain p.loaded (s.pc + 4) Ecall row.1.0 tt) (call_number (s.rf 0) 2 v.shows.zero_is (lit< tt)) (a.world_is.input_is ∙ is) in
      let s2 = seen_get [] s1 in
      let v3 = do_bge_on v2 10 0 24 (at_plain p.loaded (s.pc + 4 + 4) (Bge 10 0 24) row.1.1.0 (lit< tt, lit< tt, (lit< tt, refl))) (lit< tt) (lit< tt) (none_negative (s.rf 0) v.shows.zero_is) in
      let s3 = seen_reg s2 0 0 in
      let s0 : Seen = record { pc = s.pc; rf = s.rf; wf = s.wf; input = []; trace = FoundEnd ∷ s.trace } in
      let tr0 : FoundEnd ∷ s.trace ≡ w2.trace = ap (λ t. FoundEnd ∷ t) a.world_is.trace_is ∙ sym tr in
      let none_small : (i c : ℕ) → slice_get w2.input i ≡ Some c → c < 256 = λ i c e. absurd (no_item i c (ap (λ k. slice_get k i) (sym input) ∙ e)) in
      let a0 = reworld p used heap u at loop h below w w2 s [] (FoundEnd ∷ s.trace) a (sym input) tr0 objects none_small in
      let q1 : Quiet s0 (seen_reg s0 17 x) = quiet_reg s0 17 x refl apart_17 in
      let q2 : Quiet (seen_reg s0 17 x) s2 = quiet_reg (seen_reg s0 17 x) 10 no_byte refl apart_10 in
      let q3 : Quiet s0 s3 = quiet_trans s0 (seen_reg s0 17 x) s3 q1 (quiet_trans (seen_reg s0 17 x) s2 s3 q2 (quiet_none s2 0 (s.pc + 4 + 4 + 4))) in
      let x9 = number reloc.Word (Some EndOfInput) in
      let v4 = fail_does p.loaded (going p.loaded 3 r) s3 EndOfInput to number (moved (home (length h.stack)) 10 ∷ []) v3 row.1.1.1 aligned small in
      let t = failed_seen s3 x9 to in
      record {
        last = 6;
        within = omega arith;
        seen = t;
        sees = v4;
        lands = failed p used heap u at loop h below w2 s0 a0 t end_of_input x9 l (failed_after s0 s3 t x9 q3 (failed_is s3 x9 to)) named (sym there);
      }
    where
      no_item : (i c : ℕ) → slice_get [] i ≡ Some c → ⊥
      no_item i c e = cc

  -- a number below 256 is put
  pub put_some : (n : ℕ) (rest : List FlatValue) (w2 : FlatWorld) → h.stack ≡ Int (pos n) ∷ rest → n < 256 → w2.input ≡ w.input → w2.trace ≡ Put n ∷ w.trace → w2.objects ≡ w.objects → length rest < u.depth → length rest ≤ 400 → HasRow p.loaded s.pc to number (put_at (length rest)) → Falls p used heap u at loop h below w r s v a to number (put_at (length rest))
      → In (length (put_at (length rest))) (at + 1) (record { stack = rest; locals = h.locals; status = h.status }) w2
  put_some n rest w2 stack lt input tr objects deep high row next = after_fetch (fetches p used heap u at loop h below w r s v a to number (length rest) (After (length rest)) deep high row)
    where
      after_fetch : Fetched p used heap u at loop h below w r s v a to number (length rest) (After (length rest)) → In (length (put_at (length rest))) (at + 1) (record { stack = rest; locals = h.locals; status = h.status }) w2
      after_fetch (v1, code) =
          let H = home (length rest) in
          let s1 = fetched_seen H s a.sb 5 in
          let home_is = place_is_home p used heap u at loop h below w r s v a to number (length rest) deep high in
          let fits = register_fits p.loaded a.sb H 5 home_is (lit< tt) in
          let stk : StackIs p a.heap_at (cell s a.sb) (Int (pos n) ∷ rest) = subst (StackIs p a.heap_at (cell s a.sb)) stack a.works.stack_is in
          let c = cell s a.sb (length rest) in
          let is_n : c ≡ n = word_of_byte c n stk.0 in
          let value : s1.rf (register_of H 5) ≡ n = fetched_value H s a.sb 5 (lit< tt) ∙ is_n in
          let r1 = going p.loaded (words_to H) r in
          let v2 = do_sltiu v1 6 (register_of H 5) 256 (at_plain p.loaded s1.pc (Sltiu 6 (register_of H 5) 256) code.0 (lit< tt, fits, lit< tt)) (lit< tt) fits in
          let flag = flag_word (nat_lt (s1.rf (register_of H 5)) 256) in
          let s2 = seen_reg s1 6 flag in
          let one : flag ≡ 1 = ap flag_word (lt-ltb (s1.rf (register_of H 5)) 256 (omega arith)) in
          let word = code.1.0 in
          let even = word.aligned in
          let low = word.below in
          let target = s1.pc + 4 + 4 + 4 + 4 + 4 + 4 + 4 in
          let ne : s2.rf 6 ≡ s2.rf 0 → ⊥ = λ q. not_zero flag (s1.rf 0) one v1.shows.zero_is q in
          let v3 = do_bne_taken v2 6 0 24 target (at_plain p.loaded (s1.pc + 4) (Bne 6 0 24) word (lit< tt, lit< tt, (lit< tt, refl))) (lit< tt) (lit< tt) ne (omega arith) (omega arith) in
          let s3 = seen_jump s2 0 0 target in
          let code2 = code.1.1.1.1.1.1.1 in
          let v4 = do_addi v3 10 (register_of H 5) 0 (at_plain p.loaded target (Addi 10 (register_of H 5) 0) code2.0 (lit< tt, fits, lit< tt)) (lit< tt) fits in
          let y = word_add (s3.rf (register_of H 5)) (extend_12 0) in
          let s4 = seen_reg s3 10 y in
          let y_is : y ≡ n = ap (λ z. word_add z (extend_12 0)) (operand_stays p.loaded H s1 a.sb 5 6 flag home_is apart_6 (λ q. five_six q) ∙ value) ∙ plus_zero n (omega arith) in
          let z = word_add (s4.rf 0) (extend_12 1) in
          let v5 = do_addi v4 17 0 1 (at_plain p.loaded (target + 4) (Addi 17 0 1) code2.1.0 (lit< tt, lit< tt, lit< tt)) (lit< tt) (lit< tt) in
          let s5 = seen_reg s4 17 z in
          let v6 = do_put v5 n (at_plain p.loaded (target + 4 + 4) Ecall code2.1.1.0 tt) (call_number (s4.rf 0) 1 v1.shows.zero_is (lit< tt)) y_is lt in
          let t = seen_put s5 n in
          let s0 : Seen = record { pc = s.pc; rf = s.rf; wf = s.wf; input = s.input; trace = Put n ∷ s.trace } in
          let tr0 : Put n ∷ s.trace ≡ w2.trace = ap (λ k. Put n ∷ k) a.world_is.trace_is ∙ sym tr in
          let rest_small : (i b : ℕ) → slice_get w2.input i ≡ Some b → b < 256 = λ i b e. a.world_is.bytes i b (ap (λ k. slice_get k i) (sym input) ∙ e) in
          let a0 = reworld p used heap u at loop h below w w2 s s.input (Put n ∷ s.trace) a (a.world_is.input_is ∙ sym input) tr0 objects rest_small in
          let f0 = fetched_seen H s0 a.sb 5 in
          let q1 : Quiet s0 f0 = quiet_fetched H s0 a.sb 5 refl apart_5 in
          let q2 : Quiet f0 (seen_reg f0 6 flag) = quiet_reg f0 6 flag refl apart_6 in
          let q3 : Quiet (seen_reg f0 6 flag) (seen_reg (seen_reg f0 6 flag) 10 y) = quiet_reg (seen_reg f0 6 flag) 10 y refl apart_10 in
          let g3 = seen_reg (seen_reg f0 6 flag) 10 y in
          let q4 : Quiet g3 (seen_reg g3 17 z) = quiet_reg g3 17 z refl apart_17 in
          let g4 = seen_reg g3 17 z in
          let q5 : Quiet s0 g4 = quiet_trans s0 f0 g4 q1 (quiet_trans f0 (seen_reg f0 6 flag) g4 q2 (quiet_trans (seen_reg f0 6 flag) g3 g4 q3 q4)) in
          let q6 : Quiet s0 t = quiet_trans s0 g4 t q5 (put_quiet H s a.sb n flag y z target) in
          let pc1 = fetched_pc H s a.sb 5 in
          let l1 = length_put (length rest) in
          let e2 : going p.loaded 5 r1 ≡ going p.loaded (suc (words_to H + 4)) r = sym (steps_add (machine p.loaded.names) (words_to H) 5 r) ∙ ap (λ m. going p.loaded m r) (five_more (words_to H)) in
          record {
            last = words_to H + 4;
            within = omega arith;
            seen = t;
            sees = subst (λ r2. Sees p.loaded r2 t) e2 v6;
            lands = popped p used heap u at loop h below w2 s0 a0 t (at + 1) rest q6 (omega (arith, a.pc_is, next)) (subst (StackIs p a0.heap_at (cell s0 a0.sb)) stack a0.works.stack_is).1;
          }
        where
          five_six : ◌≡◌ {A = ℕ} 5 6 → ⊥
          five_six q = omega arith

  -- another number isn't
  pub put_over : (x : ℤ) (rest : List FlatValue) (l : ℕ) → h.stack ≡ Int x ∷ rest → ((n : ℕ) → n < 256 → x ≡ pos n → ⊥) → length rest < u.depth → length rest ≤ 400 → HasRow p.loaded s.pc to number (put_at (length rest)) → to % 4 ≡ 0 → to < 268435456 → p.op_at u.name l ≡ to → number reloc.Word (Some Bounds) ≡ p.exception_at bounds
      → In (length (put_at (length rest))) l (record { stack = []; locals = h.locals; status = Thrown bounds None }) w
  put_over x rest l stack large deep high row aligned small there named = after_fetch (fetches p used heap u at loop h below w r s v a to number (length rest) (After (length rest)) deep high row)
    where
      after_fetch : Fetched p used heap u at loop h below w r s v a to number (length rest) (After (length rest)) → In (length (put_at (length rest))) l (record { stack = []; locals = h.locals; status = Thrown bounds None }) w
      after_fetch (v1, code) =
          let H = home (length rest) in
          let s1 = fetched_seen H s a.sb 5 in
          let home_is = place_is_home p used heap u at loop h below w r s v a to number (length rest) deep high in
          let fits = register_fits p.loaded a.sb H 5 home_is (lit< tt) in
          let stk : StackIs p a.heap_at (cell s a.sb) (Int x ∷ rest) = subst (StackIs p a.heap_at (cell s a.sb)) stack a.works.stack_is in
          let value : s1.rf (register_of H 5) ≡ cell s a.sb (length rest) = fetched_value H s a.sb 5 (lit< tt) in
          let above : 256 ≤ s1.rf (register_of H 5) = at_least (s1.rf (register_of H 5)) x (ap signed value ∙ stk.0) large in
          let r1 = going p.loaded (words_to H) r in
          let v2 = do_sltiu v1 6 (register_of H 5) 256 (at_plain p.loaded s1.pc (Sltiu 6 (register_of H 5) 256) code.0 (lit< tt, fits, lit< tt)) (lit< tt) fits in
          let flag = flag_word (nat_lt (s1.rf (register_of H 5)) 256) in
          let s2 = seen_reg s1 6 flag in
          let none : flag ≡ 0 = ap flag_word (le-ltb (s1.rf (register_of H 5)) 256 above) in
          let v3 = do_bne_on v2 6 0 24 (at_plain p.loaded (s1.pc + 4) (Bne 6 0 24) code.1.0 (lit< tt, lit< tt, (lit< tt, refl))) (lit< tt) (lit< tt) (none ∙ sym v1.shows.zero_is) in
          let s3 = seen_reg s2 0 0 in
          let x9 = number reloc.Word (Some Bounds) in
          let v9 = fail_does p.loaded (going p.loaded 2 r1) s3 Bounds to number (plain (Addi 10 (register_of H 5) 0) ∷ environment 1) v3 code.1.1 aligned small in
          let t = failed_seen s3 x9 to in
          let q1 : Quiet s s1 = quiet_fetched H s a.sb 5 refl apart_5 in
          let q2 : Quiet s1 s2 = quiet_reg s1 6 flag refl apart_6 in
          let q3 : Quiet s s3 = quiet_trans s s1 s3 q1 (quiet_trans s1 s2 s3 q2 (quiet_none s2 0 (s1.pc + 4 + 4))) in
          let l1 = length_put (length rest) in
          let e2 : going p.loaded 6 r1 ≡ going p.loaded (suc (words_to H + 5)) r = sym (steps_add (machine p.loaded.names) (words_to H) 6 r) ∙ ap (λ m. going p.loaded m r) (six_more (words_to H)) in
          record {
            last = words_to H + 5;
            within = omega arith;
            seen = t;
            sees = subst (λ r2. Sees p.loaded r2 t) e2 v9;
            lands = failed p used heap u at loop h below w s a t bounds x9 l (failed_after s s3 t x9 q3 (failed_is s3 x9 to)) named (sym there);
          }
