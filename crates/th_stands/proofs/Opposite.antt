-- The opposite of the topmost word, where it fits and where it doesn't.
use Rattle.std.proofs.Common.{◌≡◌, ℕ, suc, ◌+◌, ◌%◌, ◌<◌, ◌≤◌, List, [], ◌∷◌, ◌++◌, length, length-append, Some, None, true, false, refl, sym, ap, ◌∙◌, subst, arith, lit<, ⊎_elim}
use Rattle.std.proofs.Math.IntN.{ℤ, neg_ℤ}
use Rattle.std.proofs.lemmas.Int.{ints}
use Rattle.th_word.specs.Word.{word_sub}
use Rattle.th_rv.specs.declared.instr.Instr.TheVariants.{Lui, Sub, Bne}
use Rattle.th_elf.specs.Run.{Run, run_step, machine}
use Rattle.th_runs.proofs.Steps.{steps_add}
use Rattle.th_meaning.specs.World.{fits_word, overflow}
use Rattle.th_flat.specs.declared.module.FlatUnit.{FlatUnit}
use Rattle.th_flat.specs.Values.{FlatValue, Int, FlatWorld, Thrown, signed}
use Rattle.th_flat.specs.Configs.{Loop, NoLoop, Here, Stack, Bottom}
use Rattle.th_abi.specs.declared.word.RelocKind.TheVariants as reloc
use Rattle.th_abi.specs.declared.word.Failure.TheVariants.{Overflow}
use Rattle.th_abi.specs.declared.word.PatternWord.{PatternWord}
use Rattle.th_abi.specs.Words.{plain}
use Rattle.th_abi.specs.Sequences.{home, register_of, fetched, moved, fail}
use Rattle.th_abi.specs.Numbers.{unless_least}
use Rattle.th_stands.specs.Seen.{Seen, Sees}
use Rattle.th_stands.specs.Places.{HasRow}
use Rattle.th_stands.specs.Stands.{Places, StackIs, cell, AtOp}
use Rattle.th_stands.specs.Law.{Leads}
use Rattle.th_stands.proofs.Instructions.{seen_reg, seen_jump, do_lui, do_sub, do_bne_taken, do_bne_on}
use Rattle.th_stands.proofs.Sequences.{going, at_plain, words_to, register_fits, fetched_seen, moved_seen, move_does, Quiet, quiet_trans, quiet_reg, quiet_none, quiet_fetched, fetched_value, operand_stays, apart_5, apart_7, apart_28, wrote_after, wrote_moved}
use Rattle.th_stands.proofs.Signed.{biased_is, by_bias, fits_bounds, misfits}
use Rattle.th_stands.proofs.Restand.{pushed}
use Rattle.th_stands.proofs.Failing.{failed_seen, failed_is, failed_after, fail_does, failed}
use Rattle.th_stands.proofs.Rows.{Numbers, length_fetched, fetched_pc, place_is_home, fetches, Fetched, Goes, Falls}
use Rattle.th_stands.proofs.Sums.{moved_pc}

-- a word is the least number exactly where its opposite doesn't fit
opposite_fits : (x : ℕ) → x < 4294967296 → fits_word (neg_ℤ (signed x)) ≡ true → x ≡ 2147483648 → ⊥
opposite_fits x lt e q =
    let b = fits_bounds (neg_ℤ (signed x)) e in
    let y = biased_is x lt in
    omega (arith, ints)

opposite_value : (x : ℕ) → x < 4294967296 → (x ≡ 2147483648 → ⊥) → signed (word_sub 0 x) ≡ neg_ℤ (signed x)
opposite_value x lt ne =
    let y = biased_is x lt in
    by_bias (word_sub 0 x) (neg_ℤ (signed x)) (omega arith) (omega (arith, ints))

opposite_over : (x : ℕ) → x < 4294967296 → fits_word (neg_ℤ (signed x)) ≡ false → x ≡ 2147483648
opposite_over x lt e = let y = biased_is x lt in ⊎_elim (λ l. omega (arith, ints)) (λ l. omega (arith, ints)) (misfits (neg_ℤ (signed x)) e)

-- the row of the opposite of the word at a place
abbrev pub opposite_at : (place : ℕ) → List PatternWord
opposite_at place = fetched (home place) 5 ++ (unless_least (register_of (home place) 5) ++ (fail Overflow ++ (plain (Sub 7 0 (register_of (home place) 5)) ∷ (moved (home place) 7 ∷ []))))

abbrev Behind : (place : ℕ) → List PatternWord
Behind place = unless_least (register_of (home place) 5) ++ (fail Overflow ++ (plain (Sub 7 0 (register_of (home place) 5)) ∷ (moved (home place) 7 ∷ [])))

length_opposite : (place : ℕ) → length (opposite_at place) ≡ words_to (home place) + 9
length_opposite place = length-append (fetched (home place) 5) (Behind place) ∙ ap (λ n. n + 9) (length_fetched (home place) 5)

four_more : (n : ℕ) → n + 4 ≡ suc (n + 3)
four_more n = omega arith

six_more : (n : ℕ) → n + 6 ≡ suc (n + 5)
six_more n = omega arith

module _ (p : Places) (used heap : ℕ) (u : FlatUnit) (at : ℕ) (loop : Loop) (h : Here) (below : Stack) (w : FlatWorld) (r : Run) (s : Seen) (v : Sees p.loaded r s) (a : AtOp p used heap u at loop h Bottom below w s) (to : ℕ) (number : Numbers) where
  -- it fits: it is pushed
  pub opposite_fits_law : (x : ℤ) (rest : List FlatValue) → h.stack ≡ Int x ∷ rest → fits_word (neg_ℤ x) ≡ true → length rest < u.depth → length rest ≤ 400 → HasRow p.loaded s.pc to number (opposite_at (length rest)) → Falls p used heap u at loop h below w r s v a to number (opposite_at (length rest))
      → Goes p used heap u at loop h below w r s v a to number (length (opposite_at (length rest))) (at + 1) (Int (neg_ℤ x) ∷ rest)
  opposite_fits_law x rest stack fits deep high row next = after_fetch (fetches p used heap u at loop h below w r s v a to number (length rest) (Behind (length rest)) deep high row)
    where
      five_other : ◌≡◌ {A = ℕ} 5 28 → ⊥
      five_other q = omega arith

      after_fetch : Fetched p used heap u at loop h below w r s v a to number (length rest) (Behind (length rest)) → Goes p used heap u at loop h below w r s v a to number (length (opposite_at (length rest))) (at + 1) (Int (neg_ℤ x) ∷ rest)
      after_fetch (v1, code) =
          let H = home (length rest) in
          let ra = register_of H 5 in
          let s1 = fetched_seen H s a.sb 5 in
          let home_is = place_is_home p used heap u at loop h below w r s v a to number (length rest) deep high in
          let la = register_fits p.loaded a.sb H 5 home_is (lit< tt) in
          let stk : StackIs p a.heap_at (cell s a.sb) (Int x ∷ rest) = subst (StackIs p a.heap_at (cell s a.sb)) stack a.works.stack_is in
          let c = s1.rf ra in
          let lc = v1.shows.small ra la in
          let is_x : signed c ≡ x = ap signed (fetched_value H s a.sb 5 (lit< tt)) ∙ stk.0 in
          let not_least : c ≡ 2147483648 → ⊥ = opposite_fits c lc (ap (λ z. fits_word (neg_ℤ z)) is_x ∙ fits) in
          let r1 = going p.loaded (words_to H) r in
          let v2 = do_lui v1 28 524288 (at_plain p.loaded s1.pc (Lui 28 524288) code.0 (lit< tt, lit< tt)) (lit< tt) (lit< tt) in
          let s2 = seen_reg s1 28 2147483648 in
          let same2 : s2.rf ra ≡ c = operand_stays p.loaded H s1 a.sb 5 28 2147483648 home_is apart_28 (λ q. five_other q) in
          let word = code.1.0 in
          let even = word.aligned in
          let low = word.below in
          let target = s1.pc + 4 + 4 + 4 + 4 + 4 + 4 + 4 in
          let v3 = do_bne_taken v2 ra 28 24 target (at_plain p.loaded (s1.pc + 4) (Bne ra 28 24) word (la, lit< tt, (lit< tt, refl))) la (lit< tt) (λ q. not_least (sym same2 ∙ q)) (omega arith) (omega arith) in
          let s3 = seen_jump s2 0 0 target in
          let code2 = code.1.1.1.1.1.1.1 in
          let v4 = do_sub v3 7 0 ra (at_plain p.loaded target (Sub 7 0 ra) code2.0 (lit< tt, lit< tt, la)) (lit< tt) (lit< tt) la in
          let y = word_sub (s3.rf 0) (s3.rf ra) in
          let s4 = seen_reg s3 7 y in
          let y_is : y ≡ word_sub 0 c = ap (λ z. word_sub z (s3.rf ra)) v1.shows.zero_is ∙ ap (λ z. word_sub 0 z) same2 in
          let q1 : Quiet s s1 = quiet_fetched H s a.sb 5 refl apart_5 in
          let q2 : Quiet s1 s2 = quiet_reg s1 28 2147483648 refl apart_28 in
          let q4 : Quiet s3 s4 = quiet_reg s3 7 y refl apart_7 in
          let q : Quiet s s4 = quiet_trans s s1 s4 q1 (quiet_trans s1 s2 s4 q2 (quiet_trans s2 s3 s4 (quiet_none s2 0 target) q4)) in
          let v5 = move_does p.loaded (run_step (run_step (run_step r1))) s4 H a.sb 7 to number [] v4 home_is (lit< tt) (q.fixed.r9 ∙ a.works.stack_reg) code2.1 in
          let t = moved_seen H s4 a.sb 7 in
          let pc1 = fetched_pc H s a.sb 5 in
          let pc2 = moved_pc H s4 a.sb 7 in
          let l1 = length_opposite (length rest) in
          let e2 : going p.loaded 4 r1 ≡ going p.loaded (suc (words_to H + 3)) r = sym (steps_add (machine p.loaded.names) (words_to H) 4 r) ∙ ap (λ m. going p.loaded m r) (four_more (words_to H)) in
          let small : word_sub 0 c < 4294967296 = omega arith in
          record {
            last = words_to H + 3;
            within = omega arith;
            seen = t;
            sees = subst (λ r2. Sees p.loaded r2 t) e2 v5;
            lands = pushed p used heap u at loop h below w s a t (at + 1) (word_sub 0 c) (Int (neg_ℤ x)) rest (wrote_after s s4 t a.sb (length rest) (word_sub 0 c) q (wrote_moved s4 a.sb (length rest) 7 (word_sub 0 c) y_is small))
                (omega (arith, a.pc_is, next)) stk.1 (opposite_value c lc not_least ∙ ap neg_ℤ is_x);
          }

  -- it doesn't fit: overflow, to the label
  pub opposite_over_law : (x : ℤ) (rest : List FlatValue) (l : ℕ) → h.stack ≡ Int x ∷ rest → fits_word (neg_ℤ x) ≡ false → length rest < u.depth → length rest ≤ 400 → HasRow p.loaded s.pc to number (opposite_at (length rest))
      → to % 4 ≡ 0 → to < 268435456 → p.op_at u.name l ≡ to → number reloc.Word (Some Overflow) ≡ p.exception_at overflow
      → Leads p.loaded r (length (opposite_at (length rest))) (AtOp p used heap u l NoLoop (record { stack = []; locals = h.locals; status = Thrown overflow None }) Bottom below w)
  opposite_over_law x rest l stack over deep high row aligned small there named = after_fetch (fetches p used heap u at loop h below w r s v a to number (length rest) (Behind (length rest)) deep high row)
    where
      five_other : ◌≡◌ {A = ℕ} 5 28 → ⊥
      five_other q = omega arith

      after_fetch : Fetched p used heap u at loop h below w r s v a to number (length rest) (Behind (length rest)) → Leads p.loaded r (length (opposite_at (length rest))) (AtOp p used heap u l NoLoop (record { stack = []; locals = h.locals; status = Thrown overflow None }) Bottom below w)
      after_fetch (v1, code) =
          let H = home (length rest) in
          let ra = register_of H 5 in
          let s1 = fetched_seen H s a.sb 5 in
          let home_is = place_is_home p used heap u at loop h below w r s v a to number (length rest) deep high in
          let la = register_fits p.loaded a.sb H 5 home_is (lit< tt) in
          let stk : StackIs p a.heap_at (cell s a.sb) (Int x ∷ rest) = subst (StackIs p a.heap_at (cell s a.sb)) stack a.works.stack_is in
          let c = s1.rf ra in
          let lc = v1.shows.small ra la in
          let is_x : signed c ≡ x = ap signed (fetched_value H s a.sb 5 (lit< tt)) ∙ stk.0 in
          let least : c ≡ 2147483648 = opposite_over c lc (ap (λ z. fits_word (neg_ℤ z)) is_x ∙ over) in
          let r1 = going p.loaded (words_to H) r in
          let v2 = do_lui v1 28 524288 (at_plain p.loaded s1.pc (Lui 28 524288) code.0 (lit< tt, lit< tt)) (lit< tt) (lit< tt) in
          let s2 = seen_reg s1 28 2147483648 in
          let same2 : s2.rf ra ≡ 2147483648 = operand_stays p.loaded H s1 a.sb 5 28 2147483648 home_is apart_28 (λ q. five_other q) ∙ least in
          let v3 = do_bne_on v2 ra 28 24 (at_plain p.loaded (s1.pc + 4) (Bne ra 28 24) code.1.0 (la, lit< tt, (lit< tt, refl))) la (lit< tt) same2 in
          let s3 = seen_reg s2 0 0 in
          let x9 = number reloc.Word (Some Overflow) in
          let v9 = fail_does p.loaded (run_step (run_step r1)) s3 Overflow to number (plain (Sub 7 0 ra) ∷ (moved H 7 ∷ [])) v3 code.1.1 aligned small in
          let t = failed_seen s3 x9 to in
          let q1 : Quiet s s1 = quiet_fetched H s a.sb 5 refl apart_5 in
          let q2 : Quiet s1 s2 = quiet_reg s1 28 2147483648 refl apart_28 in
          let q3 : Quiet s s3 = quiet_trans s s1 s3 q1 (quiet_trans s1 s2 s3 q2 (quiet_none s2 0 (s1.pc + 4 + 4))) in
          let l1 = length_opposite (length rest) in
          let e2 : going p.loaded 6 r1 ≡ going p.loaded (suc (words_to H + 5)) r = sym (steps_add (machine p.loaded.names) (words_to H) 6 r) ∙ ap (λ m. going p.loaded m r) (six_more (words_to H)) in
          record {
            last = words_to H + 5;
            within = omega arith;
            seen = t;
            sees = subst (λ r2. Sees p.loaded r2 t) e2 v9;
            lands = failed p used heap u at loop h below w s a t overflow x9 l (failed_after s s3 t x9 q3 (failed_is s3 x9 to)) named (sym there);
          }
