-- Quotients and remainders of the two topmost words: where they are there, where the divisor is zero, and where the quotient doesn't fit.
use Rattle.std.proofs.Common.{◌≡◌, ℕ, suc, ◌+◌, ◌%◌, ◌<◌, ◌≤◌, List, [], ◌∷◌, ◌++◌, length, length-append, Some, None, Bool, true, false, refl, sym, ap, ◌∙◌, subst, arith, lit<, ⊎_elim, int_div, int_rem}
use Rattle.std.proofs.Math.IntN.{ℤ}
use Rattle.std.proofs.lemmas.Bool.{cases_eq}
use Rattle.th_word.specs.Word.{word_add, divide, remainder}
use Rattle.th_word.proofs.Words.{divide-word, remainder-word}
use Rattle.th_rv.specs.declared.instr.Instr.TheVariants.{Lui, Addi, Div, Rem, Bne}
use Rattle.th_elf.specs.Run.{Run, run_step, machine}
use Rattle.th_runs.proofs.Steps.{steps_add}
use Rattle.th_meaning.specs.World.{fits_word, is_zero, overflow, zero_divide}
use Rattle.th_flat.specs.declared.module.FlatUnit.{FlatUnit}
use Rattle.th_flat.specs.Values.{FlatValue, Int, FlatWorld, Thrown, signed}
use Rattle.th_flat.specs.Configs.{Loop, NoLoop, Here, Stack, Bottom}
use Rattle.th_abi.specs.declared.word.RelocKind.TheVariants as reloc
use Rattle.th_abi.specs.declared.word.Failure.TheVariants.{Overflow, ZeroDivide}
use Rattle.th_abi.specs.declared.word.PatternWord.{PatternWord}
use Rattle.th_abi.specs.declared.word.Home.{Home}
use Rattle.th_abi.specs.Sequences.{home, register_of, fetched, moved}
use Rattle.th_abi.specs.Numbers.{division, division_tests, overflow_test}
use Rattle.th_stands.specs.Seen.{Seen, Loaded, Sees}
use Rattle.th_stands.specs.Places.{HasRow}
use Rattle.th_stands.specs.Stands.{Places, StackIs, cell, AtOp}
use Rattle.th_stands.specs.Law.{Leads}
use Rattle.th_stands.proofs.Instructions.{wr, seen_reg, seen_jump, do_addi, do_lui, do_div, do_rem, do_bne_taken, do_bne_on}
use Rattle.th_stands.proofs.Sequences.{going, at_plain, IsHome, words_to, register_fits, moved_seen, move_does, Quiet, quiet_trans, quiet_reg, quiet_none, operand_stays, apart_7, apart_28, wrote_after, wrote_moved}
use Rattle.th_stands.proofs.Products.{zero_signed, nonzero_signed, quotient_value, quotient_over, quotient_fits, remainder_value}
use Rattle.th_stands.proofs.Restand.{pushed}
use Rattle.th_stands.proofs.Failing.{failed_seen, failed_is, failed_after, fail_does, failed}
use Rattle.th_stands.proofs.Rows.{Numbers, length_fetched, place_is_home, Goes, Falls}
use Rattle.th_stands.proofs.Compares.{Two, two_fetched}
use Rattle.th_stands.proofs.Sums.{moved_pc}

-- the quotient or the remainder of two words as the machine computes it, and the number that is meant
abbrev pub result_of : (is_quotient : Bool) → ℕ → ℕ → ℕ
result_of true x y = divide x y
result_of false x y = remainder x y

abbrev pub number_of : (is_quotient : Bool) → ℤ → ℤ → ℤ
number_of true x y = int_div x y
number_of false x y = int_rem x y

-- the number of the operation
abbrev pub op_of : Bool → ℕ
op_of true = 3
op_of false = 4

result_small : (b : Bool) (x y : ℕ) → x < 4294967296 → result_of b x y < 4294967296
result_small true x y l = divide-word x y l
result_small false x y l = remainder-word x y l

value_is : (b : Bool) (x y : ℕ) → x < 4294967296 → y < 4294967296 → (y ≡ 0 → ⊥) → fits_word (int_div (signed x) (signed y)) ≡ true → signed (result_of b x y) ≡ number_of b (signed x) (signed y)
value_is true x y lx ly nz e = quotient_value x y lx ly nz e
value_is false x y lx ly nz e = remainder_value x y lx ly nz

not_greatest : (y : ℕ) → y < 4294967296 → (y ≡ 4294967295 → ⊥) → (y + 1) % 4294967296 ≡ 0 → ⊥
not_greatest y l ne e = ne (omega arith)

module _ (g : Loaded) (r : Run) (s : Seen) (v : Sees g r s) (sb : ℕ) (h1 h2 : Home) (is1 : IsHome g sb h1) (is2 : IsHome g sb h2) (to : ℕ) (number : Numbers) (rest : List PatternWord) where
  -- the operands stay in their registers
  first_stays : (x : ℕ) (f : ℕ → ℕ) → f (register_of h1 5) ≡ s.rf (register_of h1 5) → wr f 28 x (register_of h1 5) ≡ s.rf (register_of h1 5)
  first_stays x f e = operand_stays g h1 (record { pc = s.pc; rf = f; wf = s.wf; input = s.input; trace = s.trace }) sb 5 28 x is1 apart_28 (λ q. five_other q) ∙ e
    where
      five_other : ◌≡◌ {A = ℕ} 5 28 → ⊥
      five_other q = omega arith

  second_stays : (x : ℕ) (f : ℕ → ℕ) → f (register_of h2 6) ≡ s.rf (register_of h2 6) → wr f 28 x (register_of h2 6) ≡ s.rf (register_of h2 6)
  second_stays x f e = operand_stays g h2 (record { pc = s.pc; rf = f; wf = s.wf; input = s.input; trace = s.trace }) sb 6 28 x is2 apart_28 (λ q. six_other q) ∙ e
    where
      six_other : ◌≡◌ {A = ℕ} 6 28 → ⊥
      six_other q = omega arith

  -- the tests of a division are behind, and the operands are where they were
  pub record Passed : Type 0 where
    pub k : ℕ
    pub few : k ≤ 4
    pub seen : Seen
    pub sees : Sees g (going g (suc k) r) seen
    pub quiet : Quiet s seen
    pub first : seen.rf (register_of h1 5) ≡ s.rf (register_of h1 5)
    pub second : seen.rf (register_of h2 6) ≡ s.rf (register_of h2 6)
    pub code : HasRow g seen.pc to number rest
    pub pc : seen.pc ≡ s.pc + 60

  abbrev Tests : List PatternWord
  Tests = division_tests (register_of h1 5) (register_of h2 6) ++ rest

  -- a machine behind the test for zero, and the one that compares the divisor with -1
  abbrev Nonzero : Seen
  Nonzero = seen_jump s 0 0 (s.pc + 4 + 4 + 4 + 4 + 4 + 4)

  abbrev Compared : Seen
  Compared = seen_reg Nonzero 28 (word_add (s.rf (register_of h2 6)) 1)

  nonzero : (s.rf (register_of h2 6) ≡ 0 → ⊥) → HasRow g s.pc to number Tests → Sees g (run_step (run_step r)) Compared
  nonzero nz row =
      let rb = register_of h2 6 in
      let lb = register_fits g sb h2 6 is2 (lit< tt) in
      let word = row.0 in
      let even = word.aligned in
      let low = row.1.1.1.1.1.1.0.below in
      let v1 = do_bne_taken v rb 0 24 (s.pc + 4 + 4 + 4 + 4 + 4 + 4) (at_plain g s.pc (Bne rb 0 24) word (lb, lit< tt, (lit< tt, refl))) lb (lit< tt) (λ q. nz (q ∙ v.shows.zero_is)) (omega arith) (omega arith) in
      do_addi v1 28 rb 1 (at_plain g (s.pc + 4 + 4 + 4 + 4 + 4 + 4) (Addi 28 rb 1) row.1.1.1.1.1.1.0 (lit< tt, lb, lit< tt)) (lit< tt) lb

  quiet_compared : Quiet s Compared
  quiet_compared = quiet_trans s Nonzero Compared (quiet_none s 0 (s.pc + 4 + 4 + 4 + 4 + 4 + 4)) (quiet_reg Nonzero 28 (word_add (s.rf (register_of h2 6)) 1) refl apart_28)

  -- the divisor is -1, and the dividend is compared with the least number
  abbrev Least : Seen
  Least = seen_reg (seen_reg Compared 0 0) 28 2147483648

  least : (s.rf (register_of h2 6) ≡ 0 → ⊥) → s.rf (register_of h2 6) ≡ 4294967295 → HasRow g s.pc to number Tests → Sees g (run_step (run_step (run_step (run_step r)))) Least
  least nz e row =
      let word = row.1.1.1.1.1.1.1.0 in
      let code = row.1.1.1.1.1.1.1.1 in
      let is : Compared.rf 28 ≡ Compared.rf 0 = ap (λ y. word_add y 1) e ∙ sym v.shows.zero_is in
      let v3 = do_bne_on (nonzero nz row) 28 0 32 (at_plain g (s.pc + 4 + 4 + 4 + 4 + 4 + 4 + 4) (Bne 28 0 32) word (lit< tt, lit< tt, (lit< tt, refl))) (lit< tt) (lit< tt) is in
      do_lui v3 28 524288 (at_plain g (s.pc + 4 + 4 + 4 + 4 + 4 + 4 + 4 + 4) (Lui 28 524288) code.0 (lit< tt, lit< tt)) (lit< tt) (lit< tt)

  quiet_least : Quiet s Least
  quiet_least =
      let t3 = seen_reg Compared 0 0 in
      quiet_trans s Compared Least quiet_compared (quiet_trans Compared t3 Least (quiet_none Compared 0 (s.pc + 4 + 4 + 4 + 4 + 4 + 4 + 4 + 4)) (quiet_reg t3 28 2147483648 refl apart_28))

  pub passes : (s.rf (register_of h2 6) ≡ 0 → ⊥) → (s.rf (register_of h1 5) ≡ 2147483648 → s.rf (register_of h2 6) ≡ 4294967295 → ⊥) → HasRow g s.pc to number Tests → Passed
  passes nz fits row = ⊎_elim greatest other (cases_eq (s.rf (register_of h2 6)) 4294967295)
    where
      other : (s.rf (register_of h2 6) ≡ 4294967295 → ⊥) → Passed
      other ne =
          let word = row.1.1.1.1.1.1.1.0 in
          let even = word.aligned in
          let code = row.1.1.1.1.1.1.1.1.1.1.1.1.1.1.1 in
          let low = row.1.1.1.1.1.1.1.1.1.1.1.1.1.1.0.below in
          let target = s.pc + 4 + 4 + 4 + 4 + 4 + 4 + 4 + 4 + 4 + 4 + 4 + 4 + 4 + 4 + 4 in
          let ly = v.shows.small (register_of h2 6) (register_fits g sb h2 6 is2 (lit< tt)) in
          let v3 = do_bne_taken (nonzero nz row) 28 0 32 target (at_plain g (s.pc + 4 + 4 + 4 + 4 + 4 + 4 + 4) (Bne 28 0 32) word (lit< tt, lit< tt, (lit< tt, refl))) (lit< tt) (lit< tt)
          (λ q. not_greatest (s.rf (register_of h2 6)) ly ne (q ∙ v.shows.zero_is)) (omega arith) (omega arith) in
          record {
            k = 2;
            few = omega arith;
            seen = seen_jump Compared 0 0 target;
            sees = v3;
            quiet = quiet_trans s Compared (seen_jump Compared 0 0 target) quiet_compared (quiet_none Compared 0 target);
            first = first_stays (word_add (s.rf (register_of h2 6)) 1) s.rf refl;
            second = second_stays (word_add (s.rf (register_of h2 6)) 1) s.rf refl;
            code = code;
            pc = omega arith;
          }

      greatest : s.rf (register_of h2 6) ≡ 4294967295 → Passed
      greatest e =
          let ra = register_of h1 5 in
          let la = register_fits g sb h1 5 is1 (lit< tt) in
          let y1 = word_add (s.rf (register_of h2 6)) 1 in
          let stays1 = first_stays 2147483648 Compared.rf (first_stays y1 s.rf refl) in
          let stays2 = second_stays 2147483648 Compared.rf (second_stays y1 s.rf refl) in
          let word = row.1.1.1.1.1.1.1.1.1.0 in
          let even = word.aligned in
          let code = row.1.1.1.1.1.1.1.1.1.1.1.1.1.1.1 in
          let low = row.1.1.1.1.1.1.1.1.1.1.1.1.1.1.0.below in
          let target = s.pc + 4 + 4 + 4 + 4 + 4 + 4 + 4 + 4 + 4 + 4 + 4 + 4 + 4 + 4 + 4 in
          let v5 = do_bne_taken (least nz e row) ra 28 24 target (at_plain g (s.pc + 4 + 4 + 4 + 4 + 4 + 4 + 4 + 4 + 4) (Bne ra 28 24) word (la, lit< tt, (lit< tt, refl))) la (lit< tt)
          (λ q. fits (sym stays1 ∙ q) e) (omega arith) (omega arith) in
          record {
            k = 4;
            few = omega arith;
            seen = seen_jump Least 0 0 target;
            sees = v5;
            quiet = quiet_trans s Least (seen_jump Least 0 0 target) quiet_least (quiet_none Least 0 target);
            first = stays1;
            second = stays2;
            code = code;
            pc = omega arith;
          }

  -- the divisor is zero
  pub zero_fails : s.rf (register_of h2 6) ≡ 0 → to % 4 ≡ 0 → to < 268435456 → HasRow g s.pc to number Tests → Sees g (going g 5 r) (failed_seen (seen_reg s 0 0) (number reloc.Word (Some ZeroDivide)) to)
  zero_fails e aligned small row =
      let rb = register_of h2 6 in
      let lb = register_fits g sb h2 6 is2 (lit< tt) in
      let v1 = do_bne_on v rb 0 24 (at_plain g s.pc (Bne rb 0 24) row.0 (lb, lit< tt, (lit< tt, refl))) lb (lit< tt) (e ∙ sym v.shows.zero_is) in
      fail_does g (run_step r) (seen_reg s 0 0) ZeroDivide to number (overflow_test (register_of h1 5) rb ++ rest) v1 row.1 aligned small

  -- the quotient doesn't fit
  abbrev pub Beyond : Seen
  Beyond = seen_reg Least 0 0

  pub quiet_beyond : Quiet s Beyond
  quiet_beyond = quiet_trans s Least Beyond quiet_least (quiet_none Least 0 (s.pc + 4 + 4 + 4 + 4 + 4 + 4 + 4 + 4 + 4 + 4))

  pub over_fails : s.rf (register_of h1 5) ≡ 2147483648 → s.rf (register_of h2 6) ≡ 4294967295 → to % 4 ≡ 0 → to < 268435456 → HasRow g s.pc to number Tests → Sees g (going g 9 r) (failed_seen Beyond (number reloc.Word (Some Overflow)) to)
  over_fails ex ey aligned small row =
      let ra = register_of h1 5 in
      let la = register_fits g sb h1 5 is1 (lit< tt) in
      let y1 = word_add (s.rf (register_of h2 6)) 1 in
      let stays1 = first_stays 2147483648 Compared.rf (first_stays y1 s.rf refl) in
      let v5 = do_bne_on (least (λ q. differ (sym ey ∙ q)) ey row) ra 28 24 (at_plain g (s.pc + 4 + 4 + 4 + 4 + 4 + 4 + 4 + 4 + 4) (Bne ra 28 24) row.1.1.1.1.1.1.1.1.1.0 (la, lit< tt, (lit< tt, refl))) la (lit< tt) (stays1 ∙ ex) in
      fail_does g (run_step (run_step (run_step (run_step (run_step r))))) Beyond Overflow to number rest v5 row.1.1.1.1.1.1.1.1.1.1 aligned small
    where
      differ : ◌≡◌ {A = ℕ} 4294967295 0 → ⊥
      differ q = omega arith

-- the division itself
divided : (g : Loaded) (r : Run) (s : Seen) (v : Sees g r s) (to : ℕ) (number : Numbers) (b : Bool) (ra rb : ℕ) (rest : List PatternWord) → ra < 32 → rb < 32 → HasRow g s.pc to number (division b ra rb ∷ rest) → Sees g (run_step r) (seen_reg s 7 (result_of b (s.rf ra) (s.rf rb)))
divided g r s v to number true ra rb rest la lb row = do_div v 7 ra rb (at_plain g s.pc (Div 7 ra rb) row.0 (lit< tt, la, lb)) (lit< tt) la lb
divided g r s v to number false ra rb rest la lb row = do_rem v 7 ra rb (at_plain g s.pc (Rem 7 ra rb) row.0 (lit< tt, la, lb)) (lit< tt) la lb

-- the row of a division whose operands stand at a place and above it
abbrev pub division_at : (b : Bool) (place : ℕ) → List PatternWord
division_at b place = fetched (home place) 5 ++ (fetched (home (suc place)) 6 ++ (division_tests (register_of (home place) 5) (register_of (home (suc place)) 6) ++ (division b (register_of (home place) 5) (register_of (home (suc place)) 6) ∷ (moved (home place) 7 ∷ []))))

length_division : (b : Bool) (place : ℕ) → length (division_at b place) ≡ words_to (home place) + words_to (home (suc place)) + 17
length_division b place =
    let h1 = home place in
    let h2 = home (suc place) in
    let code = division_tests (register_of h1 5) (register_of h2 6) ++ (division b (register_of h1 5) (register_of h2 6) ∷ (moved h1 7 ∷ [])) in
    let l1 = length_fetched h1 5 in
    let l2 = length_fetched h2 6 in
    let l4 = length-append (fetched h1 5) (fetched h2 6 ++ code) in
    let l5 = length-append (fetched h2 6) code in
    let l7 : length code ≡ 17 = refl in
    omega arith

some_more : (n k : ℕ) → n + (suc k + 2) ≡ suc (n + (k + 2))
some_more n k = omega arith

five_more : (n : ℕ) → n + 5 ≡ suc (n + 4)
five_more n = omega arith

nine_more : (n : ℕ) → n + 9 ≡ suc (n + 8)
nine_more n = omega arith

module _ (p : Places) (used heap : ℕ) (u : FlatUnit) (at : ℕ) (loop : Loop) (h : Here) (below : Stack) (w : FlatWorld) (r : Run) (s : Seen) (v : Sees p.loaded r s) (a : AtOp p used heap u at loop h Bottom below w s) (to : ℕ) (number : Numbers) where
  abbrev Rest : (b : Bool) (place : ℕ) → List PatternWord
  Rest b place = division b (register_of (home place) 5) (register_of (home (suc place)) 6) ∷ (moved (home place) 7 ∷ [])

  abbrev Code : (b : Bool) (place : ℕ) → List PatternWord
  Code b place = division_tests (register_of (home place) 5) (register_of (home (suc place)) 6) ++ Rest b place

  abbrev Pair : (b : Bool) (place : ℕ) → Type 0
  Pair b place = Two p used heap u at loop h below w r s v a to number place (Code b place)

  -- the two operands, from the two topmost words
  operand_x : (b : Bool) (x y : ℤ) (rest : List FlatValue) → h.stack ≡ Int y ∷ Int x ∷ rest → (t : Pair b (length rest)) → signed (t.seen.rf (register_of (home (length rest)) 5)) ≡ x
  operand_x b x y rest stack t = ap signed t.first ∙ (subst (StackIs p a.heap_at (cell s a.sb)) stack a.works.stack_is).1.0

  operand_y : (b : Bool) (x y : ℤ) (rest : List FlatValue) → h.stack ≡ Int y ∷ Int x ∷ rest → (t : Pair b (length rest)) → signed (t.seen.rf (register_of (home (suc (length rest))) 6)) ≡ y
  operand_y b x y rest stack t = ap signed t.second ∙ (subst (StackIs p a.heap_at (cell s a.sb)) stack a.works.stack_is).0

  numbers_are : (f : ℤ → ℤ → ℤ) (b : Bool) (x y : ℤ) (rest : List FlatValue) → h.stack ≡ Int y ∷ Int x ∷ rest → (t : Pair b (length rest)) → f (signed (t.seen.rf (register_of (home (length rest)) 5))) (signed (t.seen.rf (register_of (home (suc (length rest))) 6))) ≡ f x y
  numbers_are f b x y rest stack t = ap (λ z. f z (signed (t.seen.rf (register_of (home (suc (length rest))) 6)))) (operand_x b x y rest stack t) ∙ ap (λ z. f x z) (operand_y b x y rest stack t)

  home_1 : (rest : List FlatValue) → suc (length rest) < u.depth → suc (length rest) ≤ 400 → IsHome p.loaded a.sb (home (length rest))
  home_1 rest deep high = place_is_home p used heap u at loop h below w r s v a to number (length rest) (omega arith) (omega arith)

  home_2 : (rest : List FlatValue) → suc (length rest) < u.depth → suc (length rest) ≤ 400 → IsHome p.loaded a.sb (home (suc (length rest)))
  home_2 rest deep high = place_is_home p used heap u at loop h below w r s v a to number (suc (length rest)) deep high

  -- the quotient fits: it, or the remainder, is pushed
  pub division_law : (b : Bool) (x y : ℤ) (rest : List FlatValue) → h.stack ≡ Int y ∷ Int x ∷ rest → is_zero y ≡ false → fits_word (int_div x y) ≡ true → suc (length rest) < u.depth → suc (length rest) ≤ 400 → HasRow p.loaded s.pc to number (division_at b (length rest)) → Falls p used heap u at loop h below w r s v a to number (division_at b (length rest))
      → Goes p used heap u at loop h below w r s v a to number (length (division_at b (length rest))) (at + 1) (Int (number_of b x y) ∷ rest)
  division_law b x y rest stack nz fits deep high row next = after_two (two_fetched p used heap u at loop h below w r s v a to number (length rest) (Code b (length rest)) deep high row)
    where
      after_two : Pair b (length rest) → Goes p used heap u at loop h below w r s v a to number (length (division_at b (length rest))) (at + 1) (Int (number_of b x y) ∷ rest)
      after_two t = after_tests (passes p.loaded r1 t.seen t.sees a.sb h1 h2 is1 is2 to number (Rest b (length rest)) some fits_here t.code)
        where
          h1 : Home
          h1 = home (length rest)

          h2 : Home
          h2 = home (suc (length rest))

          n : ℕ
          n = words_to h1 + words_to h2

          r1 : Run
          r1 = going p.loaded n r

          is1 : IsHome p.loaded a.sb h1
          is1 = home_1 rest deep high

          is2 : IsHome p.loaded a.sb h2
          is2 = home_2 rest deep high

          vx : ℕ
          vx = t.seen.rf (register_of h1 5)

          vy : ℕ
          vy = t.seen.rf (register_of h2 6)

          some : vy ≡ 0 → ⊥
          some = nonzero_signed vy (ap is_zero (operand_y b x y rest stack t) ∙ nz)

          fits2 : fits_word (int_div (signed vx) (signed vy)) ≡ true
          fits2 = ap fits_word (numbers_are int_div b x y rest stack t) ∙ fits

          fits_here : vx ≡ 2147483648 → vy ≡ 4294967295 → ⊥
          fits_here = quotient_fits vx vy fits2

          after_tests : Passed p.loaded r1 t.seen t.sees a.sb h1 h2 is1 is2 to number (Rest b (length rest)) → Goes p used heap u at loop h below w r s v a to number (length (division_at b (length rest))) (at + 1) (Int (number_of b x y) ∷ rest)
          after_tests d =
              let ra = register_of h1 5 in
              let rb = register_of h2 6 in
              let la = register_fits p.loaded a.sb h1 5 is1 (lit< tt) in
              let lb = register_fits p.loaded a.sb h2 6 is2 (lit< tt) in
              let lx = t.sees.shows.small ra la in
              let ly = t.sees.shows.small rb lb in
              let z = result_of b (d.seen.rf ra) (d.seen.rf rb) in
              let z_is : z ≡ result_of b vx vy = ap (λ m. result_of b m (d.seen.rf rb)) d.first ∙ ap (λ m. result_of b vx m) d.second in
              let r2 = going p.loaded (suc d.k) r1 in
              let v3 = divided p.loaded r2 d.seen d.sees to number b ra rb (moved h1 7 ∷ []) la lb d.code in
              let s3 = seen_reg d.seen 7 z in
              let q3 : Quiet s s3 = quiet_trans s t.seen s3 t.quiet (quiet_trans t.seen d.seen s3 d.quiet (quiet_reg d.seen 7 z refl apart_7)) in
              let v4 = move_does p.loaded (run_step r2) s3 h1 a.sb 7 to number [] v3 is1 (lit< tt) (q3.fixed.r9 ∙ a.works.stack_reg) d.code.1 in
              let t4 = moved_seen h1 s3 a.sb 7 in
              let e0 : going p.loaded (suc d.k + 2) r1 ≡ run_step (run_step r2) = steps_add (machine p.loaded.names) (suc d.k) 2 r1 in
              let e1 : run_step (run_step r2) ≡ going p.loaded (suc (n + (d.k + 2))) r = sym e0 ∙ sym (steps_add (machine p.loaded.names) n (suc d.k + 2) r) ∙ ap (λ m. going p.loaded m r) (some_more n d.k) in
              let l1 = length_division b (length rest) in
              let few = d.few in
              let pc1 = t.pc in
              let pc2 = d.pc in
              let pc3 = moved_pc h1 s3 a.sb 7 in
              record {
                last = n + (d.k + 2);
                within = omega arith;
                seen = t4;
                sees = subst (λ r9. Sees p.loaded r9 t4) e1 v4;
                lands = pushed p used heap u at loop h below w s a t4 (at + 1) (result_of b vx vy) (Int (number_of b x y)) rest
                    (wrote_after s s3 t4 a.sb (length rest) (result_of b vx vy) q3 (wrote_moved s3 a.sb (length rest) 7 (result_of b vx vy) z_is (result_small b vx vy lx)))
                    (omega (arith, a.pc_is, next)) (subst (StackIs p a.heap_at (cell s a.sb)) stack a.works.stack_is).1.1 (value_is b vx vy lx ly some fits2 ∙ numbers_are (number_of b) b x y rest stack t);
              }

  -- the divisor is zero: that exception, to the label
  pub division_zero_law : (b : Bool) (x y : ℤ) (rest : List FlatValue) (l : ℕ) → h.stack ≡ Int y ∷ Int x ∷ rest → is_zero y ≡ true → suc (length rest) < u.depth → suc (length rest) ≤ 400 → HasRow p.loaded s.pc to number (division_at b (length rest))
      → to % 4 ≡ 0 → to < 268435456 → p.op_at u.name l ≡ to → number reloc.Word (Some ZeroDivide) ≡ p.exception_at zero_divide
      → Leads p.loaded r (length (division_at b (length rest))) (AtOp p used heap u l NoLoop (record { stack = []; locals = h.locals; status = Thrown zero_divide None }) Bottom below w)
  division_zero_law b x y rest l stack zero deep high row aligned small there named = after_two (two_fetched p used heap u at loop h below w r s v a to number (length rest) (Code b (length rest)) deep high row)
    where
      after_two : Pair b (length rest) → Leads p.loaded r (length (division_at b (length rest))) (AtOp p used heap u l NoLoop (record { stack = []; locals = h.locals; status = Thrown zero_divide None }) Bottom below w)
      after_two t =
          let h1 = home (length rest) in
          let h2 = home (suc (length rest)) in
          let is1 = home_1 rest deep high in
          let is2 = home_2 rest deep high in
          let n = words_to h1 + words_to h2 in
          let r1 = going p.loaded n r in
          let vy = t.seen.rf (register_of h2 6) in
          let ly = t.sees.shows.small (register_of h2 6) (register_fits p.loaded a.sb h2 6 is2 (lit< tt)) in
          let is : vy ≡ 0 = zero_signed vy ly (ap is_zero (operand_y b x y rest stack t) ∙ zero) in
          let x9 = number reloc.Word (Some ZeroDivide) in
          let v9 = zero_fails p.loaded r1 t.seen t.sees a.sb h1 h2 is1 is2 to number (Rest b (length rest)) is aligned small t.code in
          let s4 = seen_reg t.seen 0 0 in
          let t9 = failed_seen s4 x9 to in
          let q4 : Quiet s s4 = quiet_trans s t.seen s4 t.quiet (quiet_none t.seen 0 (t.seen.pc + 4)) in
          let e1 : going p.loaded 5 r1 ≡ going p.loaded (suc (n + 4)) r = sym (steps_add (machine p.loaded.names) n 5 r) ∙ ap (λ m. going p.loaded m r) (five_more n) in
          let l1 = length_division b (length rest) in
          record {
            last = n + 4;
            within = omega arith;
            seen = t9;
            sees = subst (λ r2. Sees p.loaded r2 t9) e1 v9;
            lands = failed p used heap u at loop h below w s a t9 zero_divide x9 l (failed_after s s4 t9 x9 q4 (failed_is s4 x9 to)) named (sym there);
          }

  -- the quotient doesn't fit: overflow, to the label
  pub division_over_law : (b : Bool) (x y : ℤ) (rest : List FlatValue) (l : ℕ) → h.stack ≡ Int y ∷ Int x ∷ rest → fits_word (int_div x y) ≡ false → suc (length rest) < u.depth → suc (length rest) ≤ 400 → HasRow p.loaded s.pc to number (division_at b (length rest))
      → to % 4 ≡ 0 → to < 268435456 → p.op_at u.name l ≡ to → number reloc.Word (Some Overflow) ≡ p.exception_at overflow
      → Leads p.loaded r (length (division_at b (length rest))) (AtOp p used heap u l NoLoop (record { stack = []; locals = h.locals; status = Thrown overflow None }) Bottom below w)
  division_over_law b x y rest l stack over deep high row aligned small there named = after_two (two_fetched p used heap u at loop h below w r s v a to number (length rest) (Code b (length rest)) deep high row)
    where
      after_two : Pair b (length rest) → Leads p.loaded r (length (division_at b (length rest))) (AtOp p used heap u l NoLoop (record { stack = []; locals = h.locals; status = Thrown overflow None }) Bottom below w)
      after_two t =
          let h1 = home (length rest) in
          let h2 = home (suc (length rest)) in
          let is1 = home_1 rest deep high in
          let is2 = home_2 rest deep high in
          let n = words_to h1 + words_to h2 in
          let r1 = going p.loaded n r in
          let vx = t.seen.rf (register_of h1 5) in
          let vy = t.seen.rf (register_of h2 6) in
          let lx = t.sees.shows.small (register_of h1 5) (register_fits p.loaded a.sb h1 5 is1 (lit< tt)) in
          let ly = t.sees.shows.small (register_of h2 6) (register_fits p.loaded a.sb h2 6 is2 (lit< tt)) in
          let is = quotient_over vx vy lx ly (ap fits_word (numbers_are int_div b x y rest stack t) ∙ over) in
          let x9 = number reloc.Word (Some Overflow) in
          let v9 = over_fails p.loaded r1 t.seen t.sees a.sb h1 h2 is1 is2 to number (Rest b (length rest)) is.0 is.1 aligned small t.code in
          let s4 = Beyond p.loaded r1 t.seen t.sees a.sb h1 h2 is1 is2 to number (Rest b (length rest)) in
          let t9 = failed_seen s4 x9 to in
          let q4 : Quiet s s4 = quiet_trans s t.seen s4 t.quiet (quiet_beyond p.loaded r1 t.seen t.sees a.sb h1 h2 is1 is2 to number (Rest b (length rest))) in
          let e1 : going p.loaded 9 r1 ≡ going p.loaded (suc (n + 8)) r = sym (steps_add (machine p.loaded.names) n 9 r) ∙ ap (λ m. going p.loaded m r) (nine_more n) in
          let l1 = length_division b (length rest) in
          record {
            last = n + 8;
            within = omega arith;
            seen = t9;
            sees = subst (λ r2. Sees p.loaded r2 t9) e1 v9;
            lands = failed p used heap u at loop h below w s a t9 overflow x9 l (failed_after s s4 t9 x9 q4 (failed_is s4 x9 to)) named (sym there);
          }
