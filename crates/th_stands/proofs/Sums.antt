-- Sums, differences and products of the two topmost words, where they fit and where they don't.
use Rattle.std.proofs.Common.{◌≡◌, ℕ, suc, ◌+◌, ◌%◌, ◌<◌, ◌≤◌, List, [], ◌∷◌, ◌++◌, length, length-append, Some, None, Bool, true, false, refl, sym, ap, ◌∙◌, subst, arith, lit<}
use Rattle.std.proofs.Math.IntN.{ℤ, ◌+ℤ◌, ◌-ℤ◌, ◌*ℤ◌}
use Rattle.th_word.specs.Word.{word_add, word_sub, signed_less, flag_word, shift_right_signed, multiply, multiply_high}
use Rattle.th_rv.specs.declared.instr.Instr.TheVariants.{Add, Sub, Slt, Slti, Srai, Mul, Mulh, Beq}
use Rattle.th_elf.specs.Run.{Run, run_step, machine}
use Rattle.th_runs.proofs.Steps.{steps_add}
use Rattle.th_meaning.specs.World.{fits_word, overflow}
use Rattle.th_flat.specs.declared.module.FlatUnit.{FlatUnit}
use Rattle.th_flat.specs.Values.{FlatValue, Int, FlatWorld, Thrown, signed}
use Rattle.th_flat.specs.Configs.{Loop, NoLoop, Here, Stack, Bottom}
use Rattle.th_abi.specs.declared.word.RelocKind.TheVariants as reloc
use Rattle.th_abi.specs.declared.word.Failure.TheVariants.{Overflow}
use Rattle.th_abi.specs.declared.word.PatternWord.{PatternWord}
use Rattle.th_abi.specs.declared.word.Home.{Home}
use Rattle.th_abi.specs.declared.word.Home.TheVariants.{Register, Frame}
use Rattle.th_abi.specs.Words.{plain}
use Rattle.th_abi.specs.Sequences.{home, register_of, fetched, moved, fail}
use Rattle.th_abi.specs.Numbers.{checked_code}
use Rattle.th_stands.specs.Seen.{Seen, Loaded, Sees}
use Rattle.th_stands.specs.Places.{HasRow}
use Rattle.th_stands.specs.Stands.{Places, StackIs, cell, AtOp}
use Rattle.th_stands.specs.Law.{Leads}
use Rattle.th_stands.proofs.Instructions.{wr, seen_reg, seen_jump, do_add, do_sub, do_slt, do_slti, do_srai, do_mul, do_mulh, do_beq_taken, do_beq_on}
use Rattle.th_stands.proofs.Sequences.{going, at_plain, IsHome, words_to, register_fits, moved_seen, move_does, Quiet, quiet_trans, quiet_reg, quiet_none, operand_stays, apart_7, apart_28, apart_29, wrote_after, wrote_moved}
use Rattle.th_stands.proofs.Signed.{sum_value, sum_test, sum_fails, difference_value, difference_test, difference_fails}
use Rattle.th_stands.proofs.Products.{product_value, product_test, product_fails}
use Rattle.th_stands.proofs.Restand.{pushed}
use Rattle.th_stands.proofs.Failing.{failed_seen, failed_is, failed_after, fail_does, failed}
use Rattle.th_stands.proofs.Rows.{Numbers, length_fetched, place_is_home, Goes, Falls}
use Rattle.th_stands.proofs.Compares.{Two, two_fetched}

-- the operations on two numbers whose result is tested
pub data Kind : Type 0 where
  Sum : Kind
  Difference : Kind
  Product : Kind

-- the number of the operation
abbrev pub op_of : Kind → ℕ
op_of Sum = 0
op_of Difference = 1
op_of Product = 2

-- the result of two words as the machine computes it, the two words of the test, and the number that is meant
abbrev pub result_of : Kind → ℕ → ℕ → ℕ
result_of Sum x y = word_add x y
result_of Difference x y = word_sub x y
result_of Product x y = multiply x y

abbrev pub test_of : Kind → ℕ → ℕ → ℕ
test_of Sum x y = flag_word (signed_less (word_add x y) x)
test_of Difference x y = flag_word (signed_less (word_sub x y) x)
test_of Product x y = multiply_high x y

abbrev pub sign_of : Kind → ℕ → ℕ → ℕ
sign_of Sum x y = flag_word (signed_less y 0)
sign_of Difference x y = flag_word (signed_less 0 y)
sign_of Product x y = shift_right_signed (multiply x y) 31

abbrev pub number_of : Kind → ℤ → ℤ → ℤ
number_of Sum x y = x +ℤ y
number_of Difference x y = x -ℤ y
number_of Product x y = x *ℤ y

result_small : (b : Kind) (x y : ℕ) → result_of b x y < 4294967296
result_small Sum x y = omega arith
result_small Difference x y = omega arith
result_small Product x y = omega arith

value_is : (b : Kind) (x y : ℕ) → x < 4294967296 → y < 4294967296 → fits_word (number_of b (signed x) (signed y)) ≡ true → signed (result_of b x y) ≡ number_of b (signed x) (signed y)
value_is Sum x y lx ly e = sum_value x y lx ly e
value_is Difference x y lx ly e = difference_value x y lx ly e
value_is Product x y lx ly e = product_value x y lx ly e

test_is : (b : Kind) (x y : ℕ) → x < 4294967296 → y < 4294967296 → fits_word (number_of b (signed x) (signed y)) ≡ true → test_of b x y ≡ sign_of b x y
test_is Sum x y lx ly e = ap flag_word (sum_test x y lx ly e)
test_is Difference x y lx ly e = ap flag_word (difference_test x y lx ly e)
test_is Product x y lx ly e = product_test x y lx ly e

flags_differ : (a b : Bool) → (a ≡ b → ⊥) → flag_word a ≡ flag_word b → ⊥
flags_differ true true h e = h refl
flags_differ true false h e = one_zero e
  where
    one_zero : ◌≡◌ {A = ℕ} 1 0 → ⊥
    one_zero q = omega arith
flags_differ false true h e = zero_one e
  where
    zero_one : ◌≡◌ {A = ℕ} 0 1 → ⊥
    zero_one q = omega arith
flags_differ false false h e = h refl

test_fails : (b : Kind) (x y : ℕ) → x < 4294967296 → y < 4294967296 → fits_word (number_of b (signed x) (signed y)) ≡ false → test_of b x y ≡ sign_of b x y → ⊥
test_fails Sum x y lx ly e q = flags_differ (signed_less (word_add x y) x) (signed_less y 0) (sum_fails x y lx ly e) q
test_fails Difference x y lx ly e q = flags_differ (signed_less (word_sub x y) x) (signed_less 0 y) (difference_fails x y lx ly e) q
test_fails Product x y lx ly e q = product_fails x y lx ly e q

-- a machine before the branch: the result, and the words that are compared
abbrev pub tested_seen : Kind → Seen → (x y : ℕ) → Seen
tested_seen b s x y = seen_reg (seen_reg (seen_reg s 7 (result_of b x y)) 28 (test_of b x y)) 29 (sign_of b x y)

quiet_tested : (b : Kind) (s : Seen) (x y : ℕ) → Quiet s (tested_seen b s x y)
quiet_tested b s x y =
    let s1 = seen_reg s 7 (result_of b x y) in
    let s2 = seen_reg s1 28 (test_of b x y) in
    quiet_trans s s1 (tested_seen b s x y) (quiet_reg s 7 (result_of b x y) refl apart_7) (quiet_trans s1 s2 (tested_seen b s x y) (quiet_reg s1 28 (test_of b x y) refl apart_28) (quiet_reg s2 29 (sign_of b x y) refl apart_29))

pub five_more : (n : ℕ) → n + 5 ≡ suc (n + 4)
five_more n = omega arith

eight_more : (n : ℕ) → n + 8 ≡ suc (n + 7)
eight_more n = omega arith

result_there : (b : Kind) (s : Seen) (x y : ℕ) → (tested_seen b s x y).rf 7 ≡ result_of b x y
result_there b s x y = refl

-- the branch at the end of the test, and what stands behind it
branch_of : (g : Loaded) (sb : ℕ) (h1 h2 : Home) (pc to : ℕ) (number : Numbers) (rest : List PatternWord) (b : Kind) → HasRow g pc to number (checked_code (op_of b) (register_of h1 5) (register_of h2 6) ++ rest) → HasRow g (pc + 4 + 4 + 4) to number (plain (Beq 28 29 24) ∷ rest)
branch_of g sb h1 h2 pc to number rest Sum row = row.1.1.1
branch_of g sb h1 h2 pc to number rest Difference row = row.1.1.1
branch_of g sb h1 h2 pc to number rest Product row = row.1.1.1

module _ (g : Loaded) (r : Run) (s : Seen) (v : Sees g r s) (sb : ℕ) (h1 h2 : Home) (is1 : IsHome g sb h1) (is2 : IsHome g sb h2) (to : ℕ) (number : Numbers) (rest : List PatternWord) where
  -- the operands stay in their registers
  first_stays : (k x : ℕ) (f : ℕ → ℕ) → f (register_of h1 5) ≡ s.rf (register_of h1 5) → wr f 7 x (register_of h1 5) ≡ f (register_of h1 5)
  first_stays k x f e = operand_stays g h1 (record { pc = s.pc; rf = f; wf = s.wf; input = s.input; trace = s.trace }) sb 5 7 x is1 apart_7 (λ q. five_seven q)
    where
      five_seven : ◌≡◌ {A = ℕ} 5 7 → ⊥
      five_seven q = omega arith

  second_at_7 : (x : ℕ) → wr s.rf 7 x (register_of h2 6) ≡ s.rf (register_of h2 6)
  second_at_7 x = operand_stays g h2 s sb 6 7 x is2 apart_7 (λ q. six_seven q)
    where
      six_seven : ◌≡◌ {A = ℕ} 6 7 → ⊥
      six_seven q = omega arith

  second_at_28 : (x y : ℕ) → wr (wr s.rf 7 x) 28 y (register_of h2 6) ≡ s.rf (register_of h2 6)
  second_at_28 x y = operand_stays g h2 (seen_reg s 7 x) sb 6 28 y is2 apart_28 (λ q. six_other q) ∙ second_at_7 x
    where
      six_other : ◌≡◌ {A = ℕ} 6 28 → ⊥
      six_other q = omega arith

  pub tests : (b : Kind) → HasRow g s.pc to number (checked_code (op_of b) (register_of h1 5) (register_of h2 6) ++ rest) → Sees g (going g 3 r) (tested_seen b s (s.rf (register_of h1 5)) (s.rf (register_of h2 6)))
  tests Sum row =
      let ra = register_of h1 5 in
      let rb = register_of h2 6 in
      let la = register_fits g sb h1 5 is1 (lit< tt) in
      let lb = register_fits g sb h2 6 is2 (lit< tt) in
      let x = s.rf ra in
      let y = s.rf rb in
      let v1 = do_add v 7 ra rb (at_plain g s.pc (Add 7 ra rb) row.0 (lit< tt, la, lb)) (lit< tt) la lb in
      let s1 = seen_reg s 7 (word_add x y) in
      let e1 : s1.rf ra ≡ x = first_stays 0 (word_add x y) s.rf refl in
      let v2 = do_slt v1 28 7 ra (at_plain g (s.pc + 4) (Slt 28 7 ra) row.1.0 (lit< tt, lit< tt, la)) (lit< tt) (lit< tt) la in
      let v2b : Sees g (run_step (run_step r)) (seen_reg s1 28 (flag_word (signed_less (word_add x y) x))) = subst (λ z. Sees g (run_step (run_step r)) (seen_reg s1 28 (flag_word (signed_less (word_add x y) z)))) e1 v2 in
      let s2 = seen_reg s1 28 (flag_word (signed_less (word_add x y) x)) in
      let v3 = do_slti v2b 29 rb 0 (at_plain g (s.pc + 4 + 4) (Slti 29 rb 0) row.1.1.0 (lit< tt, lb, lit< tt)) (lit< tt) lb in
      subst (λ z. Sees g (run_step (run_step (run_step r))) (seen_reg s2 29 (flag_word (signed_less z 0)))) (second_at_28 (word_add x y) (flag_word (signed_less (word_add x y) x))) v3
  tests Difference row =
      let ra = register_of h1 5 in
      let rb = register_of h2 6 in
      let la = register_fits g sb h1 5 is1 (lit< tt) in
      let lb = register_fits g sb h2 6 is2 (lit< tt) in
      let x = s.rf ra in
      let y = s.rf rb in
      let v1 = do_sub v 7 ra rb (at_plain g s.pc (Sub 7 ra rb) row.0 (lit< tt, la, lb)) (lit< tt) la lb in
      let s1 = seen_reg s 7 (word_sub x y) in
      let e1 : s1.rf ra ≡ x = first_stays 0 (word_sub x y) s.rf refl in
      let v2 = do_slt v1 28 7 ra (at_plain g (s.pc + 4) (Slt 28 7 ra) row.1.0 (lit< tt, lit< tt, la)) (lit< tt) (lit< tt) la in
      let v2b : Sees g (run_step (run_step r)) (seen_reg s1 28 (flag_word (signed_less (word_sub x y) x))) = subst (λ z. Sees g (run_step (run_step r)) (seen_reg s1 28 (flag_word (signed_less (word_sub x y) z)))) e1 v2 in
      let s2 = seen_reg s1 28 (flag_word (signed_less (word_sub x y) x)) in
      let v3 = do_slt v2b 29 0 rb (at_plain g (s.pc + 4 + 4) (Slt 29 0 rb) row.1.1.0 (lit< tt, lit< tt, lb)) (lit< tt) (lit< tt) lb in
      let zero_is : s2.rf 0 ≡ 0 = v.shows.zero_is in
      let v3b = subst (λ z. Sees g (run_step (run_step (run_step r))) (seen_reg s2 29 (flag_word (signed_less z (s2.rf rb))))) zero_is v3 in
      subst (λ z. Sees g (run_step (run_step (run_step r))) (seen_reg s2 29 (flag_word (signed_less 0 z)))) (second_at_28 (word_sub x y) (flag_word (signed_less (word_sub x y) x))) v3b
  tests Product row =
      let ra = register_of h1 5 in
      let rb = register_of h2 6 in
      let la = register_fits g sb h1 5 is1 (lit< tt) in
      let lb = register_fits g sb h2 6 is2 (lit< tt) in
      let x = s.rf ra in
      let y = s.rf rb in
      let v1 = do_mul v 7 ra rb (at_plain g s.pc (Mul 7 ra rb) row.0 (lit< tt, la, lb)) (lit< tt) la lb in
      let s1 = seen_reg s 7 (multiply x y) in
      let e1 : s1.rf ra ≡ x = first_stays 0 (multiply x y) s.rf refl in
      let e2 : s1.rf rb ≡ y = second_at_7 (multiply x y) in
      let v2 = do_mulh v1 28 ra rb (at_plain g (s.pc + 4) (Mulh 28 ra rb) row.1.0 (lit< tt, la, lb)) (lit< tt) la lb in
      let v2b = subst (λ z. Sees g (run_step (run_step r)) (seen_reg s1 28 (multiply_high z (s1.rf rb)))) e1 v2 in
      let v2c : Sees g (run_step (run_step r)) (seen_reg s1 28 (multiply_high x y)) = subst (λ z. Sees g (run_step (run_step r)) (seen_reg s1 28 (multiply_high x z))) e2 v2b in
      do_srai v2c 29 7 31 (at_plain g (s.pc + 4 + 4) (Srai 29 7 31) row.1.1.0 (lit< tt, lit< tt, lit< tt)) (lit< tt) (lit< tt)

  pub fits_on : (b : Kind) → HasRow g s.pc to number (checked_code (op_of b) (register_of h1 5) (register_of h2 6) ++ rest) → test_of b (s.rf (register_of h1 5)) (s.rf (register_of h2 6)) ≡ sign_of b (s.rf (register_of h1 5)) (s.rf (register_of h2 6))
      → Sees g (going g 4 r) (seen_jump (tested_seen b s (s.rf (register_of h1 5)) (s.rf (register_of h2 6))) 0 0 (s.pc + 4 + 4 + 4 + 4 + 4 + 4 + 4 + 4 + 4))
  fits_on b row e =
      let word = (branch_of g sb h1 h2 s.pc to number rest b row).0 in
      let below = word.below in
      let aligned = word.aligned in
      do_beq_taken (tests b row) 28 29 24 (s.pc + 4 + 4 + 4 + 4 + 4 + 4 + 4 + 4 + 4) (at_plain g (s.pc + 4 + 4 + 4) (Beq 28 29 24) word (lit< tt, lit< tt, (lit< tt, refl))) (lit< tt) (lit< tt) e (omega arith) (omega arith)

  pub over_on : (b : Kind) → HasRow g s.pc to number (checked_code (op_of b) (register_of h1 5) (register_of h2 6) ++ rest) → (test_of b (s.rf (register_of h1 5)) (s.rf (register_of h2 6)) ≡ sign_of b (s.rf (register_of h1 5)) (s.rf (register_of h2 6)) → ⊥)
      → Sees g (going g 4 r) (seen_reg (tested_seen b s (s.rf (register_of h1 5)) (s.rf (register_of h2 6))) 0 0) × HasRow g (s.pc + 4 + 4 + 4 + 4) to number rest
  over_on b row ne =
      let word = (branch_of g sb h1 h2 s.pc to number rest b row).0 in
      (do_beq_on (tests b row) 28 29 24 (at_plain g (s.pc + 4 + 4 + 4) (Beq 28 29 24) word (lit< tt, lit< tt, (lit< tt, refl))) (lit< tt) (lit< tt) ne, (branch_of g sb h1 h2 s.pc to number rest b row).1)

pub moved_pc : (h : Home) (s : Seen) (sb from : ℕ) → (moved_seen h s sb from).pc ≡ s.pc + 4
moved_pc (Register r) s sb from = refl
moved_pc (Frame k) s sb from = refl

-- the row of a sum, a difference or a product whose operands stand at a place and above it
abbrev pub sum_at : (b : Kind) (place : ℕ) → List PatternWord
sum_at b place = fetched (home place) 5 ++ (fetched (home (suc place)) 6 ++ (checked_code (op_of b) (register_of (home place) 5) (register_of (home (suc place)) 6) ++ (fail Overflow ++ (moved (home place) 7 ∷ []))))

length_checked : (b : Kind) (x y : ℕ) → length (checked_code (op_of b) x y) ≡ 4
length_checked Sum x y = refl
length_checked Difference x y = refl
length_checked Product x y = refl

length_sum : (b : Kind) (place : ℕ) → length (sum_at b place) ≡ words_to (home place) + words_to (home (suc place)) + 10
length_sum b place =
    let h1 = home place in
    let h2 = home (suc place) in
    let tail = fail Overflow ++ (moved h1 7 ∷ []) in
    let code = checked_code (op_of b) (register_of h1 5) (register_of h2 6) in
    let l1 = length_fetched h1 5 in
    let l2 = length_fetched h2 6 in
    let l3 = length_checked b (register_of h1 5) (register_of h2 6) in
    let l4 = length-append (fetched h1 5) (fetched h2 6 ++ (code ++ tail)) in
    let l5 = length-append (fetched h2 6) (code ++ tail) in
    let l6 = length-append code tail in
    let l7 : length tail ≡ 6 = refl in
    omega arith

module _ (p : Places) (used heap : ℕ) (u : FlatUnit) (at : ℕ) (loop : Loop) (h : Here) (below : Stack) (w : FlatWorld) (r : Run) (s : Seen) (v : Sees p.loaded r s) (a : AtOp p used heap u at loop h Bottom below w s) (to : ℕ) (number : Numbers) where
  abbrev Rest : (place : ℕ) → List PatternWord
  Rest place = fail Overflow ++ (moved (home place) 7 ∷ [])

  abbrev Code : (b : Kind) (place : ℕ) → List PatternWord
  Code b place = checked_code (op_of b) (register_of (home place) 5) (register_of (home (suc place)) 6) ++ Rest place

  abbrev Pair : (b : Kind) (place : ℕ) → Type 0
  Pair b place = Two p used heap u at loop h below w r s v a to number place (Code b place)

  -- the two operands, from the two topmost words
  operand_x : (b : Kind) (x y : ℤ) (rest : List FlatValue) → h.stack ≡ Int y ∷ Int x ∷ rest → (t : Pair b (length rest)) → signed (t.seen.rf (register_of (home (length rest)) 5)) ≡ x
  operand_x b x y rest stack t = ap signed t.first ∙ (subst (StackIs p a.heap_at (cell s a.sb)) stack a.works.stack_is).1.0

  operand_y : (b : Kind) (x y : ℤ) (rest : List FlatValue) → h.stack ≡ Int y ∷ Int x ∷ rest → (t : Pair b (length rest)) → signed (t.seen.rf (register_of (home (suc (length rest))) 6)) ≡ y
  operand_y b x y rest stack t = ap signed t.second ∙ (subst (StackIs p a.heap_at (cell s a.sb)) stack a.works.stack_is).0

  numbers_are : (b : Kind) (x y : ℤ) (rest : List FlatValue) → h.stack ≡ Int y ∷ Int x ∷ rest → (t : Pair b (length rest)) → number_of b (signed (t.seen.rf (register_of (home (length rest)) 5))) (signed (t.seen.rf (register_of (home (suc (length rest))) 6))) ≡ number_of b x y
  numbers_are b x y rest stack t = ap (λ z. number_of b z (signed (t.seen.rf (register_of (home (suc (length rest))) 6)))) (operand_x b x y rest stack t) ∙ ap (λ z. number_of b x z) (operand_y b x y rest stack t)

  home_1 : (rest : List FlatValue) → suc (length rest) < u.depth → suc (length rest) ≤ 400 → IsHome p.loaded a.sb (home (length rest))
  home_1 rest deep high = place_is_home p used heap u at loop h below w r s v a to number (length rest) (omega arith) (omega arith)

  home_2 : (rest : List FlatValue) → suc (length rest) < u.depth → suc (length rest) ≤ 400 → IsHome p.loaded a.sb (home (suc (length rest)))
  home_2 rest deep high = place_is_home p used heap u at loop h below w r s v a to number (suc (length rest)) deep high

  -- the number fits: it is pushed
  pub sum_fits_law : (b : Kind) (x y : ℤ) (rest : List FlatValue) → h.stack ≡ Int y ∷ Int x ∷ rest → fits_word (number_of b x y) ≡ true → suc (length rest) < u.depth → suc (length rest) ≤ 400 → HasRow p.loaded s.pc to number (sum_at b (length rest)) → Falls p used heap u at loop h below w r s v a to number (sum_at b (length rest))
      → Goes p used heap u at loop h below w r s v a to number (length (sum_at b (length rest))) (at + 1) (Int (number_of b x y) ∷ rest)
  sum_fits_law b x y rest stack fits deep high row next = after_two (two_fetched p used heap u at loop h below w r s v a to number (length rest) (Code b (length rest)) deep high row)
    where
      after_two : Pair b (length rest) → Goes p used heap u at loop h below w r s v a to number (length (sum_at b (length rest))) (at + 1) (Int (number_of b x y) ∷ rest)
      after_two t =
          let h1 = home (length rest) in
          let h2 = home (suc (length rest)) in
          let is1 = home_1 rest deep high in
          let is2 = home_2 rest deep high in
          let n = words_to h1 + words_to h2 in
          let r1 = going p.loaded n r in
          let vx = t.seen.rf (register_of h1 5) in
          let vy = t.seen.rf (register_of h2 6) in
          let lx = t.sees.shows.small (register_of h1 5) (register_fits p.loaded a.sb h1 5 is1 (lit< tt)) in
          let ly = t.sees.shows.small (register_of h2 6) (register_fits p.loaded a.sb h2 6 is2 (lit< tt)) in
          let e0 = numbers_are b x y rest stack t in
          let fits2 : fits_word (number_of b (signed vx) (signed vy)) ≡ true = ap fits_word e0 ∙ fits in
          let v4 = fits_on p.loaded r1 t.seen t.sees a.sb h1 h2 is1 is2 to number (Rest (length rest)) b t.code (test_is b vx vy lx ly fits2) in
          let s3 = tested_seen b t.seen vx vy in
          let s4 = seen_jump s3 0 0 (t.seen.pc + 4 + 4 + 4 + 4 + 4 + 4 + 4 + 4 + 4) in
          let code = (branch_of p.loaded a.sb h1 h2 t.seen.pc to number (Rest (length rest)) b t.code).1.1.1.1.1.1 in
          let q4 : Quiet s s4 = quiet_trans s t.seen s4 t.quiet (quiet_trans t.seen s3 s4 (quiet_tested b t.seen vx vy) (quiet_none s3 0 (t.seen.pc + 4 + 4 + 4 + 4 + 4 + 4 + 4 + 4 + 4))) in
          let v5 = move_does p.loaded (going p.loaded 4 r1) s4 h1 a.sb 7 to number [] v4 is1 (lit< tt) (q4.fixed.r9 ∙ a.works.stack_reg) code in
          let t5 = moved_seen h1 s4 a.sb 7 in
          let e1 : going p.loaded 5 r1 ≡ going p.loaded (suc (n + 4)) r = sym (steps_add (machine p.loaded.names) n 5 r) ∙ ap (λ m. going p.loaded m r) (five_more n) in
          let l1 = length_sum b (length rest) in
          let pc1 = t.pc in
          let pc2 = moved_pc h1 s4 a.sb 7 in
          record {
            last = n + 4;
            within = omega arith;
            seen = t5;
            sees = subst (λ r2. Sees p.loaded r2 t5) e1 v5;
            lands = pushed p used heap u at loop h below w s a t5 (at + 1) (result_of b vx vy) (Int (number_of b x y)) rest
                (wrote_after s s4 t5 a.sb (length rest) (result_of b vx vy) q4 (wrote_moved s4 a.sb (length rest) 7 (result_of b vx vy) (result_there b t.seen vx vy) (result_small b vx vy)))
                (omega (arith, a.pc_is, next)) (subst (StackIs p a.heap_at (cell s a.sb)) stack a.works.stack_is).1.1 (value_is b vx vy lx ly fits2 ∙ e0);
          }

  -- it doesn't fit: overflow, to the label
  pub sum_over_law : (b : Kind) (x y : ℤ) (rest : List FlatValue) (l : ℕ) → h.stack ≡ Int y ∷ Int x ∷ rest → fits_word (number_of b x y) ≡ false → suc (length rest) < u.depth → suc (length rest) ≤ 400 → HasRow p.loaded s.pc to number (sum_at b (length rest))
      → to % 4 ≡ 0 → to < 268435456 → p.op_at u.name l ≡ to → number reloc.Word (Some Overflow) ≡ p.exception_at overflow
      → Leads p.loaded r (length (sum_at b (length rest))) (AtOp p used heap u l NoLoop (record { stack = []; locals = h.locals; status = Thrown overflow None }) Bottom below w)
  sum_over_law b x y rest l stack over deep high row aligned small there named = after_two (two_fetched p used heap u at loop h below w r s v a to number (length rest) (Code b (length rest)) deep high row)
    where
      after_two : Pair b (length rest) → Leads p.loaded r (length (sum_at b (length rest))) (AtOp p used heap u l NoLoop (record { stack = []; locals = h.locals; status = Thrown overflow None }) Bottom below w)
      after_two t =
          let h1 = home (length rest) in
          let h2 = home (suc (length rest)) in
          let is1 = home_1 rest deep high in
          let is2 = home_2 rest deep high in
          let n = words_to h1 + words_to h2 in
          let r1 = going p.loaded n r in
          let vx = t.seen.rf (register_of h1 5) in
          let vy = t.seen.rf (register_of h2 6) in
          let lx = t.sees.shows.small (register_of h1 5) (register_fits p.loaded a.sb h1 5 is1 (lit< tt)) in
          let ly = t.sees.shows.small (register_of h2 6) (register_fits p.loaded a.sb h2 6 is2 (lit< tt)) in
          let over2 : fits_word (number_of b (signed vx) (signed vy)) ≡ false = ap fits_word (numbers_are b x y rest stack t) ∙ over in
          let ne = test_fails b vx vy lx ly over2 in
          let v4 = over_on p.loaded r1 t.seen t.sees a.sb h1 h2 is1 is2 to number (Rest (length rest)) b t.code ne in
          let s3 = tested_seen b t.seen vx vy in
          let s4 = seen_reg s3 0 0 in
          let x9 = number reloc.Word (Some Overflow) in
          let v9 = fail_does p.loaded (going p.loaded 4 r1) s4 Overflow to number (moved h1 7 ∷ []) v4.0 v4.1 aligned small in
          let t9 = failed_seen s4 x9 to in
          let q4 : Quiet s s4 = quiet_trans s t.seen s4 t.quiet (quiet_trans t.seen s3 s4 (quiet_tested b t.seen vx vy) (quiet_none s3 0 (t.seen.pc + 4 + 4 + 4 + 4))) in
          let e1 : going p.loaded 8 r1 ≡ going p.loaded (suc (n + 7)) r = sym (steps_add (machine p.loaded.names) n 8 r) ∙ ap (λ m. going p.loaded m r) (eight_more n) in
          let l1 = length_sum b (length rest) in
          record {
            last = n + 7;
            within = omega arith;
            seen = t9;
            sees = subst (λ r2. Sees p.loaded r2 t9) e1 v9;
            lands = failed p used heap u at loop h below w s a t9 overflow x9 l (failed_after s s4 t9 x9 q4 (failed_is s4 x9 to)) named (sym there);
          }
