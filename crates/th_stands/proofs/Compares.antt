-- Comparisons of the two topmost words.
use Rattle.std.proofs.Common.{◌≡◌, ℕ, zero, suc, ◌+◌, ◌*◌, ◌<◌, ◌≤◌, List, ◌∷◌, ◌++◌, length, length-append, append_assoc, Bool, true, false, nat_lt, refl, sym, ap, ◌∙◌, subst, arith, lit<}
use Rattle.std.specs.Prelude.{ℤ, not, int_lt, int_le}
use Rattle.std.specs.Ordering.{int_eq}
use Rattle.th_word.specs.Word.{word_sub, signed_less, flag_word}
use Rattle.th_rv.specs.declared.instr.Instr.TheVariants.{Sub, Slt, Sltu, Sltiu}
use Rattle.th_elf.specs.Run.{Run, run_step, machine}
use Rattle.th_runs.proofs.Steps.{steps_add}
use Rattle.th_flat.specs.declared.module.FlatUnit.{FlatUnit}
use Rattle.th_flat.specs.Values.{FlatValue, Int, FlatWorld, signed, truth}
use Rattle.th_flat.specs.Deeds.{holds}
use Rattle.th_flat.specs.Configs.{Loop, Here, Stack, Bottom}
use Rattle.th_abi.specs.declared.word.PatternWord.{PatternWord}
use Rattle.th_abi.specs.declared.word.Home.{Home}
use Rattle.th_abi.specs.declared.word.Home.TheVariants.{Register, Frame}
use Rattle.th_abi.specs.Sequences.{home, register_of, fetched, kept}
use Rattle.th_abi.specs.Numbers.{compare_code}
use Rattle.th_stands.specs.Seen.{Seen, Loaded, Sees}
use Rattle.th_stands.specs.Places.{HasRow}
use Rattle.th_stands.specs.Stands.{Places, Heap, Means, StackIs, cell, AtOp}
use Rattle.th_stands.proofs.Instructions.{seen_reg, do_sub, do_slt, do_sltu, do_sltiu}
use Rattle.th_stands.proofs.Sequences.{going, at_plain, IsHome, words_to, register_fits, fetched_seen, fetch_does, Quiet, quiet_refl, quiet_trans, quiet_reg, quiet_fetched, quiet_cells, fetched_value, operand_stays, apart_5, apart_6, apart_7}
use Rattle.th_stands.proofs.Signed.{less_is, equal_is, differ_is, flag_not, at_most_is}
use Rattle.th_stands.proofs.Rows.{Numbers, length_fetched, fetched_pc, place_is_home, keeps, Goes, Falls}

-- a result is in its register after some instructions, and free registers alone have changed
pub record Computed (g : Loaded) (r : Run) (s : Seen) (to : ℕ) (number : Numbers) (words rest : List PatternWord) (rd x : ℕ) : Type 0 where
  pub k : ℕ
  pub before : Seen
  pub sees : Sees g (going g (suc k) r) (seen_reg before rd x)
  pub quiet : Quiet s before
  pub code : HasRow g (before.pc + 4) to number rest
  pub count : length words ≡ suc k
  pub pc : before.pc + 4 ≡ s.pc + 4 * suc k

module _ (g : Loaded) (r : Run) (s : Seen) (v : Sees g r s) (to : ℕ) (number : Numbers) (rest : List PatternWord) (rd ra rb : ℕ) (ld : rd < 32) (la : ra < 32) (lb : rb < 32) where
  -- the flag of a test, where one instruction gives it
  one_word : (f : Bool) (x : ℕ) (words : List PatternWord) → Sees g (run_step r) (seen_reg s rd x) → x ≡ flag_word f → HasRow g (s.pc + 4) to number rest → length words ≡ 1 → Computed g r s to number words rest rd (flag_word f)
  one_word f x words v1 e code count = record { k = 0; before = s; sees = subst (λ y. Sees g (run_step r) (seen_reg s rd y)) e v1; quiet = quiet_refl s; code = code; count = count; pc = omega arith }

  -- where a second one takes the opposite or compares with 0
  two_words : (f : Bool) (x y : ℕ) (words : List PatternWord) → Sees g (run_step (run_step r)) (seen_reg (seen_reg s 7 x) rd y) → y ≡ flag_word f → HasRow g (s.pc + 4 + 4) to number rest → length words ≡ 2 → Computed g r s to number words rest rd (flag_word f)
  two_words f x y words v2 e code count = record { k = 1; before = seen_reg s 7 x; sees = subst (λ z. Sees g (run_step (run_step r)) (seen_reg (seen_reg s 7 x) rd z)) e v2; quiet = quiet_reg s 7 x refl apart_7; code = code; count = count; pc = omega arith }

  pub compare_does : (c : ℕ) → c ≤ 5 → s.rf ra < 4294967296 → s.rf rb < 4294967296 → HasRow g s.pc to number (compare_code c rd ra rb ++ rest) → Computed g r s to number (compare_code c rd ra rb) rest rd (flag_word (holds c (signed (s.rf ra)) (signed (s.rf rb))))
  compare_does zero le sx sy row =
      let v1 = do_sub v 7 ra rb (at_plain g s.pc (Sub 7 ra rb) row.0 (lit< tt, la, lb)) (lit< tt) la lb in
      let v2 = do_sltiu v1 rd 7 1 (at_plain g (s.pc + 4) (Sltiu rd 7 1) row.1.0 (ld, lit< tt, lit< tt)) ld (lit< tt) in
      two_words (int_eq (signed (s.rf ra)) (signed (s.rf rb))) (word_sub (s.rf ra) (s.rf rb)) _ (compare_code zero rd ra rb) v2 (ap flag_word (equal_is (s.rf ra) (s.rf rb) sx sy)) row.1.1 refl
  compare_does (suc zero) le sx sy row =
      let v1 = do_sub v 7 ra rb (at_plain g s.pc (Sub 7 ra rb) row.0 (lit< tt, la, lb)) (lit< tt) la lb in
      let v2 = do_sltu v1 rd 0 7 (at_plain g (s.pc + 4) (Sltu rd 0 7) row.1.0 (ld, lit< tt, lit< tt)) ld (lit< tt) (lit< tt) in
      two_words (not (int_eq (signed (s.rf ra)) (signed (s.rf rb)))) (word_sub (s.rf ra) (s.rf rb)) _ (compare_code (suc zero) rd ra rb) v2 (ap (λ z. flag_word (nat_lt z (word_sub (s.rf ra) (s.rf rb)))) v.shows.zero_is ∙ ap flag_word (differ_is (s.rf ra) (s.rf rb) sx sy)) row.1.1 refl
  compare_does (suc (suc zero)) le sx sy row =
      let v1 = do_slt v rd ra rb (at_plain g s.pc (Slt rd ra rb) row.0 (ld, la, lb)) ld la lb in
      one_word (int_lt (signed (s.rf ra)) (signed (s.rf rb))) _ (compare_code (suc (suc zero)) rd ra rb) v1 (ap flag_word (less_is (s.rf ra) (s.rf rb) sx sy)) row.1 refl
  compare_does (suc (suc (suc zero))) le sx sy row =
      let v1 = do_slt v 7 rb ra (at_plain g s.pc (Slt 7 rb ra) row.0 (lit< tt, lb, la)) (lit< tt) lb la in
      let v2 = do_sltiu v1 rd 7 1 (at_plain g (s.pc + 4) (Sltiu rd 7 1) row.1.0 (ld, lit< tt, lit< tt)) ld (lit< tt) in
      two_words (int_le (signed (s.rf ra)) (signed (s.rf rb))) (flag_word (signed_less (s.rf rb) (s.rf ra))) _ (compare_code (suc (suc (suc zero))) rd ra rb) v2
      (ap flag_word (flag_not (signed_less (s.rf rb) (s.rf ra)) ∙ ap not (less_is (s.rf rb) (s.rf ra) sy sx) ∙ at_most_is (signed (s.rf ra)) (signed (s.rf rb)))) row.1.1 refl
  compare_does (suc (suc (suc (suc zero)))) le sx sy row =
      let v1 = do_slt v rd rb ra (at_plain g s.pc (Slt rd rb ra) row.0 (ld, lb, la)) ld lb la in
      one_word (int_lt (signed (s.rf rb)) (signed (s.rf ra))) _ (compare_code (suc (suc (suc (suc zero)))) rd ra rb) v1 (ap flag_word (less_is (s.rf rb) (s.rf ra) sy sx)) row.1 refl
  compare_does (suc (suc (suc (suc (suc c))))) le sx sy row =
      let v1 = do_slt v 7 ra rb (at_plain g s.pc (Slt 7 ra rb) row.0 (lit< tt, la, lb)) (lit< tt) la lb in
      let v2 = do_sltiu v1 rd 7 1 (at_plain g (s.pc + 4) (Sltiu rd 7 1) row.1.0 (ld, lit< tt, lit< tt)) ld (lit< tt) in
      two_words (int_le (signed (s.rf rb)) (signed (s.rf ra))) (flag_word (signed_less (s.rf ra) (s.rf rb))) _ (compare_code (suc (suc (suc (suc (suc c))))) rd ra rb) v2
      (ap flag_word (flag_not (signed_less (s.rf ra) (s.rf rb)) ∙ ap not (less_is (s.rf ra) (s.rf rb) sx sy) ∙ at_most_is (signed (s.rf rb)) (signed (s.rf ra)))) row.1.1 refl

plus_suc : (a b : ℕ) → a + suc b ≡ suc (a + b)
plus_suc a b = omega arith

truth_means : (p : Places) (q : Heap) (b : Bool) → Means p q (truth b) (flag_word b)
truth_means p q true = refl
truth_means p q false = refl

-- the row of a comparison whose operands stand at a place and above it
abbrev pub compare_at : (c place : ℕ) → List PatternWord
compare_at c place = fetched (home place) 5 ++ (fetched (home (suc place)) 6 ++ (compare_code c (register_of (home place) 7) (register_of (home place) 5) (register_of (home (suc place)) 6) ++ kept (home place) 7))

module _ (p : Places) (used heap : ℕ) (u : FlatUnit) (at : ℕ) (loop : Loop) (h : Here) (below : Stack) (w : FlatWorld) (r : Run) (s : Seen) (v : Sees p.loaded r s) (a : AtOp p used heap u at loop h Bottom below w s) (to : ℕ) (number : Numbers) where
  -- the two topmost words were fetched
  pub record Two (place : ℕ) (rest : List PatternWord) : Type 0 where
    pub seen : Seen
    pub sees : Sees p.loaded (going p.loaded (words_to (home place) + words_to (home (suc place))) r) seen
    pub code : HasRow p.loaded seen.pc to number rest
    pub quiet : Quiet s seen
    pub first : seen.rf (register_of (home place) 5) ≡ cell s a.sb place
    pub second : seen.rf (register_of (home (suc place)) 6) ≡ cell s a.sb (suc place)
    pub pc : seen.pc ≡ s.pc + 4 * (words_to (home place) + words_to (home (suc place)))

  pub two_fetched : (place : ℕ) (rest : List PatternWord) → suc place < u.depth → suc place ≤ 400 → HasRow p.loaded s.pc to number (fetched (home place) 5 ++ (fetched (home (suc place)) 6 ++ rest)) → Two place rest
  two_fetched place rest deep high row = after_first (fetch_does p.loaded r s (home place) a.sb 5 to number (fetched (home (suc place)) 6 ++ rest) v (place_is_home p used heap u at loop h below w r s v a to number place (omega arith) (omega arith)) (lit< tt) a.works.stack_reg row)
    where
      after_first : Sees p.loaded (going p.loaded (words_to (home place)) r) (fetched_seen (home place) s a.sb 5) × HasRow p.loaded (fetched_seen (home place) s a.sb 5).pc to number (fetched (home (suc place)) 6 ++ rest) → Two place rest
      after_first (v1, code1) = after_second (fetch_does p.loaded (going p.loaded (words_to (home place)) r) (fetched_seen (home place) s a.sb 5) (home (suc place)) a.sb 6 to number rest v1 (place_is_home p used heap u at loop h below w r s v a to number (suc place) deep high) (lit< tt) (q1.fixed.r9 ∙ a.works.stack_reg) code1)
        where
          q1 : Quiet s (fetched_seen (home place) s a.sb 5)
          q1 = quiet_fetched (home place) s a.sb 5 refl apart_5

          after_second : Sees p.loaded (going p.loaded (words_to (home (suc place))) (going p.loaded (words_to (home place)) r)) (fetched_seen (home (suc place)) (fetched_seen (home place) s a.sb 5) a.sb 6) × HasRow p.loaded (fetched_seen (home (suc place)) (fetched_seen (home place) s a.sb 5) a.sb 6).pc to number rest → Two place rest
          after_second (v2, code2) =
              let s1 = fetched_seen (home place) s a.sb 5 in
              let t = fetched_seen (home (suc place)) s1 a.sb 6 in
              let home1 = place_is_home p used heap u at loop h below w r s v a to number place (omega arith) (omega arith) in
              let q2 : Quiet s1 t = quiet_fetched (home (suc place)) s1 a.sb 6 refl apart_6 in
              let p1 = fetched_pc (home place) s a.sb 5 in
              let p2 = fetched_pc (home (suc place)) s1 a.sb 6 in
              record {
                seen = t;
                sees = subst (λ r2. Sees p.loaded r2 t) (sym (steps_add (machine p.loaded.names) (words_to (home place)) (words_to (home (suc place))) r)) v2;
                code = code2;
                quiet = quiet_trans s s1 t q1 q2;
                first = first_stays (home place) (home (suc place)) s1 home1 ∙ fetched_value (home place) s a.sb 5 (lit< tt);
                second = fetched_value (home (suc place)) s1 a.sb 6 (lit< tt) ∙ quiet_cells s s1 a.sb q1 (suc place);
                pc = omega arith;
              }
            where
              first_stays : (h1 h2 : Home) (s1 : Seen) → IsHome p.loaded a.sb h1 → (fetched_seen h2 s1 a.sb 6).rf (register_of h1 5) ≡ s1.rf (register_of h1 5)
              first_stays h1 (Register k) s1 is = refl
              first_stays h1 (Frame k) s1 is = operand_stays p.loaded h1 s1 a.sb 5 6 (s1.wf (a.sb + k)) is apart_6 (λ e. five_six e)
                where
                  five_six : ◌≡◌ {A = ℕ} 5 6 → ⊥
                  five_six e = omega arith

  pub compare_law : (c : ℕ) (x y : ℤ) (rest : List FlatValue) → c ≤ 5 → h.stack ≡ Int y ∷ Int x ∷ rest → suc (length rest) < u.depth → suc (length rest) ≤ 400 → HasRow p.loaded s.pc to number (compare_at c (length rest)) → Falls p used heap u at loop h below w r s v a to number (compare_at c (length rest))
      → Goes p used heap u at loop h below w r s v a to number (length (compare_at c (length rest))) (at + 1) (truth (holds c x y) ∷ rest)
  compare_law c x y rest le stack deep high row next = after_two (two_fetched (length rest) (compare_code c (register_of (home (length rest)) 7) (register_of (home (length rest)) 5) (register_of (home (suc (length rest))) 6) ++ kept (home (length rest)) 7) deep high row)
    where
      after_two : Two (length rest) (compare_code c (register_of (home (length rest)) 7) (register_of (home (length rest)) 5) (register_of (home (suc (length rest))) 6) ++ kept (home (length rest)) 7) → Goes p used heap u at loop h below w r s v a to number (length (compare_at c (length rest))) (at + 1) (truth (holds c x y) ∷ rest)
      after_two t = after_code (compare_does p.loaded (going p.loaded (words_to (home (length rest)) + words_to (home (suc (length rest)))) r) t.seen t.sees to number (kept (home (length rest)) 7)
          (register_of (home (length rest)) 7) (register_of (home (length rest)) 5) (register_of (home (suc (length rest))) 6)
          (register_fits p.loaded a.sb (home (length rest)) 7 home1 (lit< tt)) (register_fits p.loaded a.sb (home (length rest)) 5 home1 (lit< tt)) (register_fits p.loaded a.sb (home (suc (length rest))) 6 home2 (lit< tt))
          c le (t.sees.shows.small (register_of (home (length rest)) 5) (register_fits p.loaded a.sb (home (length rest)) 5 home1 (lit< tt))) (t.sees.shows.small (register_of (home (suc (length rest))) 6) (register_fits p.loaded a.sb (home (suc (length rest))) 6 home2 (lit< tt))) t.code)
        where
          home1 : IsHome p.loaded a.sb (home (length rest))
          home1 = place_is_home p used heap u at loop h below w r s v a to number (length rest) (omega arith) (omega arith)

          home2 : IsHome p.loaded a.sb (home (suc (length rest)))
          home2 = place_is_home p used heap u at loop h below w r s v a to number (suc (length rest)) deep high

          after_code : Computed p.loaded (going p.loaded (words_to (home (length rest)) + words_to (home (suc (length rest)))) r) t.seen to number (compare_code c (register_of (home (length rest)) 7) (register_of (home (length rest)) 5) (register_of (home (suc (length rest))) 6)) (kept (home (length rest)) 7) (register_of (home (length rest)) 7)
              (flag_word (holds c (signed (t.seen.rf (register_of (home (length rest)) 5))) (signed (t.seen.rf (register_of (home (suc (length rest))) 6)))))
              → Goes p used heap u at loop h below w r s v a to number (length (compare_at c (length rest))) (at + 1) (truth (holds c x y) ∷ rest)
          after_code d =
              let h1 = home (length rest) in
              let h2 = home (suc (length rest)) in
              let n = words_to h1 + words_to h2 in
              let stk : StackIs p a.heap_at (cell s a.sb) (Int y ∷ Int x ∷ rest) = subst (StackIs p a.heap_at (cell s a.sb)) stack a.works.stack_is in
              let e1 : signed (t.seen.rf (register_of h1 5)) ≡ x = ap signed t.first ∙ stk.1.0 in
              let e2 : signed (t.seen.rf (register_of h2 6)) ≡ y = ap signed t.second ∙ stk.0 in
              let e3 : flag_word (holds c (signed (t.seen.rf (register_of h1 5))) (signed (t.seen.rf (register_of h2 6)))) ≡ flag_word (holds c x y) = ap (λ z. flag_word (holds c z (signed (t.seen.rf (register_of h2 6))))) e1 ∙ ap (λ z. flag_word (holds c x z)) e2 in
              let code = compare_code c (register_of h1 7) (register_of h1 5) (register_of h2 6) in
              let words = fetched h1 5 ++ (fetched h2 6 ++ code) in
              let l1 = length_fetched h1 5 in
              let l2 = length_fetched h2 6 in
              let l3 : length words ≡ length (fetched h1 5) + (length (fetched h2 6) + length code) = length-append (fetched h1 5) (fetched h2 6 ++ code) ∙ ap (λ m. length (fetched h1 5) + m) (length-append (fetched h2 6) code) in
              let l4 = d.count in
              let row_is : compare_at c (length rest) ≡ words ++ kept h1 7 = sym (append_assoc (fetched h1 5) (fetched h2 6 ++ code) (kept h1 7) ∙ ap (λ l. fetched h1 5 ++ l) (append_assoc (fetched h2 6) code (kept h1 7))) in
              let e4 : going p.loaded (suc d.k) (going p.loaded n r) ≡ going p.loaded (suc (n + d.k)) r = sym (steps_add (machine p.loaded.names) n (suc d.k) r) ∙ ap (λ m. going p.loaded m r) (plus_suc n d.k) in
              let pc1 = t.pc in
              let pc2 = d.pc in
              keeps p used heap u at loop h below w r s v a to number (flag_word (holds c (signed (t.seen.rf (register_of h1 5))) (signed (t.seen.rf (register_of h2 6))))) (truth (holds c x y)) rest (n + d.k) (going p.loaded (suc d.k) (going p.loaded n r)) d.before (compare_at c (length rest)) words
              stk.1.1 e4 (quiet_trans s t.seen d.before t.quiet d.quiet) d.sees (omega arith) (omega arith) (subst (Means p a.heap_at (truth (holds c x y))) (sym e3) (truth_means p a.heap_at (holds c x y))) d.code (omega arith) (omega arith) row_is next
