-- Rows of operations that only move words and go on: what they do from a state that stands for their operation.
use Rattle.std.proofs.Common.{◌≡◌, ℕ, suc, ◌+◌, ◌-◌, ◌*◌, ◌%◌, ◌^◌, ◌<◌, ◌≤◌, List, [], ◌∷◌, ◌++◌, length, length-append, Option, Some, Bool, true, false, nat_lt, nat_le, refl, sym, ap, ◌∙◌, subst, ⊎_elim, arith, lit<}
use Rattle.std.specs.Prelude.{slice_get, ℤ, pos, negsuc, if◌then◌else◌, ◌||◌, set}
use Rattle.std.proofs.lemmas.Bool.{cases_Bool, cases_lt, lt-ltb, le-ltb, lt-leb}
use Rattle.th_word.specs.Word.{word_add, extend_12}
use Rattle.th_rv.specs.declared.instr.Instr.TheVariants.{Lui, Lw, Sw, Addi, Bne}
use Rattle.th_elf.specs.Run.{Run, run_step, machine}
use Rattle.th_runs.proofs.Steps.{steps_add}
use Rattle.th_flat.specs.declared.module.FlatUnit.{FlatUnit}
use Rattle.th_flat.specs.Values.{FlatValue, Int, FlatWorld, signed}
use Rattle.th_flat.specs.Configs.{Loop, NoLoop, Here, Stack, Bottom, words_of}
use Rattle.th_abi.specs.declared.word.RelocKind.{RelocKind}
use Rattle.th_abi.specs.declared.word.Failure.{Failure}
use Rattle.th_abi.specs.declared.word.PatternWord.{PatternWord}
use Rattle.th_abi.specs.declared.word.Home.{Home}
use Rattle.th_abi.specs.declared.word.Home.TheVariants.{Register, Frame}
use Rattle.th_abi.specs.Words.{plain, jump}
use Rattle.th_abi.specs.Sequences.{home, register_of, fetched, kept}
use Rattle.th_abi.specs.Numbers.{is_small, upper, lower, word_row, local_row}
use Rattle.th_abi.specs.Control.{nothing}
use Rattle.th_stands.specs.Seen.{word_address, Seen, Loaded, Sees}
use Rattle.th_stands.specs.Places.{HasRow}
use Rattle.th_stands.specs.Stands.{Places, Means, StackIs, cell, AtOp}
use Rattle.th_stands.specs.Law.{Leads}
use Rattle.th_stands.proofs.Instructions.{wr, wr_other, seen_reg, seen_store, seen_jump, do_addi, do_lui, do_lw, do_sw, do_bne_taken, do_bne_on}
use Rattle.th_stands.proofs.Sequences.{going, at_plain, extend_low, extend_high, up_from, jumped_seen, jump_does, IsHome, is_home, words_to, register_fits, fetched_seen, fetch_does, kept_seen, keep_does, Quiet, quiet_refl, quiet_trans, quiet_reg, quiet_none, quiet_jumped, quiet_fetched, fetched_value, apart_5, apart_7, Wrote, wrote_after, wrote_kept}
use Rattle.th_stands.proofs.Keeping.{local_within}
use Rattle.th_stands.proofs.Restand.{popped, pushed, local_set}

pub length_fetched : (h : Home) (f : ℕ) → length (fetched h f) ≡ words_to h
length_fetched (Register r) f = refl
length_fetched (Frame k) f = refl

pub length_kept : (h : Home) (f : ℕ) → length (kept h f) ≡ words_to h
length_kept (Register r) f = refl
length_kept (Frame k) f = refl

pub fetched_pc : (h : Home) (s : Seen) (sb f : ℕ) → (fetched_seen h s sb f).pc ≡ s.pc + 4 * words_to h
fetched_pc (Register r) s sb f = omega arith
fetched_pc (Frame k) s sb f = omega arith

pub kept_pc : (h : Home) (s : Seen) (sb f : ℕ) → (kept_seen h s sb f).pc ≡ s.pc + 4 * words_to h
kept_pc (Register r) s sb f = omega arith
kept_pc (Frame k) s sb f = omega arith

-- the register of a home isn't that of the frame's stack
pub stack_stays : (g : Loaded) (h : Home) (s : Seen) (sb x : ℕ) → IsHome g sb h → wr s.rf (register_of h 7) x 9 ≡ s.rf 9
stack_stays g (Register r) s sb x is = let l = is.0 in wr_other s.rf r x 9 (omega arith)
stack_stays g (Frame k) s sb x is = refl

-- the numbers of relocations
abbrev pub Numbers : Type 0
Numbers = RelocKind → Option Failure → ℕ

-- a word is put together from its parts
small_word : (w : ℕ) → w < 4294967296 → is_small w ≡ true → word_add 0 (extend_12 (lower w)) ≡ w
small_word w lt e = ⊎_elim low high (cases_lt w 2048)
  where
    low : w < 2048 → word_add 0 (extend_12 (lower w)) ≡ w
    low l =
        let e0 : lower w ≡ w = omega arith in
        let e1 : extend_12 (lower w) ≡ w = extend_low (lower w) (omega arith) ∙ e0 in
        rw e1 (omega arith)

    high : 2048 ≤ w → word_add 0 (extend_12 (lower w)) ≡ w
    high l = ⊎_elim top between (cases_lt w 4294965248)
      where
        between : 4294965248 ≤ w → word_add 0 (extend_12 (lower w)) ≡ w
        between l2 =
            let e1 : extend_12 (lower w) ≡ lower w + 4294963200 = extend_high (lower w) (omega arith) in
            rw e1 (omega arith)

        top : w < 4294965248 → word_add 0 (extend_12 (lower w)) ≡ w
        top l2 =
            let e1 : nat_lt w 2048 ≡ false = le-ltb w 2048 l in
            let e2 : nat_le 4294965248 w ≡ false = lt-leb 4294965248 w l2 in
            absurd (not_true (sym (ap (λ b. b || nat_le 4294965248 w) e1 ∙ e2) ∙ e))
          where
            not_true : false ≡ true → ⊥
            not_true q = cc

whole_word : (w : ℕ) → w < 4294967296 → word_add (upper w * 4096) (extend_12 (lower w)) ≡ w
whole_word w lt = ⊎_elim low high (cases_lt (lower w) 2048)
  where
    low : lower w < 2048 → word_add (upper w * 4096) (extend_12 (lower w)) ≡ w
    low l = let e1 : extend_12 (lower w) ≡ lower w = extend_low (lower w) l in rw e1 (omega arith)

    high : 2048 ≤ lower w → word_add (upper w * 4096) (extend_12 (lower w)) ≡ w
    high l = let e1 : extend_12 (lower w) ≡ lower w + 4294963200 = extend_high (lower w) l in rw e1 (omega arith)

one_more : (n : ℕ) → suc n ≡ n + 1
one_more n = omega arith

suc_plus : (a b : ℕ) → suc a + b ≡ suc (a + b)
suc_plus a b = omega arith

three_more : (n : ℕ) → suc (n + 2) ≡ n + 3
three_more n = omega arith

-- a word that is the number 0 is 0
signed_zero : (n : ℕ) → signed n ≡ pos 0 → n ≡ 0
signed_zero n e = ⊎_elim low high (cases_lt n 2147483648)
  where
    low : n < 2147483648 → n ≡ 0
    low l = let e1 : nat_lt n 2147483648 ≡ true = lt-ltb n 2147483648 l in is_pos (rw e1 at e)
      where
        is_pos : pos n ≡ pos 0 → n ≡ 0
        is_pos q = cc

    high : 2147483648 ≤ n → n ≡ 0
    high l = let e1 : nat_lt n 2147483648 ≡ false = le-ltb n 2147483648 l in absurd (is_neg (rw e1 at e))
      where
        is_neg : negsuc (2 ^ 32 - 1 - n) ≡ pos 0 → ⊥
        is_neg q = cc

-- the row of `unless` after its operand is fetched
abbrev pub unless_at : ℕ → List PatternWord
unless_at place = fetched (home place) 5 ++ (plain (Bne (register_of (home place) 5) 0 12) ∷ jump)

-- pop into a local word
abbrev pub set_at : (k place : ℕ) → List PatternWord
set_at k place = fetched (home place) 5 ++ (plain (Sw 8 (register_of (home place) 5) (4 * k)) ∷ [])

module _ (p : Places) (used heap : ℕ) (u : FlatUnit) (at : ℕ) (loop : Loop) (h : Here) (below : Stack) (w : FlatWorld) (r : Run) (s : Seen) (v : Sees p.loaded r s) (a : AtOp p used heap u at loop h Bottom below w s) (to : ℕ) (number : Numbers) where
  -- the state after the row stands for the unit at an operation with a stack
  abbrev pub Goes : (words at2 : ℕ) → List FlatValue → Type 0
  Goes words at2 stack = Leads p.loaded r words (AtOp p used heap u at2 NoLoop (record { stack = stack; locals = h.locals; status = h.status }) Bottom below w)

  -- the row's end is the next operation's row
  abbrev pub Falls : List PatternWord → Type 0
  Falls row = p.op_at u.name (at + 1) ≡ p.op_at u.name at + 4 * length row

  pub place_is_home : (place : ℕ) → place < u.depth → place ≤ 400 → IsHome p.loaded a.sb (home place)
  place_is_home place lt le =
      let k1 = a.works.within in
      let k2 = a.works.spare in
      let k3 = a.works.limited in
      is_home p.loaded a.sb place (omega arith) le

  pub nothing_law : (rest : List FlatValue) → StackIs p a.heap_at (cell s a.sb) rest → HasRow p.loaded s.pc to number nothing → Falls nothing → Goes 1 (at + 1) rest
  nothing_law rest stack row next =
      let v1 = do_addi v 0 0 0 (at_plain p.loaded s.pc (Addi 0 0 0) row.0 (lit< tt, lit< tt, lit< tt)) (lit< tt) (lit< tt) in
      let t = seen_reg s 0 (word_add (s.rf 0) (extend_12 0)) in
      let q : Quiet s t = quiet_none s (word_add (s.rf 0) (extend_12 0)) (s.pc + 4) in
      record { last = 0; within = omega arith; seen = t; sees = v1; lands = popped p used heap u at loop h below w s a t (at + 1) rest q (omega (arith, a.pc_is, next)) stack }

  pub go_law : (l : ℕ) → HasRow p.loaded s.pc to number jump → to % 4 ≡ 0 → to < 268435456 → p.op_at u.name l ≡ to → Goes 2 l h.stack
  go_law l row aligned small there =
      record { last = 1; within = omega arith; seen = jumped_seen s to; sees = jump_does p.loaded r s to number v row aligned small; lands = popped p used heap u at loop h below w s a (jumped_seen s to) l h.stack (quiet_jumped s to) (sym there) a.works.stack_is }

  -- a result that was computed in its register is kept on the words that are left
  pub keeps : (x : ℕ) (value : FlatValue) (rest : List FlatValue) (k : ℕ) (r1 : Run) (s1 : Seen) (row words : List PatternWord) → StackIs p a.heap_at (cell s a.sb) rest → r1 ≡ going p.loaded (suc k) r → Quiet s s1 → Sees p.loaded r1 (seen_reg s1 (register_of (home (length rest)) 7) x)
      → length rest < u.depth → length rest ≤ 400 → Means p a.heap_at value x → HasRow p.loaded (s1.pc + 4) to number (kept (home (length rest)) 7)
      → s1.pc + 4 ≡ s.pc + 4 * length words → length words ≡ suc k → row ≡ words ++ kept (home (length rest)) 7 → Falls row → Goes (length row) (at + 1) (value ∷ rest)
  keeps x value rest k r1 s1 row words stack is q v1 deep few means code pc count row_is next =
      let H = home (length rest) in
      let home_is = place_is_home (length rest) deep few in
      let t = kept_seen H (seen_reg s1 (register_of H 7) x) a.sb 7 in
      let stack_reg : wr s1.rf (register_of H 7) x 9 ≡ word_address a.sb = stack_stays p.loaded H s1 a.sb x home_is ∙ q.fixed.r9 ∙ a.works.stack_reg in
      let v2 : Sees p.loaded (going p.loaded (words_to H) r1) t = keep_does p.loaded r1 (seen_reg s1 (register_of H 7) x) H a.sb 7 to number v1 home_is (lit< tt) stack_reg code in
      let e2 : going p.loaded (words_to H) r1 ≡ going p.loaded (suc (k + words_to H)) r = ap (going p.loaded (words_to H)) is ∙ sym (steps_add (machine p.loaded.names) (suc k) (words_to H) r) ∙ ap (λ n. going p.loaded n r) (suc_plus k (words_to H)) in
      let n1 = length_kept H 7 in
      let n2 : length row ≡ length words + words_to H = ap length row_is ∙ length-append words (kept H 7) ∙ ap (λ n. length words + n) n1 in
      let n3 = kept_pc H (seen_reg s1 (register_of H 7) x) a.sb 7 in
      let wrote : Wrote s t a.sb (length rest) x = wrote_after s s1 t a.sb (length rest) x q (wrote_kept s1 a.sb (length rest) 7 x refl apart_7 (lit< tt)) in
      record {
        last = k + words_to H;
        within = omega arith;
        seen = t;
        sees = subst (λ r2. Sees p.loaded r2 t) e2 v2;
        lands = pushed p used heap u at loop h below w s a t (at + 1) x value rest wrote (omega (arith, a.pc_is, next)) stack means;
      }

  pub local_law : (k : ℕ) (value : FlatValue) → slice_get h.locals k ≡ Some (Some value) → k < 417 → length h.stack < u.depth → length h.stack ≤ 400 → HasRow p.loaded s.pc to number (local_row k (length h.stack)) → Falls (local_row k (length h.stack))
      → Goes (length (local_row k (length h.stack))) (at + 1) (value ∷ h.stack)
  local_law k value there few deep high row next =
      let H = home (length h.stack) in
      let home_is = place_is_home (length h.stack) deep high in
      let fits = register_fits p.loaded a.sb H 7 home_is (lit< tt) in
      let k0 = local_in_frame k value there in
      let k1 = a.works.within in
      let k2 = a.works.spare in
      let k3 = a.works.limited in
      let k4 = a.works.stack_at in
      let k5 = p.loaded.small in
      let v1 = do_lw v (register_of H 7) 8 (4 * k) (a.fp + k) (at_plain p.loaded s.pc (Lw (register_of H 7) 8 (4 * k)) row.0 (fits, lit< tt, omega arith)) fits (lit< tt) (omega arith) (up_from (s.rf 8) a.fp k a.works.locals_reg (omega arith) (omega arith)) in
      keeps (s.wf (a.fp + k)) value h.stack 0 (run_step r) s (local_row k (length h.stack)) (plain (Lw (register_of H 7) 8 (4 * k)) ∷ []) a.works.stack_is refl (quiet_refl s) v1 deep high (a.works.locals_are k value there) row.1 (omega arith) refl refl next
    where
      local_in_frame : (k : ℕ) (value : FlatValue) → slice_get h.locals k ≡ Some (Some value) → k < words_of u
      local_in_frame k value e = let n = a.works.count in let m = local_within h.locals k (Some value) e in omega arith

  pub word_law : (n : ℕ) → n < 4294967296 → length h.stack < u.depth → length h.stack ≤ 400 → HasRow p.loaded s.pc to number (word_row n (length h.stack)) → Falls (word_row n (length h.stack))
      → Goes (length (word_row n (length h.stack))) (at + 1) (Int (signed n) ∷ h.stack)
  word_law n lt deep high row next = ⊎_elim small big (cases_Bool (is_small n))
    where
      small : is_small n ≡ true → Goes (length (word_row n (length h.stack))) (at + 1) (Int (signed n) ∷ h.stack)
      small e =
          let H = home (length h.stack) in
          let home_is = place_is_home (length h.stack) deep high in
          let fits = register_fits p.loaded a.sb H 7 home_is (lit< tt) in
          let words = plain (Addi (register_of H 7) 0 (lower n)) ∷ [] in
          let row_is : word_row n (length h.stack) ≡ words ++ kept H 7 = ap (λ (b : Bool). (if b then words else plain (Lui 7 (upper n)) ∷ plain (Addi (register_of H 7) 7 (lower n)) ∷ []) ++ kept H 7) e in
          let code : HasRow p.loaded s.pc to number (words ++ kept H 7) = subst (HasRow p.loaded s.pc to number) row_is row in
          let v1 = do_addi v (register_of H 7) 0 (lower n) (at_plain p.loaded s.pc (Addi (register_of H 7) 0 (lower n)) code.0 (fits, lit< tt, omega arith)) fits (lit< tt) in
          let is_n : word_add (s.rf 0) (extend_12 (lower n)) ≡ n = ap (λ z. word_add z (extend_12 (lower n))) v.shows.zero_is ∙ small_word n lt e in
          keeps (word_add (s.rf 0) (extend_12 (lower n))) (Int (signed n)) h.stack 0 (run_step r) s (word_row n (length h.stack)) words a.works.stack_is refl (quiet_refl s) v1 deep high (ap signed is_n) code.1 (omega arith) refl row_is next

      big : is_small n ≡ false → Goes (length (word_row n (length h.stack))) (at + 1) (Int (signed n) ∷ h.stack)
      big e =
          let H = home (length h.stack) in
          let home_is = place_is_home (length h.stack) deep high in
          let fits = register_fits p.loaded a.sb H 7 home_is (lit< tt) in
          let words = plain (Lui 7 (upper n)) ∷ plain (Addi (register_of H 7) 7 (lower n)) ∷ [] in
          let row_is : word_row n (length h.stack) ≡ words ++ kept H 7 = ap (λ (b : Bool). (if b then plain (Addi (register_of H 7) 0 (lower n)) ∷ [] else words) ++ kept H 7) e in
          let code : HasRow p.loaded s.pc to number (words ++ kept H 7) = subst (HasRow p.loaded s.pc to number) row_is row in
          let top : upper n < 1048576 = omega arith in
          let v1 = do_lui v 7 (upper n) (at_plain p.loaded s.pc (Lui 7 (upper n)) code.0 (lit< tt, top)) (lit< tt) top in
          let s1 = seen_reg s 7 (upper n * 4096) in
          let v2 = do_addi v1 (register_of H 7) 7 (lower n) (at_plain p.loaded (s.pc + 4) (Addi (register_of H 7) 7 (lower n)) code.1.0 (fits, lit< tt, omega arith)) fits (lit< tt) in
          keeps (word_add (upper n * 4096) (extend_12 (lower n))) (Int (signed n)) h.stack 1 (run_step (run_step r)) s1 (word_row n (length h.stack)) words a.works.stack_is refl (quiet_reg s 7 (upper n * 4096) refl apart_7) v2 deep high (ap signed (whole_word n lt)) code.1.1 (omega arith) refl row_is next

  abbrev pub Fetched : (place : ℕ) → List PatternWord → Type 0
  Fetched place rest = Sees p.loaded (going p.loaded (words_to (home place)) r) (fetched_seen (home place) s a.sb 5) × HasRow p.loaded (fetched_seen (home place) s a.sb 5).pc to number rest

  -- an operand is fetched
  pub fetches : (place : ℕ) (rest : List PatternWord) → place < u.depth → place ≤ 400 → HasRow p.loaded s.pc to number (fetched (home place) 5 ++ rest) → Fetched place rest
  fetches place rest deep high row = fetch_does p.loaded r s (home place) a.sb 5 to number rest v (place_is_home place deep high) (lit< tt) a.works.stack_reg row

  -- the topmost word is not 0: on past the jump
  pub unless_on : (x : ℤ) (rest : List FlatValue) → h.stack ≡ Int x ∷ rest → (x ≡ pos 0 → ⊥) → length rest < u.depth → length rest ≤ 400 → HasRow p.loaded s.pc to number (unless_at (length rest)) → Falls (unless_at (length rest))
      → Goes (length (unless_at (length rest))) (at + 1) rest
  unless_on x rest stack some deep high row next = after_fetch (fetches (length rest) (plain (Bne (register_of (home (length rest)) 5) 0 12) ∷ jump) deep high row)
    where
      after_fetch : Fetched (length rest) (plain (Bne (register_of (home (length rest)) 5) 0 12) ∷ jump) → Goes (length (unless_at (length rest))) (at + 1) rest
      after_fetch (v1, code) =
          let H = home (length rest) in
          let s1 = fetched_seen H s a.sb 5 in
          let home_is = place_is_home (length rest) deep high in
          let fits = register_fits p.loaded a.sb H 5 home_is (lit< tt) in
          let stk : StackIs p a.heap_at (cell s a.sb) (Int x ∷ rest) = subst (StackIs p a.heap_at (cell s a.sb)) stack a.works.stack_is in
          let value : s1.rf (register_of H 5) ≡ cell s a.sb (length rest) = fetched_value H s a.sb 5 (lit< tt) in
          let ne : s1.rf (register_of H 5) ≡ s1.rf 0 → ⊥ = λ q. some (sym stk.0 ∙ ap signed (sym value ∙ q ∙ v1.shows.zero_is)) in
          let aligned = code.0.aligned in
          let low = code.1.1.0.below in
          let q1 = fetched_pc H s a.sb 5 in
          let v2 = do_bne_taken v1 (register_of H 5) 0 12 (s1.pc + 12) (at_plain p.loaded s1.pc (Bne (register_of H 5) 0 12) code.0 (fits, lit< tt, (lit< tt, refl))) fits (lit< tt) ne (omega arith) (omega arith) in
          let t = seen_jump s1 0 0 (s1.pc + 12) in
          let quiet : Quiet s t = quiet_trans s s1 t (quiet_fetched H s a.sb 5 refl apart_5) (quiet_none s1 0 (s1.pc + 12)) in
          let e2 : run_step (going p.loaded (words_to H) r) ≡ going p.loaded (suc (words_to H)) r = sym (ap (λ n. going p.loaded n r) (one_more (words_to H)) ∙ steps_add (machine p.loaded.names) (words_to H) 1 r) in
          let n1 = length_fetched H 5 in
          let n2 : length (unless_at (length rest)) ≡ words_to H + 3 = length-append (fetched H 5) (plain (Bne (register_of H 5) 0 12) ∷ jump) ∙ ap (λ n. n + 3) n1 in
          record {
            last = words_to H;
            within = omega arith;
            seen = t;
            sees = subst (λ r2. Sees p.loaded r2 t) e2 v2;
            lands = popped p used heap u at loop h below w s a t (at + 1) rest quiet (omega (arith, a.pc_is, next)) stk.1;
          }

  -- the topmost word is 0: to the label
  pub unless_taken : (x : ℤ) (rest : List FlatValue) (l : ℕ) → h.stack ≡ Int x ∷ rest → x ≡ pos 0 → length rest < u.depth → length rest ≤ 400 → HasRow p.loaded s.pc to number (unless_at (length rest)) → to % 4 ≡ 0 → to < 268435456 → p.op_at u.name l ≡ to
      → Goes (length (unless_at (length rest))) l rest
  unless_taken x rest l stack is_zero deep high row aligned small there = after_fetch (fetches (length rest) (plain (Bne (register_of (home (length rest)) 5) 0 12) ∷ jump) deep high row)
    where
      after_fetch : Fetched (length rest) (plain (Bne (register_of (home (length rest)) 5) 0 12) ∷ jump) → Goes (length (unless_at (length rest))) l rest
      after_fetch (v1, code) =
          let H = home (length rest) in
          let s1 = fetched_seen H s a.sb 5 in
          let home_is = place_is_home (length rest) deep high in
          let fits = register_fits p.loaded a.sb H 5 home_is (lit< tt) in
          let stk : StackIs p a.heap_at (cell s a.sb) (Int x ∷ rest) = subst (StackIs p a.heap_at (cell s a.sb)) stack a.works.stack_is in
          let value : s1.rf (register_of H 5) ≡ s1.rf 0 = fetched_value H s a.sb 5 (lit< tt) ∙ signed_zero (cell s a.sb (length rest)) (stk.0 ∙ is_zero) ∙ sym v1.shows.zero_is in
          let v2 = do_bne_on v1 (register_of H 5) 0 12 (at_plain p.loaded s1.pc (Bne (register_of H 5) 0 12) code.0 (fits, lit< tt, (lit< tt, refl))) fits (lit< tt) value in
          let s2 = seen_reg s1 0 0 in
          let v3 = jump_does p.loaded (run_step (going p.loaded (words_to H) r)) s2 to number v2 code.1 aligned small in
          let t = jumped_seen s2 to in
          let quiet : Quiet s t = quiet_trans s s1 t (quiet_fetched H s a.sb 5 refl apart_5) (quiet_trans s1 s2 t (quiet_none s1 0 (s1.pc + 4)) (quiet_jumped s2 to)) in
          let e2 : going p.loaded 2 (run_step (going p.loaded (words_to H) r)) ≡ going p.loaded (suc (words_to H + 2)) r = sym (ap (λ n. going p.loaded n r) (three_more (words_to H)) ∙ steps_add (machine p.loaded.names) (words_to H) 3 r) in
          let n1 = length_fetched H 5 in
          let n2 : length (unless_at (length rest)) ≡ words_to H + 3 = length-append (fetched H 5) (plain (Bne (register_of H 5) 0 12) ∷ jump) ∙ ap (λ n. n + 3) n1 in
          record {
            last = words_to H + 2;
            within = omega arith;
            seen = t;
            sees = subst (λ r2. Sees p.loaded r2 t) e2 v3;
            lands = popped p used heap u at loop h below w s a t l rest quiet (sym there) stk.1;
          }

  pub set_law : (k : ℕ) (x : FlatValue) (rest : List FlatValue) → h.stack ≡ x ∷ rest → k < words_of u → k < 417 → length rest < u.depth → length rest ≤ 400 → HasRow p.loaded s.pc to number (set_at k (length rest)) → Falls (set_at k (length rest))
      → Leads p.loaded r (length (set_at k (length rest))) (AtOp p used heap u (at + 1) NoLoop (record { stack = rest; locals = set h.locals k (Some x); status = h.status }) Bottom below w)
  set_law k x rest stack kw few deep high row next = after_fetch (fetches (length rest) (plain (Sw 8 (register_of (home (length rest)) 5) (4 * k)) ∷ []) deep high row)
    where
      after_fetch : Fetched (length rest) (plain (Sw 8 (register_of (home (length rest)) 5) (4 * k)) ∷ []) → Leads p.loaded r (length (set_at k (length rest))) (AtOp p used heap u (at + 1) NoLoop (record { stack = rest; locals = set h.locals k (Some x); status = h.status }) Bottom below w)
      after_fetch (v1, code) =
          let H = home (length rest) in
          let s1 = fetched_seen H s a.sb 5 in
          let home_is = place_is_home (length rest) deep high in
          let fits = register_fits p.loaded a.sb H 5 home_is (lit< tt) in
          let k1 = a.works.within in
          let k2 = a.works.spare in
          let k3 = a.works.limited in
          let k4 = a.works.stack_at in
          let k5 = p.loaded.small in
          let quiet : Quiet s s1 = quiet_fetched H s a.sb 5 refl apart_5 in
          let stk : StackIs p a.heap_at (cell s a.sb) (x ∷ rest) = subst (StackIs p a.heap_at (cell s a.sb)) stack a.works.stack_is in
          let value : s1.rf (register_of H 5) ≡ cell s a.sb (length rest) = fetched_value H s a.sb 5 (lit< tt) in
          let base : s1.rf 8 ≡ word_address a.fp = quiet.fixed.r8 ∙ a.works.locals_reg in
          let v2 = do_sw v1 8 (register_of H 5) (4 * k) (a.fp + k) (at_plain p.loaded s1.pc (Sw 8 (register_of H 5) (4 * k)) code.0 (lit< tt, fits, omega arith)) (lit< tt) fits (omega arith) (up_from (s1.rf 8) a.fp k base (omega arith) (omega arith)) in
          let t = seen_store s1 (a.fp + k) (s1.rf (register_of H 5)) in
          let e2 : run_step (going p.loaded (words_to H) r) ≡ going p.loaded (suc (words_to H)) r = sym (ap (λ n. going p.loaded n r) (one_more (words_to H)) ∙ steps_add (machine p.loaded.names) (words_to H) 1 r) in
          let n1 = length_fetched H 5 in
          let q1 = fetched_pc H s a.sb 5 in
          let n2 : length (set_at k (length rest)) ≡ words_to H + 1 = length-append (fetched H 5) (plain (Sw 8 (register_of H 5) (4 * k)) ∷ []) ∙ ap (λ n. n + 1) n1 in
          record {
            last = words_to H;
            within = omega arith;
            seen = t;
            sees = subst (λ r2. Sees p.loaded r2 t) e2 v2;
            lands = local_set p used heap u at loop h below w s a s1 k (s1.rf (register_of H 5)) x rest kw quiet (subst (Means p a.heap_at x) (sym value) stk.0) stk.1 (s1.pc + 4) (omega (arith, a.pc_is, next));
          }
