-- A call up to its jump: what stays on the stack is saved, and the operands are put where the called unit's local words will be.
use Rattle.std.proofs.Common.{◌≡◌, ℕ, zero, suc, ◌+◌, ◌*◌, ◌<◌, ◌≤◌, List, [], ◌∷◌, ◌++◌, length, length-append, append_assoc, Bool, refl, sym, ap, ◌∙◌, subst, ◌⊎◌, inl, inr, ⊎_elim, arith, lit<}
use Rattle.std.specs.Prelude.{if◌then◌else◌}
use Rattle.std.proofs.lemmas.Bool.{cases_lt, cases_eq, lt-ltb, le-ltb}
use Rattle.th_rv.specs.declared.instr.Instr.TheVariants.{Lw, Sw}
use Rattle.th_elf.specs.Run.{Run, machine}
use Rattle.th_runs.proofs.Steps.{steps_add}
use Rattle.th_abi.specs.declared.word.PatternWord.{PatternWord}
use Rattle.th_abi.specs.declared.word.Home.{Home}
use Rattle.th_abi.specs.declared.word.Home.TheVariants.{Register, Frame}
use Rattle.th_abi.specs.Words.{plain}
use Rattle.th_abi.specs.Sequences.{home}
use Rattle.th_abi.specs.Control.{save_one, save, passed, pass_first}
use Rattle.th_stands.specs.Seen.{word_address, Seen, Loaded, Sees}
use Rattle.th_stands.specs.Places.{HasRow}
use Rattle.th_stands.specs.Stands.{cell, cell_of}
use Rattle.th_stands.proofs.Instructions.{upd, upd_same, upd_other, wr_other, seen_reg, seen_store, do_lw, do_sw}
use Rattle.th_stands.proofs.Sequences.{going, at_plain, up_from, IsHome, is_home, home_low, home_high}
use Rattle.th_stands.proofs.Rows.{Numbers}

-- a stretch of words that is executed once from its first to its last leads to a state with this
pub record Reached (g : Loaded) (r : Run) (s : Seen) (to : ℕ) (number : Numbers) (words rest : List PatternWord) (P : Seen → Type 0) : Type 0 where
  pub seen : Seen
  pub sees : Sees g (going g (length words) r) seen
  pub code : HasRow g seen.pc to number rest
  pub pc : seen.pc ≡ s.pc + 4 * length words
  pub holds : P seen

pub reach_seq : (g : Loaded) (r : Run) (s : Seen) (to : ℕ) (number : Numbers) (one two rest : List PatternWord) (P Q : Seen → Type 0) → Reached g r s to number one (two ++ rest) P
    → ((r2 : Run) (t : Seen) → Sees g r2 t → HasRow g t.pc to number (two ++ rest) → P t → Reached g r2 t to number two rest Q) → Reached g r s to number (one ++ two) rest Q
reach_seq g r s to number one two rest P Q a f =
    let b = f (going g (length one) r) a.seen a.sees a.code a.holds in
    let e : length (one ++ two) ≡ length one + length two = length-append one two in
    let pc1 = a.pc in
    let pc2 = b.pc in
    record {
      seen = b.seen;
      sees = subst (λ q. Sees g q b.seen) (sym (steps_add (machine g.names) (length one) (length two) r) ∙ ap (λ m. going g m r) (sym e)) b.sees;
      code = b.code;
      pc = omega arith;
      holds = b.holds;
    }

-- the first k places that stay are saved, and i operands from a place on are passed
pub record Moved (s t : Seen) (sb top below place k i : ℕ) : Type 0 where
  pub regs : (j : ℕ) → (j ≡ 5 → ⊥) → t.rf j ≡ s.rf j
  pub saved : (j : ℕ) → j < k → j < below → t.wf (sb + j) ≡ s.rf (18 + j)
  pub others : (x : ℕ) → x < top → ((j : ℕ) → j < 6 → j < below → x ≡ sb + j → ⊥) → t.wf x ≡ s.wf x
  pub args : (j : ℕ) → j < i → t.wf (top + 6 + j) ≡ cell s sb (place + j)
  pub input_is : t.input ≡ s.input
  pub trace_is : t.trace ≡ s.trace

pub moved_none : (s : Seen) (sb top below place : ℕ) → Moved s s sb top below place 0 0
moved_none s sb top below place = record { regs = λ j ne. refl; saved = λ j l h. absurd (omega arith); others = λ x l h. refl; args = λ j l. absurd (omega arith); input_is = refl; trace_is = refl }

module _ (g : Loaded) (s : Seen) (sb top below place : ℕ) (to : ℕ) (number : Numbers) (stack_reg : s.rf 9 ≡ word_address sb) (top_reg : s.rf 27 ≡ word_address top) (high : below ≤ 400) (inside : top + 24 ≤ g.size) (under : sb + below ≤ top) where
  one_kept : (k : ℕ) (t : Seen) → k < 6 → k < below → Moved s t sb top below place k 0 → Moved s (seen_store t (sb + k) (t.rf (18 + k))) sb top below place (suc k) 0
  one_kept k t l6 lb m = record {
    regs = m.regs;
    saved = λ j lj h. ⊎_elim (λ e. same j e) (λ ne. upd_other t.wf (sb + k) (t.rf (18 + k)) (sb + j) (λ q. ne (omega arith)) ∙ m.saved j (less j lj ne) h) (cases_eq j k);
    others = λ x lx free. upd_other t.wf (sb + k) (t.rf (18 + k)) x (λ q. free k l6 lb q) ∙ m.others x lx free;
    args = λ j l. absurd (omega arith);
    input_is = m.input_is;
    trace_is = m.trace_is;
  }
    where
      less : (j : ℕ) → j < suc k → (j ≡ k → ⊥) → j < k
      less j l ne = by (cases_lt j k)
        where
          by : (j < k) ⊎ (k ≤ j) → j < k
          by (inl q) = q
          by (inr q) = absurd (ne (omega arith))

      same : (j : ℕ) → j ≡ k → upd t.wf (sb + k) (t.rf (18 + k)) (sb + j) ≡ s.rf (18 + j)
      same j e = subst (λ i. upd t.wf (sb + k) (t.rf (18 + k)) (sb + i) ≡ s.rf (18 + i)) (sym e) (upd_same t.wf (sb + k) (t.rf (18 + k)) ∙ m.regs (18 + k) (λ q. omega arith))

  skip : (k : ℕ) (t : Seen) → below ≤ k → Moved s t sb top below place k 0 → Moved s t sb top below place (suc k) 0
  skip k t le m = record { regs = m.regs; saved = λ j lj h. m.saved j (omega arith) h; others = m.others; args = m.args; input_is = m.input_is; trace_is = m.trace_is }

  -- one place is saved where the stack is higher
  saves_one : (k : ℕ) → k < 6 → (rest : List PatternWord) (r : Run) (t : Seen) → Sees g r t → HasRow g t.pc to number (save_one k below ++ rest) → Moved s t sb top below place k 0 → Reached g r t to number (save_one k below) rest (λ q. Moved s q sb top below place (suc k) 0)
  saves_one k l6 rest r t v row m = by (cases_lt k below)
    where
      by : (k < below) ⊎ (below ≤ k) → Reached g r t to number (save_one k below) rest (λ q. Moved s q sb top below place (suc k) 0)
      by (inl l) =
          let e : save_one k below ≡ plain (Sw 9 (18 + k) (4 * k)) ∷ [] = ap (λ (b : Bool). if b then plain (Sw 9 (18 + k) (4 * k)) ∷ [] else []) (lt-ltb k below l) in
          subst (λ ws. Reached g r t to number ws rest (λ q. Moved s q sb top below place (suc k) 0)) (sym e) (stored l (subst (λ ws. HasRow g t.pc to number (ws ++ rest)) e row))
        where
          stored : k < below → HasRow g t.pc to number (plain (Sw 9 (18 + k) (4 * k)) ∷ rest) → Reached g r t to number (plain (Sw 9 (18 + k) (4 * k)) ∷ []) rest (λ q. Moved s q sb top below place (suc k) 0)
          stored l row =
              let small = g.small in
              record {
                seen = seen_store t (sb + k) (t.rf (18 + k));
                sees = do_sw v 9 (18 + k) (4 * k) (sb + k) (at_plain g t.pc (Sw 9 (18 + k) (4 * k)) row.0 (lit< tt, omega arith, omega arith)) (lit< tt) (omega arith) (omega arith) (up_from (t.rf 9) sb k (m.regs 9 (λ q. nine q) ∙ stack_reg) (omega arith) (omega arith));
                code = row.1;
                pc = refl;
                holds = one_kept k t l6 l m;
              }
            where
              nine : ◌≡◌ {A = ℕ} 9 5 → ⊥
              nine q = omega arith
      by (inr le) =
          let e : save_one k below ≡ [] = ap (λ (b : Bool). if b then plain (Sw 9 (18 + k) (4 * k)) ∷ [] else []) (le-ltb k below le) in
          subst (λ ws. Reached g r t to number ws rest (λ q. Moved s q sb top below place (suc k) 0)) (sym e)
          (record { seen = t; sees = v; code = subst (λ ws. HasRow g t.pc to number (ws ++ rest)) e row; pc = omega arith; holds = skip k t le m })

  -- all of them
  abbrev To : (k i : ℕ) → Seen → Type 0
  To k i q = Moved s q sb top below place k i

  split : (a b rest : List PatternWord) (pc : ℕ) → HasRow g pc to number ((a ++ b) ++ rest) → HasRow g pc to number (a ++ (b ++ rest))
  split a b rest pc row = subst (HasRow g pc to number) (append_assoc a b rest) row

  saves : (rest : List PatternWord) (r : Run) → Sees g r s → HasRow g s.pc to number (save below ++ rest) → Reached g r s to number (save below) rest (To 6 0)
  saves rest r v row =
      let w0 = save_one 0 below in
      let w1 = save_one 1 below in
      let w2 = save_one 2 below in
      let w3 = save_one 3 below in
      let w4 = save_one 4 below in
      let w5 = save_one 5 below in
      reach_seq g r s to number w0 (w1 ++ (w2 ++ (w3 ++ (w4 ++ w5)))) rest (To 1 0) (To 6 0) (saves_one 0 (lit< tt) _ r s v (split w0 (w1 ++ (w2 ++ (w3 ++ (w4 ++ w5)))) rest s.pc row) (moved_none s sb top below place))
      (λ r1 t1 v1 c1 m1. reach_seq g r1 t1 to number w1 (w2 ++ (w3 ++ (w4 ++ w5))) rest (To 2 0) (To 6 0) (saves_one 1 (lit< tt) _ r1 t1 v1 (split w1 (w2 ++ (w3 ++ (w4 ++ w5))) rest t1.pc c1) m1)
      (λ r2 t2 v2 c2 m2. reach_seq g r2 t2 to number w2 (w3 ++ (w4 ++ w5)) rest (To 3 0) (To 6 0) (saves_one 2 (lit< tt) _ r2 t2 v2 (split w2 (w3 ++ (w4 ++ w5)) rest t2.pc c2) m2)
      (λ r3 t3 v3 c3 m3. reach_seq g r3 t3 to number w3 (w4 ++ w5) rest (To 4 0) (To 6 0) (saves_one 3 (lit< tt) _ r3 t3 v3 (split w3 (w4 ++ w5) rest t3.pc c3) m3)
      (λ r4 t4 v4 c4 m4. reach_seq g r4 t4 to number w4 w5 rest (To 5 0) (To 6 0) (saves_one 4 (lit< tt) _ r4 t4 v4 (split w4 w5 rest t4.pc c4) m4)
      (λ r5 t5 v5 c5 m5. saves_one 5 (lit< tt) rest r5 t5 v5 c5 m5)))))

  -- one more word of them
  put : (t : Seen) (i x : ℕ) → x ≡ cell s sb (place + i) → To 6 i t → To 6 (suc i) (seen_store t (top + 6 + i) x)
  put t i x e m = record {
    regs = m.regs;
    saved = λ j l6 lb. upd_other t.wf (top + 6 + i) x (sb + j) (λ q. omega arith) ∙ m.saved j l6 lb;
    others = λ y ly free. upd_other t.wf (top + 6 + i) x y (λ q. omega arith) ∙ m.others y ly free;
    args = λ j lj. ⊎_elim (λ q. subst (λ n. upd t.wf (top + 6 + i) x (top + 6 + n) ≡ cell s sb (place + n)) (sym q) (upd_same t.wf (top + 6 + i) x ∙ e)) (λ ne. upd_other t.wf (top + 6 + i) x (top + 6 + j) (λ q. ne (omega arith)) ∙ m.args j (less j lj ne)) (cases_eq j i);
    input_is = m.input_is;
    trace_is = m.trace_is;
  }
    where
      less : (j : ℕ) → j < suc i → (j ≡ i → ⊥) → j < i
      less j l ne = by (cases_lt j i)
        where
          by : (j < i) ⊎ (i ≤ j) → j < i
          by (inl q) = q
          by (inr q) = absurd (ne (omega arith))

  -- an operand is put behind the header's place
  operand : (h : Home) (i : ℕ) → home (place + i) ≡ h → IsHome g sb h → i < 17 → place + i ≤ 400 → sb + (place + i) < top → below ≤ place → (rest : List PatternWord) (r : Run) (t : Seen) → Sees g r t → HasRow g t.pc to number (passed h i ++ rest) → To 6 i t → Reached g r t to number (passed h i) rest (To 6 (suc i))
  operand (Register k) i eh is few deep low apart rest r t v row m =
      let small = g.small in
      let l1 = is.0 in
      let l2 = is.1 in
      let value : t.rf k ≡ cell s sb (place + i) = m.regs k (λ q. omega arith) ∙ sym (ap (λ q. cell_of q s sb) eh) in
      record {
        seen = seen_store t (top + 6 + i) (t.rf k);
        sees = do_sw v 27 k (4 * (6 + i)) (top + 6 + i) (at_plain g t.pc (Sw 27 k (4 * (6 + i))) row.0 (lit< tt, omega arith, omega arith)) (lit< tt) (omega arith) (omega arith) (up_from (t.rf 27) top (6 + i) (m.regs 27 (λ q. far q) ∙ top_reg) (omega arith) (omega arith) ∙ omega arith);
        code = row.1;
        pc = refl;
        holds = put t i (t.rf k) value m;
      }
    where
      far : ◌≡◌ {A = ℕ} 27 5 → ⊥
      far q = omega arith
  operand (Frame k) i eh is few deep low apart rest r t v row m =
      let small = g.small in
      let l1 = is.1 in
      let at_place = frame_place (place + i) k eh in
      let v1 = do_lw v 5 9 (4 * k) (sb + k) (at_plain g t.pc (Lw 5 9 (4 * k)) row.0 (lit< tt, lit< tt, omega arith)) (lit< tt) (lit< tt) is.0 (up_from (t.rf 9) sb k (m.regs 9 (λ q. nine q) ∙ stack_reg) (omega arith) (omega arith)) in
      let t1 = seen_reg t 5 (t.wf (sb + k)) in
      let value : t.wf (sb + k) ≡ cell s sb (place + i) = m.others (sb + k) (omega arith) (λ j l6 lb q. omega arith) ∙ sym (ap (λ q. cell_of q s sb) eh) in
      let m1 : To 6 i t1 = record { regs = λ j ne. wr_other t.rf 5 (t.wf (sb + k)) j ne ∙ m.regs j ne; saved = m.saved; others = m.others; args = m.args; input_is = m.input_is; trace_is = m.trace_is } in
      record {
        seen = seen_store t1 (top + 6 + i) (t.wf (sb + k));
        sees = do_sw v1 27 5 (4 * (6 + i)) (top + 6 + i) (at_plain g (t.pc + 4) (Sw 27 5 (4 * (6 + i))) row.1.0 (lit< tt, lit< tt, omega arith)) (lit< tt) (lit< tt) (omega arith) (up_from (t.rf 27) top (6 + i) (m.regs 27 (λ q. far q) ∙ top_reg) (omega arith) (omega arith) ∙ omega arith);
        code = row.1.1;
        pc = omega arith;
        holds = put t1 i (t.wf (sb + k)) value m1;
      }
    where
      far : ◌≡◌ {A = ℕ} 27 5 → ⊥
      far q = omega arith

      nine : ◌≡◌ {A = ℕ} 9 5 → ⊥
      nine q = omega arith

      frame_place : (n k : ℕ) → home n ≡ Frame k → n ≡ k
      frame_place n k e = by (cases_lt n 6)
        where
          same : Frame n ≡ Frame k → n ≡ k
          same q = cc

          never : (r : ℕ) → Register r ≡ Frame k → n ≡ k
          never r q = absurd (cc)

          by : (n < 6) ⊎ (6 ≤ n) → n ≡ k
          by (inl l) = never (18 + n) (sym (home_low n l) ∙ e)
          by (inr l) = same (sym (home_high n l) ∙ e)

  -- all operands
  passes : (n : ℕ) → n ≤ 17 → place + n ≤ 400 → sb + (place + n) ≤ top → below ≤ place → (rest : List PatternWord) (r : Run) (t : Seen) → Sees g r t → HasRow g t.pc to number (pass_first place n ++ rest) → To 6 0 t → Reached g r t to number (pass_first place n) rest (To 6 n)
  passes zero few deep low apart rest r t v row m = record { seen = t; sees = v; code = row; pc = omega arith; holds = m }
  passes (suc n) few deep low apart rest r t v row m =
      reach_seq g r t to number (pass_first place n) (passed (home (place + n)) n) rest (To 6 n) (To 6 (suc n))
      (passes n (omega arith) (omega arith) (omega arith) apart (passed (home (place + n)) n ++ rest) r t v (split (pass_first place n) (passed (home (place + n)) n) rest t.pc row) m)
      (λ r2 q v2 c2 m2. operand (home (place + n)) n refl (is_home g sb (place + n) (omega arith) (omega arith)) (omega arith) (omega arith) (omega arith) apart rest r2 q v2 c2 m2)

  -- a call's start
  pub starts : (n : ℕ) → n ≤ 17 → place + n ≤ 400 → sb + (place + n) ≤ top → below ≤ place → (rest : List PatternWord) (r : Run) → Sees g r s → HasRow g s.pc to number ((save below ++ pass_first place n) ++ rest) → Reached g r s to number (save below ++ pass_first place n) rest (To 6 n)
  starts n few deep low apart rest r v row =
      reach_seq g r s to number (save below) (pass_first place n) rest (To 6 0) (To 6 n) (saves (pass_first place n ++ rest) r v (split (save below) (pass_first place n) rest s.pc row))
      (λ r2 t v2 c2 m2. passes n few deep low apart rest r2 t v2 c2 m2)
