-- The law of what stands behind a call's linking jump.
use Rattle.std.proofs.Common.{◌≡◌, ◌≢◌, ℕ, zero, suc, ◌+◌, ◌-◌, ◌*◌, ◌<◌, ◌≤◌, List, [], ◌∷◌, ◌++◌, length, length-append, append_assoc, Option, Some, None, Bool, true, false, nat_eq, nat_lt, refl, sym, ap, ◌∙◌, subst, ◌⊎◌, inl, inr, ⊎_elim, arith, lit<}
use Rattle.std.specs.Prelude.{if◌then◌else◌}
use Rattle.std.proofs.lemmas.Bool.{cases_Bool, cases_lt, cases_eq, lt-ltb, le-ltb, ne_eqb}
use Rattle.th_rv.specs.declared.instr.Instr.TheVariants.{Lw, Jalr, Beq}
use Rattle.th_runs.specs.Stand.{Trapped}
use Rattle.th_runs.proofs.Steps.{steps_add}
use Rattle.th_elf.specs.Run as elf
use Rattle.th_elf.specs.Run.{run_step, machine}
use Rattle.th_flat.specs.declared.op.FlatOp.TheVariants.{OpCall}
use Rattle.th_flat.specs.declared.module.FlatUnit.{FlatUnit}
use Rattle.th_flat.specs.Values.{FlatValue, FlatWorld, Status, Fine, Thrown, IsStopped}
use Rattle.th_flat.specs.Program.{FlatProgram}
use Rattle.th_flat.specs.Configs.{Loop, NoLoop, Here, Stack, Bottom, Call, Config, Run, Returned, Over, words_of, is_body, weight_of, back_at, back_by, back_seen, fail_to, go_to, handler, with_value}
use Rattle.th_flat.specs.Runs.{end_of_config, open_room, room_below, unpaid_step}
use Rattle.th_abi.specs.declared.word.PatternWord.{PatternWord}
use Rattle.th_abi.specs.Words.{plain}
use Rattle.th_abi.specs.declared.word.RelocKind.TheVariants as reloc
use Rattle.th_abi.specs.Sequences.{home, moved, literal}
use Rattle.th_abi.specs.Control.{restore_one, restore, push_value, call_start, call_end}
use Rattle.th_abi.specs.Table.{row}
use Rattle.th_stands.specs.Seen.{word_address, Seen, Loaded, Sees}
use Rattle.th_stands.specs.Places.{HasRow}
use Rattle.th_stands.specs.Stands.{Places, Heap, Means, StackIs, StatusIs, Below, ReturnedAt, cell, cell_of, AtOp}
use Rattle.th_stands.specs.Law.{Leads}
use Rattle.th_stands.specs.Laws.{Rule, Stands}
use Rattle.th_stands.proofs.Instructions.{wr, wr_same, wr_other, seen_reg, seen_jump, do_lw, do_beq_taken, do_beq_on}
use Rattle.th_stands.proofs.Sequences.{going, at_plain, up_from, home_low, home_high, is_home, moved_seen, move_does, wrote_moved, jumped_seen, jump_does}
use Rattle.th_stands.proofs.Sums.{moved_pc}
use Rattle.th_stands.proofs.Keeping.{stack_keep, locals_keep}
use Rattle.th_stands.proofs.Rows.{Numbers}
use Rattle.th_entries.specs.Laws.{Aligned, CallRule, BackLaw}
use Rattle.th_entries.proofs.Calling.{Reached, reach_seq}
use Rattle.th_entries.proofs.Calls.{row_at}

-- the first k places that stayed are restored from the frame at sb
pub record Restored (s t : Seen) (sb below k : ℕ) : Type 0 where
  others : (j : ℕ) → (j < 18) ⊎ (18 + k ≤ j) → t.rf j ≡ s.rf j
  places : (j : ℕ) → j < k → j < below → t.rf (18 + j) ≡ s.wf (sb + j)
  words : (i : ℕ) → t.wf i ≡ s.wf i
  input_is : t.input ≡ s.input
  trace_is : t.trace ≡ s.trace

restored_none : (s : Seen) (sb below : ℕ) → Restored s s sb below 0
restored_none s sb below = record { others = λ j h. refl; places = λ j l h. absurd (omega arith); words = λ i. refl; input_is = refl; trace_is = refl }

module _ (g : Loaded) (s : Seen) (sb below : ℕ) (to : ℕ) (number : Numbers) (stack_reg : s.rf 9 ≡ word_address sb) (inside : sb + below ≤ g.size) where
  abbrev To : ℕ → Seen → Type 0
  To k q = Restored s q sb below k

  restores_one : (k : ℕ) → k < 6 → (rest : List PatternWord) (r : elf.Run) (t : Seen) → Sees g r t → HasRow g t.pc to number (restore_one k below ++ rest) → To k t → Reached g r t to number (restore_one k below) rest (To (suc k))
  restores_one k l6 rest r t v row m = by (cases_lt k below)
    where
      skip : below ≤ k → To (suc k) t
      skip le = record { others = λ j h. m.others j (wide h); places = λ j lj lb. m.places j (omega arith) lb; words = m.words; input_is = m.input_is; trace_is = m.trace_is }
        where
          wide : {j : ℕ} → (j < 18) ⊎ (18 + suc k ≤ j) → (j < 18) ⊎ (18 + k ≤ j)
          wide (inl l) = inl l
          wide (inr l) = inr (omega arith)

      one : k < below → To (suc k) (seen_reg t (18 + k) (t.wf (sb + k)))
      one lb = record {
        others = λ j h. wr_other t.rf (18 + k) (t.wf (sb + k)) j (apart j h) ∙ m.others j (wide j h);
        places = λ j lj lbj. ⊎_elim (λ e. same j e) (λ ne. wr_other t.rf (18 + k) (t.wf (sb + k)) (18 + j) (λ q. ne (omega arith)) ∙ m.places j (less j lj ne) lbj) (cases_eq j k);
        words = m.words;
        input_is = m.input_is;
        trace_is = m.trace_is;
      }
        where
          apart : (j : ℕ) → (j < 18) ⊎ (18 + suc k ≤ j) → j ≡ 18 + k → ⊥
          apart j (inl l) q = omega arith
          apart j (inr l) q = omega arith

          wide : (j : ℕ) → (j < 18) ⊎ (18 + suc k ≤ j) → (j < 18) ⊎ (18 + k ≤ j)
          wide j (inl l) = inl l
          wide j (inr l) = inr (omega arith)

          less : (j : ℕ) → j < suc k → (j ≡ k → ⊥) → j < k
          less j l ne = by (cases_lt j k)
            where
              by : (j < k) ⊎ (k ≤ j) → j < k
              by (inl q) = q
              by (inr q) = absurd (ne (omega arith))

          same : (j : ℕ) → j ≡ k → wr t.rf (18 + k) (t.wf (sb + k)) (18 + j) ≡ s.wf (sb + j)
          same j e = subst (λ i. wr t.rf (18 + k) (t.wf (sb + k)) (18 + i) ≡ s.wf (sb + i)) (sym e) (wr_same t.rf (18 + k) (t.wf (sb + k)) (omega arith) ∙ m.words (sb + k))

      by : (k < below) ⊎ (below ≤ k) → Reached g r t to number (restore_one k below) rest (To (suc k))
      by (inl l) =
          let e : restore_one k below ≡ plain (Lw (18 + k) 9 (4 * k)) ∷ [] = ap (λ (b : Bool). if b then plain (Lw (18 + k) 9 (4 * k)) ∷ [] else []) (lt-ltb k below l) in
          subst (λ ws. Reached g r t to number ws rest (To (suc k))) (sym e) (loaded l (subst (λ ws. HasRow g t.pc to number (ws ++ rest)) e row))
        where
          loaded : k < below → HasRow g t.pc to number (plain (Lw (18 + k) 9 (4 * k)) ∷ rest) → Reached g r t to number (plain (Lw (18 + k) 9 (4 * k)) ∷ []) rest (To (suc k))
          loaded l row =
              let small = g.small in
              record {
                seen = seen_reg t (18 + k) (t.wf (sb + k));
                sees = do_lw v (18 + k) 9 (4 * k) (sb + k) (at_plain g t.pc (Lw (18 + k) 9 (4 * k)) row.0 (omega arith, lit< tt, omega arith)) (omega arith) (lit< tt) (omega arith) (up_from (t.rf 9) sb k (m.others 9 (inl (lit< tt)) ∙ stack_reg) (omega arith) (omega arith));
                code = row.1;
                pc = refl;
                holds = one l;
              }
      by (inr le) =
          let e : restore_one k below ≡ [] = ap (λ (b : Bool). if b then plain (Lw (18 + k) 9 (4 * k)) ∷ [] else []) (le-ltb k below le) in
          subst (λ ws. Reached g r t to number ws rest (To (suc k))) (sym e)
          (record { seen = t; sees = v; code = subst (λ ws. HasRow g t.pc to number (ws ++ rest)) e row; pc = omega arith; holds = skip le })

  split : (a b rest : List PatternWord) (pc : ℕ) → HasRow g pc to number ((a ++ b) ++ rest) → HasRow g pc to number (a ++ (b ++ rest))
  split a b rest pc row = subst (HasRow g pc to number) (append_assoc a b rest) row

  pub restores : (rest : List PatternWord) (r : elf.Run) → Sees g r s → HasRow g s.pc to number (restore below ++ rest) → Reached g r s to number (restore below) rest (To 6)
  restores rest r v row =
      let w0 = restore_one 0 below in
      let w1 = restore_one 1 below in
      let w2 = restore_one 2 below in
      let w3 = restore_one 3 below in
      let w4 = restore_one 4 below in
      let w5 = restore_one 5 below in
      reach_seq g r s to number w0 (w1 ++ (w2 ++ (w3 ++ (w4 ++ w5)))) rest (To 1) (To 6) (restores_one 0 (lit< tt) ((w1 ++ (w2 ++ (w3 ++ (w4 ++ w5)))) ++ rest) r s v (split w0 (w1 ++ (w2 ++ (w3 ++ (w4 ++ w5)))) rest s.pc row) (restored_none s sb below))
      (λ r1 t1 v1 c1 m1. reach_seq g r1 t1 to number w1 (w2 ++ (w3 ++ (w4 ++ w5))) rest (To 2) (To 6) (restores_one 1 (lit< tt) ((w2 ++ (w3 ++ (w4 ++ w5))) ++ rest) r1 t1 v1 (split w1 (w2 ++ (w3 ++ (w4 ++ w5))) rest t1.pc c1) m1)
      (λ r2 t2 v2 c2 m2. reach_seq g r2 t2 to number w2 (w3 ++ (w4 ++ w5)) rest (To 3) (To 6) (restores_one 2 (lit< tt) ((w3 ++ (w4 ++ w5)) ++ rest) r2 t2 v2 (split w2 (w3 ++ (w4 ++ w5)) rest t2.pc c2) m2)
      (λ r3 t3 v3 c3 m3. reach_seq g r3 t3 to number w3 (w4 ++ w5) rest (To 4) (To 6) (restores_one 3 (lit< tt) ((w4 ++ w5) ++ rest) r3 t3 v3 (split w3 (w4 ++ w5) rest t3.pc c3) m3)
      (λ r4 t4 v4 c4 m4. reach_seq g r4 t4 to number w4 w5 rest (To 5) (To 6) (restores_one 4 (lit< tt) (w5 ++ rest) r4 t4 v4 (split w4 w5 rest t4.pc c4) m4)
      (λ r5 t5 v5 c5 m5. restores_one 5 (lit< tt) rest r5 t5 v5 c5 m5)))))

spare_some : (u : FlatUnit) → 8 ≤ Rattle.th_stands.specs.Stands.spare_of u
spare_some u = ⊎_elim (λ e. let k : Rattle.th_stands.specs.Stands.spare_of u ≡ 8 = ap (λ (b : Bool). if b then 8 else 34) e in omega arith) (λ e. let k : Rattle.th_stands.specs.Stands.spare_of u ≡ 34 = ap (λ (b : Bool). if b then 8 else 34) e in omega arith) (cases_Bool (nat_eq u.kind 6))

-- the words behind a stretch
behind : (g : Loaded) (to : ℕ) (number : Numbers) (a b : List PatternWord) (pc : ℕ) → HasRow g pc to number (a ++ b) → HasRow g (pc + 4 * length a) to number b
behind g to number [] b pc row = subst (λ i. HasRow g i to number b) (omega arith) row
behind g to number (x ∷ a) b pc row = subst (λ i. HasRow g i to number b) (omega arith) (behind g to number a b (pc + 4) row.1)

-- the caller goes on: its registers are as they were before the call
pub record Again (p : Places) (heap : ℕ) (u : FlatUnit) (st : List FlatValue) (ls : List (Option FlatValue)) (below : Stack) (w : FlatWorld) (q : Heap) (s : Seen) (hp : ℕ) : Type 0 where
  fp : ℕ
  sb : ℕ
  hp2 : ℕ
  locals_reg : s.rf 8 ≡ word_address fp
  stack_reg : s.rf 9 ≡ word_address sb
  header_reg : s.rf 3 ≡ word_address hp2
  frame : Rattle.th_stands.specs.Stands.FrameIs p q s.wf u fp sb st ls
  deep : sb + u.depth ≤ hp
  order : hp2 + 4 ≤ hp
  spares : Rattle.th_stands.specs.Stands.Spares q u hp (room_below (Call u 0 st ls Bottom NoLoop below))
  held : (fp ≡ hp2 + 6) × Below p q s.wf below hp2

module _ (p : Places) (heap : ℕ) (x : Status) (y : Option FlatValue) (u : FlatUnit) (at : ℕ) (st : List FlatValue) (ls : List (Option FlatValue)) (below : Stack) (w : FlatWorld) (s : Seen) (a : ReturnedAt p heap x y (Call u at st ls Bottom NoLoop below) w s) where
  again : Again p heap u st ls below w a.heap_at s a.hp
  again = from a.back_is
    where
      from : Rattle.th_stands.specs.Stands.BackIn p a.heap_at s (Call u at st ls Bottom NoLoop below) a.hp → Again p heap u st ls below w a.heap_at s a.hp
      from (fp, sb, hp2, (pc, r8, r9, r3, frame, deep, order, spares, lp, held)) = record { fp = fp; sb = sb; hp2 = hp2; locals_reg = r8; stack_reg = r9; header_reg = r3; frame = frame; deep = deep; order = order; spares = spares; held = held }

  pc_back : s.pc ≡ p.back_at u.name at
  pc_back = from a.back_is
    where
      from : Rattle.th_stands.specs.Stands.BackIn p a.heap_at s (Call u at st ls Bottom NoLoop below) a.hp → s.pc ≡ p.back_at u.name at
      from (fp, sb, hp2, (pc, r8, r9, r3, frame, deep, order, spares, lp, held)) = pc

  -- at an operation, with what is on its stack and its status
  pub at_again : (b : Again p heap u st ls below w a.heap_at s a.hp) (t : Seen) (at2 : ℕ) (st2 : List FlatValue) (z : Status) → t.pc ≡ p.op_at u.name at2 → t.rf 8 ≡ s.rf 8 → t.rf 9 ≡ s.rf 9 → t.rf 3 ≡ s.rf 3 → t.rf 27 ≡ s.rf 27 → t.rf 26 ≡ s.rf 26 → ((i : ℕ) → i < b.sb → t.wf i ≡ s.wf i)
      → t.input ≡ s.input → t.trace ≡ s.trace → StackIs p a.heap_at (cell t b.sb) st2 → StatusIs p a.heap_at z (t.rf 24) (t.rf 25)
      → AtOp p (weight_of u + 0 + room_below below) heap u at2 NoLoop (record { stack = st2; locals = ls; status = z }) Bottom below w t
  at_again b t at2 st2 z pc e8 e9 e3 e27 e26 words input tr stack status =
      let f = b.frame in
      let at_sb = f.stack_at in
      let count = f.count in
      let fp_is = b.held.0 in
      let world = a.world_is in
      record {
        heap_at = a.heap_at;
        fp = b.fp;
        sb = b.sb;
        hp = b.hp2;
        top = a.hp;
        pc_is = pc;
        works = record {
          locals_reg = e8 ∙ b.locals_reg;
          stack_reg = e9 ∙ b.stack_reg;
          header_reg = e3 ∙ b.header_reg;
          top_reg = e27 ∙ a.top_reg;
          limit_reg = e26 ∙ a.limit_reg;
          stack_at = f.stack_at;
          within = b.deep;
          header_in = b.order;
          spare = b.spares.0;
          limited = a.limited;
          count = f.count;
          locals_are = locals_keep p a.heap_at s.wf t.wf b.fp ls (λ k l. words (b.fp + k) (omega arith)) f.locals_are;
          stack_is = stack;
          status_is = status;
          held_is = (b.held.0, Rattle.th_stands.proofs.Keeping.below_low p a.heap_at s.wf t.wf b.fp (λ i l. words i (omega arith)) below b.hp2 (omega arith) b.held.1);
        };
        loop_is = tt;
        room_is = b.spares.1;
        world_is = record {
          input_is = input ∙ world.input_is;
          bytes = world.bytes;
          trace_is = tr ∙ world.trace_is;
          objects_are = objects w.objects world.objects_are;
          heap_is = world.heap_is;
        };
      }
    where
      objects : (os : List (Rattle.th_meaning.specs.World.Object FlatValue)) → Rattle.th_stands.specs.Stands.ObjectsAre p a.heap_at s.wf os → Rattle.th_stands.specs.Stands.ObjectsAre p a.heap_at t.wf os
      objects [] h = h
      objects (o ∷ os) h = absurd h

module _ (unit : List ℕ) (n f l : ℕ) (program : FlatProgram) (p : Places) (heap : ℕ) (x : Status) (y : Option FlatValue) (u : FlatUnit) (at : ℕ) (st : List FlatValue) (ls : List (Option FlatValue)) (below : Stack) (w : FlatWorld) (r : elf.Run) (s : Seen) (q : Rule p u at (OpCall unit n f l) (length st + n)) (c : CallRule program p u at unit n f l (length st + n) q) (plain_result : program.called_result unit ≡ None) (al : Aligned p) (no_body : is_body u ≡ false) (v : Sees p.loaded r s)
    (a : ReturnedAt p heap x y (Call u at st ls Bottom NoLoop below) w s) where
  abbrev Height : ℕ
  Height = length st

  abbrev Row : List PatternWord
  Row = row (OpCall unit n f l) (length st + n)

  abbrev Next : Config
  Next = unpaid_step program (Returned x y (Call u at st ls Bottom NoLoop below) w)

  abbrev Claim : Config → Type 0
  Claim z = Leads p.loaded r (length Row) (Stands p (open_room z) heap z)

  stays : length st + n - n ≡ length st
  stays = omega arith

  -- the words behind the jump, and how many words the row has
  abbrev Before : List PatternWord
  Before = call_start Height Height n

  code_here : HasRow p.loaded s.pc q.to q.number (call_end Height f)
  code_here =
      let start : p.back_at u.name at ≡ p.op_at u.name at + 4 * (length Before + 4) = c.back_is ∙ ap (λ i. p.op_at u.name at + 4 * (length (call_start i i n) + 4)) stays in
      let whole : HasRow p.loaded (p.op_at u.name at) q.to q.number (row_at n f Height) = subst (λ i. HasRow p.loaded (p.op_at u.name at) q.to q.number (row_at n f i)) stays q.row_is in
      let tail = behind p.loaded q.to q.number Before (literal 5 reloc.Unit None ++ (plain (Jalr 1 5 0) ∷ call_end Height f)) (p.op_at u.name at) whole in
      subst (λ i. HasRow p.loaded i q.to q.number (call_end Height f)) (omega (arith, start, pc_back p heap x y u at st ls below w s a)) tail.1.1.1.1

  long : length Row ≡ length Before + 4 + (3 + (length (restore Height) + length (push_value f Height)))
  long =
      let whole : length Row ≡ length (row_at n f Height) = ap (λ i. length (row_at n f i)) stays in
      let parts = length-append Before (literal 5 reloc.Unit None ++ (plain (Jalr 1 5 0) ∷ call_end Height f)) in
      let tail : length (literal 5 reloc.Unit None ++ (plain (Jalr 1 5 0) ∷ call_end Height f)) ≡ suc (suc (suc (suc (suc (suc (suc (length (restore Height ++ push_value f Height)))))))) = refl in
      let last = length-append (restore Height) (push_value f Height) in
      omega arith

  start_is : s.pc ≡ p.op_at u.name at + 4 * (length Before + 4)
  start_is = pc_back p heap x y u at st ls below w s a ∙ c.back_is ∙ ap (λ i. p.op_at u.name at + 4 * (length (call_start i i n) + 4)) stays

  next_op : p.op_at u.name (at + 1) ≡ p.op_at u.name at + 4 * length Row
  next_op = q.next_is refl

  B : Again p heap u st ls below w a.heap_at s a.hp
  B = again p heap x y u at st ls below w s a

  -- the status isn't an exception: what stayed is restored
  abbrev Past : Seen
  Past = seen_jump s 0 0 (s.pc + 4 + 4 + 4)

  fine_on : s.rf 24 ≡ 0 → Sees p.loaded (run_step r) Past
  fine_on e =
      let word = code_here.0 in
      let even = word.aligned in
      let low = code_here.1.1.0.below in
      do_beq_taken v 24 0 12 (s.pc + 4 + 4 + 4) (at_plain p.loaded s.pc (Beq 24 0 12) word (lit< tt, lit< tt, (lit< tt, refl))) (lit< tt) (lit< tt) (e ∙ sym v.shows.zero_is) (omega arith) (omega arith)

  high : Height ≤ u.depth
  high = B.frame.height

  few : Height ≤ 400
  few = let k1 = high in let k2 = q.limit in omega arith

  inside : B.sb + Height ≤ p.loaded.size
  inside = let k1 = B.deep in let k2 = a.within in let k3 = a.limited in let k4 = high in omega arith

  restored : s.rf 24 ≡ 0 → Reached p.loaded (run_step r) Past q.to q.number (restore Height) (push_value f Height) (λ t. Restored Past t B.sb Height 6)
  restored e = restores p.loaded Past B.sb Height q.to q.number B.stack_reg inside (push_value f Height) (run_step r) (fine_on e) code_here.1.1.1

  cells : (t : Seen) → Restored Past t B.sb Height 6 → StackIs p a.heap_at (cell t B.sb) st
  cells t m = stack_keep p a.heap_at (λ j. s.wf (B.sb + j)) (cell t B.sb) st (λ j lj. ⊎_elim (λ l6. ap (λ h. cell_of h t B.sb) (home_low j l6) ∙ m.places j l6 lj) (λ l6. ap (λ h. cell_of h t B.sb) (home_high j l6) ∙ m.words (B.sb + j)) (cases_lt j 6)) B.frame.stack_is

  -- with no value
  back_none : x ≡ Fine → f ≡ 0 → Claim (Run u (at + 1) NoLoop (record { stack = st; locals = ls; status = Fine }) Bottom below w)
  back_none fine e =
      let zero : s.rf 24 ≡ 0 = subst (λ z. StatusIs p a.heap_at z (s.rf 24) (s.rf 25)) fine a.status_is in
      let b = restored zero in
      let t = b.seen in
      let none : length (push_value f Height) ≡ 0 = ap (λ i. length (push_value i Height)) e in
      let l1 = long in
      let l2 = start_is in
      let l3 = next_op in
      let pc1 = b.pc in
      let m = b.holds in
      record {
        last = length (restore Height);
        within = omega arith;
        seen = t;
        sees = b.sees;
        lands = at_again p heap x y u at st ls below w s a B t (at + 1) st Fine (omega arith) (m.others 8 (inl (lit< tt))) (m.others 9 (inl (lit< tt))) (m.others 3 (inl (lit< tt))) (m.others 27 (inr (omega arith))) (m.others 26 (inr (omega arith))) (λ i lt. m.words i) m.input_is m.trace_is (cells t m) (m.others 24 (inr (omega arith)) ∙ zero);
      }

  -- with one
  back_one : (value : FlatValue) → x ≡ Fine → f ≡ 1 → y ≡ Some value → Claim (Run u (at + 1) NoLoop (record { stack = value ∷ st; locals = ls; status = Fine }) Bottom below w)
  back_one value fine e given =
      let zero : s.rf 24 ≡ 0 = subst (λ z. StatusIs p a.heap_at z (s.rf 24) (s.rf 25)) fine a.status_is in
      let b = restored zero in
      let t = b.seen in
      let m = b.holds in
      let H = home Height in
      let is = is_home p.loaded B.sb Height room few in
      let one : push_value f Height ≡ moved H 25 ∷ [] = ap (λ i. push_value i Height) e in
      let code : HasRow p.loaded t.pc q.to q.number (moved H 25 ∷ []) = subst (λ ws. HasRow p.loaded t.pc q.to q.number ws) one b.code in
      let r2 = going p.loaded (length (restore Height)) (run_step r) in
      let v3 = move_does p.loaded r2 t H B.sb 25 q.to q.number [] b.sees is (lit< tt) (m.others 9 (inl (lit< tt)) ∙ B.stack_reg) code in
      let t3 = moved_seen H t B.sb 25 in
      let small : s.rf 25 < 4294967296 = v.shows.small 25 (lit< tt) in
      let wrote = wrote_moved t B.sb Height 25 (s.rf 25) (m.others 25 (inr (omega arith))) small in
      let means : Means p a.heap_at value (s.rf 25) = subst (λ z. Rattle.th_stands.specs.Stands.ValueIs p a.heap_at z (s.rf 25)) given a.value_is in
      let stack : StackIs p a.heap_at (cell t3 B.sb) (value ∷ st) = (subst (Means p a.heap_at value) (sym wrote.cell_is) means, stack_keep p a.heap_at (cell t B.sb) (cell t3 B.sb) st (λ j lj. wrote.others j (λ z. omega arith)) (cells t m)) in
      let count : length (push_value f Height) ≡ 1 = ap length one in
      let l1 = long in
      let l2 = start_is in
      let l3 = next_op in
      let pc1 = b.pc in
      let pc2 = moved_pc H t B.sb 25 in
      let k = wrote.fixed in
      record {
        last = length (restore Height) + 1;
        within = omega arith;
        seen = t3;
        sees = subst (λ z. Sees p.loaded z t3) (sym (steps_add (machine p.loaded.names) (length (restore Height)) 1 (run_step r)) ∙ ap (λ i. going p.loaded i r) (shift (length (restore Height)))) v3;
        lands = at_again p heap x y u at st ls below w s a B t3 (at + 1) (value ∷ st) Fine (omega arith) (k.r8 ∙ m.others 8 (inl (lit< tt))) (k.r9 ∙ m.others 9 (inl (lit< tt))) (k.r3 ∙ m.others 3 (inl (lit< tt))) (k.r27 ∙ m.others 27 (inr (omega arith))) (k.r26 ∙ m.others 26 (inr (omega arith)))
            (λ i lt. wrote.words i (λ z. omega arith) ∙ m.words i) (k.input_is ∙ m.input_is) (k.trace_is ∙ m.trace_is) stack (k.r24 ∙ m.others 24 (inr (omega arith)) ∙ zero);
      }
    where
      shift : (i : ℕ) → suc (i + 1) ≡ suc (i + 1)
      shift i = refl

      room : B.sb + Height < p.loaded.size
      room = let k1 = B.deep in let k2 = B.spares.0 in let k3 = a.limited in let k4 = high in let k5 = spare_some u in omega arith

  -- an exception, or the status of a loop that was left: to the label
  abbrev Failing : Status → Config
  Failing z = Run u l NoLoop (record { stack = []; locals = ls; status = z }) Bottom below w

  fails : (s.rf 24 ≡ 0 → ⊥) → Claim (Failing x)
  fails ne =
      let row = code_here in
      let label = q.failure_is l refl in
      let v1 = do_beq_on v 24 0 12 (at_plain p.loaded s.pc (Beq 24 0 12) row.0 (lit< tt, lit< tt, (lit< tt, refl))) (lit< tt) (lit< tt) (λ z. ne (z ∙ v.shows.zero_is)) in
      let s1 = seen_reg s 0 0 in
      let v3 = jump_does p.loaded (run_step r) s1 q.to q.number v1 (row.1.0, (row.1.1.0, tt)) label.aligned label.below in
      let t = jumped_seen s1 q.to in
      let l1 = long in
      record {
        last = 2;
        within = omega arith;
        seen = t;
        sees = v3;
        lands = at_again p heap x y u at st ls below w s a B t l [] x (sym label.there) refl refl refl refl refl (λ i lt. refl) refl refl tt a.status_is;
      }

  goes_there : (z : Status) → fail_to (Some l) u at z ls Bottom below w ≡ Failing z
  goes_there z =
      let lt = (q.failure_is l refl).inside in
      let e : nat_eq l (length u.ops) ≡ false = ne_eqb l (length u.ops) (λ k. omega arith) in
      let e2 : handler u at l ≡ Some l = rw e refl in
      let e3 : nat_lt l (length u.ops) ≡ true = lt-ltb l (length u.ops) lt in
      rw e2 (rw (e3, no_body) refl)

  next_is : (z : Status) (k : Option FlatValue) → x ≡ z → y ≡ k → Next ≡ back_by program z f k (Some l) u at st ls Bottom NoLoop below w
  next_is z k e1 e2 =
      ap (λ o. back_at program o x y u at st ls Bottom NoLoop below w) q.op_is
      ∙ ap (λ o. back_seen program (Rattle.th_flat.specs.Configs.seen_at_result program o y) x f (Some l) u at st ls Bottom NoLoop below w) plain_result
      ∙ ap (λ i. back_by program i f y (Some l) u at st ls Bottom NoLoop below w) e1 ∙ ap (λ i. back_by program z f i (Some l) u at st ls Bottom NoLoop below w) e2

  never : (z : Config) → Next ≡ z → end_of_config z ≡ Trapped → end_of_config Next ≢ Trapped → Claim Next
  never z e t ok = absurd (ok (ap end_of_config e ∙ t))

  abbrev Gone : Option (List FlatValue) → Config
  Gone o = Rattle.th_flat.specs.Configs.back_fine program o NoLoop u at ls Bottom below w

  by_value : (k : ℕ) (z : Option FlatValue) → f ≡ k → y ≡ z → x ≡ Fine → end_of_config Next ≢ Trapped → Claim Next
  by_value zero None e1 e2 fine ok = subst Claim (sym (next_is Fine None fine e2 ∙ ap (λ i. Gone (with_value i None st)) e1)) (back_none fine e1)
  by_value zero (Some z) e1 e2 fine ok = never (Gone None) (next_is Fine (Some z) fine e2 ∙ ap (λ i. Gone (with_value i (Some z) st)) e1) refl ok
  by_value (suc zero) None e1 e2 fine ok = never (Gone None) (next_is Fine None fine e2 ∙ ap (λ i. Gone (with_value i None st)) e1) refl ok
  by_value (suc zero) (Some z) e1 e2 fine ok = subst Claim (sym (next_is Fine (Some z) fine e2 ∙ ap (λ i. Gone (with_value i (Some z) st)) e1)) (back_one z fine e1 e2)
  by_value (suc (suc k)) z e1 e2 fine ok = never (Gone None) (next_is Fine z fine e2 ∙ ap (λ i. Gone (with_value i z st)) e1) refl ok

  backs : end_of_config Next ≢ Trapped → Claim Next
  backs ok = by_status x refl
    where
      by_status : (z : Status) → x ≡ z → Claim Next
      by_status Fine e = by_value f y refl refl e ok
      by_status (Thrown name None) e = subst Claim (sym (next_is (Thrown name None) y e refl ∙ goes_there (Thrown name None))) (subst (λ i. Claim (Failing i)) e (fails (λ k. al.exceptions name (sym (subst (λ i. StatusIs p a.heap_at i (s.rf 24) (s.rf 25)) e a.status_is) ∙ k))))
      by_status (Thrown name (Some b)) e = subst Claim (sym (next_is (Thrown name (Some b)) y e refl ∙ goes_there (Thrown name (Some b)))) (subst (λ i. Claim (Failing i)) e (fails (λ k. al.exceptions name (sym (subst (λ i. StatusIs p a.heap_at i (s.rf 24) (s.rf 25)) e a.status_is).0 ∙ k))))
      by_status IsStopped e = subst Claim (sym (next_is IsStopped y e refl ∙ goes_there IsStopped)) (subst (λ i. Claim (Failing i)) e (fails (λ k. one_zero (sym (subst (λ i. StatusIs p a.heap_at i (s.rf 24) (s.rf 25)) e a.status_is) ∙ k))))
        where
          one_zero : ◌≡◌ {A = ℕ} 1 0 → ⊥
          one_zero z = omega arith

pub back_law : BackLaw
back_law unit n f l program p heap x y u at st ls below w r s q c pr al nb v a ok = backs unit n f l program p heap x y u at st ls below w r s q c pr al nb v a ok
