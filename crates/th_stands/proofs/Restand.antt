-- A state that stands for a unit at an operation stands for it at another, after what rows change.
use Rattle.std.proofs.Common.{◌≡◌, ℕ, ◌+◌, ◌<◌, ◌≤◌, List, [], ◌∷◌, length, Option, Some, None, refl, sym, ap, ◌∙◌, subst, ⊎_elim, arith}
use Rattle.std.specs.Prelude.{slice_get, set}
use Rattle.std.proofs.Math.ListN.{length-set}
use Rattle.std.proofs.lemmas.Bool.{cases_eq, cases_lt}
use Rattle.th_world.specs.Event.{Event}
use Rattle.th_meaning.specs.World.{Object}
use Rattle.th_flat.specs.declared.module.FlatUnit.{FlatUnit}
use Rattle.th_flat.specs.Values.{FlatValue, FlatWorld, Status, Fine, Thrown, IsStopped}
use Rattle.th_flat.specs.Configs.{Loop, NoLoop, Upto, ByUnit, Here, Stack, Bottom, words_of}
use Rattle.th_stands.specs.Seen.{Seen}
use Rattle.th_stands.specs.Stands.{Places, Heap, Means, StatusIs, StackIs, LocalsAre, ObjectsAre, cell_of, cell, LoopNext, AtOp}
use Rattle.th_stands.proofs.Instructions.{upd, upd_same, upd_other}
use Rattle.th_stands.proofs.Sequences.{Quiet, Wrote, quiet_cells, home_low, home_high}
use Rattle.th_stands.proofs.Keeping.{stack_keep, locals_keep, below_low, slice_get-set_same, slice_get-set_other}

-- the registers of the frame and of the room are the same, and so are the words below the frame
pub record Same (s t : Seen) (fp : ℕ) : Type 0 where
  pub r3 : t.rf 3 ≡ s.rf 3
  pub r8 : t.rf 8 ≡ s.rf 8
  pub r9 : t.rf 9 ≡ s.rf 9
  pub r26 : t.rf 26 ≡ s.rf 26
  pub r27 : t.rf 27 ≡ s.rf 27
  pub words : (i : ℕ) → i < fp → t.wf i ≡ s.wf i

objects_keep : (p : Places) (q : Heap) (wf wg : ℕ → ℕ) (objects : List (Object FlatValue)) → ObjectsAre p q wf objects → ObjectsAre p q wg objects
objects_keep p q wf wg [] h = h
objects_keep p q wf wg (o ∷ objects) h = absurd h

pub status_keep : (p : Places) (q : Heap) (x : Status) (s v s2 v2 : ℕ) → s2 ≡ s → v2 ≡ v → StatusIs p q x s v → StatusIs p q x s2 v2
status_keep p q Fine s v s2 v2 e1 e2 h = e1 ∙ h
status_keep p q (Thrown x None) s v s2 v2 e1 e2 h = e1 ∙ h
status_keep p q (Thrown x (Some a)) s v s2 v2 e1 e2 h = (e1 ∙ h.0, subst (Means p q a) (sym e2) h.1)
status_keep p q IsStopped s v s2 v2 e1 e2 h = e1 ∙ h

same_value : (v y : FlatValue) → Some (Some v) ≡ Some (Some y) → v ≡ y
same_value v y e = cc

pub loop_keep : (p : Places) (s t : Seen) (loop : Loop) → t.rf 30 ≡ s.rf 30 → t.rf 31 ≡ s.rf 31 → t.rf 8 ≡ s.rf 8 → LoopNext p s loop → LoopNext p t loop
loop_keep p s t NoLoop e1 e2 e3 h = tt
loop_keep p s t (Upto first last) e1 e2 e3 h = absurd h
loop_keep p s t (ByUnit home body) e1 e2 e3 h = (e1 ∙ h.0, e2 ∙ h.1 ∙ sym e3)

module _ (p : Places) (used heap : ℕ) (u : FlatUnit) (at : ℕ) (loop : Loop) (h : Here) (below : Stack) (w : FlatWorld) (s : Seen) (a : AtOp p used heap u at loop h Bottom below w s) where
  -- at another operation, with other words and another status
  pub restand : (t : Seen) (at2 : ℕ) (h2 : Here) → Same s t a.fp → t.pc ≡ p.op_at u.name at2 → length h2.locals ≡ words_of u → LocalsAre p a.heap_at t.wf a.fp h2.locals
      → StackIs p a.heap_at (cell t a.sb) h2.stack → StatusIs p a.heap_at h2.status (t.rf 24) (t.rf 25) → t.input ≡ s.input → t.trace ≡ s.trace
      → AtOp p used heap u at2 NoLoop h2 Bottom below w t
  restand t at2 h2 same pc count locals stack status input tr =
      let k = a.works in
      record {
        heap_at = a.heap_at;
        fp = a.fp;
        sb = a.sb;
        hp = a.hp;
        top = a.top;
        pc_is = pc;
        works = record {
          locals_reg = same.r8 ∙ k.locals_reg;
          stack_reg = same.r9 ∙ k.stack_reg;
          header_reg = same.r3 ∙ k.header_reg;
          top_reg = same.r27 ∙ k.top_reg;
          limit_reg = same.r26 ∙ k.limit_reg;
          stack_at = k.stack_at;
          within = k.within;
          header_in = k.header_in;
          spare = k.spare;
          limited = k.limited;
          count = count;
          locals_are = locals;
          stack_is = stack;
          status_is = status;
          held_is = (k.held_is.0, below_low p a.heap_at s.wf t.wf a.fp same.words below a.hp (let e = k.held_is.0 in omega arith) k.held_is.1);
        };
        loop_is = tt;
        room_is = a.room_is;
        world_is = record {
          input_is = input ∙ a.world_is.input_is;
          bytes = a.world_is.bytes;
          trace_is = tr ∙ a.world_is.trace_is;
          objects_are = objects_keep p a.heap_at s.wf t.wf w.objects a.world_is.objects_are;
          heap_is = a.world_is.heap_is;
        };
      }

  same_quiet : (t : Seen) → Quiet s t → Same s t a.fp
  same_quiet t q = record { r3 = q.fixed.r3; r8 = q.fixed.r8; r9 = q.fixed.r9; r26 = q.fixed.r26; r27 = q.fixed.r27; words = λ i l. q.words i }

  -- with the words that are left on the stack, and nothing else changed
  pub popped : (t : Seen) (at2 : ℕ) (rest : List FlatValue) → Quiet s t → t.pc ≡ p.op_at u.name at2 → StackIs p a.heap_at (cell s a.sb) rest
      → AtOp p used heap u at2 NoLoop (record { stack = rest; locals = h.locals; status = h.status }) Bottom below w t
  popped t at2 rest q pc stack =
      restand t at2 (record { stack = rest; locals = h.locals; status = h.status }) (same_quiet t q) pc a.works.count
      (locals_keep p a.heap_at s.wf t.wf a.fp h.locals (λ k l. q.words (a.fp + k)) a.works.locals_are)
      (stack_keep p a.heap_at (cell s a.sb) (cell t a.sb) rest (λ j l. quiet_cells s t a.sb q j) stack)
      (status_keep p a.heap_at h.status (s.rf 24) (s.rf 25) (t.rf 24) (t.rf 25) q.fixed.r24 q.fixed.r25 a.works.status_is)
      q.fixed.input_is q.fixed.trace_is

  same_wrote : (t : Seen) (place x : ℕ) → Wrote s t a.sb place x → Same s t a.fp
  same_wrote t place x q =
      let e = a.works.stack_at in
      record { r3 = q.fixed.r3; r8 = q.fixed.r8; r9 = q.fixed.r9; r26 = q.fixed.r26; r27 = q.fixed.r27; words = λ i l. q.words i (omega arith) }

  -- with a value pushed on the words that are left
  pub pushed : (t : Seen) (at2 x : ℕ) (v : FlatValue) (rest : List FlatValue) → Wrote s t a.sb (length rest) x → t.pc ≡ p.op_at u.name at2 → StackIs p a.heap_at (cell s a.sb) rest → Means p a.heap_at v x
      → AtOp p used heap u at2 NoLoop (record { stack = v ∷ rest; locals = h.locals; status = h.status }) Bottom below w t
  pushed t at2 x v rest q pc stack means =
      let e = a.works.stack_at in
      let n = a.works.count in
      restand t at2 (record { stack = v ∷ rest; locals = h.locals; status = h.status }) (same_wrote t (length rest) x q) pc a.works.count
      (locals_keep p a.heap_at s.wf t.wf a.fp h.locals (λ k l. q.words (a.fp + k) (omega arith)) a.works.locals_are)
      (subst (Means p a.heap_at v) (sym q.cell_is) means, stack_keep p a.heap_at (cell s a.sb) (cell t a.sb) rest (λ j l. q.others j (omega arith)) stack)
      (status_keep p a.heap_at h.status (s.rf 24) (s.rf 25) (t.rf 24) (t.rf 25) q.fixed.r24 q.fixed.r25 a.works.status_is)
      q.fixed.input_is q.fixed.trace_is

  -- with a local word set
  pub local_set : (s1 : Seen) (k x : ℕ) (v : FlatValue) (rest : List FlatValue) → k < words_of u → Quiet s s1 → Means p a.heap_at v x → StackIs p a.heap_at (cell s a.sb) rest → (pc : ℕ) → pc ≡ p.op_at u.name (at + 1)
      → AtOp p used heap u (at + 1) NoLoop (record { stack = rest; locals = set h.locals k (Some v); status = h.status }) Bottom below w (record { pc = pc; rf = s1.rf; wf = upd s1.wf (a.fp + k) x; input = s1.input; trace = s1.trace })
  local_set s1 k x v rest lt q means stack pc pc_is =
      let t : Seen = record { pc = pc; rf = s1.rf; wf = upd s1.wf (a.fp + k) x; input = s1.input; trace = s1.trace } in
      let e = a.works.stack_at in
      let n = a.works.count in
      restand t (at + 1) (record { stack = rest; locals = set h.locals k (Some v); status = h.status })
      (record { r3 = q.fixed.r3; r8 = q.fixed.r8; r9 = q.fixed.r9; r26 = q.fixed.r26; r27 = q.fixed.r27; words = λ i l. upd_other s1.wf (a.fp + k) x i (omega arith) ∙ q.words i })
      pc_is (length-set {A = Option FlatValue} h.locals k (Some v) ∙ n) locals
      (stack_keep p a.heap_at (cell s1 a.sb) (cell t a.sb) rest (λ j l. cell_stays j) (stack_keep p a.heap_at (cell s a.sb) (cell s1 a.sb) rest (λ j l. quiet_cells s s1 a.sb q j) stack))
      (status_keep p a.heap_at h.status (s.rf 24) (s.rf 25) (s1.rf 24) (s1.rf 25) q.fixed.r24 q.fixed.r25 a.works.status_is)
      q.fixed.input_is q.fixed.trace_is
    where
      cell_stays : (j : ℕ) → cell (record { pc = pc; rf = s1.rf; wf = upd s1.wf (a.fp + k) x; input = s1.input; trace = s1.trace }) a.sb j ≡ cell s1 a.sb j
      cell_stays j = ⊎_elim low high (cases_lt j 6)
        where
          low : j < 6 → cell (record { pc = pc; rf = s1.rf; wf = upd s1.wf (a.fp + k) x; input = s1.input; trace = s1.trace }) a.sb j ≡ cell s1 a.sb j
          low l = subst (λ m. cell_of m (record { pc = pc; rf = s1.rf; wf = upd s1.wf (a.fp + k) x; input = s1.input; trace = s1.trace }) a.sb ≡ cell_of m s1 a.sb) (sym (home_low j l)) refl

          high : 6 ≤ j → cell (record { pc = pc; rf = s1.rf; wf = upd s1.wf (a.fp + k) x; input = s1.input; trace = s1.trace }) a.sb j ≡ cell s1 a.sb j
          high l =
              let e = a.works.stack_at in
              subst (λ m. cell_of m (record { pc = pc; rf = s1.rf; wf = upd s1.wf (a.fp + k) x; input = s1.input; trace = s1.trace }) a.sb ≡ cell_of m s1 a.sb) (sym (home_high j l)) (upd_other s1.wf (a.fp + k) x (a.sb + j) (omega arith))

      locals : LocalsAre p a.heap_at (upd s1.wf (a.fp + k) x) a.fp (set h.locals k (Some v))
      locals i y there = ⊎_elim same other (cases_eq i k)
        where
          same : i ≡ k → Means p a.heap_at y (upd s1.wf (a.fp + k) x (a.fp + i))
          same e =
              let n = a.works.count in
              let is : Some (Some v) ≡ Some (Some y) = sym (slice_get-set_same h.locals k (Some v) (omega arith)) ∙ ap (slice_get (set h.locals k (Some v))) (sym e) ∙ there in
              let v_is : v ≡ y = same_value v y is in
              subst (λ m. Means p a.heap_at y (upd s1.wf (a.fp + k) x (a.fp + m))) (sym e) (subst (Means p a.heap_at y) (sym (upd_same s1.wf (a.fp + k) x)) (subst (λ z. Means p a.heap_at z x) v_is means))

          other : (i ≡ k → ⊥) → Means p a.heap_at y (upd s1.wf (a.fp + k) x (a.fp + i))
          other ne = subst (Means p a.heap_at y) (sym (upd_other s1.wf (a.fp + k) x (a.fp + i) (omega arith) ∙ q.words (a.fp + i))) (a.works.locals_are i y (sym (slice_get-set_other h.locals k i (Some v) ne) ∙ there))

-- the same state with another input and another trace, in another world
abbrev pub reworld : (p : Places) (used heap : ℕ) (u : FlatUnit) (at : ℕ) (loop : Loop) (h : Here) (below : Stack) (w w2 : FlatWorld) (s : Seen) (input : List ℕ) (trace : List Event) → AtOp p used heap u at loop h Bottom below w s → input ≡ w2.input → trace ≡ w2.trace → w2.objects ≡ w.objects → ((i b : ℕ) → slice_get w2.input i ≡ Some b → b < 256)
    → AtOp p used heap u at loop h Bottom below w2 (record { pc = s.pc; rf = s.rf; wf = s.wf; input = input; trace = trace })
reworld p used heap u at loop h below w w2 s input trace a e1 e2 e3 bytes =
    let k = a.works in
    let t : Seen = record { pc = s.pc; rf = s.rf; wf = s.wf; input = input; trace = trace } in
    record {
      heap_at = a.heap_at;
      fp = a.fp;
      sb = a.sb;
      hp = a.hp;
      top = a.top;
      pc_is = a.pc_is;
      works = record {
        locals_reg = k.locals_reg;
        stack_reg = k.stack_reg;
        header_reg = k.header_reg;
        top_reg = k.top_reg;
        limit_reg = k.limit_reg;
        stack_at = k.stack_at;
        within = k.within;
        header_in = k.header_in;
        spare = k.spare;
        limited = k.limited;
        count = k.count;
        locals_are = k.locals_are;
        stack_is = stack_keep p a.heap_at (cell s a.sb) (cell t a.sb) h.stack (λ j l. cell_same j) k.stack_is;
        status_is = k.status_is;
        held_is = k.held_is;
      };
      loop_is = loop_keep p s t loop refl refl refl a.loop_is;
      room_is = a.room_is;
      world_is = record { input_is = e1; bytes = bytes; trace_is = e2; objects_are = subst (ObjectsAre p a.heap_at s.wf) (sym e3) a.world_is.objects_are; heap_is = a.world_is.heap_is };
    }
  where
    cell_same : (j : ℕ) → cell (record { pc = s.pc; rf = s.rf; wf = s.wf; input = input; trace = trace }) a.sb j ≡ cell s a.sb j
    cell_same j = ⊎_elim (λ l. subst (λ m. cell_of m (record { pc = s.pc; rf = s.rf; wf = s.wf; input = input; trace = trace }) a.sb ≡ cell_of m s a.sb) (sym (home_low j l)) refl) (λ l. subst (λ m. cell_of m (record { pc = s.pc; rf = s.rf; wf = s.wf; input = input; trace = trace }) a.sb ≡ cell_of m s a.sb) (sym (home_high j l)) refl) (cases_lt j 6)
