-- The rows at which activations end.
use Rattle.std.proofs.Common.{◌≡◌, ◌≢◌, ℕ, zero, suc, ◌+◌, ◌%◌, ◌≤◌, List, [], ◌∷◌, length, Option, Some, None, Bool, true, false, refl, sym, ap, ◌∙◌, subst, ◌⊎◌, inl, inr, arith, lit<}
use Rattle.std.specs.Prelude.{slice_get, if◌then◌else◌}
use Rattle.std.proofs.lemmas.Bool.{cases_Bool}
use Rattle.th_word.specs.Word.{word_add, extend_12}
use Rattle.th_rv.specs.declared.instr.Instr.TheVariants.{Jalr, Lw, Addi}
use Rattle.th_runs.specs.Stand.{Trapped}
use Rattle.th_elf.specs.Run as elf
use Rattle.th_elf.specs.Run.{run_step, machine}
use Rattle.th_runs.proofs.Steps.{steps_add}
use Rattle.th_meaning.specs.World.{Object, give_back}
use Rattle.th_flat.specs.declared.op.FlatOp.{FlatOp}
use Rattle.th_flat.specs.declared.op.FlatOp.TheVariants.{OpReturn, OpLeave}
use Rattle.th_flat.specs.declared.module.FlatUnit.{FlatUnit}
use Rattle.th_flat.specs.Values.{FlatValue, FlatWorld, Status, Fine}
use Rattle.th_flat.specs.Program.{FlatProgram}
use Rattle.th_flat.specs.Configs.{Loop, Here, Stack, Bottom, Call, Paused, Config, Run, Returned, words_of, self_of, is_body, weight_of, room_of, ends_as, gives_result, stuck, finish, op_deed}
use Rattle.th_flat.specs.Deeds.{Leaves}
use Rattle.th_flat.specs.Runs.{end_of_config, open_room, room_below, unpaid_step}
use Rattle.th_abi.specs.Words.{plain}
use Rattle.th_abi.specs.Sequences.{home, taken}
use Rattle.th_abi.specs.Control.{back}
use Rattle.th_abi.specs.Table.{row}
use Rattle.th_stands.specs.Seen.{word_address, Seen, Loaded, Sees}
use Rattle.th_stands.specs.Places.{HasRow}
use Rattle.th_stands.specs.Stands.{Places, Heap, Means, ObjectsAre, StackIs, StatusIs, ValueIs, Below, BackIn, ReturnedAt, cell, AtOp}
use Rattle.th_stands.specs.Law.{Leads}
use Rattle.th_stands.specs.Laws.{Rule, Stands}
use Rattle.th_stands.proofs.Instructions.{seen_reg, seen_jump, do_addi, do_lw, do_jalr}
use Rattle.th_stands.proofs.Sequences.{going, at_plain, up_from, plus_zero}
use Rattle.th_stands.proofs.Laws as laws
use Rattle.th_stands.proofs.Laws.{one_place}
use Rattle.th_stands.proofs.Rows.{Numbers, place_is_home}
use Rattle.th_stands.proofs.PutInts.{take_does}
use Rattle.th_entries.specs.Laws.{Aligned, EndLaw}

-- a machine after an activation whose header is at hp has ended
abbrev Ended : Seen → (hp : ℕ) → Seen
Ended s hp = seen_jump (seen_reg (seen_reg (seen_reg (seen_reg (seen_reg s 27 (word_address hp)) 1 (s.wf hp)) 8 (s.wf (hp + 1))) 9 (s.wf (hp + 2))) 3 (s.wf (hp + 3))) 0 (s.pc + 4 + 4 + 4 + 4 + 4 + 4) (s.wf hp)

back_does : (g : Loaded) (r : elf.Run) (s : Seen) (hp to : ℕ) (number : Numbers) → Sees g r s → s.rf 3 ≡ word_address hp → hp + 4 ≤ g.size → s.wf hp % 4 ≡ 0 → HasRow g s.pc to number back → Sees g (going g 6 r) (Ended s hp)
back_does g r s hp to number v e inside even row =
    let small = g.small in
    let first : word_add (s.rf 3) (extend_12 0) ≡ word_address hp = near e in
    let v1 = do_addi v 27 3 0 (at_plain g s.pc (Addi 27 3 0) row.0 (lit< tt, lit< tt, lit< tt)) (lit< tt) (lit< tt) in
    let s1 = seen_reg s 27 (word_address hp) in
    let v1b : Sees g (run_step r) s1 = subst (λ x. Sees g (run_step r) (seen_reg s 27 x)) first v1 in
    let v2 = do_lw v1b 1 3 0 hp (at_plain g (s.pc + 4) (Lw 1 3 0) row.1.0 (lit< tt, lit< tt, lit< tt)) (lit< tt) (lit< tt) (omega arith) first in
    let v3 = do_lw v2 8 3 4 (hp + 1) (at_plain g (s.pc + 4 + 4) (Lw 8 3 4) row.1.1.0 (lit< tt, lit< tt, lit< tt)) (lit< tt) (lit< tt) (omega arith) (up_from (s.rf 3) hp 1 e (omega arith) (lit< tt)) in
    let v4 = do_lw v3 9 3 8 (hp + 2) (at_plain g (s.pc + 4 + 4 + 4) (Lw 9 3 8) row.1.1.1.0 (lit< tt, lit< tt, lit< tt)) (lit< tt) (lit< tt) (omega arith) (up_from (s.rf 3) hp 2 e (omega arith) (lit< tt)) in
    let v5 = do_lw v4 3 3 12 (hp + 3) (at_plain g (s.pc + 4 + 4 + 4 + 4) (Lw 3 3 12) row.1.1.1.1.0 (lit< tt, lit< tt, lit< tt)) (lit< tt) (lit< tt) (omega arith) (up_from (s.rf 3) hp 3 e (omega arith) (lit< tt)) in
    do_jalr v5 0 1 0 (s.wf hp) (at_plain g (s.pc + 4 + 4 + 4 + 4 + 4) (Jalr 0 1 0) row.1.1.1.1.1.0 (lit< tt, lit< tt, lit< tt)) (lit< tt) (lit< tt) (plus_zero (s.wf hp) (v.shows.small_words hp (omega arith))) even
  where
    near : s.rf 3 ≡ word_address hp → word_add (s.rf 3) (extend_12 0) ≡ word_address hp
    near q = let small = g.small in omega arith

-- the registers of the activation below
back_in : (p : Places) (q : Heap) (s : Seen) (below : Stack) (hp : ℕ) → Below p q s.wf below hp → BackIn p q (Ended s hp) below hp
back_in p q s Bottom hp b = b
back_in p q s (Call u at st ls held loop below) hp (fp, sb, hp2, (hd, fr, deep, order, fits, lp, inner)) = (fp, sb, hp2, (hd.back_is, hd.locals_is, hd.stack_is, hd.header_is, fr, deep, order, fits, lp, inner))
back_in p q s (Paused it at st ls holds home loop rest) hp b = absurd b

back_even : (p : Places) (q : Heap) (wf : ℕ → ℕ) (below : Stack) (hp : ℕ) → Aligned p → Below p q wf below hp → wf hp % 4 ≡ 0
back_even p q wf Bottom hp al b = ap (λ x. x % 4) b ∙ al.start
back_even p q wf (Call u at st ls held loop below) hp al (fp, sb, hp2, (hd, fr, deep, order, fits, lp, inner)) = ap (λ x. x % 4) hd.back_is ∙ al.back u.name at
back_even p q wf (Paused it at st ls holds home loop rest) hp al b = absurd b

objects_same : (p : Places) (q : Heap) (wf wg : ℕ → ℕ) (os : List (Object FlatValue)) → ObjectsAre p q wf os → ObjectsAre p q wg os
objects_same p q wf wg [] h = h
objects_same p q wf wg (o ∷ os) h = absurd h

module _ (p : Places) (used heap : ℕ) (u : FlatUnit) (at : ℕ) (loop : Loop) (h : Here) (below : Stack) (w : FlatWorld) (s : Seen) (a : AtOp p used heap u at loop h Bottom below w s) where
  -- with a status and a value in their registers
  ended_at : (x : Status) (v : Option FlatValue) (w2 : FlatWorld) (t : Seen) → t.rf 3 ≡ s.rf 3 → t.rf 26 ≡ s.rf 26 → ((i : ℕ) → t.wf i ≡ s.wf i) → t.input ≡ s.input → t.trace ≡ s.trace
      → w2.input ≡ w.input → w2.trace ≡ w.trace → w2.objects ≡ w.objects → StatusIs p a.heap_at x (t.rf 24) (t.rf 25) → ValueIs p a.heap_at v (t.rf 25)
      → Below p a.heap_at t.wf below a.hp → ReturnedAt p heap x v below w2 (Ended t a.hp)
  ended_at x v w2 t e3 e26 words input tr i2 t2 o2 status value low =
      let k = a.works in
      let l1 = k.header_in in
      let l2 = k.spare in
      record {
        heap_at = a.heap_at;
        hp = a.hp;
        top_reg = refl;
        limit_reg = e26 ∙ k.limit_reg;
        within = omega arith;
        limited = k.limited;
        status_is = status;
        value_is = value;
        back_is = back_in p a.heap_at t below a.hp low;
        world_is = record {
          input_is = input ∙ a.world_is.input_is ∙ sym i2;
          bytes = λ i b e. a.world_is.bytes i b (ap (λ l. slice_get l i) (sym i2) ∙ e);
          trace_is = tr ∙ a.world_is.trace_is ∙ sym t2;
          objects_are = subst (ObjectsAre p a.heap_at (Ended t a.hp).wf) (sym o2) (objects_same p a.heap_at s.wf (Ended t a.hp).wf w.objects a.world_is.objects_are);
          heap_is = a.world_is.heap_is;
        };
      }

module _ (program : FlatProgram) (p : Places) (heap : ℕ) (u : FlatUnit) (at : ℕ) (loop : Loop) (h : Here) (below : Stack) (w : FlatWorld) (r : elf.Run) (s : Seen) (v : Sees p.loaded r s) (a : AtOp p (weight_of u + 0 + room_below below) heap u at loop h Bottom below w s) (no_body : is_body u ≡ false) (al : Aligned p) where
  abbrev Used : ℕ
  Used = weight_of u + 0 + room_below below

  abbrev Next : Config
  Next = unpaid_step program (Run u at loop h Bottom below w)

  abbrev Effect : FlatOp → List FlatValue → Config
  Effect = laws.Effect program p Used heap u at loop h below w r s v a no_body

  next_is : (op : FlatOp) (st : List FlatValue) → slice_get u.ops at ≡ Some op → h.stack ≡ st → Next ≡ Effect op st
  next_is = laws.next_is program p Used heap u at loop h below w r s v a no_body

  -- the claim at a configuration
  abbrev Claim : (words : ℕ) → Config → Type 0
  Claim words c = Leads p.loaded r words (Stands p (open_room c) heap c)

  never : (words : ℕ) (c : Config) → Next ≡ c → end_of_config c ≡ Trapped → end_of_config Next ≢ Trapped → Claim words Next
  never words c e t ok = absurd (ok (ap end_of_config e ∙ t))

  -- the world after the activation
  abbrev World : FlatWorld
  World = give_back (weight_of u + 0) w

  -- an activation ends, unless its value isn't seen as it should be
  ends : (x : Status) (y : Option FlatValue) (b : Bool) → gives_result (program.result u.name) y ≡ b → finish program (Leaves x y w) None None u at loop h Bottom below ≡ (if b then Returned x y below World else stuck w)
  ends x y b e = ap (λ (t : Bool). if t then ends_as u x y h.locals Bottom below w else stuck w) e ∙ ap (λ (t : Bool). if b then (if t then Rattle.th_flat.specs.Configs.body_ends Bottom u x y h.locals below w else Returned x y below World) else stuck w) no_body

  row_here : (op : FlatOp) (q : Rule p u at op (length h.stack)) → HasRow p.loaded s.pc q.to q.number (row op (length h.stack))
  row_here = laws.row_here program p Used heap u at loop h below w r s v a no_body

  header_inside : a.hp + 4 ≤ p.loaded.size
  header_inside =
      let k1 = a.works.header_in in
      let k2 = a.works.spare in
      let k3 = a.works.limited in
      omega arith

  low : Below p a.heap_at s.wf below a.hp
  low = a.works.held_is.1

  -- the row from a state on in which status and value are in their registers
  back_lands : (k : ℕ) (t : Seen) (to : ℕ) (number : Numbers) (x : Status) (y : Option FlatValue) → Sees p.loaded (going p.loaded k r) t → t.rf 3 ≡ s.rf 3 → t.rf 26 ≡ s.rf 26 → ((i : ℕ) → t.wf i ≡ s.wf i) → Below p a.heap_at t.wf below a.hp
      → t.input ≡ s.input → t.trace ≡ s.trace → StatusIs p a.heap_at x (t.rf 24) (t.rf 25) → ValueIs p a.heap_at y (t.rf 25) → HasRow p.loaded t.pc to number back → (words : ℕ) → k + 6 ≤ words → Claim words (Returned x y below World)
  back_lands k t to number x y vt e3 e26 same under input tr status value code words few =
      let even : t.wf a.hp % 4 ≡ 0 = back_even p a.heap_at t.wf below a.hp al under in
      let v6 = back_does p.loaded (going p.loaded k r) t a.hp to number vt (e3 ∙ a.works.header_reg) header_inside even code in
      record {
        last = k + 5;
        within = omega arith;
        seen = Ended t a.hp;
        sees = subst (λ q. Sees p.loaded q (Ended t a.hp)) (sym (steps_add (machine p.loaded.names) k 6 r) ∙ ap (λ m. going p.loaded m r) (six k)) v6;
        lands = ended_at p Used heap u at loop h below w s a x y World t e3 e26 same input tr refl refl refl status value under;
      }
    where
      six : (k : ℕ) → k + 6 ≡ suc (k + 5)
      six k = omega arith

  leave_step : Rule p u at OpLeave (length h.stack) → end_of_config Next ≢ Trapped → Claim 6 Next
  leave_step q ok = by (cases_Bool (gives_result (program.result u.name) None))
    where
      e0 : Next ≡ finish program (Leaves h.status None w) None None u at loop h Bottom below
      e0 = next_is OpLeave h.stack q.op_is refl

      by : (gives_result (program.result u.name) None ≡ true) ⊎ (gives_result (program.result u.name) None ≡ false) → Claim 6 Next
      by (inr f) = never 6 (stuck w) (e0 ∙ ends h.status None false f) refl ok
      by (inl t) = subst (Claim 6) (sym (e0 ∙ ends h.status None true t)) (back_lands 0 s q.to q.number h.status None v refl refl (λ i. refl) low refl refl a.works.status_is tt (row_here OpLeave q) 6 (omega arith))

  zero_is : word_add (s.rf 0) (extend_12 0) ≡ 0
  zero_is = ap (λ x. word_add x (extend_12 0)) v.shows.zero_is

  -- with no value
  return_none : Rule p u at (OpReturn 0) (length h.stack) → end_of_config Next ≢ Trapped → Claim 7 Next
  return_none q ok = by (cases_Bool (gives_result (program.result u.name) None))
    where
      e0 : Next ≡ finish program (Leaves Fine None w) None None u at loop h Bottom below
      e0 = next_is (OpReturn 0) h.stack q.op_is refl

      by : (gives_result (program.result u.name) None ≡ true) ⊎ (gives_result (program.result u.name) None ≡ false) → Claim 7 Next
      by (inr f) = never 7 (stuck w) (e0 ∙ ends Fine None false f) refl ok
      by (inl t) =
          let row = row_here (OpReturn 0) q in
          let v1 = do_addi v 24 0 0 (at_plain p.loaded s.pc (Addi 24 0 0) row.0 (lit< tt, lit< tt, lit< tt)) (lit< tt) (lit< tt) in
          let s1 = seen_reg s 24 (word_add (s.rf 0) (extend_12 0)) in
          subst (Claim 7) (sym (e0 ∙ ends Fine None true t)) (back_lands 1 s1 q.to q.number Fine None v1 refl refl (λ i. refl) low refl refl zero_is tt row.1 7 (omega arith))

  -- with one
  return_one : (x : FlatValue) (rest : List FlatValue) → h.stack ≡ x ∷ rest → Rule p u at (OpReturn 1) (length h.stack) → end_of_config Next ≢ Trapped → Claim 8 Next
  return_one x rest stack q ok = by (cases_Bool (gives_result (program.result u.name) (Some x)))
    where
      e0 : Next ≡ finish program (Leaves Fine (Some x) w) None None u at loop h Bottom below
      e0 = next_is (OpReturn 1) (x ∷ rest) q.op_is stack

      high : length h.stack ≡ suc (length rest)
      high = ap length stack

      by : (gives_result (program.result u.name) (Some x) ≡ true) ⊎ (gives_result (program.result u.name) (Some x) ≡ false) → Claim 8 Next
      by (inr f) = never 8 (stuck w) (e0 ∙ ends Fine (Some x) false f) refl ok
      by (inl t) =
          let k1 = q.deep in
          let k2 = q.limit in
          let n1 = high in
          let H = home (length rest) in
          let is = place_is_home p Used heap u at loop h below w r s v a q.to q.number (length rest) (omega arith) (omega arith) in
          let row = subst (HasRow p.loaded s.pc q.to q.number) (one_place (λ i. taken (home i) 25 ∷ (plain (Addi 24 0 0) ∷ back)) (length h.stack) (length rest) high) (row_here (OpReturn 1) q) in
          let v1 = take_does p.loaded r s H a.sb 25 q.to q.number (plain (Addi 24 0 0) ∷ back) v is (lit< tt) a.works.stack_reg row in
          let c = cell s a.sb (length rest) in
          let s1 = seen_reg s 25 c in
          let v2 = do_addi v1 24 0 0 (at_plain p.loaded (s.pc + 4) (Addi 24 0 0) row.1.0 (lit< tt, lit< tt, lit< tt)) (lit< tt) (lit< tt) in
          let s2 = seen_reg s1 24 (word_add (s.rf 0) (extend_12 0)) in
          let means : Means p a.heap_at x c = (subst (StackIs p a.heap_at (cell s a.sb)) stack a.works.stack_is).0 in
          subst (Claim 8) (sym (e0 ∙ ends Fine (Some x) true t)) (back_lands 2 s2 q.to q.number Fine (Some x) v2 refl refl (λ i. refl) low refl refl zero_is means row.1.1 8 (omega arith))

pub leave_law : EndLaw OpLeave
leave_law program p heap u at loop h below w r s al q nb v a ok = leave_step program p heap u at loop h below w r s v a nb al q ok

pub return_law : (f : ℕ) → EndLaw (OpReturn f)
return_law zero program p heap u at loop h below w r s al q nb v a ok = return_none program p heap u at loop h below w r s v a nb al q ok
return_law (suc zero) program p heap u at loop h below w r s al q nb v a ok = by_stack h.stack refl
  where
    by_stack : (st : List FlatValue) → h.stack ≡ st → Leads p.loaded r (length (row (OpReturn 1) (length h.stack))) (Stands p (open_room (unpaid_step program (Run u at loop h Bottom below w))) heap (unpaid_step program (Run u at loop h Bottom below w)))
    by_stack [] e = absurd (ok (ap end_of_config (laws.next_is program p (weight_of u + 0 + room_below below) heap u at loop h below w r s v a nb (OpReturn 1) [] q.op_is e)))
    by_stack (x ∷ rest) e = return_one program p heap u at loop h below w r s v a nb al x rest e q ok
return_law (suc (suc f)) program p heap u at loop h below w r s al q nb v a ok = absurd (ok (ap end_of_config (laws.next_is program p (weight_of u + 0 + room_below below) heap u at loop h below w r s v a nb (OpReturn (suc (suc f))) h.stack q.op_is refl)))
