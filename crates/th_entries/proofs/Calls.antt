-- The law of a call's row up to the linking jump.
use Rattle.std.proofs.Common.{◌≡◌, ◌≢◌, ℕ, zero, suc, ◌+◌, ◌-◌, ◌*◌, ◌%◌, ◌<◌, ◌≤◌, List, [], ◌∷◌, ◌++◌, length, length-append, Option, Some, None, Bool, true, false, nat_eq, refl, sym, ap, ◌∙◌, subst, ◌⊎◌, inl, inr, ⊎_elim, arith, lit<}
use Rattle.std.specs.Prelude.{slice_get, if◌then◌else◌}
use Rattle.std.proofs.lemmas.Bool.{cases_Bool, cases_lt, ne_eqb, eqb-true}
use Rattle.std.proofs.lemmas.Option.{slice_get_within}
use Rattle.th_rv.specs.declared.instr.Instr.TheVariants.{Jal, Jalr, Lw}
use Rattle.th_runs.specs.Stand.{Trapped}
use Rattle.th_runs.proofs.Steps.{steps_add}
use Rattle.th_elf.specs.Run as elf
use Rattle.th_elf.specs.Run.{run_step, machine}
use Rattle.th_flat.specs.declared.op.FlatOp.{FlatOp}
use Rattle.th_flat.specs.declared.op.FlatOp.TheVariants.{OpCall}
use Rattle.th_flat.specs.declared.module.FlatUnit.{FlatUnit}
use Rattle.th_flat.specs.Values.{FlatValue, FlatWorld, Status, Fine, Thrown, IsStopped}
use Rattle.th_flat.specs.Program.{FlatProgram}
use Rattle.th_meaning.specs.World.{Stuck}
use Rattle.th_flat.specs.Deeds.{Act, Calls, Charge, Deed, stuck_act, off, calling, call_charge, on_some, on_test, doing}
use Rattle.th_flat.specs.Configs.{NoLoop, Here, Stack, Bottom, Call, Halts, Config, Run, Entering, Over, is_body, weight_of, finish}
use Rattle.th_flat.specs.Runs.{end_of_config, open_room, room_below, unpaid_step}
use Rattle.th_abi.specs.declared.word.RelocKind.TheVariants as reloc
use Rattle.th_abi.specs.declared.word.PatternWord.{PatternWord}
use Rattle.th_abi.specs.Words.{plain}
use Rattle.th_abi.specs.Sequences.{literal}
use Rattle.th_abi.specs.Control.{call_start, call_end}
use Rattle.th_abi.specs.Table.{row}
use Rattle.th_stands.specs.Seen.{Seen, Loaded, Sees}
use Rattle.th_stands.specs.Places.{HasRow}
use Rattle.th_stands.specs.Stands.{Places, Heap, Means, StackIs, LocalsAre, FrameIs, HeaderIs, Below, headed, WorldIs, ObjectsAre, EnterAt, cell, spare_of, AtOp}
use Rattle.th_stands.specs.Law.{Leads}
use Rattle.th_stands.specs.Laws.{Rule, Stands}
use Rattle.th_stands.proofs.Instructions.{upd, upd_same, upd_other, seen_reg, seen_jump, do_jal, do_lw_image, do_jalr}
use Rattle.th_stands.proofs.Sequences.{going, at_plain, plus_zero, home_low, home_high}
use Rattle.th_stands.proofs.Keeping.{stack_keep, locals_keep, below_low}
use Rattle.th_stands.proofs.Rows.{Numbers}
use Rattle.th_stands.proofs.Laws as laws
use Rattle.th_entries.specs.Laws.{Aligned, CallRule, CallLaw}
use Rattle.th_entries.proofs.Calling.{Moved, starts}

-- operands taken off a stack
pub record Offed (K : List FlatValue → List FlatValue → Deed Act) (n : ℕ) (acc st : List FlatValue) : Type 0 where
  vs : List FlatValue
  rest : List FlatValue
  is : off n acc st K ≡ K vs rest
  count : length st ≡ n + length rest
  many : length vs ≡ n + length acc
  values : (p : Places) (q : Heap) (cells : ℕ → ℕ) → StackIs p q cells st → ((i : ℕ) (v : FlatValue) → slice_get acc i ≡ Some v → Means p q v (cells (length st + i))) → StackIs p q cells rest × ((i : ℕ) (v : FlatValue) → slice_get vs i ≡ Some v → Means p q v (cells (length rest + i)))

offed : (K : List FlatValue → List FlatValue → Deed Act) (n : ℕ) (acc st : List FlatValue) → Offed K n acc st ⊎ (off n acc st K ≡ stuck_act)
offed K zero acc st = inl (record { vs = acc; rest = st; is = refl; count = omega arith; many = omega arith; values = λ p q cells h a. (h, a) })
offed K (suc k) acc [] = inr refl
offed K (suc k) acc (x ∷ st) = again (offed K k (x ∷ acc) st)
  where
    more : (p : Places) (q : Heap) (cells : ℕ → ℕ) → Means p q x (cells (length st)) → ((i : ℕ) (v : FlatValue) → slice_get acc i ≡ Some v → Means p q v (cells (suc (length st) + i))) → (i : ℕ) (v : FlatValue) → slice_get (x ∷ acc) i ≡ Some v → Means p q v (cells (length st + i))
    more p q cells m a zero v e = subst (λ y. Means p q y (cells (length st + 0))) (same e) (subst (λ i. Means p q x (cells i)) (omega arith) m)
      where
        same : Some x ≡ Some v → x ≡ v
        same z = cc
    more p q cells m a (suc i) v e = subst (λ j. Means p q v (cells j)) (omega arith) (a i v e)

    again : Offed K k (x ∷ acc) st ⊎ (off k (x ∷ acc) st K ≡ stuck_act) → Offed K (suc k) acc (x ∷ st) ⊎ (off (suc k) acc (x ∷ st) K ≡ stuck_act)
    again (inr e) = inr e
    again (inl o) =
        let c = o.count in
        let m = o.many in
        inl (record { vs = o.vs; rest = o.rest; is = o.is; count = omega arith; many = omega arith; values = λ p q cells h a. o.values p q cells h.1 (more p q cells h.0 a) })

-- the row of a call, by how many words stay
abbrev pub row_at : (n f below : ℕ) → List PatternWord
row_at n f below = call_start below below n ++ (literal 5 reloc.Unit None ++ (plain (Jalr 1 5 0) ∷ call_end below f))

-- a machine after the linking jump
abbrev Linked : Seen → ℕ → Seen
Linked t x = seen_jump (seen_reg (seen_jump t 5 (t.pc + 4) (t.pc + 4 + 4)) 5 x) 1 (t.pc + 4 + 4 + 4 + 4) x

links : (g : Loaded) (r : elf.Run) (t : Seen) (to : ℕ) (number : Numbers) (rest : List PatternWord) → Sees g r t → number reloc.Unit None % 4 ≡ 0 → HasRow g t.pc to number (literal 5 reloc.Unit None ++ (plain (Jalr 1 5 0) ∷ rest)) → Sees g (going g 3 r) (Linked t (number reloc.Unit None))
links g r t to number rest v even row =
    let x = number reloc.Unit None in
    let w1 = row.0 in
    let w2 = row.1.0 in
    let below1 = w1.below in
    let below2 = w2.below in
    let even1 = w1.aligned in
    let even2 = w2.aligned in
    let v1 = do_jal v 5 8 (t.pc + 4 + 4) (at_plain g t.pc (Jal 5 8) row.0 (lit< tt, (lit< tt, refl))) (lit< tt) (omega arith) (omega arith) in
    let v2 = do_lw_image v1 5 5 0 (t.pc + 4) x (at_plain g (t.pc + 4 + 4) (Lw 5 5 0) row.1.1.0 (lit< tt, lit< tt, lit< tt)) (lit< tt) (lit< tt) below2 even2 w2.loaded w2.small (omega arith) in
    do_jalr v2 1 5 0 x (at_plain g (t.pc + 4 + 4 + 4) (Jalr 1 5 0) row.1.1.1.0 (lit< tt, lit< tt, lit< tt)) (lit< tt) (lit< tt) (plus_zero x w2.small) even

-- the four words of a header
headed_words : (e : Seen) (top : ℕ) → (headed e top top ≡ e.rf 1) × (headed e top (top + 1) ≡ e.rf 8) × (headed e top (top + 2) ≡ e.rf 9) × (headed e top (top + 3) ≡ e.rf 3)
headed_words e top =
    let f1 = upd e.wf top (e.rf 1) in
    let f2 = upd f1 (top + 1) (e.rf 8) in
    let f3 = upd f2 (top + 2) (e.rf 9) in (
      upd_other f3 (top + 3) (e.rf 3) top (λ q. omega arith) ∙ upd_other f2 (top + 2) (e.rf 9) top (λ q. omega arith) ∙ upd_other f1 (top + 1) (e.rf 8) top (λ q. omega arith) ∙ upd_same e.wf top (e.rf 1),
      upd_other f3 (top + 3) (e.rf 3) (top + 1) (λ q. omega arith) ∙ upd_other f2 (top + 2) (e.rf 9) (top + 1) (λ q. omega arith) ∙ upd_same f1 (top + 1) (e.rf 8),
      upd_other f3 (top + 3) (e.rf 3) (top + 2) (λ q. omega arith) ∙ upd_same f2 (top + 2) (e.rf 9),
      upd_same f3 (top + 3) (e.rf 3),
    )

module _ (p : Places) (heap : ℕ) (u : FlatUnit) (at : ℕ) (h : Here) (below : Stack) (w : FlatWorld) (s : Seen) (a : AtOp p (weight_of u + 0 + room_below below) heap u at NoLoop h Bottom below w s) (rest : List FlatValue) (n : ℕ) (t : Seen) (m : Moved s t a.sb a.top (length rest) (length rest) 6 n) (x : ℕ) (deep : length rest ≤ u.depth) where
  abbrev E : Seen
  E = Linked t x

  -- words below the frames' end that aren't saved places are as they were
  low_word : (i : ℕ) → i < a.top → ((j : ℕ) → j < 6 → j < length rest → i ≡ a.sb + j → ⊥) → headed E a.top i ≡ s.wf i
  low_word i lt free =
      let f1 = upd t.wf a.top (E.rf 1) in
      let f2 = upd f1 (a.top + 1) (E.rf 8) in
      let f3 = upd f2 (a.top + 2) (E.rf 9) in
      upd_other f3 (a.top + 3) (E.rf 3) i (λ q. omega arith) ∙ upd_other f2 (a.top + 2) (E.rf 9) i (λ q. omega arith) ∙ upd_other f1 (a.top + 1) (E.rf 8) i (λ q. omega arith) ∙ upd_other t.wf a.top (E.rf 1) i (λ q. omega arith) ∙ m.others i lt free

  saved_word : (j : ℕ) → j < 6 → j < length rest → headed E a.top (a.sb + j) ≡ s.rf (18 + j)
  saved_word j l6 lb =
      let k = a.works.within in
      let f1 = upd t.wf a.top (E.rf 1) in
      let f2 = upd f1 (a.top + 1) (E.rf 8) in
      let f3 = upd f2 (a.top + 2) (E.rf 9) in
      upd_other f3 (a.top + 3) (E.rf 3) (a.sb + j) (λ q. omega arith) ∙ upd_other f2 (a.top + 2) (E.rf 9) (a.sb + j) (λ q. omega arith) ∙ upd_other f1 (a.top + 1) (E.rf 8) (a.sb + j) (λ q. omega arith) ∙ upd_other t.wf a.top (E.rf 1) (a.sb + j) (λ q. omega arith) ∙ m.saved j l6 lb

  -- the words of the stack stand in the frame
  cells : (j : ℕ) → j < length rest → headed E a.top (a.sb + j) ≡ cell s a.sb j
  cells j lj = ⊎_elim low high (cases_lt j 6)
    where
      low : j < 6 → headed E a.top (a.sb + j) ≡ cell s a.sb j
      low l = saved_word j l lj ∙ sym (ap (λ q. Rattle.th_stands.specs.Stands.cell_of q s a.sb) (home_low j l))

      high : 6 ≤ j → headed E a.top (a.sb + j) ≡ cell s a.sb j
      high l = let k = a.works.within in low_word (a.sb + j) (omega arith) (λ i l6 lb q. omega arith) ∙ sym (ap (λ q. Rattle.th_stands.specs.Stands.cell_of q s a.sb) (home_high j l))

  header : p.back_at u.name at ≡ t.pc + 16 → HeaderIs (headed E a.top) a.top (p.back_at u.name at) a.fp a.sb a.hp
  header back =
      let k = a.works in
      let h4 = headed_words E a.top in
      record {
        back_is = h4.0 ∙ omega (arith, back);
        locals_is = h4.1 ∙ m.regs 8 (λ q. eight q) ∙ k.locals_reg;
        stack_is = h4.2 ∙ m.regs 9 (λ q. nine q) ∙ k.stack_reg;
        header_is = h4.3 ∙ m.regs 3 (λ q. three q) ∙ k.header_reg;
      }
    where
      eight : ◌≡◌ {A = ℕ} 8 5 → ⊥
      eight q = omega arith

      nine : ◌≡◌ {A = ℕ} 9 5 → ⊥
      nine q = omega arith

      three : ◌≡◌ {A = ℕ} 3 5 → ⊥
      three q = omega arith

  -- the frame of the unit that waits
  waits : StackIs p a.heap_at (cell s a.sb) rest → FrameIs p a.heap_at (headed E a.top) u a.fp a.sb rest h.locals
  waits stack =
      let k = a.works in
      let at_sb = k.stack_at in
      let count = k.count in
      let within = k.within in
      record {
        stack_at = k.stack_at;
        count = k.count;
        height = deep;
        locals_are = locals_keep p a.heap_at s.wf (headed E a.top) a.fp h.locals (λ i l. low_word (a.fp + i) (omega arith) (λ j l6 lb q. omega arith)) k.locals_are;
        stack_is = stack_keep p a.heap_at (cell s a.sb) (λ j. headed E a.top (a.sb + j)) rest (λ j l. cells j l) stack;
      }

  -- what lies below the called unit
  lies : p.back_at u.name at ≡ t.pc + 16 → StackIs p a.heap_at (cell s a.sb) rest → Below p a.heap_at (headed E a.top) (Call u at rest h.locals Bottom NoLoop below) a.top
  lies back stack =
      let k = a.works in
      let at_sb = k.stack_at in
      let within = k.within in
      let held = k.held_is in
      let fp_is = held.0 in (
        a.fp,
        a.sb,
        a.hp,
        (
          header back,
          waits stack,
          k.within,
          k.header_in,
          (k.spare, a.room_is),
          tt,
          (fp_is, below_low p a.heap_at s.wf (headed E a.top) a.fp (λ i l. low_word i (omega arith) (λ j l6 lb q. omega arith)) below a.hp (omega arith) held.1),
        ),
      )

  -- the called unit before its entry
  entering : (g : FlatUnit) (vs : List FlatValue) → length vs ≡ g.args → length vs ≡ n → h.status ≡ Fine → p.back_at u.name at ≡ t.pc + 16 → x ≡ p.unit_at g.name → StackIs p a.heap_at (cell s a.sb) rest → ((i : ℕ) (v : FlatValue) → slice_get vs i ≡ Some v → Means p a.heap_at v (cell s a.sb (length rest + i)))
      → EnterAt p (weight_of u + 0 + room_below below) heap g vs (Call u at rest h.locals Bottom NoLoop below) w E
  entering g vs count many fine back is stack values =
      let k = a.works in
      let spare = k.spare in
      let room = a.room_is in
      let world = a.world_is in
      record {
        heap_at = a.heap_at;
        top = a.top;
        pc_is = is;
        top_reg = m.regs 27 (λ q. far27 q) ∙ k.top_reg;
        limit_reg = m.regs 26 (λ q. far26 q) ∙ k.limit_reg;
        fine = m.regs 24 (λ q. far24 q) ∙ subst (λ z. Rattle.th_stands.specs.Stands.StatusIs p a.heap_at z (s.rf 24) (s.rf 25)) fine k.status_is;
        count = count;
        args_are = λ i v e. let l : i < length vs = slice_get_within vs i v e in subst (Means p a.heap_at v) (sym (m.args i (omega arith))) (values i v e);
        below_is = lies back stack;
        within = omega arith;
        limited = k.limited;
        room_is = omega arith;
        world_is = record {
          input_is = m.input_is ∙ world.input_is;
          bytes = world.bytes;
          trace_is = m.trace_is ∙ world.trace_is;
          objects_are = objects w.objects world.objects_are;
          heap_is = world.heap_is;
        };
      }
    where
      far27 : ◌≡◌ {A = ℕ} 27 5 → ⊥
      far27 q = omega arith

      far26 : ◌≡◌ {A = ℕ} 26 5 → ⊥
      far26 q = omega arith

      far24 : ◌≡◌ {A = ℕ} 24 5 → ⊥
      far24 q = omega arith

      objects : (os : List (Rattle.th_meaning.specs.World.Object FlatValue)) → ObjectsAre p a.heap_at s.wf os → ObjectsAre p a.heap_at E.wf os
      objects [] h = h
      objects (o ∷ os) h = absurd h

module _ (unit : List ℕ) (n f l : ℕ) (program : FlatProgram) (p : Places) (heap : ℕ) (u : FlatUnit) (at : ℕ) (h : Here) (below : Stack) (w : FlatWorld) (r : elf.Run) (s : Seen) (q : Rule p u at (OpCall unit n f l) (length h.stack)) (c : CallRule program p u at unit n f l (length h.stack) q) (al : Aligned p) (no_body : is_body u ≡ false) (no_stub : u.kind ≡ 6 → ⊥) (v : Sees p.loaded r s)
    (a : AtOp p (weight_of u + 0 + room_below below) heap u at NoLoop h Bottom below w s) where
  abbrev Next : Config
  Next = unpaid_step program (Run u at NoLoop h Bottom below w)

  abbrev Op : FlatOp
  Op = OpCall unit n f l

  abbrev Words : ℕ
  Words = length (row Op (length h.stack))

  abbrev Claim : Config → Type 0
  Claim z = Leads p.loaded r Words (Stands p (open_room z) heap z)

  -- what the operation does with the status, the stack and the unit
  abbrev Given : List FlatValue → List FlatValue → Deed Act
  Given vs st1 = calling (program.called unit) (λ g. call_charge g.kind) vs st1

  abbrev Effect : Deed Act → Config
  Effect d = finish program (d.act w) None (Some l) u at NoLoop h Bottom below

  next_is : Next ≡ Effect (Rattle.th_flat.specs.Deeds.if_fine h.status (off n [] h.stack Given))
  next_is = laws.next_is program p (weight_of u + 0 + room_below below) heap u at NoLoop h below w r s v a no_body Op h.stack q.op_is refl

  row_here : HasRow p.loaded s.pc q.to q.number (row Op (length h.stack))
  row_here = laws.row_here program p (weight_of u + 0 + room_below below) heap u at NoLoop h below w r s v a no_body Op q

  -- the unit is there and takes the operands
  pub called : (o : Offed Given n [] h.stack) (g : FlatUnit) → h.status ≡ Fine → program.called unit ≡ Some g → length o.vs ≡ g.args → Claim (Entering g o.vs (Call u at o.rest h.locals Bottom NoLoop below) w)
  called o g fine is many =
      let k = a.works in
      let k1 = q.deep in
      let k2 = q.limit in
      let few = c.few in
      let count = o.count in
      let size = o.many in
      let within = k.within in
      let spare = k.spare in
      let limited = k.limited in
      let stays : length h.stack - n ≡ length o.rest = omega arith in
      let here : HasRow p.loaded s.pc q.to q.number (row_at n f (length o.rest)) = subst (λ i. HasRow p.loaded s.pc q.to q.number (row_at n f i)) stays row_here in
      let head = call_start (length o.rest) (length o.rest) n in
      let inside : a.top + 24 ≤ p.loaded.size = room_inside k.spare limited in
      let b = starts p.loaded s a.sb a.top (length o.rest) (length o.rest) q.to q.number k.stack_reg k.top_reg (omega arith) inside (omega arith) n few (omega arith) (omega arith) (omega arith)
      (literal 5 reloc.Unit None ++ (plain (Jalr 1 5 0) ∷ call_end (length o.rest) f)) r v here in
      let t = b.seen in
      let x = q.number reloc.Unit None in
      let x_is = c.unit_is g is in
      let e9 = links p.loaded (going p.loaded (length head) r) t q.to q.number (call_end (length o.rest) f) b.sees (ap (λ i. i % 4) x_is ∙ al.units g.name) b.code in
      let back : p.back_at u.name at ≡ t.pc + 16 = back_at (length o.rest) stays t.pc b.pc in
      let got = o.values p a.heap_at (cell s a.sb) k.stack_is (λ i y e. absurd (no_item i y e)) in
      let long : length head + 3 ≤ Words = fits (length o.rest) stays in
      record {
        last = length head + 2;
        within = omega arith;
        seen = Linked t x;
        sees = subst (λ z. Sees p.loaded z (Linked t x)) (sym (steps_add (machine p.loaded.names) (length head) 3 r) ∙ ap (λ i. going p.loaded i r) (three (length head))) e9;
        lands = entering p heap u at h below w s a o.rest n t b.holds x (omega arith) g o.vs many (omega arith) fine back x_is got.0 got.1;
      }
    where
      three : (i : ℕ) → i + 3 ≡ suc (i + 2)
      three i = omega arith

      no_item : (i : ℕ) (y : FlatValue) → slice_get [] i ≡ Some y → ⊥
      no_item i y e = cc

      room_inside : a.top + spare_of u ≤ a.heap_at.low → a.heap_at.low ≤ p.loaded.size → a.top + 24 ≤ p.loaded.size
      room_inside l1 l2 = let e : spare_of u ≡ 34 = ap (λ (b : Bool). if b then 8 else 34) (ne_eqb u.kind 6 no_stub) in omega arith

      back_at : (i : ℕ) → length h.stack - n ≡ i → (pc : ℕ) → pc ≡ s.pc + 4 * length (call_start i i n) → p.back_at u.name at ≡ pc + 16
      back_at i e pc e2 = c.back_is ∙ ap (λ j. p.op_at u.name at + 4 * (length (call_start j j n) + 4)) e ∙ omega (arith, a.pc_is, e2)

      fits : (i : ℕ) → length h.stack - n ≡ i → length (call_start i i n) + 3 ≤ Words
      fits i e =
          let whole : Words ≡ length (row_at n f i) = ap (λ j. length (row_at n f j)) e in
          let parts : length (row_at n f i) ≡ length (call_start i i n) + length (literal 5 reloc.Unit None ++ (plain (Jalr 1 5 0) ∷ call_end i f)) = length-append (call_start i i n) (literal 5 reloc.Unit None ++ (plain (Jalr 1 5 0) ∷ call_end i f)) in
          let tail : length (literal 5 reloc.Unit None ++ (plain (Jalr 1 5 0) ∷ call_end i f)) ≡ suc (suc (suc (suc (length (call_end i f))))) = refl in
          omega arith

  -- the cases in which the operation is stuck, and the call
  calls : end_of_config Next ≢ Trapped → Claim Next
  calls ok = by_status h.status refl
    where
      never : (z : Config) → Next ≡ z → end_of_config z ≡ Trapped → Claim Next
      never z e t = absurd (ok (ap end_of_config e ∙ t))

      taken : Deed Act → Config
      taken d = Effect d

      by_count : (fine : h.status ≡ Fine) (o : Offed Given n [] h.stack) (g : FlatUnit) → program.called unit ≡ Some g → (nat_eq (length o.vs) g.args ≡ true) ⊎ (nat_eq (length o.vs) g.args ≡ false) → Claim Next
      by_count fine o g is (inl e) =
          let step : Next ≡ Entering g o.vs (Call u at o.rest h.locals Bottom NoLoop below) w =
          next_is ∙ ap (λ z. Effect (Rattle.th_flat.specs.Deeds.if_fine z (off n [] h.stack Given))) fine ∙ ap Effect o.is ∙ ap (λ z. Effect (on_some z (λ g1. on_test (nat_eq (length o.vs) g1.args) (record { charge = call_charge g1.kind; act = λ w1. Calls g1 o.vs o.rest w1 })))) is
          ∙ ap (λ b. Effect (on_test b (record { charge = call_charge g.kind; act = λ w1. Calls g o.vs o.rest w1 }))) e in
          subst Claim (sym step) (called o g fine is (eqb-true (length o.vs) g.args e))
      by_count fine o g is (inr e) =
          never (Over (Halts Stuck) w) (next_is ∙ ap (λ z. Effect (Rattle.th_flat.specs.Deeds.if_fine z (off n [] h.stack Given))) fine ∙ ap Effect o.is ∙ ap (λ z. Effect (on_some z (λ g1. on_test (nat_eq (length o.vs) g1.args) (record { charge = call_charge g1.kind; act = λ w1. Calls g1 o.vs o.rest w1 })))) is
          ∙ ap (λ b. Effect (on_test b (record { charge = call_charge g.kind; act = λ w1. Calls g o.vs o.rest w1 }))) e) refl

      by_unit : (fine : h.status ≡ Fine) (o : Offed Given n [] h.stack) (z : Option FlatUnit) → program.called unit ≡ z → Claim Next
      by_unit fine o None e = never (Over (Halts Stuck) w) (next_is ∙ ap (λ y. Effect (Rattle.th_flat.specs.Deeds.if_fine y (off n [] h.stack Given))) fine ∙ ap Effect o.is ∙ ap (λ y. Effect (on_some y (λ g1. on_test (nat_eq (length o.vs) g1.args) (record { charge = call_charge g1.kind; act = λ w1. Calls g1 o.vs o.rest w1 })))) e) refl
      by_unit fine o (Some g) e = by_count fine o g e (cases_Bool (nat_eq (length o.vs) g.args))

      by_stack : (fine : h.status ≡ Fine) → Offed Given n [] h.stack ⊎ (off n [] h.stack Given ≡ stuck_act) → Claim Next
      by_stack fine (inl o) = by_unit fine o (program.called unit) refl
      by_stack fine (inr e) = never (Over (Halts Stuck) w) (next_is ∙ ap (λ z. Effect (Rattle.th_flat.specs.Deeds.if_fine z (off n [] h.stack Given))) fine ∙ ap Effect e) refl

      by_status : (z : Status) → h.status ≡ z → Claim Next
      by_status Fine e = by_stack e (offed Given n [] h.stack)
      by_status (Thrown y z) e = never (Over (Halts Stuck) w) (next_is ∙ ap (λ k. Effect (Rattle.th_flat.specs.Deeds.if_fine k (off n [] h.stack Given))) e) refl
      by_status IsStopped e = never (Over (Halts Stuck) w) (next_is ∙ ap (λ k. Effect (Rattle.th_flat.specs.Deeds.if_fine k (off n [] h.stack Given))) e) refl

pub call_law : CallLaw
call_law unit n f l program p heap u at h below w r s q c al nb no_stub v a ok = calls unit n f l program p heap u at h below w r s q c al nb no_stub v a ok
