-- The entry row of a unit with a frame of its own.
use Rattle.std.proofs.Common.{◌≡◌, ℕ, zero, suc, ◌+◌, ◌*◌, ◌<◌, ◌≤◌, List, [], ◌∷◌, ◌++◌, length, Option, Some, None, Bool, true, false, nat_eq, nat_lt, refl, sym, ap, ◌∙◌, subst, ◌⊎◌, inl, inr, arith, lit<}
use Rattle.std.specs.Prelude.{slice_get, if◌then◌else◌}
use Rattle.std.proofs.lemmas.Bool.{cases_Bool, cases_lt, lt-ltb, ne_eqb}
use Rattle.th_world.specs.Event.{Entered}
use Rattle.th_word.specs.Word.{word_add, extend_12}
use Rattle.th_rv.specs.declared.instr.Instr.TheVariants.{Addi, Sw, Bgeu, Ecall}
use Rattle.th_rv.specs.Table.{Valid, encode}
use Rattle.th_rv.specs.Step.{State, Next, with_reg, execute, step}
use Rattle.th_rv.proofs.EncodeLemmas.{decode_encode}
use Rattle.th_elf.specs.Run as elf
use Rattle.th_elf.specs.Run.{run_step, after, while_running, entry_of, trace, machine}
use Rattle.th_flat.specs.declared.module.FlatUnit.{FlatUnit}
use Rattle.th_flat.specs.Values.{FlatValue, FlatWorld, Fine}
use Rattle.th_flat.specs.Program.{FlatProgram}
use Rattle.th_flat.specs.Deeds.{free}
use Rattle.th_flat.specs.Configs.{NoLoop, Stack, Bottom, Config, Run, Entering, words_of, is_iterator, weight_of, entry_charge, can_enter, entered, frame, stuck}
use Rattle.th_flat.specs.Runs.{end_of_config, open_room, room_below, unpaid_step}
use Rattle.th_abi.specs.declared.word.PatternWord.{PatternWord}
use Rattle.th_abi.specs.Words.{plain}
use Rattle.th_abi.specs.Entry.{entry_row, frame_bytes, room_test, saved, opened, loop_saved}
use Rattle.th_stands.specs.Seen.{word_address, Seen, Loaded, Shows, Sees}
use Rattle.th_stands.specs.Places.{HasFirst, HasRow}
use Rattle.th_stands.specs.Stands.{Places, Heap, Means, LocalsAre, Below, headed, EnterAt, AtOp, WorldIs}
use Rattle.th_stands.specs.Law.{Leads, StopsForRoom}
use Rattle.th_stands.specs.Laws.{Stands}
use Rattle.th_stands.proofs.Instructions.{upd, upd_other, seen_reg, seen_store, seen_jump, seen_event, At, executed, shows_reg, do_addi, do_sw, do_bgeu_taken, do_bgeu_on, do_stop}
use Rattle.th_stands.proofs.Sequences.{going, at_plain, extend_low, up_from}
use Rattle.th_entries.specs.Laws.{EntryRule, EntryLaw}

-- the first word of an entry row

abbrev nameless : Loaded → Loaded
nameless g = record { areas = g.areas; size = g.size; names = λ a. None; small = g.small }

unnamed : (g : Loaded) (m : State) (s : Seen) → Shows g m s → Shows (nameless g) m s
unnamed g m s v = record { pc_is = v.pc_is; has_32 = v.has_32; reg_is = v.reg_is; loads = v.loads; stores = v.stores; code_stays = v.code_stays; small = v.small; small_words = v.small_words; zero_is = v.zero_is }

first_addi : (g : Loaded) (r : elf.Run) (s : Seen) (name : List ℕ) (rd rs1 imm : ℕ) → Sees g r s → HasFirst g s.pc (encode (Addi rd rs1 imm)) name → Valid (Addi rd rs1 imm) → rd < 32 → rs1 < 32 → Sees g (run_step r) (seen_event (seen_reg s rd (word_add (s.rf rs1) (extend_12 imm))) (Entered name))
unfolding run_step execute
first_addi g r s name rd rs1 imm v h valid l1 l2 =
    let i = Addi rd rs1 imm in
    let x = word_add (s.rf rs1) (extend_12 imm) in
    let at : At (nameless g) s.pc i = record { word = encode i; fetched = h.fetched; decoded = decode_encode i valid; aligned = h.aligned; below = h.below; unnamed = refl } in
    let stepped : step r.state ≡ Next (with_reg r.state rd x) = executed (nameless g) r.state s (unnamed g r.state s v.shows) i at ∙ ap (λ y. Next (with_reg r.state rd (word_add y (extend_12 imm)))) (v.shows.reg_is rs1 l2) in
    let is : run_step r ≡ after r (Next (with_reg r.state rd x)) = ap (λ q. while_running q (after r (step r.state)) r) v.goes ∙ ap (after r) stepped in
    let shows = shows_reg g r.state s v.shows h.below rd x l1 (omega arith) in
    let event : entry_of (g.names r.state.pc) ++ trace g.names r.log ≡ Entered name ∷ s.trace = ap (λ p. entry_of (g.names p) ++ trace g.names r.log) v.shows.pc_is ∙ ap (λ o. entry_of o ++ trace g.names r.log) h.named ∙ ap (λ t. Entered name ∷ t) v.trace_is in
    rw is (record { shows = record { pc_is = shows.pc_is; has_32 = shows.has_32; reg_is = shows.reg_is; loads = shows.loads; stores = shows.stores; code_stays = shows.code_stays; small = shows.small; small_words = shows.small_words; zero_is = shows.zero_is }; goes = refl; input_is = v.input_is; trace_is = event })

-- the words of an entry with a frame of its own
abbrev Opening : (words bytes : ℕ) → List PatternWord
Opening words bytes = room_test bytes ++ (saved ++ opened words bytes)

row_of : (u : FlatUnit) → u.kind < 5 → is_iterator u ≡ false → entry_row u ≡ Opening (words_of u) (frame_bytes u)
row_of u k i =
    let e5 : nat_eq u.kind 5 ≡ false = ne_eqb u.kind 5 (λ q. omega arith) in
    let e6 : nat_eq u.kind 6 ≡ false = ne_eqb u.kind 6 (λ q. omega arith) in
    rw (e5, e6) (ap (λ (b : Bool). room_test (frame_bytes u) ++ (saved ++ (loop_saved b ++ opened (words_of u) (frame_bytes u)))) i)

far : (top k : ℕ) → top ≤ 16777216 → k < 2048 → word_add (word_address top) (extend_12 k) ≡ word_address top + k
far top k l h = let x = extend_low k h in rw x (omega arith)

set_locals : (n : ℕ) (args : List FlatValue) (k : ℕ) (v : FlatValue) → slice_get (frame n args) k ≡ Some (Some v) → slice_get args k ≡ Some v
set_locals n [] k v e = absurd (none n k e)
  where
    none : (n k : ℕ) → slice_get (frame n []) k ≡ Some (Some v) → ⊥
    none zero k q = cc
    none (suc n) zero q = cc
    none (suc n) (suc k) q = none n k q
set_locals zero (a ∷ args) k v e = absurd (cc)
set_locals (suc n) (a ∷ args) zero v e = same e
  where
    same : ◌≡◌ {A = Option (Option FlatValue)} (Some (Some a)) (Some (Some v)) → Some a ≡ Some v
    same q = cc
set_locals (suc n) (a ∷ args) (suc k) v e = set_locals n args k v e

frame_length : (n : ℕ) (args : List FlatValue) → length args ≤ n → length (frame n args) ≡ n
frame_length zero [] l = refl
frame_length (suc n) [] l = ap suc (frame_length n [] (omega arith))
frame_length zero (a ∷ args) l = absurd (omega arith)
frame_length (suc n) (a ∷ args) l = ap suc (frame_length n args (omega arith))

module _ (p : Places) (used heap : ℕ) (u : FlatUnit) (args : List FlatValue) (below : Stack) (w : FlatWorld) (r : elf.Run) (s : Seen) (v : Sees p.loaded r s) (a : EnterAt p used heap u args below w s) (rule : EntryRule p u) (kind : u.kind < 5) (straight : is_iterator u ≡ false) where
  abbrev B : ℕ
  B = frame_bytes u

  bytes_few : B + 136 < 2048
  bytes_few = let l1 = rule.args in let l2 = rule.limit in omega arith

  top_small : a.top ≤ 16777216
  top_small = let l1 = a.within in let l2 = a.limited in let l3 = p.loaded.small in omega arith

  words : HasFirst p.loaded s.pc (encode (Addi 5 27 (B + 136))) u.name × HasRow p.loaded (s.pc + 4) s.pc (λ kind2 failure. 0) (plain (Bgeu 26 5 12) ∷ (plain (Addi 17 0 5) ∷ plain Ecall ∷ (saved ++ opened (words_of u) B)))
  words = subst (λ pc. HasFirst p.loaded pc (encode (Addi 5 27 (B + 136))) u.name × HasRow p.loaded (pc + 4) pc (λ kind2 failure. 0) (plain (Bgeu 26 5 12) ∷ (plain (Addi 17 0 5) ∷ plain Ecall ∷ (saved ++ opened (words_of u) B)))) (sym a.pc_is)
      (subst (λ l. Rattle.th_stands.specs.Places.HasEntry p.loaded (p.unit_at u.name) u.name l) (row_of u kind straight) rule.row_is)

  -- the event of the entry, and how far the frame would reach
  abbrev Asked : Seen
  Asked = seen_event (seen_reg s 5 (word_address a.top + (B + 136))) (Entered u.name)

  asked : Sees p.loaded (run_step r) Asked
  asked =
      let few = bytes_few in
      let v1 = first_addi p.loaded r s u.name 5 27 (B + 136) v words.0 (lit< tt, lit< tt, omega arith) (lit< tt) (lit< tt) in
      let e : word_add (s.rf 27) (extend_12 (B + 136)) ≡ word_address a.top + (B + 136) = ap (λ x. word_add x (extend_12 (B + 136))) a.top_reg ∙ far a.top (B + 136) top_small bytes_few in
      subst (λ x. Sees p.loaded (run_step r) (seen_event (seen_reg s 5 x) (Entered u.name))) e v1

  -- there is no room
  stops : a.heap_at.low < a.top + 6 + words_of u + u.depth + 34 → StopsForRoom p.loaded r 12 (Entered u.name ∷ w.trace)
  stops short =
      let limit = a.limit_reg in
      let row = words.1 in
      let v2 = do_bgeu_on asked 26 5 12 (at_plain p.loaded (s.pc + 4) (Bgeu 26 5 12) row.0 (lit< tt, lit< tt, (lit< tt, refl))) (lit< tt) (lit< tt) (omega arith) in
      let v3 = do_addi v2 17 0 5 (at_plain p.loaded (s.pc + 4 + 4) (Addi 17 0 5) row.1.0 (lit< tt, lit< tt, lit< tt)) (lit< tt) (lit< tt) in
      let s3 = seen_reg (seen_reg Asked 0 0) 17 (word_add (s.rf 0) (extend_12 5)) in
      let five : word_add (s.rf 0) (extend_12 5) ≡ 5 = ap (λ x. word_add x (extend_12 5)) v.shows.zero_is in
      let stop = do_stop v3 (at_plain p.loaded (s.pc + 4 + 4 + 4) Ecall row.1.1.0 tt) five in
      record {
        last = 3;
        within = omega arith;
        goes = v3.goes;
        stopped = stop.0;
        seen = stop.1 ∙ ap (λ t. Entered u.name ∷ t) a.world_is.trace_is;
      }

  -- the header's words after the frames' end
  store_at : (k : ℕ) → k < 6 → (x : ℕ) → x ≡ word_address a.top → word_add x (extend_12 (4 * k)) ≡ word_address (a.top + k)
  store_at k lt x e = let l = top_small in up_from x a.top k e (omega arith) (omega arith)

  -- the frame is open
  abbrev Room : ℕ
  Room = a.top + 6 + words_of u + u.depth

  abbrev Jumped : Seen
  Jumped = seen_jump Asked 0 0 (s.pc + 4 + 4 + 4 + 4)

  abbrev Saved : Seen
  Saved = seen_store (seen_store (seen_store (seen_store Jumped a.top (s.rf 1)) (a.top + 1) (s.rf 8)) (a.top + 2) (s.rf 9)) (a.top + 3) (s.rf 3)

  saves : Room + 34 ≤ a.heap_at.low → Sees p.loaded (going p.loaded 6 r) Saved
  saves room =
      let row = words.1 in
      let few = bytes_few in
      let limit = a.limit_reg in
      let limited = a.limited in
      let l1 = top_small in
      let even = words.0.aligned in
      let there = row.1.1.1.0.below in
      let target = s.pc + 4 + 4 + 4 + 4 in
      let v2 = do_bgeu_taken asked 26 5 12 target (at_plain p.loaded (s.pc + 4) (Bgeu 26 5 12) row.0 (lit< tt, lit< tt, (lit< tt, refl))) (lit< tt) (lit< tt) (omega arith) (omega arith) (omega arith) in
      let code = row.1.1.1 in
      let t = a.top_reg in
      let v3 = do_sw v2 27 1 0 a.top (at_plain p.loaded target (Sw 27 1 0) code.0 (lit< tt, lit< tt, lit< tt)) (lit< tt) (lit< tt) (omega arith) (far_zero (s.rf 27) t) in
      let v4 = do_sw v3 27 8 4 (a.top + 1) (at_plain p.loaded (target + 4) (Sw 27 8 4) code.1.0 (lit< tt, lit< tt, lit< tt)) (lit< tt) (lit< tt) (omega arith) (store_at 1 (lit< tt) (s.rf 27) t) in
      let v5 = do_sw v4 27 9 8 (a.top + 2) (at_plain p.loaded (target + 4 + 4) (Sw 27 9 8) code.1.1.0 (lit< tt, lit< tt, lit< tt)) (lit< tt) (lit< tt) (omega arith) (store_at 2 (lit< tt) (s.rf 27) t) in
      do_sw v5 27 3 12 (a.top + 3) (at_plain p.loaded (target + 4 + 4 + 4) (Sw 27 3 12) code.1.1.1.0 (lit< tt, lit< tt, lit< tt)) (lit< tt) (lit< tt) (omega arith) (store_at 3 (lit< tt) (s.rf 27) t)
    where
      far_zero : (x : ℕ) → x ≡ word_address a.top → word_add x (extend_12 0) ≡ word_address a.top
      far_zero x e = let l = top_small in omega arith

  abbrev Opened : Seen
  Opened = seen_reg (seen_reg (seen_reg (seen_reg Saved 3 (word_address a.top)) 8 (word_address (a.top + 6))) 9 (word_address (a.top + 6 + words_of u))) 27 (word_address Room)

  opens : Room + 34 ≤ a.heap_at.low → Sees p.loaded (going p.loaded 10 r) Opened
  opens room =
      let code = words.1.1.1.1.1.1.1.1 in
      let pc = Saved.pc in
      let t = a.top_reg in
      let l1 = top_small in
      let l2 = rule.args in
      let l3 = rule.limit in
      let v6 = saves room in
      let v7 = do_addi v6 3 27 0 (at_plain p.loaded pc (Addi 3 27 0) code.0 (lit< tt, lit< tt, lit< tt)) (lit< tt) (lit< tt) in
      let r7 = run_step (going p.loaded 6 r) in
      let e7 : word_add (s.rf 27) (extend_12 0) ≡ word_address a.top = same t in
      let v7b : Sees p.loaded r7 (seen_reg Saved 3 (word_address a.top)) = subst (λ x. Sees p.loaded r7 (seen_reg Saved 3 x)) e7 v7 in
      let s7 = seen_reg Saved 3 (word_address a.top) in
      let v8 = do_addi v7b 8 27 24 (at_plain p.loaded (pc + 4) (Addi 8 27 24) code.1.0 (lit< tt, lit< tt, lit< tt)) (lit< tt) (lit< tt) in
      let e8 : word_add (s.rf 27) (extend_12 24) ≡ word_address (a.top + 6) = up_from (s.rf 27) a.top 6 t (omega arith) (lit< tt) in
      let v8b : Sees p.loaded (run_step r7) (seen_reg s7 8 (word_address (a.top + 6))) = subst (λ x. Sees p.loaded (run_step r7) (seen_reg s7 8 x)) e8 v8 in
      let s8 = seen_reg s7 8 (word_address (a.top + 6)) in
      let v9 = do_addi v8b 9 8 (4 * words_of u) (at_plain p.loaded (pc + 4 + 4) (Addi 9 8 (4 * words_of u)) code.1.1.0 (lit< tt, lit< tt, omega arith)) (lit< tt) (lit< tt) in
      let e9 : word_add (word_address (a.top + 6)) (extend_12 (4 * words_of u)) ≡ word_address (a.top + 6 + words_of u) = up_from (word_address (a.top + 6)) (a.top + 6) (words_of u) refl (omega arith) (omega arith) in
      let v9b : Sees p.loaded (run_step (run_step r7)) (seen_reg s8 9 (word_address (a.top + 6 + words_of u))) = subst (λ x. Sees p.loaded (run_step (run_step r7)) (seen_reg s8 9 x)) e9 v9 in
      let s9 = seen_reg s8 9 (word_address (a.top + 6 + words_of u)) in
      let v10 = do_addi v9b 27 27 B (at_plain p.loaded (pc + 4 + 4 + 4) (Addi 27 27 B) code.1.1.1.0 (lit< tt, lit< tt, omega arith)) (lit< tt) (lit< tt) in
      let e10 : word_add (s.rf 27) (extend_12 B) ≡ word_address Room = reach t in
      subst (λ x. Sees p.loaded (run_step (run_step (run_step r7))) (seen_reg s9 27 x)) e10 v10
    where
      same : s.rf 27 ≡ word_address a.top → word_add (s.rf 27) (extend_12 0) ≡ word_address a.top
      same e = let l = top_small in omega arith

      reach : s.rf 27 ≡ word_address a.top → word_add (s.rf 27) (extend_12 B) ≡ word_address Room
      reach e = let few = bytes_few in ap (λ x. word_add x (extend_12 B)) e ∙ far a.top B top_small (omega arith) ∙ omega arith

  weight_is : weight_of u ≡ 256 + 4 * (u.locals + u.depth)
  weight_is = let e6 : nat_eq u.kind 6 ≡ false = ne_eqb u.kind 6 (λ q. omega arith) in rw e6 refl

  spare_is : Rattle.th_stands.specs.Stands.spare_of u ≡ 34
  spare_is = let e6 : nat_eq u.kind 6 ≡ false = ne_eqb u.kind 6 (λ q. omega arith) in rw e6 refl

  entered_is : entered u w ≡ Rattle.th_meaning.specs.World.note (Entered u.name) w
  entered_is = let e : nat_lt u.kind 5 ≡ true = lt-ltb u.kind 5 kind in rw e refl

  -- the local words of the frame are the operands
  locals : LocalsAre p a.heap_at Opened.wf (a.top + 6) (frame (words_of u) args)
  locals k x e =
      let there = a.args_are k x (set_locals (words_of u) args k x e) in
      let same : Opened.wf (a.top + 6 + k) ≡ s.wf (a.top + 6 + k) = above k in
      subst (Means p a.heap_at x) (sym same) there
    where
      above : (k : ℕ) → headed s a.top (a.top + 6 + k) ≡ s.wf (a.top + 6 + k)
      above k =
          let i = a.top + 6 + k in
          let f1 = upd s.wf a.top (s.rf 1) in
          let f2 = upd f1 (a.top + 1) (s.rf 8) in
          let f3 = upd f2 (a.top + 2) (s.rf 9) in
          upd_other f3 (a.top + 3) (s.rf 3) i (λ q. omega arith) ∙ upd_other f2 (a.top + 2) (s.rf 9) i (λ q. omega arith) ∙ upd_other f1 (a.top + 1) (s.rf 8) i (λ q. omega arith) ∙ upd_other s.wf a.top (s.rf 1) i (λ q. omega arith)

  -- the state at the first operation
  at_first : Room + 34 ≤ a.heap_at.low
      → AtOp p (weight_of u + 0 + used) heap u 0 NoLoop (record { stack = []; locals = frame (words_of u) args; status = Fine }) Bottom below (entered u w) Opened
  at_first room =
      let many = a.count in
      let l2 = rule.args in
      let weight = weight_is in
      let spare = spare_is in
      let first = rule.first_is in
      let pc = a.pc_is in
      let room_is = a.room_is in
      let long : length (entry_row u) ≡ 12 = ap length (row_of u kind straight) in
      let world = a.world_is in
      record {
        heap_at = a.heap_at;
        fp = a.top + 6;
        sb = a.top + 6 + words_of u;
        hp = a.top;
        top = Room;
        pc_is = omega arith;
        works = record {
          locals_reg = refl;
          stack_reg = refl;
          header_reg = refl;
          top_reg = refl;
          limit_reg = a.limit_reg;
          stack_at = refl;
          within = omega arith;
          header_in = omega arith;
          spare = omega arith;
          limited = a.limited;
          count = frame_length (words_of u) args (omega arith);
          locals_are = locals;
          stack_is = tt;
          status_is = a.fine;
          held_is = (refl, a.below_is);
        };
        loop_is = tt;
        room_is = omega arith;
        world_is = subst (λ w2. WorldIs p a.heap_at Opened w2 heap) (sym entered_is) (record { input_is = world.input_is; bytes = world.bytes; trace_is = ap (λ t. Entered u.name ∷ t) world.trace_is; objects_are = objects world.objects_are; heap_is = world.heap_is });
      }
    where
      objects : Rattle.th_stands.specs.Stands.ObjectsAre p a.heap_at s.wf w.objects → Rattle.th_stands.specs.Stands.ObjectsAre p a.heap_at Opened.wf w.objects
      objects h = none w.objects h
        where
          none : (os : List (Rattle.th_meaning.specs.World.Object FlatValue)) → Rattle.th_stands.specs.Stands.ObjectsAre p a.heap_at s.wf os → Rattle.th_stands.specs.Stands.ObjectsAre p a.heap_at Opened.wf os
          none [] h = h
          none (o ∷ os) h = absurd h

  -- without room the region is used up
  short : a.heap_at.low < Room + 34 → 4 * p.loaded.size < heap + used + weight_of u
  short less =
      let l2 = rule.args in
      let weight = weight_is in
      let room_is = a.room_is in
      let heap_is = a.world_is.heap_is in
      let limited = a.limited in
      omega arith

  -- the entry with room, or without
  abbrev Entered_at : Type 0
  Entered_at = Leads p.loaded r 12 (AtOp p (weight_of u + 0 + used) heap u 0 NoLoop (record { stack = []; locals = frame (words_of u) args; status = Fine }) Bottom below (entered u w))

  enters : Entered_at ⊎ (StopsForRoom p.loaded r 12 (Entered u.name ∷ w.trace) × (4 * p.loaded.size < heap + used + weight_of u))
  enters = by (cases_lt a.heap_at.low (Room + 34))
    where
      by : (a.heap_at.low < Room + 34) ⊎ (Room + 34 ≤ a.heap_at.low) → Entered_at ⊎ (StopsForRoom p.loaded r 12 (Entered u.name ∷ w.trace) × (4 * p.loaded.size < heap + used + weight_of u))
      by (inl l) = inr (stops l, short l)
      by (inr l) = inl (record { last = 9; within = omega arith; seen = Opened; sees = opens l; lands = at_first l })

-- the step of the program
module _ (program : FlatProgram) (u : FlatUnit) (args : List FlatValue) (below : Stack) (w : FlatWorld) where
  abbrev After : Config
  After = Run u 0 NoLoop (record { stack = []; locals = frame (words_of u) args; status = Fine }) Bottom below (entered u w)

  step_is : (b : Bool) → can_enter u below ≡ b → unpaid_step program (Entering u args below w) ≡ (if b then After else stuck w)
  step_is true e = ap (λ (t : Bool). (if t then record { charge = entry_charge u; act = λ w1. Run u 0 NoLoop (record { stack = []; locals = frame (words_of u) args; status = Fine }) Bottom below (entered u w1) } else free stuck).act w) e
  step_is false e = ap (λ (t : Bool). (if t then record { charge = entry_charge u; act = λ w1. Run u 0 NoLoop (record { stack = []; locals = frame (words_of u) args; status = Fine }) Bottom below (entered u w1) } else free stuck).act w) e

pub entry_law : EntryLaw
entry_law program p heap u args below w r s rule kind straight v a ok = by (cases_Bool (can_enter u below))
  where
    Next : Config
    Next = unpaid_step program (Entering u args below w)

    long : length (entry_row u) ≡ 12
    long = ap length (row_of u kind straight)

    by : (can_enter u below ≡ true) ⊎ (can_enter u below ≡ false) → Leads p.loaded r (length (entry_row u)) (Stands p (open_room (unpaid_step program (Entering u args below w))) heap (unpaid_step program (Entering u args below w)))
        ⊎ (StopsForRoom p.loaded r (length (entry_row u)) (Entered u.name ∷ w.trace) × (4 * p.loaded.size < heap + room_below below + weight_of u))
    by (inr f) = absurd (ok (ap end_of_config (step_is program u args below w false f)))
    by (inl t) =
        subst (λ n. Leads p.loaded r n (Stands p (open_room (unpaid_step program (Entering u args below w))) heap (unpaid_step program (Entering u args below w))) ⊎ (StopsForRoom p.loaded r n (Entered u.name ∷ w.trace) × (4 * p.loaded.size < heap + room_below below + weight_of u))) (sym long)
        (subst (λ c. Leads p.loaded r 12 (Stands p (open_room c) heap c) ⊎ (StopsForRoom p.loaded r 12 (Entered u.name ∷ w.trace) × (4 * p.loaded.size < heap + room_below below + weight_of u))) (sym (step_is program u args below w true t))
        (enters p (room_below below) heap u args below w r s v a rule kind straight))
