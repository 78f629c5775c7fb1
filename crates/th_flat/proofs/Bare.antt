-- What a step leads to only adds to the trace, and has no part in the turns and the room that are left.
use Rattle.std.proofs.Common.{◌≡◌, ℕ, ◌+◌, Bool, true, false, ◌&&◌, ◌||◌, not, List, [], ◌∷◌, Option, Some, None, refl, sym, ap, ◌∙◌, subst, length}
use Rattle.std.specs.Prelude.{nat_lt, slice_get, if◌then◌else◌}
use Rattle.th_world.specs.Event.{Put, Entered, Prefix}
use Rattle.th_meaning.specs.World.{give_back, note, yield_weight}
use Rattle.th_flat.specs.declared.op.FlatOp.{FlatOp}
use Rattle.th_flat.specs.declared.op.FlatOp.TheVariants.{OpCall, OpDispatch, OpHidden, OpSupply, OpYield, OpResume}
use Rattle.th_flat.specs.declared.module.FlatUnit.{FlatUnit}
use Rattle.th_flat.specs.Values.{FlatValue, FlatWorld, Status, Fine, Thrown, IsStopped}
use Rattle.th_flat.specs.Program.{FlatProgram}
use Rattle.th_flat.specs.Deeds.{Act, Falls, Jumps, Loads, Stores, Failing, Calls, Leaves, Yields, Nexts, Opens, OpensBody, Puts, Stands, Deed, free, doing}
use Rattle.th_flat.specs.Configs.{Loop, NoLoop, Upto, ByUnit, Here, Stack, Bottom, Call, Paused, Config, Run, Entering, Visiting, Returned, Putting, Over, stuck, weight_of, is_body, frame, words_of, entry_charge, self_of, room_of, inside, freed, leaves_body, is_empty, go_to, body_ends, ends_as, handler, fail_at, fail_to, jump_to, way_of, failure_of, is_call, is_next, open_at, shares_words, loaded, visit, gives_result, with_value, can_enter, entered, finish, op_deed, seen_at_result, back_fine, back_by, back_seen, back_at, deed}
use Rattle.th_flat.proofs.Tame.{resourced, act_world, act_resourced, prefix_refl, TameAct, tame_doing, doing_resourced}

-- a world with no turns, and with no limit on the room
abbrev pub bare_world : FlatWorld → FlatWorld
bare_world w = resourced 0 None w

-- a configuration in the world without them
abbrev pub bare : Config → Config
bare (Run u at loop h held below w) = Run u at loop h held below (bare_world w)
bare (Entering u args below w) = Entering u args below (bare_world w)
bare (Visiting v u at ls held below w) = Visiting v u at ls held below (bare_world w)
bare (Returned s v below w) = Returned s v below (bare_world w)
bare (Putting bytes u at h held below w) = Putting bytes u at h held below (bare_world w)
bare (Over e w) = Over e (bare_world w)

-- the world of a configuration
abbrev pub config_world : Config → FlatWorld
config_world (Run u at loop h held below w) = w
config_world (Entering u args below w) = w
config_world (Visiting v u at ls held below w) = w
config_world (Returned s v below w) = w
config_world (Putting bytes u at h held below w) = w
config_world (Over e w) = w

-- a configuration that comes of a world w: with the same turns and the same trace, and the same but for turns and room where
-- the world has none
pub record Comes (w : FlatWorld) (c c' : Config) : Type 0 where
  pub turns : (config_world c).turns ≡ w.turns
  pub trace : (config_world c).trace ≡ w.trace
  pub same : c' ≡ bare c

comes_if : (w : FlatWorld) (b : Bool) (c d c' d' : Config) → Comes w c c' → Comes w d d' → Comes w (if b then c else d) (if b then c' else d')
comes_if w true c d c' d' x y = x
comes_if w false c d c' d' x y = y

comes_stuck : (w : FlatWorld) → Comes w (stuck w) (stuck (bare_world w))
comes_stuck w = record { turns = refl; trace = refl; same = refl }

-- the world after room was given back
pub record Freed (w v v' : FlatWorld) : Type 0 where
  pub turns : v.turns ≡ w.turns
  pub trace : v.trace ≡ w.trace
  pub same : v' ≡ bare_world v

freed_world : (l : ℕ) (held : Stack) (w : FlatWorld) → Freed w (freed l held w) (freed l held (bare_world w))
freed_world l Bottom w = record { turns = refl; trace = refl; same = refl }
freed_world l (Call u at st ls held loop below) w = record { turns = refl; trace = refl; same = refl }
freed_world l (Paused u at st ls holds home loop rest) w = go (inside loop l) (freed_world l rest (give_back (weight_of u + yield_weight + room_of holds) w))
  where
    go : (b : Bool) → Freed (give_back (weight_of u + yield_weight + room_of holds) w) (freed l rest (give_back (weight_of u + yield_weight + room_of holds) w)) (freed l rest (bare_world w))
        → Freed w (if b then w else freed l rest (give_back (weight_of u + yield_weight + room_of holds) w)) (if b then bare_world w else freed l rest (bare_world w))
    go true again = record { turns = refl; trace = refl; same = refl }
    go false again = record { turns = again.turns; trace = again.trace; same = again.same }

comes_run : (w v v' : FlatWorld) (u : FlatUnit) (at : ℕ) (loop : Loop) (h : Here) (held below : Stack) → Freed w v v' → Comes w (Run u at loop h held below v) (Run u at loop h held below v')
comes_run w v v' u at loop h held below f = record { turns = f.turns; trace = f.trace; same = ap (λ x. Run u at loop h held below x) f.same }

freed_if : (b : Bool) (l : ℕ) (held : Stack) (w : FlatWorld) → Freed w (if b then w else freed l held w) (if b then bare_world w else freed l held (bare_world w))
freed_if true l held w = record { turns = refl; trace = refl; same = refl }
freed_if false l held w = freed_world l held w

comes_go : (l : ℕ) (u : FlatUnit) (h : Here) (held below : Stack) (w : FlatWorld) → Comes w (go_to l u h held below w) (go_to l u h held below (bare_world w))
comes_go l u h held below w = comes_if w (nat_lt l (length u.ops) && (is_body u || not (leaves_body l held) || is_empty h.stack)) _ _ _ _ (comes_run w _ _ u l NoLoop h _ below (freed_if (is_body u) l held w)) (comes_stuck w)

comes_body_ends : (held : Stack) (u : FlatUnit) (s : Status) (v : Option FlatValue) (ls : List (Option FlatValue)) (below : Stack) (w : FlatWorld) → Comes w (body_ends held u s v ls below w) (body_ends held u s v ls below (bare_world w))
comes_body_ends Bottom u s v ls below w = comes_stuck w
comes_body_ends (Call u1 at st ls1 held loop below1) u s v ls below w = comes_stuck w
comes_body_ends (Paused it at st its holds home loop rest) u s v ls below w = record { turns = refl; trace = refl; same = refl }

comes_ends : (u : FlatUnit) (s : Status) (v : Option FlatValue) (ls : List (Option FlatValue)) (held below : Stack) (w : FlatWorld) → Comes w (ends_as u s v ls held below w) (ends_as u s v ls held below (bare_world w))
comes_ends u s v ls held below w = comes_if w (is_body u) _ _ _ _ (comes_body_ends held u s v ls below w) (record { turns = refl; trace = refl; same = refl })

comes_fail_at : (o : Option ℕ) (u : FlatUnit) (s : Status) (ls : List (Option FlatValue)) (held below : Stack) (w : FlatWorld) → Comes w (fail_at o u s ls held below w) (fail_at o u s ls held below (bare_world w))
comes_fail_at None u s ls held below w = comes_ends u s None ls held below w
comes_fail_at (Some l) u s ls held below w = comes_go l u (record { stack = []; locals = ls; status = s }) held below w

comes_fail : (o : Option ℕ) (u : FlatUnit) (at : ℕ) (s : Status) (ls : List (Option FlatValue)) (held below : Stack) (w : FlatWorld) → Comes w (fail_to o u at s ls held below w) (fail_to o u at s ls held below (bare_world w))
comes_fail None u at s ls held below w = comes_stuck w
comes_fail (Some l) u at s ls held below w = comes_fail_at (handler u at l) u s ls held below w

comes_jump : (o : Option ℕ) (u : FlatUnit) (h : Here) (held below : Stack) (w : FlatWorld) → Comes w (jump_to o u h held below w) (jump_to o u h held below (bare_world w))
comes_jump None u h held below w = comes_stuck w
comes_jump (Some l) u h held below w = comes_go l u h held below w

comes_loaded : (o : Option (Option FlatValue)) (u : FlatUnit) (at : ℕ) (h : Here) (held below : Stack) (w : FlatWorld) → Comes w (loaded o u at h held below w) (loaded o u at h held below (bare_world w))
comes_loaded None u at h held below w = comes_stuck w
comes_loaded (Some None) u at h held below w = record { turns = refl; trace = refl; same = refl }
comes_loaded (Some (Some v)) u at h held below w = record { turns = refl; trace = refl; same = refl }

comes_plain : (w : FlatWorld) (u : FlatUnit) (at : ℕ) (loop : Loop) (h : Here) (held below : Stack) → Comes w (Run u at loop h held below w) (Run u at loop h held below (bare_world w))
comes_plain w u at loop h held below = record { turns = refl; trace = refl; same = refl }

comes_open : (o : Option ℕ) (u : FlatUnit) (at : ℕ) (h : Here) (held below : Stack) (w : FlatWorld) → Comes w (open_at o u at h held below w) (open_at o u at h held below (bare_world w))
comes_open None u at h held below w = comes_stuck w
comes_open (Some e) u at h held below w = comes_if w (is_call (slice_get u.ops (at + 1)) && is_next (slice_get u.ops e) && nat_lt (at + 1) e) _ _ _ _ (comes_plain w u _ _ h held below) (comes_stuck w)

comes_visit : (below : Stack) (v : FlatValue) (it : FlatUnit) (at : ℕ) (st : List FlatValue) (ls : List (Option FlatValue)) (holds : Stack) (w : FlatWorld) → Comes w (visit below v it at st ls holds w) (visit below v it at st ls holds (bare_world w))
comes_visit Bottom v it at st ls holds w = comes_stuck w
comes_visit (Call home hat [] hls held NoLoop below) v it at st ls holds w = comes_stuck w
comes_visit (Call home hat (x ∷ hst) hls held loop below) v it at st ls holds w = comes_stuck w
comes_visit (Call home hat [] hls held (Upto first last) below) v it at st ls holds w = record { turns = refl; trace = refl; same = refl }
comes_visit (Call home hat [] hls held (ByUnit of body) below) v it at st ls holds w = record { turns = refl; trace = refl; same = refl }
comes_visit (Paused u pat pst pls h home loop rest) v it at st ls holds w = comes_stuck w

module _ (p : FlatProgram) where
  -- where an act leads
  pub comes_finish : (a : Act) (j f : Option ℕ) (u : FlatUnit) (at : ℕ) (loop : Loop) (h : Here) (held below : Stack) → Comes (act_world a) (finish p a j f u at loop h held below) (finish p (act_resourced 0 None a) j f u at loop h held below)
  comes_finish (Falls st s w) j f u at loop h held below = record { turns = refl; trace = refl; same = refl }
  comes_finish (Jumps st s w) j f u at loop h held below = comes_jump j u _ held below w
  comes_finish (Loads k w) j f u at loop h held below = comes_loaded (slice_get h.locals k) u at h held below w
  comes_finish (Stores k v st w) j f u at loop h held below = comes_if w (nat_lt k (length h.locals)) _ _ _ _ (comes_plain w u _ _ _ held below) (comes_stuck w)
  comes_finish (Failing s w) j f u at loop h held below = comes_fail f u at s h.locals held below w
  comes_finish (Calls g args st w) j f u at loop h held below = record { turns = refl; trace = refl; same = refl }
  comes_finish (Leaves s v w) j f u at loop h held below = comes_if w (gives_result (p.result u.name) v) _ _ _ _ (comes_ends u s v h.locals held below w) (comes_stuck w)
  comes_finish (Yields v st w) j f u at loop h held below = comes_visit below v u at st h.locals held w
  comes_finish (Nexts w) j f u at loop h held below = comes_body_ends held u Fine None h.locals below w
  comes_finish (Opens w) j f u at loop h held below = comes_open j u at h held below w
  comes_finish (OpensBody body w) j f u at loop h held below = comes_if w (is_call (slice_get u.ops (at + 1)) && shares_words u body) _ _ _ _ (comes_plain w u _ _ h held below) (comes_stuck w)
  comes_finish (Puts bytes st w) j f u at loop h held below = record { turns = refl; trace = refl; same = refl }
  comes_finish (Stands x w) j f u at loop h held below = record { turns = refl; trace = refl; same = refl }

  comes_back_fine : (o : Option (List FlatValue)) (loop : Loop) (u : FlatUnit) (at : ℕ) (ls : List (Option FlatValue)) (held below : Stack) (w : FlatWorld) → Comes w (back_fine p o loop u at ls held below w) (back_fine p o loop u at ls held below (bare_world w))
  comes_back_fine None loop u at ls held below w = comes_stuck w
  comes_back_fine (Some st) NoLoop u at ls held below w = comes_plain w u _ _ _ held below
  comes_back_fine (Some st) (Upto first last) u at ls held below w = comes_plain w u _ _ _ held below
  comes_back_fine (Some st) (ByUnit home body) u at ls held below w = comes_plain w u _ _ _ held below

  comes_back_by : (s : Status) (f : ℕ) (v : Option FlatValue) (label : Option ℕ) (u : FlatUnit) (at : ℕ) (st : List FlatValue) (ls : List (Option FlatValue)) (held : Stack) (loop : Loop) (below : Stack) (w : FlatWorld) → Comes w (back_by p s f v label u at st ls held loop below w) (back_by p s f v label u at st ls held loop below (bare_world w))
  comes_back_by Fine f v label u at st ls held loop below w = comes_back_fine (with_value f v st) loop u at ls held below w
  comes_back_by (Thrown x y) f v label u at st ls held loop below w = comes_fail label u at (Thrown x y) ls held below w
  comes_back_by IsStopped f v label u at st ls held loop below w = comes_fail label u at IsStopped ls held below w

  comes_back_seen : (o : Option (Option FlatValue)) (s : Status) (f : ℕ) (label : Option ℕ) (u : FlatUnit) (at : ℕ) (st : List FlatValue) (ls : List (Option FlatValue)) (held : Stack) (loop : Loop) (below : Stack) (w : FlatWorld) → Comes w (back_seen p o s f label u at st ls held loop below w) (back_seen p o s f label u at st ls held loop below (bare_world w))
  comes_back_seen None s f label u at st ls held loop below w = comes_stuck w
  comes_back_seen (Some v) s f label u at st ls held loop below w = comes_back_by s f v label u at st ls held loop below w

  pub comes_back : (op : Option FlatOp) (s : Status) (v : Option FlatValue) (u : FlatUnit) (at : ℕ) (st : List FlatValue) (ls : List (Option FlatValue)) (held : Stack) (loop : Loop) (below : Stack) (w : FlatWorld) → Comes w (back_at p op s v u at st ls held loop below w) (back_at p op s v u at st ls held loop below (bare_world w))
  comes_back (Some (OpCall unit n f l)) s v u at st ls held loop below w = comes_back_seen (seen_at_result p (p.called_result unit) v) s f (Some l) u at st ls held loop below w
  comes_back (Some (OpDispatch head method n f l)) s v u at st ls held loop below w = comes_back_seen (seen_at_result p (p.dispatched_result head method) v) s f (Some l) u at st ls held loop below w
  comes_back (Some (OpHidden class method n f l)) s v u at st ls held loop below w = comes_back_by s f v (Some l) u at st ls held loop below w
  comes_back (Some (OpSupply n f l)) s v u at st ls held loop below w = comes_back_by s f v (Some l) u at st ls held loop below w
  comes_back (Some (OpYield l)) s v u at st ls held loop below w = comes_back_by s 0 v (Some l) u at st ls held loop below w
  comes_back (Some OpResume) s v u at st ls held loop below w = comes_back_by s 0 v None u at st ls held loop below w
  comes_back _ s v u at st ls held loop below w = comes_stuck w

  -- an act has the turns and the room of the world that it comes of
  pub act_turns : (f : FlatWorld → Act) → TameAct f → (w : FlatWorld) → (act_world (f w)).turns ≡ w.turns
  act_turns f t w = ap (λ a. (act_world a).turns) (t.commutes w.turns w.room w) ∙ turns_there (f w)
    where
      turns_there : (a : Act) → (act_world (act_resourced w.turns w.room a)).turns ≡ w.turns
      turns_there (Falls st s w1) = refl
      turns_there (Jumps st s w1) = refl
      turns_there (Loads k w1) = refl
      turns_there (Stores k v st w1) = refl
      turns_there (Failing s w1) = refl
      turns_there (Calls u args st w1) = refl
      turns_there (Leaves s v w1) = refl
      turns_there (Yields v st w1) = refl
      turns_there (Nexts w1) = refl
      turns_there (Opens w1) = refl
      turns_there (OpensBody u w1) = refl
      turns_there (Puts bytes st w1) = refl
      turns_there (Stands h w1) = refl

  pub act_room : (f : FlatWorld → Act) → TameAct f → (w : FlatWorld) → (act_world (f w)).room ≡ w.room
  act_room f t w = ap (λ a. (act_world a).room) (t.commutes w.turns w.room w) ∙ room_there (f w)
    where
      room_there : (a : Act) → (act_world (act_resourced w.turns w.room a)).room ≡ w.room
      room_there (Falls st s w1) = refl
      room_there (Jumps st s w1) = refl
      room_there (Loads k w1) = refl
      room_there (Stores k v st w1) = refl
      room_there (Failing s w1) = refl
      room_there (Calls u args st w1) = refl
      room_there (Leaves s v w1) = refl
      room_there (Yields v st w1) = refl
      room_there (Nexts w1) = refl
      room_there (Opens w1) = refl
      room_there (OpensBody u w1) = refl
      room_there (Puts bytes st w1) = refl
      room_there (Stands h w1) = refl

  -- what a step does once its charge is taken: it keeps the turns, adds to the trace, and is the same but for turns and room where there are none
  pub record Does (c : Config) (w : FlatWorld) : Type 0 where
    pub charge : (deed p (bare c)).charge ≡ (deed p c).charge
    pub turns : (config_world ((deed p c).act w)).turns ≡ w.turns
    pub trace : Prefix w.trace (config_world ((deed p c).act w)).trace
    pub same : (deed p (bare c)).act (bare_world w) ≡ bare ((deed p c).act w)

  does_op : (op : Option FlatOp) (u : FlatUnit) (at : ℕ) (loop : Loop) (h : Here) (held below : Stack) (w0 w : FlatWorld)
      → ((op_deed p op u at loop h held below (bare_world w0)).charge ≡ (op_deed p op u at loop h held below w0).charge)
      × ((config_world ((op_deed p op u at loop h held below w0).act w)).turns ≡ w.turns)
      × Prefix w.trace (config_world ((op_deed p op u at loop h held below w0).act w)).trace
      × ((op_deed p op u at loop h held below (bare_world w0)).act (bare_world w) ≡ bare ((op_deed p op u at loop h held below w0).act w))
  does_op None u at loop h held below w0 w = (refl, refl, prefix_refl w.trace, refl)
  does_op (Some op) u at loop h held below w0 w =
      let same : doing p op (self_of u h.locals) h.stack h.status (bare_world w0) ≡ doing p op (self_of u h.locals) h.stack h.status w0 = doing_resourced p 0 None op (self_of u h.locals) h.stack h.status w0 in
      let tame : TameAct (doing p op (self_of u h.locals) h.stack h.status w0).act = tame_doing p op (self_of u h.locals) h.stack h.status w0 in
      let comes : Comes (act_world ((doing p op (self_of u h.locals) h.stack h.status w0).act w)) (finish p ((doing p op (self_of u h.locals) h.stack h.status w0).act w) (way_of op) (failure_of op) u at loop h held below) (finish p (act_resourced 0 None ((doing p op (self_of u h.locals) h.stack h.status w0).act w)) (way_of op) (failure_of op) u at loop h held below) = comes_finish ((doing p op (self_of u h.locals) h.stack h.status w0).act w) (way_of op) (failure_of op) u at loop h held below in (
        ap (λ d. d.charge) same,
        comes.turns ∙ act_turns _ tame w,
        subst (λ t. Prefix w.trace t) (sym comes.trace) (tame.later w),
        ap (λ d. finish p (d.act (bare_world w)) (way_of op) (failure_of op) u at loop h held below) same ∙ ap (λ a. finish p a (way_of op) (failure_of op) u at loop h held below) (tame.commutes 0 None w) ∙ comes.same,
      )

  does_comes : (c : Config) (w : FlatWorld) → (deed p (bare c)).charge ≡ (deed p c).charge → Comes w ((deed p c).act w) ((deed p (bare c)).act (bare_world w)) → Does c w
  does_comes c w charge comes = record { charge = charge; turns = comes.turns; trace = subst (λ t. Prefix w.trace t) (sym comes.trace) (prefix_refl w.trace); same = comes.same }

  -- the entry of a unit
  abbrev pub enter_deed : Bool → FlatUnit → List FlatValue → Stack → Deed Config
  enter_deed b u args below =
      if b
      then record { charge = entry_charge u; act = λ w1. Run u 0 NoLoop (record { stack = []; locals = frame (words_of u) args; status = Fine }) Bottom below (entered u w1) }
      else free stuck

  entry_facts : (e : Bool) (name : List ℕ) (w : FlatWorld) → ((if e then note (Entered name) w else w).turns ≡ w.turns) × Prefix w.trace (if e then note (Entered name) w else w).trace × ((if e then note (Entered name) (bare_world w) else bare_world w) ≡ bare_world (if e then note (Entered name) w else w))
  entry_facts true name w = (refl, record { more = Entered name ∷ []; is = refl }, refl)
  entry_facts false name w = (refl, prefix_refl w.trace, refl)

  does_enter : (b : Bool) (u : FlatUnit) (args : List FlatValue) (below : Stack) (w : FlatWorld)
      → ((config_world ((enter_deed b u args below).act w)).turns ≡ w.turns) × Prefix w.trace (config_world ((enter_deed b u args below).act w)).trace × ((enter_deed b u args below).act (bare_world w) ≡ bare ((enter_deed b u args below).act w))
  does_enter false u args below w = (refl, prefix_refl w.trace, refl)
  does_enter true u args below w =
      let facts : ((entered u w).turns ≡ w.turns) × Prefix w.trace (entered u w).trace × (entered u (bare_world w) ≡ bare_world (entered u w)) = entry_facts (nat_lt u.kind 5) u.name w in
      (facts.0, facts.1, ap (λ x. Run u 0 NoLoop (record { stack = []; locals = frame (words_of u) args; status = Fine }) Bottom below x) facts.2)

  pub does : (c : Config) (w : FlatWorld) → Does c w
  does (Run u at loop h held below w0) w = let (a, b, c, d) = does_op (slice_get u.ops at) u at loop h held below w0 w in record { charge = a; turns = b; trace = c; same = d }
  does (Entering u args below w0) w = let (a, b, c) = does_enter (can_enter u below) u args below w in record { charge = refl; turns = a; trace = b; same = c }
  does (Visiting v u at ls held below w0) w = does_comes (Visiting v u at ls held below w0) w refl (comes_plain w u _ _ _ held below)
  does (Returned s v Bottom w0) w = does_comes (Returned s v Bottom w0) w refl (record { turns = refl; trace = refl; same = refl })
  does (Returned s v (Call u at st ls held loop below) w0) w = does_comes (Returned s v (Call u at st ls held loop below) w0) w refl (comes_back (slice_get u.ops at) s v u at st ls held loop below w)
  does (Returned s v (Paused u at st ls holds home loop rest) w0) w = does_comes (Returned s v (Paused u at st ls holds home loop rest) w0) w refl (comes_stuck w)
  does (Putting [] u at h held below w0) w = does_comes (Putting [] u at h held below w0) w refl (comes_plain w u _ _ h held below)
  does (Putting (b ∷ bytes) u at h held below w0) w = record { charge = refl; turns = refl; trace = record { more = Put b ∷ []; is = refl }; same = refl }
  does (Over e w0) w = does_comes (Over e w0) w refl (record { turns = refl; trace = refl; same = refl })
