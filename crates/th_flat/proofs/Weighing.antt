-- The room that is left and the room that is in use are together the room at the start.
use Rattle.std.proofs.Common.{◌≡◌, ℕ, ◌+◌, ◌*◌, ◌≤◌, Bool, true, false, ◌&&◌, ◌||◌, not, List, [], ◌∷◌, Option, Some, None, refl, sym, ap, ◌∙◌, subst, length, arith, nat_eq, nat_lt}
use Rattle.std.proofs.lemmas.Bool.{eqb-true}
use Rattle.std.specs.Prelude.{slice_get, option_map, if◌then◌else◌}
use Rattle.th_meaning.specs.World.{give_back, note, yield_weight}
use Rattle.th_world.specs.Event.{Entered, Put}
use Rattle.th_flat.specs.declared.op.FlatOp.{FlatOp}
use Rattle.th_flat.specs.declared.op.FlatOp.TheVariants.{OpCall, OpDispatch, OpHidden, OpSupply, OpYield, OpResume}
use Rattle.th_flat.specs.declared.module.FlatUnit.{FlatUnit}
use Rattle.th_flat.specs.Values.{FlatValue, FlatWorld, Status, Fine, Thrown, IsStopped}
use Rattle.th_flat.specs.Program.{FlatProgram}
use Rattle.th_flat.specs.Deeds.{Act, Falls, Jumps, Loads, Stores, Failing, Calls, Leaves, Yields, Nexts, Opens, OpensBody, Puts, Stands, no_charge, takes_room, doing}
use Rattle.th_flat.specs.Configs.{Loop, NoLoop, Upto, ByUnit, Here, Stack, Bottom, Call, Paused, Config, Run, Entering, Visiting, Returned, Putting, Over, stuck, weight_of, entry_charge, is_body, self_of, room_of, inside, kept, freed, leaves_body, is_empty, go_to, home_unit, body_ends, ends_as, handler, fail_at, fail_to, jump_to, way_of, failure_of, is_call, is_next, open_at, shares_words, open_body, loaded, visit, gives_result, with_value, can_enter, entered, finish, op_deed, seen_at_result, back_fine, back_by, back_seen, back_at, deed}
use Rattle.th_flat.specs.Runs.{room_of_charge, room_below, open_room, need}
use Rattle.th_flat.proofs.Tame.{act_world, TameAct, tame_doing}
use Rattle.th_flat.proofs.Bare.{act_room, enter_deed}

-- the room that is left and the room in use are the whole, where there is a limit
abbrev pub RoomIs : Option ℕ → FlatWorld → (used : ℕ) → Type 0
RoomIs None w used = w.room ≡ None
RoomIs (Some whole) w used = (r : ℕ) × (w.room ≡ Some r) × (r + used ≡ whole)

-- a loop body has the weight of its home; so have the bodies that unit u runs, and the iterators that it holds
abbrev pub LoopFor : FlatUnit → Loop → Type 0
LoopFor u NoLoop = Unit {0}
LoopFor u (Upto first last) = Unit {0}
LoopFor u (ByUnit home body) = weight_of body ≡ weight_of u

abbrev pub HeldBy : FlatUnit → Stack → Type 0
HeldBy u Bottom = Unit {0}
HeldBy u (Call u1 at st ls held loop below) = Unit {0}
HeldBy u (Paused it at st ls holds home loop rest) = (weight_of u ≡ weight_of (home_unit loop u)) × LoopFor (home_unit loop u) loop × HeldBy it holds × HeldBy (home_unit loop u) rest

abbrev pub BelowFits : Stack → Type 0
BelowFits Bottom = Unit {0}
BelowFits (Call u at st ls held loop below) = HeldBy u held × LoopFor u loop × BelowFits below
BelowFits (Paused it at st ls holds home loop rest) = Unit {0}

abbrev pub Fits : Config → Type 0
Fits (Run u at loop h held below w) = LoopFor u loop × HeldBy u held × BelowFits below
Fits (Entering u args below w) = BelowFits below
Fits (Visiting v u at ls held below w) = HeldBy u held × BelowFits below × (yield_weight ≤ room_of held)
Fits (Returned s v below w) = BelowFits below
Fits (Putting bytes u at h held below w) = HeldBy u held × BelowFits below
Fits (Over e w) = Unit {0}

-- the room in use is that of the open calls and yields and, beside it, x
abbrev pub Balanced : Option ℕ → (x : ℕ) → Config → Type 0
Balanced whole x (Run u at loop h held below w) = RoomIs whole w (x + open_room (Run u at loop h held below w))
Balanced whole x (Entering u args below w) = RoomIs whole w (x + open_room (Entering u args below w))
Balanced whole x (Visiting v u at ls held below w) = RoomIs whole w (x + open_room (Visiting v u at ls held below w))
Balanced whole x (Returned s v below w) = RoomIs whole w (x + open_room (Returned s v below w))
Balanced whole x (Putting bytes u at h held below w) = RoomIs whole w (x + open_room (Putting bytes u at h held below w))
Balanced whole x (Over e w) = Unit {0}

pub record Good (whole : Option ℕ) (x : ℕ) (c : Config) : Type 0 where
  pub fits : Fits c
  pub balanced : Balanced whole x c

-- the same use in other words, and in a world with the same room
room_at : (whole : Option ℕ) (w : FlatWorld) (a b : ℕ) → a ≡ b → RoomIs whole w a → RoomIs whole w b
room_at whole w a b e r = subst (λ n. RoomIs whole w n) e r

pub room_same : (whole : Option ℕ) (w v : FlatWorld) (a : ℕ) → v.room ≡ w.room → RoomIs whole w a → RoomIs whole v a
room_same None w v a e r = e ∙ r
room_same (Some n) w v a e (r, is, sum) = (r, e ∙ is, sum)

back_room : (whole : Option ℕ) (w : FlatWorld) (k a : ℕ) → RoomIs whole w (k + a) → RoomIs whole (give_back k w) a
back_room None w k a r = ap (option_map (λ room. room + k)) r
back_room (Some n) w k a (r, is, sum) = (r + k, ap (option_map (λ room. room + k)) is, omega arith)

freed_room : (whole : Option ℕ) (l : ℕ) (held : Stack) (w : FlatWorld) (a : ℕ) → RoomIs whole w (room_of held + a) → RoomIs whole (freed l held w) (room_of (kept l held) + a)
freed_room whole l Bottom w a r = r
freed_room whole l (Call u at st ls held loop below) w a r = r
freed_room whole l (Paused u at st ls holds home loop rest) w a r = go (inside loop l)
    (freed_room whole l rest (give_back (weight_of u + yield_weight + room_of holds) w) a (back_room whole w (weight_of u + yield_weight + room_of holds) (room_of rest + a) (room_at whole w _ _ (omega arith) r)))
  where
    go : (b : Bool) → RoomIs whole (freed l rest (give_back (weight_of u + yield_weight + room_of holds) w)) (room_of (kept l rest) + a)
        → RoomIs whole (if b then w else freed l rest (give_back (weight_of u + yield_weight + room_of holds) w)) (room_of (if b then Paused u at st ls holds home loop rest else kept l rest) + a)
    go true again = r
    go false again = again

kept_held : (u : FlatUnit) (l : ℕ) (held : Stack) → HeldBy u held → HeldBy u (kept l held)
kept_held u l Bottom h = tt
kept_held u l (Call u1 at st ls held loop below) h = tt
kept_held u l (Paused it at st ls holds home NoLoop rest) h = kept_held u l rest h.3
kept_held u l (Paused it at st ls holds home (Upto first last) rest) h = go (inside (Upto first last) l) (kept_held u l rest h.3)
  where
    go : (b : Bool) → HeldBy u (kept l rest) → HeldBy u (if b then Paused it at st ls holds home (Upto first last) rest else kept l rest)
    go true again = h
    go false again = again
kept_held u l (Paused it at st ls holds home (ByUnit of body) rest) h = h

-- a unit at work with what it holds and what lies below
pub record Works (whole : Option ℕ) (x : ℕ) (u : FlatUnit) (held below : Stack) (w : FlatWorld) : Type 0 where
  pub held_by : HeldBy u held
  pub below_fits : BelowFits below
  pub room : RoomIs whole w (x + (weight_of u + room_of held + room_below below))

module _ (p : FlatProgram) where
  -- the room that a step takes for a call or a yield that it opens
  abbrev pub opening : Config → ℕ
  opening (Run u at loop h held below w) = 0
  opening (Entering u args below w) = need p (Entering u args below w)
  opening (Visiting v u at ls held below w) = need p (Visiting v u at ls held below w)
  opening (Returned s v below w) = 0
  opening (Putting bytes u at h held below w) = 0
  opening (Over e w) = 0

module _ (whole : Option ℕ) (x : ℕ) where
  good_stuck : (w : FlatWorld) → Good whole x (stuck w)
  good_stuck w = record { fits = tt; balanced = tt }

  good_when : (b : Bool) (c : Config) (w : FlatWorld) → (b ≡ true → Good whole x c) → Good whole x (if b then c else stuck w)
  good_when true c w g = g refl
  good_when false c w g = good_stuck w

  good_run : (u : FlatUnit) (at : ℕ) (loop : Loop) (h : Here) (held below : Stack) (w : FlatWorld) → LoopFor u loop → Works whole x u held below w → Good whole x (Run u at loop h held below w)
  good_run u at loop h held below w l k = record { fits = (l, k.held_by, k.below_fits); balanced = k.room }

  works_kept : (b : Bool) (l : ℕ) (u : FlatUnit) (held below : Stack) (w : FlatWorld) → Works whole x u held below w → Works whole x u (if b then held else kept l held) below (if b then w else freed l held w)
  works_kept true l u held below w k = k
  works_kept false l u held below w k = record {
    held_by = kept_held u l held k.held_by;
    below_fits = k.below_fits;
    room = room_at whole _ _ _ (omega arith) (freed_room whole l held w (x + weight_of u + room_below below) (room_at whole w _ _ (omega arith) k.room));
  }

  good_go : (l : ℕ) (u : FlatUnit) (h : Here) (held below : Stack) (w : FlatWorld) → Works whole x u held below w → Good whole x (go_to l u h held below w)
  good_go l u h held below w k = good_when (nat_lt l (length u.ops) && (is_body u || not (leaves_body l held) || is_empty h.stack)) _ w (λ _. good_run u l NoLoop h _ below _ tt (works_kept (is_body u) l u held below w k))

  good_body_ends : (held : Stack) (u : FlatUnit) (s : Status) (v : Option FlatValue) (ls : List (Option FlatValue)) (below : Stack) (w : FlatWorld) → Works whole x u held below w → Good whole x (body_ends held u s v ls below w)
  good_body_ends Bottom u s v ls below w k = good_stuck w
  good_body_ends (Call u1 at st ls1 held loop below1) u s v ls below w k = good_stuck w
  good_body_ends (Paused it at st its holds home loop rest) u s v ls below w k = record {
    fits = (k.held_by.2, tt, (k.held_by.3, k.held_by.1, k.below_fits));
    balanced = back_room whole w yield_weight _ (room_at whole w _ _ (let e : weight_of u ≡ weight_of (home_unit loop u) = k.held_by.0 in omega arith) k.room);
  }

  good_ends : (u : FlatUnit) (s : Status) (v : Option FlatValue) (ls : List (Option FlatValue)) (held below : Stack) (w : FlatWorld) → Works whole x u held below w → Good whole x (ends_as u s v ls held below w)
  good_ends u s v ls held below w k = go (is_body u)
    where
      go : (b : Bool) → Good whole x (if b then body_ends held u s v ls below w else Returned s v below (give_back (weight_of u + room_of held) w))
      go true = good_body_ends held u s v ls below w k
      go false = record { fits = k.below_fits; balanced = back_room whole w (weight_of u + room_of held) (x + room_below below) (room_at whole w _ _ (omega arith) k.room) }

  good_fail_at : (o : Option ℕ) (u : FlatUnit) (s : Status) (ls : List (Option FlatValue)) (held below : Stack) (w : FlatWorld) → Works whole x u held below w → Good whole x (fail_at o u s ls held below w)
  good_fail_at None u s ls held below w k = good_ends u s None ls held below w k
  good_fail_at (Some l) u s ls held below w k = good_go l u (record { stack = []; locals = ls; status = s }) held below w k

  good_fail : (o : Option ℕ) (u : FlatUnit) (at : ℕ) (s : Status) (ls : List (Option FlatValue)) (held below : Stack) (w : FlatWorld) → Works whole x u held below w → Good whole x (fail_to o u at s ls held below w)
  good_fail None u at s ls held below w k = good_stuck w
  good_fail (Some l) u at s ls held below w k = good_fail_at (handler u at l) u s ls held below w k

  good_jump : (o : Option ℕ) (u : FlatUnit) (h : Here) (held below : Stack) (w : FlatWorld) → Works whole x u held below w → Good whole x (jump_to o u h held below w)
  good_jump None u h held below w k = good_stuck w
  good_jump (Some l) u h held below w k = good_go l u h held below w k

  good_loaded : (o : Option (Option FlatValue)) (u : FlatUnit) (at : ℕ) (h : Here) (held below : Stack) (w : FlatWorld) → Works whole x u held below w → Good whole x (loaded o u at h held below w)
  good_loaded None u at h held below w k = good_stuck w
  good_loaded (Some None) u at h held below w k = record { fits = tt; balanced = tt }
  good_loaded (Some (Some v)) u at h held below w k = good_run u _ NoLoop _ held below w tt k

  good_open : (o : Option ℕ) (u : FlatUnit) (at : ℕ) (h : Here) (held below : Stack) (w : FlatWorld) → Works whole x u held below w → Good whole x (open_at o u at h held below w)
  good_open None u at h held below w k = good_stuck w
  good_open (Some e) u at h held below w k = good_when (is_call (slice_get u.ops (at + 1)) && is_next (slice_get u.ops e) && nat_lt (at + 1) e) _ w (λ _. good_run u _ (Upto (at + 2) (e + 1)) h held below w tt k)

  -- the weight of a loop body that has the words of its home's open call
  and_left : (a b : Bool) → (a && b) ≡ true → a ≡ true
  and_left true b e = refl
  and_left false b e = absurd (cc)

  and_right : (a b : Bool) → (a && b) ≡ true → b ≡ true
  and_right true b e = e
  and_right false b e = absurd (cc)

  not_true : (b : Bool) → not b ≡ true → b ≡ false
  not_true true e = absurd (cc)
  not_true false e = refl

  equal_of : (m n : ℕ) → nat_eq m n ≡ true → m ≡ n
  equal_of m n e = eqb-true m n e

  same_weight : (home body : FlatUnit) → shares_words home body ≡ true → weight_of body ≡ weight_of home
  same_weight home body e =
      let depth : body.depth ≡ home.depth = equal_of body.depth home.depth (and_right (not (nat_eq home.kind 6) && is_body body && nat_eq body.args home.args && nat_eq body.locals home.locals) (nat_eq body.depth home.depth) e) in
      let front : (not (nat_eq home.kind 6) && is_body body && nat_eq body.args home.args && nat_eq body.locals home.locals) ≡ true = and_left _ (nat_eq body.depth home.depth) e in
      let locals : body.locals ≡ home.locals = equal_of body.locals home.locals (and_right (not (nat_eq home.kind 6) && is_body body && nat_eq body.args home.args) (nat_eq body.locals home.locals) front) in
      let kinds : (not (nat_eq home.kind 6) && is_body body) ≡ true = and_left _ (nat_eq body.args home.args) (and_left _ (nat_eq body.locals home.locals) front) in
      let body_kind : body.kind ≡ 5 = equal_of body.kind 5 (and_right (not (nat_eq home.kind 6)) (is_body body) kinds) in
      let home_kind : nat_eq home.kind 6 ≡ false = not_true (nat_eq home.kind 6) (and_left (not (nat_eq home.kind 6)) (is_body body) kinds) in
      ap (λ k. if nat_eq k 6 then 0 else 256 + 4 * (body.locals + body.depth)) body_kind
      ∙ ap (λ l. 256 + 4 * (l + body.depth)) locals ∙ ap (λ d. 256 + 4 * (home.locals + d)) depth
      ∙ sym (ap (λ b. if b then 0 else 256 + 4 * (home.locals + home.depth)) home_kind)

  good_open_body : (body u : FlatUnit) (at : ℕ) (h : Here) (held below : Stack) (w : FlatWorld) → Works whole x u held below w → Good whole x (open_body body u at h held below w)
  good_open_body body u at h held below w k = good_when (is_call (slice_get u.ops (at + 1)) && shares_words u body) _ w (λ e. good_run u _ (ByUnit u body) h held below w (same_weight u body (and_right (is_call (slice_get u.ops (at + 1))) (shares_words u body) e)) k)

  good_visit : (below : Stack) (v : FlatValue) (it : FlatUnit) (at : ℕ) (st : List FlatValue) (ls : List (Option FlatValue)) (holds : Stack) (w : FlatWorld) → Works whole x it holds below w → Good whole x (visit below v it at st ls holds w)
  good_visit Bottom v it at st ls holds w k = good_stuck w
  good_visit (Call home hat [] hls held NoLoop below) v it at st ls holds w k = good_stuck w
  good_visit (Call home hat (y ∷ hst) hls held loop below) v it at st ls holds w k = good_stuck w
  good_visit (Call home hat [] hls held (Upto first last) below) v it at st ls holds w k = record {
    fits = ((refl, tt, k.held_by, k.below_fits.0), k.below_fits.2, omega arith);
    balanced = room_at whole w _ _ (omega arith) k.room;
  }
  good_visit (Call home hat [] hls held (ByUnit of body) below) v it at st ls holds w k = record {
    fits = ((k.below_fits.1, k.below_fits.1, k.held_by, k.below_fits.0), k.below_fits.2, omega arith);
    balanced = room_at whole w _ _ (let e : weight_of body ≡ weight_of home = k.below_fits.1 in omega arith) k.room;
  }
  good_visit (Paused u pat pst pls h home loop rest) v it at st ls holds w k = good_stuck w

  module _ (p : FlatProgram) where
    good_finish : (a : Act) (j f : Option ℕ) (u : FlatUnit) (at : ℕ) (loop : Loop) (h : Here) (held below : Stack) → LoopFor u loop → Works whole x u held below (act_world a) → Good whole x (finish p a j f u at loop h held below)
    good_finish (Falls st s w) j f u at loop h held below l k = good_run u _ NoLoop _ held below w tt k
    good_finish (Jumps st s w) j f u at loop h held below l k = good_jump j u _ held below w k
    good_finish (Loads i w) j f u at loop h held below l k = good_loaded (slice_get h.locals i) u at h held below w k
    good_finish (Stores i v st w) j f u at loop h held below l k = good_when (nat_lt i (length h.locals)) _ w (λ _. good_run u _ NoLoop _ held below w tt k)
    good_finish (Failing s w) j f u at loop h held below l k = good_fail f u at s h.locals held below w k
    good_finish (Calls g args st w) j f u at loop h held below l k = record { fits = (k.held_by, l, k.below_fits); balanced = k.room }
    good_finish (Leaves s v w) j f u at loop h held below l k = good_when (gives_result (p.result u.name) v) _ w (λ _. good_ends u s v h.locals held below w k)
    good_finish (Yields v st w) j f u at loop h held below l k = good_visit below v u at st h.locals held w k
    good_finish (Nexts w) j f u at loop h held below l k = good_body_ends held u Fine None h.locals below w k
    good_finish (Opens w) j f u at loop h held below l k = good_open j u at h held below w k
    good_finish (OpensBody body w) j f u at loop h held below l k = good_open_body body u at h held below w k
    good_finish (Puts bytes st w) j f u at loop h held below l k = record { fits = (k.held_by, k.below_fits); balanced = k.room }
    good_finish (Stands e w) j f u at loop h held below l k = record { fits = tt; balanced = tt }

    good_op : (op : Option FlatOp) (u : FlatUnit) (at : ℕ) (loop : Loop) (h : Here) (held below : Stack) (w0 w : FlatWorld) → LoopFor u loop → Works whole x u held below w → Good whole x ((op_deed p op u at loop h held below w0).act w)
    good_op None u at loop h held below w0 w l k = good_stuck w
    good_op (Some op) u at loop h held below w0 w l k =
        let tame : TameAct (doing p op (self_of u h.locals) h.stack h.status w0).act = tame_doing p op (self_of u h.locals) h.stack h.status w0 in
        good_finish ((doing p op (self_of u h.locals) h.stack h.status w0).act w) (way_of op) (failure_of op) u at loop h held below l
        (record { held_by = k.held_by; below_fits = k.below_fits; room = room_same whole w (act_world ((doing p op (self_of u h.locals) h.stack h.status w0).act w)) _ (act_room p _ tame w) k.room })

    good_back_fine : (o : Option (List FlatValue)) (loop : Loop) (u : FlatUnit) (at : ℕ) (ls : List (Option FlatValue)) (held below : Stack) (w : FlatWorld) → Works whole x u held below w → Good whole x (back_fine p o loop u at ls held below w)
    good_back_fine None loop u at ls held below w k = good_stuck w
    good_back_fine (Some st) NoLoop u at ls held below w k = good_run u _ NoLoop _ held below w tt k
    good_back_fine (Some st) (Upto first last) u at ls held below w k = good_run u _ NoLoop _ held below w tt k
    good_back_fine (Some st) (ByUnit home body) u at ls held below w k = good_run u _ NoLoop _ held below w tt k

    good_back_by : (s : Status) (f : ℕ) (v : Option FlatValue) (label : Option ℕ) (u : FlatUnit) (at : ℕ) (st : List FlatValue) (ls : List (Option FlatValue)) (held : Stack) (loop : Loop) (below : Stack) (w : FlatWorld) → Works whole x u held below w → Good whole x (back_by p s f v label u at st ls held loop below w)
    good_back_by Fine f v label u at st ls held loop below w k = good_back_fine (with_value f v st) loop u at ls held below w k
    good_back_by (Thrown y z) f v label u at st ls held loop below w k = good_fail label u at (Thrown y z) ls held below w k
    good_back_by IsStopped f v label u at st ls held loop below w k = good_fail label u at IsStopped ls held below w k

    good_back_seen : (o : Option (Option FlatValue)) (s : Status) (f : ℕ) (label : Option ℕ) (u : FlatUnit) (at : ℕ) (st : List FlatValue) (ls : List (Option FlatValue)) (held : Stack) (loop : Loop) (below : Stack) (w : FlatWorld) → Works whole x u held below w → Good whole x (back_seen p o s f label u at st ls held loop below w)
    good_back_seen None s f label u at st ls held loop below w k = good_stuck w
    good_back_seen (Some v) s f label u at st ls held loop below w k = good_back_by s f v label u at st ls held loop below w k

    good_back : (op : Option FlatOp) (s : Status) (v : Option FlatValue) (u : FlatUnit) (at : ℕ) (st : List FlatValue) (ls : List (Option FlatValue)) (held : Stack) (loop : Loop) (below : Stack) (w : FlatWorld) → Works whole x u held below w → Good whole x (back_at p op s v u at st ls held loop below w)
    good_back (Some (OpCall unit n f l)) s v u at st ls held loop below w k = good_back_seen (seen_at_result p (p.called_result unit) v) s f (Some l) u at st ls held loop below w k
    good_back (Some (OpDispatch head method n f l)) s v u at st ls held loop below w k = good_back_seen (seen_at_result p (p.dispatched_result head method) v) s f (Some l) u at st ls held loop below w k
    good_back (Some (OpHidden class method n f l)) s v u at st ls held loop below w k = good_back_by s f v (Some l) u at st ls held loop below w k
    good_back (Some (OpSupply n f l)) s v u at st ls held loop below w k = good_back_by s f v (Some l) u at st ls held loop below w k
    good_back (Some (OpYield l)) s v u at st ls held loop below w k = good_back_by s 0 v (Some l) u at st ls held loop below w k
    good_back (Some OpResume) s v u at st ls held loop below w k = good_back_by s 0 v None u at st ls held loop below w k
    good_back _ s v u at st ls held loop below w k = good_stuck w

    room_entered : (b : Bool) (name : List ℕ) (w : FlatWorld) → (if b then note (Entered name) w else w).room ≡ w.room
    room_entered true name w = refl
    room_entered false name w = refl

    entry_room : (b : Bool) (n : ℕ) → room_of_charge (if b then no_charge else takes_room (if b then 0 else n)) ≡ (if b then 0 else n)
    entry_room true n = refl
    entry_room false n = refl

    good_enter : (b : Bool) (u : FlatUnit) (args : List FlatValue) (below : Stack) (w : FlatWorld) → BelowFits below
        → RoomIs whole w (x + (room_below below + room_of_charge (enter_deed p b u args below).charge)) → Good whole x ((enter_deed p b u args below).act w)
    good_enter false u args below w k r = good_stuck w
    good_enter true u args below w k r =
        let taken : room_of_charge (entry_charge u) ≡ weight_of u = entry_room (nat_eq u.kind 6) (256 + 4 * (u.locals + u.depth)) in
        record { fits = (tt, tt, k); balanced = room_same whole w (entered u w) _ (room_entered (nat_lt u.kind 5) u.name w) (room_at whole w _ _ (omega arith) r) }

    -- what a step leads to once its charge is taken
    pub good_deed : (c : Config) (w : FlatWorld) → Fits c → RoomIs whole w (x + (open_room c + opening p c)) → Good whole x ((deed p c).act w)
    good_deed (Run u at loop h held below w0) w k r = good_op (slice_get u.ops at) u at loop h held below w0 w k.0 (record { held_by = k.1; below_fits = k.2; room = room_at whole w _ _ (omega arith) r })
    good_deed (Entering u args below w0) w k r = good_enter (can_enter u below) u args below w k r
    good_deed (Visiting v u at ls held below w0) w k r = let more : yield_weight ≤ room_of held = k.2 in good_run u at NoLoop _ held below w tt (record { held_by = k.0; below_fits = k.1; room = room_at whole w _ _ (omega arith) r })
    good_deed (Returned s v Bottom w0) w k r = record { fits = tt; balanced = tt }
    good_deed (Returned s v (Call u at st ls held loop below) w0) w k r = good_back (slice_get u.ops at) s v u at st ls held loop below w (record { held_by = k.0; below_fits = k.2; room = room_at whole w _ _ (omega arith) r })
    good_deed (Returned s v (Paused u at st ls holds home loop rest) w0) w k r = good_stuck w
    good_deed (Putting [] u at h held below w0) w k r = good_run u at NoLoop h held below w tt (record { held_by = k.0; below_fits = k.1; room = room_at whole w _ _ (omega arith) r })
    good_deed (Putting (b ∷ bytes) u at h held below w0) w k r = record { fits = k; balanced = room_same whole w (note (Put b) w) _ refl (room_at whole w _ _ (omega arith) r) }
    good_deed (Over e w0) w k r = record { fits = tt; balanced = tt }
