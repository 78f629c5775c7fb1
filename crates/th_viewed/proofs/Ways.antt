-- Where statements lead, and the runs of units and of loops' bodies.
use Rattle.std.proofs.Common.{◌≡◌, ℕ, zero, suc, ◌+◌, ◌<◌, ◌≤◌, Bool, true, false, List, [], length, Option, Some, None, refl, sym, ap, ◌∙◌, subst, arith}
use Rattle.std.specs.Prelude.{slice_get, nat_lt, nat_le, option_map, if◌then◌else◌, ◌&&◌}
use Rattle.std.proofs.lemmas.Bool.{lt-ltb, le-ltb}
use Rattle.th_meaning.specs.World.{give_back, yield_weight}
use Rattle.th_flat.specs.declared.op.FlatOp.TheVariants.{OpNext, OpResume}
use Rattle.th_flat.specs.declared.module.FlatUnit.{FlatUnit}
use Rattle.th_flat.specs.Values.{FlatValue, FlatWorld, Status, Fine, Thrown}
use Rattle.th_flat.specs.Program.{FlatProgram, and_if}
use Rattle.th_flat.specs.Configs.{NoLoop, Upto, Here, Stack, Call, Paused, Config, Run, Entering, Returned, is_body, can_enter, weight_of, room_of, kept, freed, inside, leaves_body, go_to, visit, back_at, back_seen, seen_at_result, with_value, cover_upto, ends_as, body_ends}
use Rattle.th_viewed.specs.Sources.{Source, flat_of, WordProgram, AreLoweredFrom}
use Rattle.th_viewed.specs.Evaluation.{Locals, State, Outcome, Gives, Throws, Halted, Leave, by_break, by_return, by_raise, by_leave, How, Done, Exit, Return, Cut, with_world, with_some, none_left, Body, no_body, Units, nearest, others, at_home, again_in, yielded, for_how, for_ends}
use Rattle.th_viewed.proofs.Follow.{Comes, here, one, comes_on, Goes, goes_after}
use Rattle.th_viewed.proofs.Acts.{run, bad, goes_op, at_end, go_out, go_within}
use Rattle.th_viewed.proofs.Calls.{Below, fin, thrown, no_up, CallsRun, Backs, back_step, raised_back}

-- the room of the running unit, and of all that it holds, is given back
abbrev pub left : FlatUnit → Stack → State → State
left u held st = with_world st (give_back (weight_of u + room_of held) st.world)

-- where a statement's end leads: x is where a `break` goes, pc what follows
abbrev pub good : FlatUnit → Stack → Below → (Leave → State → Config) → ℕ → ℕ → How → State → Config
good u held below up x pc Done st = Run u pc NoLoop (record { stack = []; locals = st.locals; status = Fine }) held (below st.homes) st.world
good u held below up x pc Exit st = go_to x u (record { stack = []; locals = st.locals; status = Fine }) held (below st.homes) st.world
good u held below up x pc (Return v) st = Returned Fine v (below st.homes) (give_back (weight_of u + room_of held) st.world)
good u held below up x pc (Cut l) st = up l (at_home (left u held st))

-- what a unit's yields lead to: the loop's body, and what follows it
pub record Yields (p : FlatProgram) (body : Body) (below : Below) (up : Leave → State → Config) : Type 0 where
  pub by : (u : FlatUnit) (pc x : ℕ) (h : Option ℕ) (held : Stack) (v : FlatValue) (st : State) → slice_get u.ops pc ≡ Some OpResume
      → Goes p (visit (below st.homes) v u pc [] st.locals held st.world) (yielded st (body v (at_home st))) (good u held below up x (pc + 1)) (bad p u held below h)

-- the runs of units are those of Flat
pub record UnitsRun (p : FlatProgram) (units : Units) : Type 0 where
  pub by : (g : Source) (args : List FlatValue) (body : Body) (homes : List Locals) (wd : FlatWorld) (below : Below) (up : Leave → State → Config) → can_enter (flat_of g) (below homes) ≡ true → Yields p body below up
      → Goes p (Entering (flat_of g) args (below homes) wd) (units g args body homes wd) (fin below up) (thrown below)

-- where no loop is open no yield leads anywhere
pub no_yields : (p : FlatProgram) (below : Below) (up : Leave → State → Config) → Yields p no_body below up
no_yields p below up = record { by = λ u pc x h held v st at. tt }

pub calls_run : (w : WordProgram) (units : Units) → UnitsRun w.flat units → CallsRun w units
calls_run w units runs = record {
  by = λ g args u pc stack ls held below wd is. runs.by g args no_body [] wd (λ hs. Call u pc stack ls held NoLoop below) no_up is (no_yields w.flat (λ hs. Call u pc stack ls held NoLoop below) no_up);
}

add_room : (r : Option ℕ) (a b c : ℕ) → a + b ≡ c → option_map (λ room. room + c) r ≡ option_map (λ room. room + a) (option_map (λ room. room + b) r)
add_room None a b c e = refl
add_room (Some r) a b c e = ap Some (omega (arith, e))

pub give_back_twice : (a b c : ℕ) (w : FlatWorld) → a + b ≡ c → give_back c w ≡ give_back a (give_back b w)
give_back_twice a b c w e = ap (λ (r : Option ℕ). record w { room = r }) (add_room w.room a b c e)

-- the room of an iterator that ends with its loop: at once, or one activation after another
pub paid_it : (b c : ℕ) (w : FlatWorld) → give_back (b + yield_weight + c) w ≡ give_back (b + c) (give_back yield_weight w)
paid_it b c w = give_back_twice (b + c) yield_weight (b + yield_weight + c) w (omega arith)

pub paid_all : (a b c s : ℕ) (w : FlatWorld) → give_back (a + (b + yield_weight + c + s)) w ≡ give_back (a + s) (give_back (b + c) (give_back yield_weight w))
paid_all a b c s w = give_back_twice (a + s) (b + c + yield_weight) (a + (b + yield_weight + c + s)) w (omega arith) ∙ ap (λ (v : FlatWorld). give_back (a + s) v) (give_back_twice (b + c) yield_weight (b + c + yield_weight) w refl)

and_false : (t : Bool) → (t && false) ≡ false
and_false true = refl
and_false false = refl

not_inside : (q e l : ℕ) → e ≤ l → inside (Upto q e) l ≡ false
not_inside q e l le = ap (λ t. nat_le q l && t) (le-ltb l e le) ∙ and_false (nat_le q l)

-- the end of a unit that isn't a loop's body
pub ends_plain : (u : FlatUnit) (s : Status) (v : Option FlatValue) (ls : Locals) (held bel : Stack) (wd : FlatWorld) → is_body u ≡ false → ends_as u s v ls held bel wd ≡ Returned s v bel (give_back (weight_of u + room_of held) wd)
ends_plain u s v ls held bel wd plain = ap (λ b. if b then body_ends held u s v ls bel wd else Returned s v bel (give_back (weight_of u + room_of held) wd)) plain

-- the loop whose call is the operation q, whose body begins at operation `start`, and whose `next` is the operation e
module _ (w : WordProgram) (lowered : AreLoweredFrom w) (units : Units) (u : FlatUnit) (n : ℕ) (size : length u.ops ≡ n) (plain : is_body u ≡ false) (held : Stack) (below : Below) (up : Leave → State → Config) (x q start e pc1 : ℕ) (h : Option ℕ) where
  abbrev pub below_it : Below
  below_it hs = Call u q [] (nearest hs) held (Upto start (e + 1)) (below (others hs))

  -- where it leads that the loop's body left the loop
  abbrev pub up_it : Leave → State → Config
  up_it by_break st = good u held below up x pc1 Done st
  up_it (by_return v) st = good u held below up x pc1 (Return v) st
  up_it (by_raise y v) st = bad w.flat u held below h y v st
  up_it (by_leave l) st = good u held below up x pc1 (Cut l) st

  left_goes : (view : Option (List ℕ)) (f : ℕ) (l : Leave) (c : Config) (st : State) → Comes w.flat c (up_it l st) → Goes w.flat c (for_how w view f (Cut l) st) (good u held below up x pc1) (bad w.flat u held below h)
  left_goes view f by_break c st g = g
  left_goes view f (by_return v) c st g = g
  left_goes view f (by_raise y v) c st g = g
  left_goes view f (by_leave l) c st g = g

  given_back : (o : Option (Option FlatValue)) (f : ℕ) (st : State) → e + 1 ≡ pc1
      → Goes w.flat (back_seen w.flat o Fine f (Some n) u q [] st.locals held (Upto start (e + 1)) (below st.homes) st.world) (with_some (and_if o (λ y. with_value f y [])) st (λ vs. none_left vs st)) (good u held below up x pc1) (bad w.flat u held below h)
  given_back None f st en = tt
  given_back (Some None) zero st en = at_end w.flat u held below (e + 1) pc1 [] st en
  given_back (Some (Some v)) zero st en = tt
  given_back (Some None) (suc zero) st en = tt
  given_back (Some (Some v)) (suc zero) st en = tt
  given_back (Some y) (suc (suc f)) st en = tt

  -- the iterator ends
  pub for_back : (view : Option (List ℕ)) (f : ℕ) (c : Config) (r : Outcome How) → e + 1 ≡ pc1 → Backs w.flat u n held view f q → cover_upto u.ops q q ≡ h
      → Goes w.flat c r (fin below_it up_it) (thrown below_it) → Goes w.flat c (for_ends w view f r) (good u held below up x pc1) (bad w.flat u held below h)
  for_back view f c (Gives Done st) en backs ch g = tt
  for_back view f c (Gives Exit st) en backs ch g = tt
  for_back view f c (Gives (Return v) st) en backs ch g =
      let d = Returned Fine v (below_it st.homes) st.world in
      let hs = at_home st in
      let d1 = back_seen w.flat (seen_at_result w.flat view v) Fine f (Some n) u q [] hs.locals held (Upto start (e + 1)) (below hs.homes) hs.world in
      goes_after w.flat c d1 (for_how w view f (Return v) hs) (good u held below up x pc1) (bad w.flat u held below h)
      (comes_on w.flat c d d1 g (back_step w lowered units u n size held below h view f q Fine v [] hs.locals (Upto start (e + 1)) hs.world (below hs.homes) backs))
      (given_back (seen_at_result w.flat view v) f hs en)
  for_back view f c (Gives (Cut l) st) en backs ch g = left_goes view f l c (at_home st) g
  for_back view f c (Throws y v st) en backs ch g =
      let d = Returned (Thrown y v) None (below_it st.homes) st.world in
      let hs = at_home st in
      comes_on w.flat c d (bad w.flat u held below h y v hs) g
      (subst (λ z. Comes w.flat d z) (raised_back w lowered units u n size held below h view f q [] hs.locals (Upto start (e + 1)) hs y v ch)
      (back_step w lowered units u n size held below h view f q (Thrown y v) None [] hs.locals (Upto start (e + 1)) hs.world (below hs.homes) backs))
  for_back view f c (Halted y wd) en backs ch g = g

  -- the body ends, which a yield ran at the operation pc of the iterator
  module _ (it : FlatUnit) (pc : ℕ) (holds : Stack) (xi : ℕ) (hi : Option ℕ) (st : State) (en : e + 1 ≡ pc1) (lv : leaves_body pc1 held ≡ false) (behind : (l : ℕ) → h ≡ Some l → pc1 ≤ l) (at : slice_get u.ops e ≡ Some OpNext) (resume : slice_get it.ops pc ≡ Some OpResume) where
    abbrev pub held_it : Stack
    held_it = Paused it pc [] st.locals holds q (Upto start (e + 1)) held

    abbrev after_it : State → State
    after_it st1 = at_home (left it holds (again_in st st1))

    kept_it : (l : ℕ) → e + 1 ≤ l → kept l held_it ≡ kept l held
    kept_it l le = ap (λ t. if t then held_it else kept l held) (not_inside start (e + 1) l le)

    freed_it : (l : ℕ) (v : FlatWorld) → e + 1 ≤ l → freed l held_it v ≡ freed l held (give_back (weight_of it + room_of holds) (give_back yield_weight v))
    freed_it l v le =
        ap (λ t. if t then v else freed l held (give_back (weight_of it + yield_weight + room_of holds) v)) (not_inside start (e + 1) l le)
        ∙ ap (λ (z : FlatWorld). freed l held z) (paid_it (weight_of it) (room_of holds) v)

    -- a way behind the loop ends the iterator
    way_same : (l : ℕ) (s : Status) (ls : Locals) (bel : Stack) (v : FlatWorld) → e + 1 ≤ l → nat_lt l (length u.ops) ≡ true
        → go_to l u (record { stack = []; locals = ls; status = s }) held_it bel v ≡ go_to l u (record { stack = []; locals = ls; status = s }) held bel (give_back (weight_of it + room_of holds) (give_back yield_weight v))
    way_same l s ls bel v le lt =
        let y = give_back (weight_of it + room_of holds) (give_back yield_weight v) in
        let x : Here = record { stack = []; locals = ls; status = s } in
        go_out w.flat u held_it below l x bel v plain refl lt
        ∙ ap (λ k. Run u l NoLoop x k bel (freed l held_it v)) (kept_it l le)
        ∙ ap (λ z. Run u l NoLoop x (kept l held) bel z) (freed_it l v le)
        ∙ sym (go_out w.flat u held below l x bel y plain refl lt)

    exit_same : (st1 : State) → nat_lt pc1 (length u.ops) ≡ true
        → go_to (e + 1) u (record { stack = []; locals = st1.locals; status = Fine }) held_it (below st1.homes) st1.world ≡ run w.flat u held below pc1 [] (after_it st1)
    exit_same st1 lt =
        let x : Here = record { stack = []; locals = st1.locals; status = Fine } in
        let y = give_back (weight_of it + room_of holds) (give_back yield_weight st1.world) in
        let lt1 : nat_lt (e + 1) (length u.ops) ≡ true = ap (λ l. nat_lt l (length u.ops)) en ∙ lt in
        way_same (e + 1) Fine st1.locals (below st1.homes) st1.world (omega arith) lt1
        ∙ ap (λ l. go_to l u x held (below st1.homes) y) en
        ∙ go_within w.flat u held below pc1 x (below st1.homes) y plain lt lv

    bad_same : (k : Option ℕ) (y : List ℕ) (v : Option FlatValue) (st1 : State) → ((l : ℕ) → k ≡ Some l → pc1 ≤ l) → ((l : ℕ) → k ≡ Some l → l < length u.ops) → bad w.flat u held_it below k y v st1 ≡ bad w.flat u held below k y v (after_it st1)
    bad_same None y v st1 far there =
        ends_plain u (Thrown y v) None st1.locals held_it (below st1.homes) st1.world plain
        ∙ ap (λ z. Returned (Thrown y v) None (below st1.homes) z) (paid_all (weight_of u) (weight_of it) (room_of holds) (room_of held) st1.world)
        ∙ sym (ends_plain u (Thrown y v) None st1.locals held (below st1.homes) (give_back (weight_of it + room_of holds) (give_back yield_weight st1.world)) plain)
    bad_same (Some l) y v st1 far there =
        let le : pc1 ≤ l = far l refl in
        way_same l (Thrown y v) st1.locals (below st1.homes) st1.world (omega (arith, le, en)) (lt-ltb l (length u.ops) (there l refl))

    pub yield_back : (c : Config) (r : Outcome How) → nat_lt pc1 (length u.ops) ≡ true → ((l : ℕ) → h ≡ Some l → l < length u.ops) → Goes w.flat c r (good u held_it below up (e + 1) e) (bad w.flat u held_it below h)
        → Goes w.flat c (yielded st r) (good it holds below_it up_it xi (pc + 1)) (bad w.flat it holds below_it hi)
    yield_back c (Gives Done st1) lt there g =
        let d = Returned Fine None (Call it pc [] st.locals holds NoLoop (Call u q [] st1.locals held (Upto start (e + 1)) (below st1.homes))) (give_back yield_weight st1.world) in
        comes_on w.flat c (run w.flat u held_it below e [] st1) _ g
        (comes_on w.flat (run w.flat u held_it below e [] st1) d _
        (goes_op w.flat u held_it below e [] st1 OpNext (Gives (tt {0}) st1) (λ t st2. d) (bad w.flat u held_it below h) at (here w.flat d))
        (one w.flat d _ (ap (λ o. back_at w.flat o Fine None it pc [] st.locals holds NoLoop (Call u q [] st1.locals held (Upto start (e + 1)) (below st1.homes)) (give_back yield_weight st1.world)) resume)))
    yield_back c (Gives Exit st1) lt there g = subst (λ d. Comes w.flat c d) (exit_same st1 lt) g
    yield_back c (Gives (Return v) st1) lt there g = subst (λ z. Comes w.flat c (Returned Fine v (below st1.homes) z)) (paid_all (weight_of u) (weight_of it) (room_of holds) (room_of held) st1.world) g
    yield_back c (Gives (Cut l) st1) lt there g =
        subst (λ z. Comes w.flat c (up l (record { locals = nearest st1.homes; homes = others st1.homes; world = z }))) (paid_all (weight_of u) (weight_of it) (room_of holds) (room_of held) st1.world) g
    yield_back c (Throws y v st1) lt there g = subst (λ d. Comes w.flat c d) (bad_same h y v st1 behind there) g
    yield_back c (Halted y wd) lt there g = g
