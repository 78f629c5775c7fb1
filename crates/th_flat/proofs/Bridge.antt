-- A run with turns and a room is the run of the program whose costs are told apart.
use Rattle.std.proofs.Common.{◌≡◌, ⊎_elim, ℕ, zero, suc, ◌+◌, ◌-◌, ◌<◌, ◌≤◌, Bool, true, false, List, [], ◌∷◌, Option, Some, None, refl, sym, ap, ◌∙◌, subst, arith, nat_lt, cond}
use Rattle.std.proofs.lemmas.Bool.{cases_Bool, cases_lt, lt-ltb, le-ltb}
use Rattle.std.specs.Prelude.{option_map, if◌then◌else◌}
use Rattle.th_world.specs.Event.{Event, Prefix}
use Rattle.th_runs.specs.Stand.{NoTurns, NoRoom, Stand}
use Rattle.th_runs.specs.Runs.{exceeds, bounded_run}
use Rattle.th_meaning.specs.World.{Effect, Did, Stops, and_then, OutOfTurns, OutOfRoom, Unset, Stuck, Deep, spend, reserve, lacks_room}
use Rattle.th_flat.specs.declared.module.FlatUnit.{FlatUnit}
use Rattle.th_flat.specs.Values.{FlatValue, FlatWorld}
use Rattle.th_flat.specs.Program.{FlatProgram}
use Rattle.th_flat.specs.Deeds.{Charge, no_charge, takes_turns, takes_room, takes_both}
use Rattle.th_flat.specs.Configs.{Bottom, Call, Paused, FlatEnd, Ends, Raises, Halts, Config, Run, Entering, Visiting, Returned, Putting, Over, deed, world_of, on_charge, paid, step, steps}
use Rattle.th_flat.specs.Runs.{stand_end, start, begin, stand_of, flat_stand, turns_of, room_of_charge, open_room, heap_room, cost, need, unpaid_step, flat_program, metered_start}
use Rattle.th_flat.proofs.Bare.{bare_world, bare, config_world, Does, does}
use Rattle.th_flat.proofs.Weighing.{RoomIs, Fits, Good, opening, good_deed}

lt_zero : (n : ℕ) → nat_lt n 0 ≡ false
lt_zero n = le-ltb n 0 (omega arith)

sub_zero : (n : ℕ) → n - 0 ≡ n
sub_zero n = omega arith

-- a charge that was taken
abbrev taken : FlatWorld → Effect FlatValue (Unit {0})
taken w = Did tt w

spend_none : (w : FlatWorld) → spend 0 w ≡ Did tt w
spend_none w = ap (λ b. if b then Stops OutOfTurns w else Did tt (record w { turns = w.turns - 0 })) (lt_zero w.turns) ∙ ap (λ t. Did tt (record w { turns = t })) (sub_zero w.turns)

reserve_none : (w : FlatWorld) → reserve 0 w ≡ Did tt w
reserve_none w = go w.room
  where
    go : (o : Option ℕ) → (if lacks_room o 0 then Stops OutOfRoom w else taken (record w { room = option_map (λ room. room - 0) o })) ≡ Did tt (record w { room = o })
    go None = refl
    go (Some r) = ap (λ b. if b then Stops OutOfRoom w else Did tt (record w { room = Some (r - 0) })) (lt_zero r) ∙ ap (λ t. Did tt (record w { room = Some t })) (sub_zero r)

-- a lower index stays lower, and the room in use beside it
lt_shift : (q r used whole : ℕ) → q + used ≡ whole → nat_lt q r ≡ nat_lt whole (used + r)
lt_shift q r used whole e = ⊎_elim less more (cases_lt q r)
  where
    less : q < r → nat_lt q r ≡ nat_lt whole (used + r)
    less h = lt-ltb q r h ∙ sym (lt-ltb whole (used + r) (omega arith))

    more : r ≤ q → nat_lt q r ≡ nat_lt whole (used + r)
    more h = le-ltb q r h ∙ sym (le-ltb whole (used + r) (omega arith))

-- too little room is left where so much more is more than the whole
room_lacks : (whole : Option ℕ) (w : FlatWorld) (used r : ℕ) → RoomIs whole w used → lacks_room w.room r ≡ exceeds (used + r) whole
room_lacks None w used r is = ap (λ o. lacks_room o r) is
room_lacks (Some n) w used r (q, is, sum) = ap (λ o. lacks_room o r) is ∙ lt_shift q r used n sum

-- the room that was enough is taken
room_taken : (whole : Option ℕ) (w : FlatWorld) (t used r used' : ℕ) → RoomIs whole w used → lacks_room w.room r ≡ false → used' ≡ used + r → RoomIs whole (record w { turns = t; room = option_map (λ room. room - r) w.room }) used'
room_taken None w t used r used' is enough e = ap (option_map (λ room. room - r)) is
room_taken (Some n) w t used r used' (q, is, sum) enough e = let there : nat_lt q r ≡ false = sym (ap (λ o. lacks_room o r) is) ∙ enough in let more : r ≤ q = not_less q r there in (q - r, ap (option_map (λ room. room - r)) is, omega arith)
  where
    not_less : (a b : ℕ) → nat_lt a b ≡ false → b ≤ a
    not_less a b f = ⊎_elim (λ less. absurd (let g : nat_lt a b ≡ true = lt-ltb a b less in cc)) (λ h. h) (cases_lt a b)

open_bare : (c : Config) → open_room (bare c) ≡ open_room c
open_bare (Run u at loop h held below w) = refl
open_bare (Entering u args below w) = refl
open_bare (Visiting v u at ls held below w) = refl
open_bare (Returned s v below w) = refl
open_bare (Putting bytes u at h held below w) = refl
open_bare (Over e w) = refl

heap_bare : (c : Config) (r : ℕ) → heap_room (bare c) r ≡ heap_room c r
heap_bare (Run u at loop h held below w) r = refl
heap_bare (Entering u args below w) r = refl
heap_bare (Visiting v u at ls held below w) r = refl
heap_bare (Returned s v below w) r = refl
heap_bare (Putting bytes u at h held below w) r = refl
heap_bare (Over e w) r = refl

module _ (p : FlatProgram) where
  worlds : (c : Config) → world_of p c ≡ config_world c
  worlds (Run u at loop h held below w) = refl
  worlds (Entering u args below w) = refl
  worlds (Visiting v u at ls held below w) = refl
  worlds (Returned s v below w) = refl
  worlds (Putting bytes u at h held below w) = refl
  worlds (Over e w) = refl

  world_bare : (c : Config) → world_of p (bare c) ≡ bare_world (config_world c)
  world_bare (Run u at loop h held below w) = refl
  world_bare (Entering u args below w) = refl
  world_bare (Visiting v u at ls held below w) = refl
  world_bare (Returned s v below w) = refl
  world_bare (Putting bytes u at h held below w) = refl
  world_bare (Over e w) = refl

  stand_bare : (c : Config) → stand_of p c ≡ stand_of p (bare c)
  stand_bare (Run u at loop h held below w) = refl
  stand_bare (Entering u args below w) = refl
  stand_bare (Visiting v u at ls held below w) = refl
  stand_bare (Returned s v below w) = refl
  stand_bare (Putting bytes u at h held below w) = refl
  stand_bare (Over e w) = refl

  -- a run that is over stays so
  pub over_stays : (k : ℕ) (e : FlatEnd) (w : FlatWorld) → steps p k (Over e w) ≡ Over e w
  over_stays zero e w = refl
  over_stays (suc k) e w = over_stays k e w

  -- every charge is one of turns and room
  paid_both : (charge : Charge) (w : FlatWorld) (act : FlatWorld → Config) → paid p charge w act ≡ paid p (takes_both (turns_of charge) (room_of_charge charge)) w act
  paid_both no_charge w act = sym (ap (λ e. on_charge p (and_then e (λ _ w1. reserve 0 w1)) act) (spend_none w) ∙ ap (λ e. on_charge p e act) (reserve_none w))
  paid_both (takes_turns t) w act = go (nat_lt w.turns t)
    where
      go : (b : Bool) → on_charge p (if b then Stops OutOfTurns w else taken (record w { turns = w.turns - t })) act ≡ on_charge p (and_then (if b then Stops OutOfTurns w else taken (record w { turns = w.turns - t })) (λ _ w1. reserve 0 w1)) act
      go true = refl
      go false = sym (ap (λ e. on_charge p e act) (reserve_none (record w { turns = w.turns - t })))
  paid_both (takes_room r) w act = sym (ap (λ e. on_charge p (and_then e (λ _ w1. reserve r w1)) act) (spend_none w))
  paid_both (takes_both t r) w act = refl

  module _ (t r : ℕ) (w : FlatWorld) (act : FlatWorld → Config) where
    paid_short : nat_lt w.turns t ≡ true → paid p (takes_both t r) w act ≡ Over (Halts OutOfTurns) w
    paid_short e = ap (λ b. on_charge p (and_then (if b then Stops OutOfTurns w else Did tt (record w { turns = w.turns - t })) (λ _ w1. reserve r w1)) act) e

    paid_no_room : nat_lt w.turns t ≡ false → lacks_room w.room r ≡ true → paid p (takes_both t r) w act ≡ Over (Halts OutOfRoom) (record w { turns = w.turns - t })
    paid_no_room e f = ap (λ b. on_charge p (and_then (if b then Stops OutOfTurns w else Did tt (record w { turns = w.turns - t })) (λ _ w1. reserve r w1)) act) e
        ∙ ap (λ b. on_charge p (if b then Stops OutOfRoom (record w { turns = w.turns - t }) else Did tt (record w { turns = w.turns - t; room = option_map (λ room. room - r) w.room })) act) f

    paid_all : nat_lt w.turns t ≡ false → lacks_room w.room r ≡ false → paid p (takes_both t r) w act ≡ act (record w { turns = w.turns - t; room = option_map (λ room. room - r) w.room })
    paid_all e f = ap (λ b. on_charge p (and_then (if b then Stops OutOfTurns w else Did tt (record w { turns = w.turns - t })) (λ _ w1. reserve r w1)) act) e
        ∙ ap (λ b. on_charge p (if b then Stops OutOfRoom (record w { turns = w.turns - t }) else Did tt (record w { turns = w.turns - t; room = option_map (λ room. room - r) w.room })) act) f

  -- what a step adds to the room in use is for good, or for what it opens
  taken_split : (c : Config) → heap_room c (need p c) + opening p c ≡ need p c
  taken_split (Run u at loop h held below w) = omega arith
  taken_split (Entering u args below w) = omega arith
  taken_split (Visiting v u at ls held below w) = refl
  taken_split (Returned s v Bottom w) = refl
  taken_split (Returned s v (Call u at st ls held loop below) w) = refl
  taken_split (Returned s v (Paused u at st ls holds home loop rest) w) = refl
  taken_split (Putting [] u at h held below w) = refl
  taken_split (Putting (b ∷ bytes) u at h held below w) = refl
  taken_split (Over e w) = refl

  -- the run operation by operation from here on
  module _ (whole : Option ℕ) (k : ℕ) (again : (c : Config) (heap : ℕ) → Good whole heap c → stand_of p (steps p k c) ≡ bounded_run (flat_program p) whole k (config_world c).turns (record { config = bare c; heap = heap })) where
    -- the stand with one more operation, by its cost, its need and what it leads to
    abbrev onward : (heap turns cost need in_use kept : ℕ) → (trace : List Event) → (next : Config) → Stand
    onward heap turns cost need in_use kept trace next =
        cond (nat_lt turns cost) (record { end = NoTurns; trace = trace })
        (cond (exceeds (heap + in_use + need) whole) (record { end = NoRoom; trace = trace })
        (bounded_run (flat_program p) whole k (turns - cost) (record { config = next; heap = heap + kept })))

    -- the cost, the need and what follows of a step that isn't over
    module _ (c : Config) (heap : ℕ) (fits : Fits c) (is : RoomIs whole (config_world c) (heap + open_room c)) where
      abbrev after_charge : FlatWorld
      after_charge = record { input = (config_world c).input; turns = (config_world c).turns - cost p c; room = option_map (λ room. room - need p c) (config_world c).room; objects = (config_world c).objects; trace = (config_world c).trace }

      abbrev there : Stand
      there = onward heap (config_world c).turns (cost p c) (need p c) (open_room c) (heap_room c (need p c)) (config_world c).trace (unpaid_step p (bare c))

      stepped : step p c ≡ paid p (takes_both (cost p c) (need p c)) (config_world c) (deed p c).act
      stepped = ap (λ v. paid p (deed p c).charge v (deed p c).act) (worlds c) ∙ paid_both (deed p c).charge (config_world c) (deed p c).act

      short : nat_lt (config_world c).turns (cost p c) ≡ true → stand_of p (steps p k (step p c)) ≡ there
      short e = ap (λ x. stand_of p (steps p k x)) (stepped ∙ paid_short (cost p c) (need p c) (config_world c) (deed p c).act e) ∙ ap (stand_of p) (over_stays k (Halts OutOfTurns) (config_world c))
          ∙ sym (ap (λ b. cond b (record { end = NoTurns; trace = (config_world c).trace })
          (cond (exceeds (heap + open_room c + need p c) whole) (record { end = NoRoom; trace = (config_world c).trace })
          (bounded_run (flat_program p) whole k ((config_world c).turns - cost p c) (record { config = unpaid_step p (bare c); heap = heap + heap_room c (need p c) })))) e)

      -- with enough turns: what is left of the stand
      abbrev rest : Bool → Stand
      rest b = cond b (record { end = NoRoom; trace = (config_world c).trace })
          (bounded_run (flat_program p) whole k ((config_world c).turns - cost p c) (record { config = unpaid_step p (bare c); heap = heap + heap_room c (need p c) }))

      there_rest : (b : Bool) → nat_lt (config_world c).turns (cost p c) ≡ false → lacks_room (config_world c).room (need p c) ≡ b → rest b ≡ there
      there_rest b e f = ap rest (sym f ∙ room_lacks whole (config_world c) (heap + open_room c) (need p c) is) ∙ sym (ap (λ x. cond x (record { end = NoTurns; trace = (config_world c).trace }) (rest (exceeds (heap + open_room c + need p c) whole))) e)

      no_room : nat_lt (config_world c).turns (cost p c) ≡ false → lacks_room (config_world c).room (need p c) ≡ true → stand_of p (steps p k (step p c)) ≡ there
      no_room e f = ap (λ x. stand_of p (steps p k x)) (stepped ∙ paid_no_room (cost p c) (need p c) (config_world c) (deed p c).act e f) ∙ ap (stand_of p) (over_stays k (Halts OutOfRoom) (record (config_world c) { turns = (config_world c).turns - cost p c }))
          ∙ there_rest true e f

      goes_on : nat_lt (config_world c).turns (cost p c) ≡ false → lacks_room (config_world c).room (need p c) ≡ false → stand_of p (steps p k (step p c)) ≡ there
      goes_on e f =
          let does_it : Does p c after_charge = does p c after_charge in
          let split : heap_room c (need p c) + opening p c ≡ need p c = taken_split c in
          let good : Good whole (heap + heap_room c (need p c)) ((deed p c).act after_charge) = good_deed whole (heap + heap_room c (need p c)) p c after_charge fits (room_taken whole (config_world c) ((config_world c).turns - cost p c) (heap + open_room c) (need p c) (heap + heap_room c (need p c) + (open_room c + opening p c)) is f (omega arith)) in
          let next : unpaid_step p (bare c) ≡ bare ((deed p c).act after_charge) = ap (deed p (bare c)).act (world_bare c) ∙ does_it.same in
          ap (λ x. stand_of p (steps p k x)) (stepped ∙ paid_all (cost p c) (need p c) (config_world c) (deed p c).act e f)
          ∙ again ((deed p c).act after_charge) (heap + heap_room c (need p c)) good
          ∙ ap (λ n. bounded_run (flat_program p) whole k n (record { config = bare ((deed p c).act after_charge); heap = heap + heap_room c (need p c) })) does_it.turns
          ∙ ap (λ x. bounded_run (flat_program p) whole k ((config_world c).turns - cost p c) (record { config = x; heap = heap + heap_room c (need p c) })) (sym next)
          ∙ there_rest false e f

      live : stand_of p (steps p k (step p c)) ≡ there
      live = ⊎_elim short (λ e. ⊎_elim (no_room e) (goes_on e) (cases_Bool (lacks_room (config_world c).room (need p c)))) (cases_Bool (nat_lt (config_world c).turns (cost p c)))

    -- the charge is the same where there are no turns and no limit on the room
    by_charge : (c : Config) (heap : ℕ) → onward heap (config_world c).turns (cost p c) (need p c) (open_room c) (heap_room c (need p c)) (config_world c).trace (unpaid_step p (bare c))
        ≡ onward heap (config_world c).turns (cost p (bare c)) (need p (bare c)) (open_room c) (heap_room c (need p (bare c))) (config_world c).trace (unpaid_step p (bare c))
    by_charge c heap = ap (λ charge. onward heap (config_world c).turns (turns_of charge) (room_of_charge charge) (open_room c) (heap_room c (room_of_charge charge)) (config_world c).trace (unpaid_step p (bare c))) (sym (does p c (config_world c)).charge)

    pub bridge_step : (c : Config) (heap : ℕ) → Good whole heap c → stand_of p (steps p (suc k) c) ≡ bounded_run (flat_program p) whole (suc k) (config_world c).turns (record { config = bare c; heap = heap })
    bridge_step (Run u at loop h held below w) heap good = live (Run u at loop h held below w) heap good.fits good.balanced ∙ by_charge (Run u at loop h held below w) heap
    bridge_step (Entering u args below w) heap good = live (Entering u args below w) heap good.fits good.balanced ∙ by_charge (Entering u args below w) heap
    bridge_step (Visiting v u at ls held below w) heap good = live (Visiting v u at ls held below w) heap good.fits good.balanced ∙ by_charge (Visiting v u at ls held below w) heap
    bridge_step (Returned s v below w) heap good = live (Returned s v below w) heap good.fits good.balanced ∙ by_charge (Returned s v below w) heap
    bridge_step (Putting bytes u at h held below w) heap good = live (Putting bytes u at h held below w) heap good.fits good.balanced ∙ by_charge (Putting bytes u at h held below w) heap
    bridge_step (Over e w) heap good = ap (stand_of p) (over_stays (suc k) e w) ∙ over_case e
      where
        over_case : (e1 : FlatEnd) → record { end = stand_end e1; trace = w.trace } ≡ bounded_run (flat_program p) whole (suc k) w.turns (record { config = Over e1 (bare_world w); heap = heap })
        over_case Ends = refl
        over_case (Raises x) = refl
        over_case (Halts OutOfTurns) = refl
        over_case (Halts OutOfRoom) = refl
        over_case (Halts Unset) = refl
        over_case (Halts Stuck) = refl
        over_case (Halts Deep) = refl

  -- from a configuration whose room is that in use beside the room left
  pub bridge : (whole : Option ℕ) (k : ℕ) (c : Config) (heap : ℕ) → Good whole heap c → stand_of p (steps p k c) ≡ bounded_run (flat_program p) whole k (config_world c).turns (record { config = bare c; heap = heap })
  bridge whole zero c heap good = stand_bare c
  bridge whole (suc k) c heap good = bridge_step whole k (bridge whole k) c heap good

  good_start : (room : Option ℕ) (main : Option FlatUnit) (input : List ℕ) (turns : ℕ) → Good room 0 (begin main (start input room turns))
  good_start room None input turns = record { fits = tt; balanced = tt }
  good_start None (Some u) input turns = record { fits = tt; balanced = refl }
  good_start (Some n) (Some u) input turns = record { fits = tt; balanced = (n, refl, omega arith) }

  -- the runs from the start
  pub flat_bounded : (input : List ℕ) (room : Option ℕ) (turns count : ℕ) → flat_stand p input room turns count ≡ bounded_run (flat_program p) room count turns (metered_start p input)
  flat_bounded input room turns count = bridge room count (begin p.main (start input room turns)) 0 (good_start room p.main input turns) ∙ at_start p.main
    where
      at_start : (main : Option FlatUnit) → bounded_run (flat_program p) room count (config_world (begin main (start input room turns))).turns (record { config = bare (begin main (start input room turns)); heap = 0 })
          ≡ bounded_run (flat_program p) room count turns (record { config = begin main (start input None 0); heap = 0 })
      at_start None = refl
      at_start (Some u) = refl

  -- an operation only adds to the trace
  trace_at : (c : Config) → (world_of p c).trace ≡ (config_world c).trace
  trace_at c = ap (λ w. w.trace) (worlds c)

  pub unpaid_longer : (c : Config) → Prefix (world_of p c).trace (world_of p (unpaid_step p c)).trace
  unpaid_longer c = subst (λ t. Prefix (world_of p c).trace t) (sym (trace_at (unpaid_step p c))) (does p c (world_of p c)).trace
