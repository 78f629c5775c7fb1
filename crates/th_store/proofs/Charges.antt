-- Charges of worlds and of stocks that are alike.
use Rattle.std.proofs.Common.{◌≡◌, refl, sym, ap, ◌∙◌, subst, ℕ, ◌+◌, ◌-◌, ◌<◌, ◌≤◌, Bool, true, false, cond, Option, Some, None, option_map, nat_lt, arith}
use Rattle.std.proofs.lemmas.Bool.{le-ltb, lt-ltb}
use Rattle.th_meaning.specs.World.{World, Effect, Did, Stops, OutOfTurns, OutOfRoom, spend, reserve, give_back, and_then, lacks_room}
use Rattle.th_meaning.specs.Meaning.{Value}
use Rattle.th_store.specs.Stock.{Stock}
use Rattle.th_store.specs.Charges.{charged, with_left}
use Rattle.th_store.specs.Alike.{Alike, AllAlike}
use Rattle.th_store.specs.declared.store.Short.{Short}
use Rattle.th_store.specs.declared.store.Short.TheVariants.{Turns, Room}

-- turns and room that are equal
with_equal : (w : World Value) (s : Stock) → w.turns ≡ s.turns → w.room ≡ s.room → with_left s w ≡ w
with_equal w s h k = ap (λ t. record w { turns = t; room = s.room }) (sym h) ∙ ap (λ r. record w { room = r }) (sym k)

pub spend_short : (w : World Value) (s : Stock) (k : ℕ) → Alike w s → s.turns < k → spend k w ≡ Stops OutOfTurns w
spend_short w s k h less =
    let e : nat_lt w.turns k ≡ true = rw h.turns (lt-ltb s.turns k less) in
    rw e refl

pub spend_enough : (w : World Value) (s new : Stock) (k : ℕ) → Alike w s → k ≤ s.turns → new.turns ≡ s.turns - k → new.room ≡ s.room
    → spend k w ≡ Did tt (with_left new w)
spend_enough w s new k h enough left same =
    let e : nat_lt w.turns k ≡ false = rw h.turns (le-ltb s.turns k enough) in
    let t : w.turns - k ≡ new.turns = ap (λ n. n - k) h.turns ∙ sym left in
    let r : w.room ≡ new.room = h.room ∙ sym same in
    rw e (ap (λ n. Did tt (record w { turns = n })) t ∙ ap (λ o. Did tt (record w { turns = new.turns; room = o })) r)

pub reserve_unlimited : (w : World Value) (s : Stock) (k : ℕ) → Alike w s → s.room ≡ None → reserve k w ≡ Did tt (with_left s w)
reserve_unlimited w s k h none =
    let r : w.room ≡ None = h.room ∙ none in
    let e : lacks_room w.room k ≡ false = rw r refl in
    rw e (ap (λ n. Did tt (record w { turns = n; room = option_map (λ room. room - k) w.room })) h.turns
    ∙ ap (λ o. Did tt (record w { turns = s.turns; room = option_map (λ room. room - k) o })) r
    ∙ ap (λ o. Did tt (record w { turns = s.turns; room = o })) (sym none))

pub reserve_short : (w : World Value) (s : Stock) (k room : ℕ) → Alike w s → s.room ≡ Some room → room < k → reserve k w ≡ Stops OutOfRoom w
reserve_short w s k room h there less =
    let r : w.room ≡ Some room = h.room ∙ there in
    let e : lacks_room w.room k ≡ true = rw r (lt-ltb room k less) in
    rw e refl

pub reserve_enough : (w : World Value) (s new : Stock) (k room : ℕ) → Alike w s → s.room ≡ Some room → k ≤ room → new.turns ≡ s.turns → new.room ≡ Some (room - k)
    → reserve k w ≡ Did tt (with_left new w)
reserve_enough w s new k room h there enough same left =
    let r : w.room ≡ Some room = h.room ∙ there in
    let e : lacks_room w.room k ≡ false = rw r (le-ltb room k enough) in
    rw e (ap (λ n. Did tt (record w { turns = n; room = option_map (λ room. room - k) w.room })) (h.turns ∙ sym same)
    ∙ ap (λ o. Did tt (record w { turns = new.turns; room = option_map (λ room. room - k) o })) r
    ∙ ap (λ o. Did tt (record w { turns = new.turns; room = o })) (sym left))

pub gives_unlimited : (w : World Value) (s : Stock) (k : ℕ) → Alike w s → s.room ≡ None → give_back k w ≡ with_left s w
gives_unlimited w s k h none =
    let r : w.room ≡ None = h.room ∙ none in
    ap (λ n. record w { turns = n; room = option_map (λ room. room + k) w.room }) h.turns
    ∙ ap (λ o. record w { turns = s.turns; room = option_map (λ room. room + k) o }) r
    ∙ ap (λ o. record w { turns = s.turns; room = o }) (sym none)

pub gives_back : (w : World Value) (s new : Stock) (k room : ℕ) → Alike w s → s.room ≡ Some room → new.turns ≡ s.turns → new.room ≡ Some (room + k)
    → give_back k w ≡ with_left new w
gives_back w s new k room h there same left =
    let r : w.room ≡ Some room = h.room ∙ there in
    ap (λ n. record w { turns = n; room = option_map (λ room. room + k) w.room }) (h.turns ∙ sym same)
    ∙ ap (λ o. record w { turns = new.turns; room = option_map (λ room. room + k) o }) r
    ∙ ap (λ o. record w { turns = new.turns; room = o }) (sym left)

-- the world with what a stock has left is alike that stock
pub left_alike : (w : World Value) (s new : Stock) → Alike w s → new.objects ≡ s.objects → Alike (with_left new w) new
left_alike w s new h same = record { turns = refl; room = refl; objects = subst (AllAlike w.objects) (sym same) h.objects }

-- turns and then room
pub charge_turns : (w : World Value) (k bytes : ℕ) (s new : Stock) → Alike w s → new ≡ s → spend k w ≡ Stops OutOfTurns w
    → and_then (spend k w) (λ _ w1. reserve bytes w1) ≡ charged (Some Turns) (with_left new w)
charge_turns w k bytes s new h same e =
    rw e (ap (Stops OutOfTurns) (sym (with_equal w new (h.turns ∙ ap (λ t. t.turns) (sym same)) (h.room ∙ ap (λ t. t.room) (sym same)))))

pub charge_room : (w : World Value) (k bytes : ℕ) (mid new : Stock) → spend k w ≡ Did tt (with_left mid w) → reserve bytes (with_left mid w) ≡ Stops OutOfRoom (with_left mid w)
    → new.turns ≡ mid.turns → new.room ≡ mid.room
    → and_then (spend k w) (λ _ w1. reserve bytes w1) ≡ charged (Some Room) (with_left new w)
charge_room w k bytes mid new e f t r =
    rw e (f ∙ ap (λ n. Stops OutOfRoom (record w { turns = n; room = mid.room })) (sym t) ∙ ap (λ o. Stops OutOfRoom (record w { turns = new.turns; room = o })) (sym r))

pub charge_both : (w : World Value) (k bytes : ℕ) (mid new : Stock) → spend k w ≡ Did tt (with_left mid w) → reserve bytes (with_left mid w) ≡ Did tt (with_left new (with_left mid w))
    → and_then (spend k w) (λ _ w1. reserve bytes w1) ≡ charged None (with_left new w)
charge_both w k bytes mid new e f = rw e f
