-- Effects with more turns: they do the same, or they stopped for want of turns; and an effect only adds to the trace and
-- takes turns.
use Rattle.std.proofs.Common.{◌≡◌, ℕ, zero, suc, ◌+◌, ◌-◌, ◌<◌, ◌≤◌, Bool, true, false, List, [], ◌∷◌, ◌++◌, Option, Some, None, refl, sym, ap, subst, ◌∙◌, append_assoc, arith}
use Rattle.std.proofs.lemmas.Bool.{ltb-false, le-ltb}
use Rattle.std.specs.Prelude.{ℤ, pos, negsuc, if◌then◌else◌, nat_lt, option_map}
use Rattle.th_world.specs.Event.{Event, Prefix}
use Rattle.th_meaning.specs.World.{Object, Instance, Array, Slot, World, Halt, OutOfTurns, OutOfRoom, Unset, Stuck, Deep, Effect, Did, Fails, Stops, and_then, spend}

-- the world with d more turns
abbrev pub plus : {V : Type 0} → ℕ → World V → World V
plus d w = record w { turns = w.turns + d }

abbrev pub effect_world : {V A : Type 0} → Effect V A → World V
effect_world (Did a w) = w
effect_world (Fails x w) = w
effect_world (Stops h w) = w

-- a later world of a run
pub record Later {V : Type 0} (w w1 : World V) : Type 0 where
  pub turns : w1.turns ≤ w.turns
  pub trace : Prefix w.trace w1.trace

abbrev pub NotDeep : Halt → Type 0
NotDeep OutOfTurns = Unit {0}
NotDeep OutOfRoom = Unit {0}
NotDeep Unset = Unit {0}
NotDeep Stuck = Unit {0}
NotDeep Deep = ⊥

pub prefix_refl : (t : List Event) → Prefix t t
prefix_refl t = record { more = []; is = refl }

pub prefix_trans : (t u v : List Event) → Prefix t u → Prefix u v → Prefix t v
prefix_trans t u v p q = record { more = q.more ++ p.more; is = q.is ∙ ap (λ x. q.more ++ x) p.is ∙ sym (append_assoc q.more p.more t) }

pub later_refl : {V : Type 0} (w : World V) → Later w w
later_refl w = record { turns = omega arith; trace = prefix_refl w.trace }

pub later_trans : {V : Type 0} (w w1 w2 : World V) → Later w w1 → Later w1 w2 → Later w w2
later_trans w w1 w2 p q = record { turns = omega (arith, p.turns, q.turns); trace = prefix_trans w.trace w1.trace w2.trace p.trace q.trace }

-- an effect came to a later world, and no bound ran out
abbrev pub EffectLater : {V A : Type 0} → World V → Effect V A → Type 0
EffectLater w (Did a w1) = Later w w1
EffectLater w (Fails x w1) = Later w w1
EffectLater w (Stops h w1) = Later w w1 × NotDeep h

-- with d more turns an effect stopped as before, or it stopped for want of turns
abbrev pub StopsMore : {V A : Type 0} → ℕ → Halt → World V → Effect V A → Type 0
StopsMore d OutOfTurns w e = Prefix w.trace (effect_world e).trace
StopsMore d OutOfRoom w e = e ≡ Stops OutOfRoom (plus d w)
StopsMore d Unset w e = e ≡ Stops Unset (plus d w)
StopsMore d Stuck w e = e ≡ Stops Stuck (plus d w)
StopsMore d Deep w e = Unit {0}

-- e is what an effect comes to with d more turns
abbrev pub EffectMore : {V A : Type 0} → ℕ → Effect V A → Effect V A → Type 0
EffectMore d (Did a w) e = e ≡ Did a (plus d w)
EffectMore d (Fails x w) e = e ≡ Fails x (plus d w)
EffectMore d (Stops h w) e = StopsMore d h w e

pub record FineEffect {V A : Type 0} (d : ℕ) (e : World V → Effect V A) : Type 0 where
  pub later : (w : World V) → EffectLater w (e w)
  pub more : (w : World V) → EffectMore d (e w) (e (plus d w))

later_world : {V A : Type 0} (w : World V) (e : Effect V A) → EffectLater w e → Later w (effect_world e)
later_world w (Did a w1) h = h
later_world w (Fails x w1) h = h
later_world w (Stops x w1) h = h.0

later_then : {V A B : Type 0} (w : World V) (e : Effect V A) (f : A → World V → Effect V B) → EffectLater w e → ((a : A) (w1 : World V) → EffectLater w1 (f a w1)) → EffectLater w (and_then e f)
later_then w (Did a w1) f h k = later_on w w1 (f a w1) h (k a w1) where
  later_on : {V B : Type 0} (w w1 : World V) (e : Effect V B) → Later w w1 → EffectLater w1 e → EffectLater w e
  later_on w w1 (Did b w2) h k = later_trans w w1 w2 h k
  later_on w w1 (Fails x w2) h k = later_trans w w1 w2 h k
  later_on w w1 (Stops x w2) h k = (later_trans w w1 w2 h k.0, k.1)
later_then w (Fails x w1) f h k = h
later_then w (Stops x w1) f h k = h

-- the trace after one effect is a prefix of that after a further one
trace_then : {V A B : Type 0} (e : Effect V A) (f : A → World V → Effect V B) → ((a : A) (w1 : World V) → EffectLater w1 (f a w1)) → Prefix (effect_world e).trace (effect_world (and_then e f)).trace
trace_then (Did a w) f k = (later_world w (f a w) (k a w)).trace
trace_then (Fails x w) f k = prefix_refl w.trace
trace_then (Stops h w) f k = prefix_refl w.trace

stops_then : {V A B : Type 0} (d : ℕ) (h : Halt) (w : World V) (e : Effect V A) (f : A → World V → Effect V B) → StopsMore d h w e → ((a : A) (w1 : World V) → EffectLater w1 (f a w1)) → StopsMore d h w (and_then e f)
stops_then d OutOfTurns w e f m k = prefix_trans w.trace (effect_world e).trace (effect_world (and_then e f)).trace m (trace_then e f k)
stops_then d OutOfRoom w e f m k = ap (λ x. and_then x f) m
stops_then d Unset w e f m k = ap (λ x. and_then x f) m
stops_then d Stuck w e f m k = ap (λ x. and_then x f) m
stops_then d Deep w e f m k = tt

more_then : {V A B : Type 0} (d : ℕ) (e e1 : Effect V A) (f : A → World V → Effect V B) → EffectMore d e e1 → ((a : A) → FineEffect d (f a)) → EffectMore d (and_then e f) (and_then e1 f)
more_then d (Did a w) e1 f m k = subst (λ x. EffectMore d (f a w) (and_then x f)) (sym m) ((k a).more w)
more_then d (Fails x w) e1 f m k = ap (λ x. and_then x f) m
more_then d (Stops h w) e1 f m k = stops_then d h w e1 f m (λ a w1. (k a).later w1)

-- one effect after another
pub fine_effects : {V A B : Type 0} (d : ℕ) (e : World V → Effect V A) (f : A → World V → Effect V B) → FineEffect d e → ((a : A) → FineEffect d (f a)) → FineEffect d (λ w. and_then (e w) f)
fine_effects d e f h k = record {
  later = λ w. later_then w (e w) f (h.later w) (λ a w1. (k a).later w1);
  more = λ w. more_then d (e w) (e (plus d w)) f (h.more w) k;
}

pub fine_did : {V A : Type 0} (d : ℕ) (a : A) (g : World V → World V) → ((w : World V) → Later w (g w)) → ((w : World V) → g (plus d w) ≡ plus d (g w)) → FineEffect d (λ w. Did a (g w))
fine_did d a g l m = record { later = l; more = λ w. ap (λ x. Did a x) (m w) }

pub fine_fails : {V A : Type 0} (d : ℕ) (x : List ℕ) (g : World V → World V) → ((w : World V) → Later w (g w)) → ((w : World V) → g (plus d w) ≡ plus d (g w)) → FineEffect {V = V} {A = A} d (λ w. Fails x (g w))
fine_fails d x g l m = record { later = l; more = λ w. ap (λ y. Fails x y) (m w) }

-- an effect that depends on a part of the world which isn't the turns
pub fine_by : {V A B : Type 0} (d : ℕ) (part : World V → B) (e : B → World V → Effect V A) → ((w : World V) → part (plus d w) ≡ part w) → ((b : B) → FineEffect d (e b)) → FineEffect d (λ w. e (part w) w)
fine_by d part e same k = record {
  later = λ w. (k (part w)).later w;
  more = λ w. subst (λ b. EffectMore d (e (part w) w) (e b (plus d w))) (sym (same w)) ((k (part w)).more w);
}

pub fine_stops : {V A : Type 0} (d : ℕ) (h : Halt) → NotDeep h → ((w : World V) → StopsMore {A = A} d h w (Stops h (plus d w))) → FineEffect {V = V} {A = A} d (λ w. Stops h w)
fine_stops d h n m = record { later = λ w. (later_refl w, n); more = m }

-- an effect by a test that has nothing to do with the world
pub fine_if : {V A : Type 0} (d : ℕ) (b : Bool) (e e1 : World V → Effect V A) → FineEffect d e → FineEffect d e1 → FineEffect d (λ w. if b then e w else e1 w)
fine_if d true e e1 h k = h
fine_if d false e e1 h k = k

-- an effect after a change of the world
pub fine_after : {V A : Type 0} (d : ℕ) (g : World V → World V) (e : World V → Effect V A) → ((w : World V) → Later w (g w)) → ((w : World V) → g (plus d w) ≡ plus d (g w)) → FineEffect d e → FineEffect d (λ w. e (g w))
fine_after d g e l m h = record {
  later = λ w. on w (g w) (e (g w)) (l w) (h.later (g w));
  more = λ w. subst (λ w1. EffectMore d (e (g w)) (e w1)) (sym (m w)) (h.more (g w));
} where
  on : {V B : Type 0} (w w1 : World V) (e : Effect V B) → Later w w1 → EffectLater w1 e → EffectLater w e
  on w w1 (Did b w2) h k = later_trans w w1 w2 h k
  on w w1 (Fails x w2) h k = later_trans w w1 w2 h k
  on w w1 (Stops x w2) h k = (later_trans w w1 w2 h k.0, k.1)

-- k turns are taken, or there are too few
abbrev pub spent : {V : Type 0} → Bool → ℕ → World V → Effect V (Unit {0})
spent b k w = if b then Stops OutOfTurns w else Did tt (record w { turns = w.turns - k })

spend_later : {V : Type 0} (k : ℕ) (w : World V) (b : Bool) → EffectLater w (spent b k w)
spend_later k w true = (later_refl w, tt)
spend_later k w false = record { turns = omega arith; trace = prefix_refl w.trace }

-- a charge with more turns, by whether there were too few of them
spend_more : {V : Type 0} (d k : ℕ) (w : World V) (b : Bool) → nat_lt w.turns k ≡ b → EffectMore d (spent b k w) (spend k (plus d w))
spend_more d k w true e = (later_world (plus d w) (spend k (plus d w)) (spend_later k (plus d w) (nat_lt (w.turns + d) k))).trace
spend_more d k w false e =
    let enough : k ≤ w.turns = ltb-false w.turns k e in
    let still : nat_lt (w.turns + d) k ≡ false = le-ltb (w.turns + d) k (omega (arith, enough)) in
    let left : w.turns + d - k ≡ w.turns - k + d = omega (arith, enough) in
    ap (λ b. spent b k (plus d w)) still ∙ ap (λ n. Did tt (record w { turns = n })) left

pub fine_spend : {V : Type 0} (d k : ℕ) → FineEffect {V = V} d (spend k)
fine_spend d k = record { later = λ w. spend_later k w (nat_lt w.turns k); more = λ w. spend_more d k w (nat_lt w.turns k) refl }
