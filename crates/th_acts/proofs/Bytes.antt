-- Acts that take and put bytes.
use Rattle.std.proofs.Common.{◌≡◌, refl, sym, ap, ◌∙◌, subst, ℕ, zero, suc, ◌+◌, ◌<◌, ◌≤◌, ℤ, pos, negsuc, Bool, true, false, cond, List, [], ◌∷◌, ◌++◌, length, take, drop, get_or, append_assoc, append-nil, Option, Some, None, option_map, IfSome, nat_lt, arith}
use Rattle.std.proofs.lemmas.Bool.{le-ltb, lt-ltb}
use Rattle.std.proofs.lemmas.List.{at_drop_more, at_drop_all}
use Rattle.std.specs.Fmt.{signed_decimal}
use Rattle.th_world.specs.Event.{Event, Put, Took, FoundEnd, puts, takes, entries, Prefix}
use Rattle.th_world.specs.Outside.{first_byte, without_first}
use Rattle.th_meaning.specs.Program.{Program}
use Rattle.th_meaning.specs.World.{World, Effect, Did, Fails, Stops, OutOfTurns, and_then, spend, note, take_of, get_byte, put_byte, put_all, put_int, put_each, put_text, bounds, end_of_input}
use Rattle.th_meaning.specs.Meaning.{Value, Int, How, Done, State, act, act_as, get_byte_of}
use Rattle.th_steps.specs.Machine.{Machine, At, on_value, on_how, now_raise}
use Rattle.th_control.specs.declared.control.Control.{Control}
use Rattle.th_control.specs.declared.control.Now.{Now}
use Rattle.th_control.specs.declared.control.Now.TheVariants.{Value as NowValue, How as NowHow}
use Rattle.th_control.specs.declared.control.How.TheVariants.{Done as CodeDone}
use Rattle.th_control.specs.Config.{now_of, state_of, machine_at}
use Rattle.th_control.specs.Acts.{the_loop, the_rest, done_of}
use Rattle.th_store.specs.Alike.{Alike}
use Rattle.th_store.specs.Charges.{with_left}
use Rattle.th_traces.specs.Traces.{trace_at}
use Rattle.th_traces.proofs.Grows.{same, EffectGrows, put_all_grows, put_each_grows}
use Rattle.th_acts.specs.declared.runner.Over.TheVariants.{NoTurns}
use Rattle.th_acts.specs.Parts.{Partly}
use Rattle.th_acts.specs.Puts.{PutsEach, PutsPart, trace_of}
use Rattle.th_acts.proofs.Acts.{goes_on, stops, stands_same, stands_left}
use Rattle.th_acts.specs.declared.runner.Runner.{Runner}
use Rattle.th_acts.specs.declared.runner.Next.{Next}
use Rattle.th_acts.specs.declared.runner.Next.TheVariants.{Go, Over}
use Rattle.th_acts.specs.Stands.{Told, Shows, AreEntered, AreTables, Stands, Leads}

there : {A : Type 0} → (o : Option A) (a : A) (P : A → Type 0) → o ≡ Some a → IfSome o P → P a
there None a P h k = let e : None ≡ Some a = h in absurd (cc)
there (Some b) a P h k = let e : Some b ≡ Some a = h in let f : b ≡ a = cc in subst P f k

-- the world after a byte was taken
abbrev pub taken_world : World Value → ℕ → List ℕ → World Value
taken_world w b rest = note (Took b) (record w { input = rest })

-- a byte that was taken
taken_stands : (e : Told) (r : Runner) (source source1 sink : Option (List ℕ)) (w : World Value) (b : ℕ) (rest : List ℕ) → Stands e r source sink w → w.input ≡ b ∷ rest → source1 ≡ Some rest
    → Stands e r source1 sink (taken_world w b rest)
taken_stands e r source source1 sink w b rest h is left = record {
  tables = h.tables;
  alike = record { turns = h.alike.turns; room = h.alike.room; objects = h.alike.objects };
  shows = record {
    left = left;
    taken = append_assoc (takes w.trace) (b ∷ []) rest ∙ ap (λ i. takes w.trace ++ i) (sym is) ∙ h.shows.taken;
    put = h.shows.put;
  };
  units = h.units;
}

taken_by : (w : World Value) (i : List ℕ) (byte : ℕ) → w.input ≡ i → Some byte ≡ first_byte i → (rest : List ℕ) × (w.input ≡ byte ∷ rest) × (without_first i ≡ rest)
taken_by w [] byte is first = absurd (cc)
taken_by w (b ∷ rest) byte is first = let e : Some byte ≡ Some b = first in let f : byte ≡ b = cc in (rest, is ∙ ap (λ x. x ∷ rest) (sym f), refl)

pub took_byte : (e : Told) (r : Runner) (source source1 sink : Option (List ℕ)) (w : World Value) (byte : ℕ) → Stands e r source sink w → IfSome source (λ bytes. Some byte ≡ first_byte bytes)
    → source1 ≡ option_map without_first source
    → Leads e r source1 sink (Go (NowValue (Int (pos byte)))) (on_value (get_byte_of (state_of r.control w)) (the_loop r.control) (the_rest r.control))
took_byte e r source source1 sink w byte h first rest =
    let x : (more : List ℕ) × (w.input ≡ byte ∷ more) × (without_first w.input ≡ more) = taken_by w w.input byte refl (there source w.input (λ bytes. Some byte ≡ first_byte bytes) h.shows.left first) in
    record {
      world = taken_world w byte x.0;
      is = ap (λ i. on_value (act_as Int (take_of i w) (state_of r.control w)) (the_loop r.control) (the_rest r.control)) x.1;
      stands = taken_stands e r source source1 sink w byte x.0 h x.1 (rest ∙ ap (option_map without_first) h.shows.left ∙ ap Some x.2);
    }

ended_by : (i : List ℕ) → None ≡ first_byte i → (i ≡ []) × (without_first i ≡ [])
ended_by [] h = (refl, refl)
ended_by (b ∷ rest) h = absurd (cc)

-- no byte is left
pub found_end : (e : Told) (r : Runner) (source source1 sink : Option (List ℕ)) (w : World Value) (next : Next) (byte : Option ℕ) → Stands e r source sink w → byte ≡ None → IfSome source (λ bytes. byte ≡ first_byte bytes)
    → source1 ≡ option_map without_first source
    → (Stands e r source1 sink (note FoundEnd w) → Leads e r source1 sink next (At (now_raise end_of_input None) (the_loop r.control) (the_rest r.control) (state_of r.control (note FoundEnd w))))
    → Leads e r source1 sink next (on_value (get_byte_of (state_of r.control w)) (the_loop r.control) (the_rest r.control))
found_end e r source source1 sink w next byte h none first rest raised =
    let y : (w.input ≡ []) × (without_first w.input ≡ []) = ended_by w.input (sym none ∙ there source w.input (λ bytes. byte ≡ first_byte bytes) h.shows.left first) in
    subst (Leads e r source1 sink next) (sym (ap (λ i. on_value (act_as Int (take_of i w) (state_of r.control w)) (the_loop r.control) (the_rest r.control)) y.0))
    (raised (record {
      tables = h.tables;
      alike = record { turns = h.alike.turns; room = h.alike.room; objects = h.alike.objects };
      shows = record {
        left = rest ∙ ap (option_map without_first) h.shows.left ∙ ap Some (y.1 ∙ sym y.0);
        taken = h.shows.taken;
        put = h.shows.put;
      };
      units = h.units;
    }))

-- bytes that were put
pub put_stands : (e : Told) (r : Runner) (source sink sink1 : Option (List ℕ)) (w : World Value) (b : ℕ) → Stands e r source sink w → sink1 ≡ option_map (λ bytes. bytes ++ b ∷ []) sink
    → Stands e r source sink1 (note (Put b) w)
put_stands e r source sink sink1 w b h is = record {
  tables = h.tables;
  alike = record { turns = h.alike.turns; room = h.alike.room; objects = h.alike.objects };
  shows = record {
    left = h.shows.left;
    taken = h.shows.taken;
    put = is ∙ ap (option_map (λ bytes. bytes ++ b ∷ [])) h.shows.put ∙ put_more e.before (puts w.trace) b;
  };
  units = h.units;
}
  where
    put_more : (before : Option (List ℕ)) (done : List ℕ) (b : ℕ) → option_map (λ bytes. bytes ++ b ∷ []) (option_map (λ bytes. bytes ++ done) before) ≡ option_map (λ bytes. bytes ++ (done ++ b ∷ [])) before
    put_more None done b = refl
    put_more (Some bytes) done b = ap Some (append_assoc bytes done (b ∷ []))

-- a byte that was put
pub byte_put : (e : Told) (r : Runner) (left sink sink1 : Option (List ℕ)) (w : World Value) (z : ℤ) (n : ℕ) → Stands e r left sink w → z ≡ pos n → n < 256 → sink1 ≡ option_map (λ bytes. bytes ++ n ∷ []) sink
    → Leads e r left sink1 (Go (NowHow CodeDone)) (on_how (done_of (act (put_byte z w) (state_of r.control w))) (the_loop r.control) (the_rest r.control))
byte_put e r left sink sink1 w z n h is below more =
    let did : put_byte z w ≡ Did tt (note (Put n) w) = ap (λ x. put_byte x w) is ∙ ap (λ t. cond t (Did tt (note (Put n) w)) (Fails bounds w)) (lt-ltb n 256 below) in
    record {
      world = note (Put n) w;
      is = ap (λ x. on_how (done_of (act x (state_of r.control w))) (the_loop r.control) (the_rest r.control)) did;
      stands = put_stands e r left sink sink1 w n h more;
    }

-- a number that is no byte
pub byte_fails : (e : Told) (r : Runner) (left sink : Option (List ℕ)) (w : World Value) (z : ℤ) (next : Next) → put_byte z w ≡ Fails bounds w
    → Leads e r left sink next (At (now_raise bounds None) (the_loop r.control) (the_rest r.control) (state_of r.control w))
    → Leads e r left sink next (on_how (done_of (act (put_byte z w) (state_of r.control w))) (the_loop r.control) (the_rest r.control))
byte_fails e r left sink w z next fails h = subst (Leads e r left sink next) (sym (ap (λ x. on_how (done_of (act x (state_of r.control w))) (the_loop r.control) (the_rest r.control)) fails)) h

pub fails_negative : (w : World Value) (z : ℤ) (n : ℕ) → z ≡ negsuc n → put_byte z w ≡ Fails bounds w
fails_negative w z n is = ap (λ x. put_byte x w) is

pub fails_large : (w : World Value) (z : ℤ) (n : ℕ) → z ≡ pos n → 255 < n → put_byte z w ≡ Fails bounds w
fails_large w z n is above = ap (λ x. put_byte x w) is ∙ ap (λ t. cond t (Did tt (note (Put n) w)) (Fails bounds w)) (le-ltb n 256 (omega (arith, above)))

more_put : (sink : Option (List ℕ)) (b : ℕ) (bytes : List ℕ) → option_map (λ xs. xs ++ b ∷ bytes) sink ≡ option_map (λ xs. xs ++ bytes) (option_map (λ xs. xs ++ b ∷ []) sink)
more_put None b bytes = refl
more_put (Some xs) b bytes = ap Some (sym (append_assoc xs (b ∷ []) bytes))

none_put : (sink : Option (List ℕ)) → option_map (λ xs. xs ++ []) sink ≡ sink
none_put None = refl
none_put (Some xs) = ap Some (append-nil xs)

-- bytes that were put
pub all_stand : (e : Told) (r : Runner) (left sink sink1 : Option (List ℕ)) (w : World Value) (bytes : List ℕ) → Stands e r left sink w → sink1 ≡ option_map (λ xs. xs ++ bytes) sink
    → Stands e r left sink1 (put_all bytes w)
all_stand e r left sink sink1 w [] h is = subst (λ s. Stands e r left s w) (sym (is ∙ none_put sink)) h
all_stand e r left sink sink1 w (b ∷ bytes) h is =
    all_stand e r left (option_map (λ xs. xs ++ b ∷ []) sink) sink1 (note (Put b) w) bytes (put_stands e r left sink (option_map (λ xs. xs ++ b ∷ []) sink) w b h refl) (is ∙ more_put sink b bytes)

some_grow : (n : ℕ) (bytes : List ℕ) (w : World Value) → Prefix (put_all (take n bytes) w).trace (put_all bytes w).trace
some_grow zero bytes w = put_all_grows w.trace bytes w (same w.trace)
some_grow (suc n) [] w = same w.trace
some_grow (suc n) (b ∷ bytes) w = some_grow n bytes (note (Put b) w)

-- a number that is put
module _ (e : Told) (old new : Runner) (left sink : Option (List ℕ)) (w : World Value) (z : ℤ) (bytes : List ℕ) where
  int_put_is : bytes ≡ signed_decimal z → spend (length bytes + 1) w ≡ Did tt (with_left new.store w) → put_int z w ≡ Did tt (put_all bytes (with_left new.store w))
  int_put_is is did =
      ap (λ xs. and_then (spend (length xs + 1) w) (λ _ w1. Did tt (put_all xs w1))) (sym is)
      ∙ ap (λ x. and_then x (λ _ w1. Did tt (put_all bytes w1))) did

  pub int_put : (sink1 : Option (List ℕ)) → Stands e old left sink w → bytes ≡ signed_decimal z → spend (length bytes + 1) w ≡ Did tt (with_left new.store w) → new.control ≡ old.control → new.tables ≡ old.tables
      → new.entered ≡ old.entered → new.store.objects ≡ old.store.objects → sink1 ≡ option_map (λ xs. xs ++ bytes) sink
      → Leads e new left sink1 (Go (NowHow CodeDone)) (on_how (done_of (act (put_int z w) (state_of old.control w))) (the_loop old.control) (the_rest old.control))
  int_put sink1 h is did control tables entered objects put =
      goes_on e new left sink1 (put_all bytes (with_left new.store w)) (NowHow CodeDone) _
      (all_stand e new left sink sink1 (with_left new.store w) bytes (stands_left e old new left sink w h tables entered objects) put)
      (ap (λ x. on_how (done_of (act x (state_of old.control w))) (the_loop old.control) (the_rest old.control)) (int_put_is is did)
      ∙ ap (λ c. machine_at (now_of (NowHow CodeDone)) c (put_all bytes (with_left new.store w))) (sym control))

  pub int_short : Stands e old left sink w → bytes ≡ signed_decimal z → spend (length bytes + 1) w ≡ Stops OutOfTurns w → new.tables ≡ old.tables → new.entered ≡ old.entered → new.store ≡ old.store
      → Leads e new left sink (Over NoTurns) (on_how (done_of (act (put_int z w) (state_of old.control w))) (the_loop old.control) (the_rest old.control))
  int_short h is short tables entered store =
      stops e new left sink w NoTurns OutOfTurns _ (stands_same e old new left sink w h tables entered store) refl
      (ap (λ xs. on_how (done_of (act (and_then (spend (length xs + 1) w) (λ _ w1. Did tt (put_all xs w1))) (state_of old.control w))) (the_loop old.control) (the_rest old.control)) (sym is)
      ∙ ap (λ x. on_how (done_of (act (and_then x (λ _ w1. Did tt (put_all bytes w1))) (state_of old.control w))) (the_loop old.control) (the_rest old.control)) short)

  pub int_part : (n : ℕ) (sink1 : Option (List ℕ)) → Stands e old left sink w → bytes ≡ signed_decimal z → spend (length bytes + 1) w ≡ Did tt (with_left new.store w) → new.tables ≡ old.tables
      → new.entered ≡ old.entered → new.store.objects ≡ old.store.objects → sink1 ≡ option_map (λ xs. xs ++ take n bytes) sink
      → Partly e left sink1 (on_how (done_of (act (put_int z w) (state_of old.control w))) (the_loop old.control) (the_rest old.control))
  int_part n sink1 h is did tables entered objects put =
      let v = with_left new.store w in
      let s = all_stand e new left sink sink1 v (take n bytes) (stands_left e old new left sink w h tables entered objects) put in
      record {
        part = (put_all (take n bytes) v).trace;
        rest = (put_all (take n bytes) v).input;
        is_prefix = subst (λ x. Prefix (put_all (take n bytes) v).trace (trace_at (on_how (done_of (act x (state_of old.control w))) (the_loop old.control) (the_rest old.control)))) (sym (int_put_is is did)) (some_grow n bytes v);
        shows = s.shows;
      }

first_done : {A : Type 0} → (x : Effect Value (Unit {0})) (f : World Value → Effect Value (Unit {0})) (g : World Value → Effect Value A)
    → and_then x (λ _ w1. and_then (f w1) (λ _ w2. g w2)) ≡ and_then (and_then x (λ _ w1. f w1)) (λ _ w2. g w2)
first_done (Did a w) f g = refl
first_done (Fails n w) f g = refl
first_done (Stops h w) f g = refl

-- one byte and then the others
pub each_more : (b : ℕ) (bytes : List ℕ) (w : World Value) → put_each (b ∷ bytes) w ≡ and_then (put_each (b ∷ []) w) (λ _ w1. put_each bytes w1)
each_more b bytes w = first_done (spend 1 w) (λ w1. Did tt (note (Put b) w1)) (put_each bytes)

one_did : (b : ℕ) (w v : World Value) → spend 1 w ≡ Did tt v → put_each (b ∷ []) w ≡ Did tt (note (Put b) v)
one_did b w v h = ap (λ x. and_then x (λ _ w1. Did tt (note (Put b) w1))) h

one_stopped : (b : ℕ) (w : World Value) → spend 1 w ≡ Stops OutOfTurns w → put_each (b ∷ []) w ≡ Stops OutOfTurns w
one_stopped b w h = ap (λ x. and_then x (λ _ w1. Did tt (note (Put b) w1))) h

-- a byte that is put after one turn
module _ (e : Told) (old new : Runner) (left sink : Option (List ℕ)) (w : World Value) (b : ℕ) where
  pub one_put : (sink1 : Option (List ℕ)) → Stands e old left sink w → spend 1 w ≡ Did tt (with_left new.store w) → new.tables ≡ old.tables → new.entered ≡ old.entered → new.store.objects ≡ old.store.objects
      → sink1 ≡ option_map (λ xs. xs ++ b ∷ []) sink → PutsEach e new left sink1 true (put_each (b ∷ []) w)
  one_put sink1 h did tables entered objects put = record {
    world = note (Put b) (with_left new.store w);
    is = one_did b w (with_left new.store w) did;
    stands = put_stands e new left sink sink1 (with_left new.store w) b (stands_left e old new left sink w h tables entered objects) put;
  }

  pub one_short : Stands e old left sink w → spend 1 w ≡ Stops OutOfTurns w → new.tables ≡ old.tables → new.entered ≡ old.entered → new.store ≡ old.store → PutsEach e new left sink false (put_each (b ∷ []) w)
  one_short h short tables entered store = record {
    world = w;
    is = one_stopped b w short;
    stands = stands_same e old new left sink w h tables entered store;
  }

-- the bytes before this place were put
pub record PutUpTo (e : Told) (r : Runner) (left now : Option (List ℕ)) (bytes : List ℕ) (i : ℕ) (effect : Effect Value (Unit {0})) : Type 0 where
  pub world : World Value
  pub is : effect ≡ put_each (drop i bytes) world
  pub stands : Stands e r left now world

pub put_none : (e : Told) (r : Runner) (left now : Option (List ℕ)) (w : World Value) (bytes : List ℕ) → Stands e r left now w → PutUpTo e r left now bytes 0 (put_each bytes w)
put_none e r left now w bytes h = record { world = w; is = refl; stands = h }

-- at this place comes this byte
each_at : (bytes : List ℕ) (i b : ℕ) (w : World Value) → i < length bytes → b ≡ get_or bytes i 0 → put_each (drop i bytes) w ≡ and_then (put_each (b ∷ []) w) (λ _ w1. put_each (drop (i + 1) bytes) w1)
each_at bytes i b w below is =
    at_drop_more (λ xs. put_each xs w) bytes i 0 below
    ∙ ap (λ x. put_each (x ∷ drop (i + 1) bytes) w) (sym is)
    ∙ each_more b (drop (i + 1) bytes) w

module _ (e : Told) (left : Option (List ℕ)) (bytes : List ℕ) (i b : ℕ) (effect : Effect Value (Unit {0})) (below : i < length bytes) (is : b ≡ get_or bytes i 0) where
  pub put_more : (old new : Runner) (now now1 : Option (List ℕ)) → (h : PutUpTo e old left now bytes i effect) → PutsEach e new left now1 true (put_each (b ∷ []) h.world) → PutUpTo e new left now1 bytes (i + 1) effect
  put_more old new now now1 h one = record {
    world = one.world;
    is = h.is ∙ each_at bytes i b h.world below is ∙ ap (λ x. and_then x (λ _ w1. put_each (drop (i + 1) bytes) w1)) one.is;
    stands = one.stands;
  }

  pub put_ends : (old new : Runner) (now now1 : Option (List ℕ)) → (h : PutUpTo e old left now bytes i effect) → PutsEach e new left now1 false (put_each (b ∷ []) h.world) → PutsEach e new left now1 false effect
  put_ends old new now now1 h one = record {
    world = one.world;
    is = h.is ∙ each_at bytes i b h.world below is ∙ ap (λ x. and_then x (λ _ w1. put_each (drop (i + 1) bytes) w1)) one.is;
    stands = one.stands;
  }

pub put_whole : (e : Told) (r : Runner) (left now : Option (List ℕ)) (bytes : List ℕ) (i : ℕ) (effect : Effect Value (Unit {0})) → length bytes ≤ i → PutUpTo e r left now bytes i effect → PutsEach e r left now true effect
put_whole e r left now bytes i effect past h = record {
  world = h.world;
  is = h.is ∙ at_drop_all (λ xs. put_each xs h.world) bytes i past;
  stands = h.stands;
}

effect_prefix : (t : List Event) (x : Effect Value (Unit {0})) → EffectGrows t x → Prefix t (trace_of x)
effect_prefix t (Did a w) h = h
effect_prefix t (Fails n w) h = h
effect_prefix t (Stops s w) h = h

-- a byte could not be put
pub put_cut : (e : Told) (r : Runner) (left now now1 : Option (List ℕ)) (bytes : List ℕ) (i : ℕ) (effect : Effect Value (Unit {0})) → now1 ≡ now → PutUpTo e r left now bytes i effect → PutsPart e left now1 effect
put_cut e r left now now1 bytes i effect same_sink h = record {
  world = h.world;
  shows = subst (λ s. Shows e h.world.trace h.world.input left s) (sym same_sink) h.stands.shows;
  is_prefix = subst (λ x. Prefix h.world.trace (trace_of x)) (sym h.is) (effect_prefix h.world.trace (put_each (drop i bytes) h.world) (put_each_grows h.world.trace (drop i bytes) h.world (same h.world.trace)));
}

effect_seen : (x : Effect Value (Unit {0})) (c : Control) (w : World Value) → trace_at (on_how (done_of (act x (state_of c w))) (the_loop c) (the_rest c)) ≡ trace_of x
effect_seen (Did a v) c w = refl
effect_seen (Fails n v) c w = refl
effect_seen (Stops h v) c w = refl

-- a text that is put
module _ (e : Told) (old new : Runner) (left sink : Option (List ℕ)) (w v : World Value) (bytes : List ℕ) where
  text_is : spend 1 w ≡ Did tt v → put_text bytes w ≡ put_each bytes v
  text_is did = ap (λ x. and_then x (λ _ w1. put_each bytes w1)) did

  pub text_short : Stands e old left sink w → spend 1 w ≡ Stops OutOfTurns w → new.tables ≡ old.tables → new.entered ≡ old.entered → new.store ≡ old.store
      → Leads e new left sink (Over NoTurns) (on_how (done_of (act (put_text bytes w) (state_of old.control w))) (the_loop old.control) (the_rest old.control))
  text_short h short tables entered store =
      stops e new left sink w NoTurns OutOfTurns _ (stands_same e old new left sink w h tables entered store) refl
      (ap (λ x. on_how (done_of (act (and_then x (λ _ w1. put_each bytes w1)) (state_of old.control w))) (the_loop old.control) (the_rest old.control)) short)

  pub text_put : spend 1 w ≡ Did tt v → PutsEach e new left sink true (put_each bytes v) → new.control ≡ old.control
      → Leads e new left sink (Go (NowHow CodeDone)) (on_how (done_of (act (put_text bytes w) (state_of old.control w))) (the_loop old.control) (the_rest old.control))
  text_put did puts control =
      goes_on e new left sink puts.world (NowHow CodeDone) _ puts.stands
      (ap (λ x. on_how (done_of (act x (state_of old.control w))) (the_loop old.control) (the_rest old.control)) (text_is did ∙ puts.is)
      ∙ ap (λ c. machine_at (now_of (NowHow CodeDone)) c puts.world) (sym control))

  pub text_ends : spend 1 w ≡ Did tt v → PutsEach e new left sink false (put_each bytes v)
      → Leads e new left sink (Over NoTurns) (on_how (done_of (act (put_text bytes w) (state_of old.control w))) (the_loop old.control) (the_rest old.control))
  text_ends did puts =
      stops e new left sink puts.world NoTurns OutOfTurns _ puts.stands refl
      (ap (λ x. on_how (done_of (act x (state_of old.control w))) (the_loop old.control) (the_rest old.control)) (text_is did ∙ puts.is))

  pub text_part : (c : Control) → spend 1 w ≡ Did tt v → PutsPart e left sink (put_each bytes v) → Partly e left sink (on_how (done_of (act (put_text bytes w) (state_of c w))) (the_loop c) (the_rest c))
  text_part c did part = record {
    part = part.world.trace;
    rest = part.world.input;
    is_prefix = subst (Prefix part.world.trace) (sym (effect_seen (put_text bytes w) c w ∙ ap trace_of (text_is did))) part.is_prefix;
    shows = part.shows;
  }
