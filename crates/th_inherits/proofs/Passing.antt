-- What classes inherit is taken over until nothing grows.
use Rattle.std.proofs.Common.{◌≡◌, ◌≢◌, ◌∙◌, ℕ, zero, suc, ◌<◌, ◌⊎◌, inl, inr, Bool, true, false, nat_eq, List, [], length, Option, Some, None, slice_get, slice_set, get_or, replicate, refl, sym, ap, subst, arith}
use Rattle.std.specs.Bool.{MatchBool}
use Rattle.std.specs.Global.{Vec}
use Rattle.std.specs.Map.{lookup}
use Rattle.std.proofs.lemmas.Bool.Decides.{nat_tests}
use Rattle.std.proofs.lemmas.List.{length-set, get_or-set_same, get_or-set_other}
use Rattle.std.proofs.lemmas.Option.{unwrap_or-slice_get}
use Rattle.th_type.specs.declared.place.Place.{Place}
use Rattle.th_type.specs.Types.{TypeExprs}
use Rattle.th_type.specs.Declarations.{Meant, unresolved, parameter, by_head, whole}
use Rattle.th_module_rules.specs.Inheriting.{ClassRow, row_at, Inherits, ReachesHigh}
use Rattle.th_inherits.specs.Heights.{height_at, stepped}
use Rattle.th_inherits.specs.Tables.{place_of, row_in, lists_of, list_at, heights_of, ArePlaces, Reached, AllReached, IsSettled, whole_meant, whole_in, TookFrom, AreSettled, Took, Passed, Settled, is_high}
use Rattle.th_inherits.proofs.Placing.{map_long, row_by_place, place_full, place_within}
use Rattle.th_inherits.proofs.Reaching.{step_reached, high_reaches, reaches_high}

list_or : (hss : List (List ℕ)) (k : ℕ) → list_at hss (Some k) ≡ get_or hss k []
list_or hss k = unwrap_or-slice_get hss k []

set_there : (hss : List (List ℕ)) (k : ℕ) (hs : List ℕ) → k < length hss → list_at (slice_set hss k hs) (Some k) ≡ hs
set_there hss k hs h = list_or (slice_set hss k hs) k ∙ get_or-set_same hss k hs [] h

set_other : (hss : List (List ℕ)) (k j : ℕ) (hs : List ℕ) → j ≢ k → list_at (slice_set hss k hs) (Some j) ≡ list_at hss (Some j)
set_other hss k j hs h = list_or (slice_set hss k hs) j ∙ (get_or-set_other hss k j hs [] h ∙ sym (list_or hss j))

-- what is inherited whole is so by the test, and the other way round
whole_found : (i : Option (Meant × Place)) (m : ℕ) (args : TypeExprs) → Inherits i m args → whole_in i ≡ Some (m, args)
whole_found i m args h = ap whole_in h.1

row_there : (rows : List ClassRow) (n k : ℕ) (r : ClassRow) → place_of rows n ≡ Some k → slice_get rows k ≡ Some r → row_at rows n ≡ Some r
row_there rows n k r p s = row_by_place rows n ∙ (ap (row_in rows) p ∙ s)

list_there : (rows : List ClassRow) (hss : List (List ℕ)) (n : ℕ) (o : Option ℕ) → place_of rows n ≡ o → heights_of rows hss n ≡ list_at hss o
list_there rows hss n o p = ap (list_at hss) p

abbrev asked : ℕ → TypeExprs → ℕ × TypeExprs
asked m args = (m, args)

-- the step of one class, in the lists of the others
module _ (rows : List ClassRow) (k : ℕ) (r : ClassRow) (m : ℕ) (args : TypeExprs) (old : List (List ℕ)) (at : slice_get rows k ≡ Some r) (whole : Inherits r.inherits m args) (within : k < length old) where
  new_there : (n l : ℕ) → place_of rows n ≡ Some k → AllReached rows (heights_of rows old) → 0 < height_at (stepped (heights_of rows old m) args (list_at old (Some k))) l
      → Reached rows n l (height_at (stepped (heights_of rows old m) args (list_at old (Some k))) l)
  new_there n l p a h =
      let e : heights_of rows old n ≡ list_at old (Some k) = list_there rows old n (Some k) p in
      subst (λ hs. Reached rows n l (height_at (stepped (heights_of rows old m) args hs) l)) e
      (step_reached rows (heights_of rows old) n m args r a (row_there rows n k r p at) whole l
      (subst (λ hs. 0 < height_at (stepped (heights_of rows old m) args hs) l) (sym e) h))

  new_at : (n l j : ℕ) (b : Bool) → nat_eq j k ≡ b → place_of rows n ≡ Some j → AllReached rows (heights_of rows old)
      → 0 < height_at (list_at (slice_set old k (stepped (heights_of rows old m) args (list_at old (Some k)))) (Some j)) l
      → Reached rows n l (height_at (list_at (slice_set old k (stepped (heights_of rows old m) args (list_at old (Some k)))) (Some j)) l)
  new_at n l j true b p a h =
      let s = stepped (heights_of rows old m) args (list_at old (Some k)) in
      let q : j ≡ k = grind (arith, nat_tests) in
      let e : list_at (slice_set old k s) (Some j) ≡ s = ap (λ i. list_at (slice_set old k s) (Some i)) q ∙ set_there old k s within in
      subst (λ hs. Reached rows n l (height_at hs l)) (sym e) (new_there n l (p ∙ ap Some q) a (subst (λ hs. 0 < height_at hs l) e h))
  new_at n l j false b p a h =
      let s = stepped (heights_of rows old m) args (list_at old (Some k)) in
      let q : j ≢ k = grind (arith, nat_tests) in
      let e : list_at (slice_set old k s) (Some j) ≡ heights_of rows old n = set_other old k j s q ∙ sym (list_there rows old n (Some j) p) in
      subst (λ hs. Reached rows n l (height_at hs l)) (sym e) (a n l (subst (λ hs. 0 < height_at hs l) e h))

  new_reached : (n l : ℕ) (o : Option ℕ) → place_of rows n ≡ o → AllReached rows (heights_of rows old)
      → 0 < height_at (list_at (slice_set old k (stepped (heights_of rows old m) args (list_at old (Some k)))) o) l
      → Reached rows n l (height_at (list_at (slice_set old k (stepped (heights_of rows old m) args (list_at old (Some k)))) o) l)
  new_reached n l None p a h = absurd (omega (arith, h))
  new_reached n l (Some j) p a h = new_at n l j (nat_eq j k) refl p a h

  all_reached : AllReached rows (heights_of rows old) → AllReached rows (heights_of rows (slice_set old k (stepped (heights_of rows old m) args (list_at old (Some k)))))
  all_reached a = λ n l h. new_reached n l (place_of rows n) refl a h

  settled_there : (n : ℕ) → place_of rows n ≡ Some k → stepped (heights_of rows old m) args (list_at old (Some k)) ≡ list_at old (Some k) → IsSettled rows (heights_of rows old) n
  settled_there n p e = λ x i ts row inh l.
      let e1 : r ≡ x = cc (row_there rows n k r p at) in
      let w : whole_in r.inherits ≡ Some (i, ts) = ap (λ (y : ClassRow). whole_in y.inherits) e1 ∙ whole_found x.inherits i ts inh in
      let v : whole_in r.inherits ≡ Some (m, args) = whole_found r.inherits m args whole in
      let both : asked i ts ≡ asked m args = cc in
      let s : i ≡ m = ap (λ (z : ℕ × TypeExprs). z.0) both in
      let t : ts ≡ args = ap (λ (z : ℕ × TypeExprs). z.1) both in
      let q : heights_of rows old n ≡ list_at old (Some k) = list_there rows old n (Some k) p in
      let g : stepped (heights_of rows old i) ts (heights_of rows old n) ≡ heights_of rows old n =
      ap (λ j. stepped (heights_of rows old j) ts (heights_of rows old n)) s
      ∙ ap (λ us. stepped (heights_of rows old m) us (heights_of rows old n)) t
      ∙ ap (stepped (heights_of rows old m) args) q ∙ e ∙ sym q in
      let z : height_at (stepped (heights_of rows old i) ts (heights_of rows old n)) l ≡ height_at (heights_of rows old n) l = ap (λ hs. height_at hs l) g in
      omega (arith, z)

  took_from : (new : List (List ℕ)) (grew : Bool) → TookFrom rows k r.full m args old new grew → Took rows k old new grew
  took_from new true h = record {
    long = ap length h.1 ∙ length-set old k (stepped (heights_of rows old m) args (list_at old (Some k)));
    reached = λ a. subst (λ hss. AllReached rows (heights_of rows hss)) (sym h.1) (all_reached a);
    settled = λ e. cc;
  }
  took_from new false h = record {
    long = ap length h.0;
    reached = λ a. subst (λ hss. AllReached rows (heights_of rows hss)) (sym h.0) a;
    settled = λ e. (h.0, λ n p. settled_there n p (h.1 (ap (place_of rows) (place_full rows n k r p at) ∙ p)));
  }

abbrev standing : Meant → Place → Meant × Place
standing x p = (x, p)

whole_by : (x : Meant) (p : Place) (m : ℕ) (args : TypeExprs) → whole_meant x ≡ Some (m, args) → (q : Place) × (Some (standing x p) ≡ Some (standing (whole m args) q))
whole_by unresolved p m args h = cc
whole_by parameter p m args h = cc
whole_by (by_head n) p m args h = cc
whole_by (whole n ts) p m args h =
    let both : asked n ts ≡ asked m args = cc in
    (p, ap (λ (z : ℕ × TypeExprs). Some (standing (whole z.0 z.1) p)) both)

whole_inherited : (i : Option (Meant × Place)) (m : ℕ) (args : TypeExprs) → whole_in i ≡ Some (m, args) → Inherits i m args
whole_inherited None m args h = cc
whole_inherited (Some i) m args h = whole_by i.0 i.1 m args h

-- a class took over what it inherits
pub took_of : (rows : List ClassRow) (k : ℕ) (r : ClassRow) (m : ℕ) (args : TypeExprs) (old new : List (List ℕ)) (grew : Bool) → slice_get rows k ≡ Some r → whole_in r.inherits ≡ Some (m, args) → k < length old
    → TookFrom rows k r.full m args old new grew → Took rows k old new grew
took_of rows k r m args old new grew at w within h = took_from rows k r m args old at (whole_inherited r.inherits m args w) within new grew h

-- a class that inherits none with its arguments takes over nothing
pub took_none : (rows : List ClassRow) (k : ℕ) (r : ClassRow) (old : List (List ℕ)) → slice_get rows k ≡ Some r → whole_in r.inherits ≡ None → Took rows k old old false
took_none rows k r old at w = record {
  long = refl;
  reached = λ a. a;
  settled = λ e. (
    refl,
    λ n p x i ts row inh l.
        let e1 : r ≡ x = cc (row_there rows n k r p at) in
        let v : whole_in r.inherits ≡ Some (i, ts) = ap (λ (y : ClassRow). whole_in y.inherits) e1 ∙ whole_found x.inherits i ts inh in
        cc,
  );
}

-- no class took over anything yet
pub passed_none : (rows : List ClassRow) (old : List (List ℕ)) → Passed rows 0 old old false
passed_none rows old = record {
  long = refl;
  reached = λ a. a;
  settled = λ e. (refl, λ n j h p. absurd (omega (arith, h)));
}

-- a further class grew
pub passed_grew : (rows : List ClassRow) (k j : ℕ) (old mid new : List (List ℕ)) (grew : Bool) → Passed rows k old mid grew → Took rows k mid new true → Passed rows j old new true
passed_grew rows k j old mid new grew h t = record {
  long = t.long ∙ h.long;
  reached = λ a. t.reached (h.reached a);
  settled = λ e. cc;
}

last_settled : (rows : List ClassRow) (k : ℕ) (hss : List (List ℕ)) → AreSettled rows hss k → ((n : ℕ) → place_of rows n ≡ Some k → IsSettled rows (heights_of rows hss) n)
    → (n j : ℕ) → (j < k) ⊎ (j ≡ k) → place_of rows n ≡ Some j → IsSettled rows (heights_of rows hss) n
last_settled rows k hss a f n j (inl h) p = a n j h p
last_settled rows k hss a f n j (inr h) p = f n (p ∙ ap Some h)

less_or : (j k : ℕ) → j < suc k → (j < k) ⊎ (j ≡ k)
less_or j k h = grind arith

-- a further class did not grow
pub passed_kept : (rows : List ClassRow) (k : ℕ) (old mid new : List (List ℕ)) (grew : Bool) → Passed rows k old mid grew → Took rows k mid new false → Passed rows (suc k) old new grew
passed_kept rows k old mid new grew h t =
    let s = t.settled refl in
    record {
      long = t.long ∙ h.long;
      reached = λ a. t.reached (h.reached a);
      settled = λ e.
          let p = h.settled e in
          (s.0 ∙ p.0, λ n j b q. last_settled rows k old p.1 (subst (λ hss. (i : ℕ) → place_of rows i ≡ Some k → IsSettled rows (heights_of rows hss) i) p.0 s.1) n j (less_or j k b) q);
    }

settled_at : (rows : List ClassRow) (hss : List (List ℕ)) (n : ℕ) (o : Option ℕ) → AreSettled rows hss (length rows) → place_of rows n ≡ o → IsSettled rows (heights_of rows hss) n
settled_at rows hss n None a p = λ r m args row inh l. let e = row_by_place rows n ∙ ap (row_in rows) p in cc
settled_at rows hss n (Some j) a p = a n j (place_within rows n j p) p

-- where nothing grew the lists have all that is reached
pub settled_of : (rows : List ClassRow) (k : ℕ) (old new : List (List ℕ)) → k ≡ length rows → Passed rows k old new false → AllReached rows (heights_of rows old) → Settled rows new
settled_of rows k old new e h a =
    let s = h.settled refl in
    record {
      reached = h.reached a;
      settled = λ n. subst (λ hss. IsSettled rows (heights_of rows hss) n) (sym s.0) (settled_at rows old n (place_of rows n) (subst (AreSettled rows old) e s.1) refl);
    }

-- whether a class reaches a height above 600
pub decides : (rows : List ClassRow) (hss : List (List ℕ)) (places : List (ℕ × ℕ)) (n : ℕ) (b : Bool) → ArePlaces rows places → Settled rows hss → b ≡ is_high (list_at hss (lookup (nat_eq n) places)) → MatchBool b (ReachesHigh rows n) (¬ ReachesHigh rows n)
decides rows hss places n true a s e = high_reaches rows (heights_of rows hss) s.reached n (sym (e ∙ ap (λ o. is_high (list_at hss o)) (a n)))
decides rows hss places n false a s e = reaches_high rows (heights_of rows hss) s.settled n (sym (e ∙ ap (λ o. is_high (list_at hss o)) (a n)))

-- a further class took over what it inherits
pub passed_next : (rows : List ClassRow) (k : ℕ) (old mid new : List (List ℕ)) (grew more after : Bool) → Passed rows k old mid grew → Took rows k mid new more → ((more ≡ true) × (after ≡ true)) ⊎ ((more ≡ false) × (after ≡ grew)) → Passed rows (suc k) old new after
passed_next rows k old mid new grew more after h t (inl e) =
    subst (λ b. Passed rows (suc k) old new b) (sym e.1) (passed_grew rows k (suc k) old mid new grew h (subst (λ b. Took rows k mid new b) e.0 t))
passed_next rows k old mid new grew more after h t (inr e) =
    subst (λ b. Passed rows (suc k) old new b) (sym e.1) (passed_kept rows k old mid new grew h (subst (λ b. Took rows k mid new b) e.0 t))

no_heights : (count : ℕ) (o : Option ℕ) (l : ℕ) → height_at (list_at (replicate count []) o) l ≡ 0
no_heights count None l = refl
no_heights zero (Some k) l = refl
no_heights (suc count) (Some zero) l = refl
no_heights (suc count) (Some (suc k)) l = no_heights count (Some k) l

-- nothing is reached in empty lists
pub none_reached : (rows : List ClassRow) (count : ℕ) (hss : List (List ℕ)) → hss ≡ replicate count [] → AllReached rows (heights_of rows hss)
none_reached rows count hss e = subst (λ h. AllReached rows (heights_of rows h)) (sym e) (λ n l h. absurd (let z = no_heights count (place_of rows n) l in omega (arith, z, h)))

-- as many lists as before
pub still_long : (a b : List (Vec ℕ)) (n : ℕ) → length (lists_of a) ≡ length (lists_of b) → length b ≡ n → length a ≡ n
still_long a b n e h = sym (map_long (λ (v : Vec ℕ). v.items) a) ∙ (e ∙ (map_long (λ (v : Vec ℕ). v.items) b ∙ h))
