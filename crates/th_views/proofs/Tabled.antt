-- The slots that a table's list has are those of types seen and of hidden methods.
use Rattle.std.proofs.Common.{◌≡◌, ℕ, ℤ, zero, suc, ◌+◌, ◌*◌, ◌<◌, ◌≤◌, List, [], ◌∷◌, ◌++◌, length, Bool, true, false, nat_eq, cond, refl, sym, ap, ◌∙◌, subst, ◌⊎◌, inl, inr, arith, pos, negsuc, Option, Some, None}
use Rattle.std.specs.Prelude.{slice_get}
use Rattle.std.specs.Ordering.{int_eq}
use Rattle.std.proofs.lemmas.Bool.Decides.{Decides-int_eq}
use Rattle.std.proofs.lemmas.Bool.{cases_Bool, eqb-true, eq-eqb}
use Rattle.th_views.specs.declared.Slot.{Slot}
use Rattle.th_views.specs.declared.Spot.{Spot}
use Rattle.th_views.specs.Tree.{own_of, Place, Below, Above, place}
use Rattle.th_views.specs.Chain.{hidden}
use Rattle.th_views.specs.Contents.{body_of, own_slots, seen_slots, hidden_slots, table_slots, first_at, slot_at}
use Rattle.th_views.specs.Listed.{HasSpot}
use Rattle.th_views.specs.Lookups.{offset, to_type}
use Rattle.th_views.specs.Objects.{object_spots, raised, OwnSlot, HiddenAt, Sound}
use Rattle.th_views.specs.Rows.{Program, tree_of, chain_of}
use Rattle.th_views.specs.Laws.{V3Whole, V5}
use Rattle.th_views.proofs.Objects.{all_v5}

-- a slot of the list
abbrev pub Listed : List Slot → Slot → Type 0
Listed [] s = ⊥
Listed (x ∷ xs) s = (s ≡ x) ⊎ Listed xs s

listed_left : (a b : List Slot) (s : Slot) → Listed a s → Listed (a ++ b) s
listed_left [] b s h = absurd h
listed_left (x ∷ xs) b s (inl h) = inl h
listed_left (x ∷ xs) b s (inr h) = inr (listed_left xs b s h)

listed_right : (a b : List Slot) (s : Slot) → Listed b s → Listed (a ++ b) s
listed_right [] b s h = h
listed_right (x ∷ xs) b s h = inr (listed_right xs b s h)

listed_either : (a b : List Slot) (s : Slot) → Listed (a ++ b) s → Listed a s ⊎ Listed b s
listed_either [] b s h = inr h
listed_either (x ∷ xs) b s (inl h) = inl (inl h)
listed_either (x ∷ xs) b s (inr h) = by (listed_either xs b s h)
  where
    by : Listed xs s ⊎ Listed b s → Listed (x ∷ xs) s ⊎ Listed b s
    by (inl k) = inl (inr k)
    by (inr k) = inr k

-- an offset tells its place
offset_one : (a b : Place) → offset a ≡ offset b → a ≡ b
offset_one (Below a) (Below b) e = let q : 4 * a + 3 ≡ 4 * b + 3 = cc in let r : a ≡ b = omega arith in ap Below r
offset_one (Below a) (Above b) e = absurd (cc)
offset_one (Above a) (Below b) e = absurd (cc)
offset_one (Above a) (Above b) e = let q : 4 * (a + 1) ≡ 4 * (b + 1) = cc in let r : a ≡ b = omega arith in ap Above r

int_true : (a b : ℤ) → int_eq a b ≡ true → a ≡ b
int_true a b e = (Decides-int_eq a b).0 e

int_same : (a b : ℤ) → a ≡ b → int_eq a b ≡ true
int_same a b e = (Decides-int_eq a b).1 e

not_both : (b : Bool) → b ≡ true → b ≡ false → ⊥
not_both true t f = cc
not_both false t f = cc

-- what is found is listed at its offset
first_listed : (l : List Slot) (z : ℤ) (s : Slot) → first_at l z ≡ Some s → Listed l s × (s.offset ≡ z)
first_listed [] z s e = absurd (cc)
first_listed (x ∷ xs) z s e = by (cases_Bool (int_eq x.offset z)) (λ d. first_listed xs z s d)
  where
    by : (int_eq x.offset z ≡ true) ⊎ (int_eq x.offset z ≡ false) → (first_at xs z ≡ Some s → Listed xs s × (s.offset ≡ z)) → Listed (x ∷ xs) s × (s.offset ≡ z)
    by (inl t) f = let q : Some x ≡ Some s = (rw t at e) in let r : x ≡ s = cc in (inl (sym r), ap (λ y. y.offset) (sym r) ∙ int_true x.offset z t)
    by (inr t) f = let g : Listed xs s × (s.offset ≡ z) = f (rw t at e) in (inr g.0, g.1)

-- where all listed at an offset are equal, that one is found
listed_first : (l : List Slot) (s : Slot) → Listed l s → ((x : Slot) → Listed l x → x.offset ≡ s.offset → x ≡ s) → first_at l s.offset ≡ Some s
listed_first [] s h f = absurd h
listed_first (x ∷ xs) s h f = by (cases_Bool (int_eq x.offset s.offset)) h (λ g. listed_first xs s g (λ y k. f y (inr k)))
  where
    by : (int_eq x.offset s.offset ≡ true) ⊎ (int_eq x.offset s.offset ≡ false) → Listed (x ∷ xs) s → (Listed xs s → first_at xs s.offset ≡ Some s) → first_at (x ∷ xs) s.offset ≡ Some s
    by (inl t) k g = let q : x ≡ s = f x (inl refl) (int_true x.offset s.offset t) in rw t (ap Some q)
    by (inr t) (inl k) g = absurd (not_both (int_eq x.offset s.offset) (int_same x.offset s.offset (ap (λ y. y.offset) (sym k))) t)
    by (inr t) (inr k) g = rw t (g k)

-- the slot of an own method, and of a hidden one
abbrev own_slot : (p : Program) (c : ℕ) (o : Place) (m t : ℕ) → Slot
own_slot p c o m t = record { offset = offset o; method = m; body = body_of p c m; bridge = to_type p c m t }

abbrev hidden_slot : (p : Program) (c : ℕ) (o : Place) (m : ℕ) → Slot
hidden_slot p c o m = record { offset = offset o; method = m; body = body_of p c m; bridge = 0 }

module _ (p : Program) (c : ℕ) where
  own_there : (t i j m : ℕ) (l : List ℕ) → slice_get l j ≡ Some m → Listed (own_slots p c t i l) (own_slot p c (place (tree_of p.types t) (i + j)) m t)
  own_there t i j m [] e = absurd (cc)
  own_there t i zero m (x ∷ xs) e = let q : m ≡ x = cc in let k : i + 0 ≡ i = omega arith in
      inl (ap (λ y. own_slot p c (place (tree_of p.types t) (i + 0)) y t) q ∙ ap (λ y. own_slot p c (place (tree_of p.types t) y) x t) k)
  own_there t i (suc j) m (x ∷ xs) e = let k : i + 1 + j ≡ i + suc j = omega arith in
      inr (subst (λ y. Listed (own_slots p c t (i + 1) xs) (own_slot p c (place (tree_of p.types t) y) m t)) k (own_there t (i + 1) j m xs e))

  seen_there : (w t : ℕ) (l : List Spot) (s : Slot) → HasSpot l t w → Listed (own_slots p c t 0 (own_of (tree_of p.types t))) s → Listed (seen_slots p c w l) s
  seen_there w t [] s h k = absurd h
  seen_there w t (x ∷ xs) s (inl h) k = listed_left (cond (nat_eq x.word w) (own_slots p c x.name 0 (own_of (tree_of p.types x.name))) []) (seen_slots p c w xs) s
      (subst (λ b. Listed (cond b (own_slots p c x.name 0 (own_of (tree_of p.types x.name))) []) s) (sym (eq-eqb x.word w (sym h.1)))
      (subst (λ y. Listed (own_slots p c y 0 (own_of (tree_of p.types y))) s) h.0 k))
  seen_there w t (x ∷ xs) s (inr h) k = listed_right (cond (nat_eq x.word w) (own_slots p c x.name 0 (own_of (tree_of p.types x.name))) []) (seen_slots p c w xs) s (seen_there w t xs s h k)

  hidden_there : (k j m : ℕ) (l : List ℕ) → slice_get l j ≡ Some m → Listed (hidden_slots p c k l) (hidden_slot p c (Above (k + j)) m)
  hidden_there k j m [] e = absurd (cc)
  hidden_there k zero m (x ∷ xs) e = let q : m ≡ x = cc in let r : k + 0 ≡ k = omega arith in
      inl (ap (λ y. hidden_slot p c (Above (k + 0)) y) q ∙ ap (λ y. hidden_slot p c (Above y) x) r)
  hidden_there k (suc j) m (x ∷ xs) e = let r : k + 1 + j ≡ k + suc j = omega arith in
      inr (subst (λ y. Listed (hidden_slots p c (k + 1) xs) (hidden_slot p c (Above y) m)) r (hidden_there (k + 1) j m xs e))

  -- an item of the list stands at a place
  record Own (t i : ℕ) (l : List ℕ) (s : Slot) : Type 0 where
    index : ℕ
    method : ℕ
    got : slice_get l index ≡ Some method
    is : s ≡ own_slot p c (place (tree_of p.types t) (i + index)) method t

  own_back : (t i : ℕ) (l : List ℕ) (s : Slot) → Listed (own_slots p c t i l) s → Own t i l s
  own_back t i [] s h = absurd h
  own_back t i (x ∷ xs) s (inl h) = let k : i ≡ i + 0 = omega arith in record { index = 0; method = x; got = refl; is = h ∙ ap (λ y. own_slot p c (place (tree_of p.types t) y) x t) k }
  own_back t i (x ∷ xs) s (inr h) = let q : Own t (i + 1) xs s = own_back t (i + 1) xs s h in let k : i + 1 + q.index ≡ i + suc q.index = omega arith in
      record { index = suc q.index; method = q.method; got = q.got; is = q.is ∙ ap (λ y. own_slot p c (place (tree_of p.types t) y) q.method t) k }

  record Hid (k : ℕ) (l : List ℕ) (s : Slot) : Type 0 where
    index : ℕ
    method : ℕ
    got : slice_get l index ≡ Some method
    is : s ≡ hidden_slot p c (Above (k + index)) method

  hidden_back : (k : ℕ) (l : List ℕ) (s : Slot) → Listed (hidden_slots p c k l) s → Hid k l s
  hidden_back k [] s h = absurd h
  hidden_back k (x ∷ xs) s (inl h) = let r : k ≡ k + 0 = omega arith in record { index = 0; method = x; got = refl; is = h ∙ ap (λ y. hidden_slot p c (Above y) x) r }
  hidden_back k (x ∷ xs) s (inr h) = let q : Hid (k + 1) xs s = hidden_back (k + 1) xs s h in let r : k + 1 + q.index ≡ k + suc q.index = omega arith in
      record { index = suc q.index; method = q.method; got = q.got; is = q.is ∙ ap (λ y. hidden_slot p c (Above y) q.method) r }

  record SeenAt (w : ℕ) (l : List Spot) (s : Slot) : Type 0 where
    type : ℕ
    seen : HasSpot l type w
    own : Listed (own_slots p c type 0 (own_of (tree_of p.types type))) s

  seen_back : (w : ℕ) (l : List Spot) (s : Slot) → Listed (seen_slots p c w l) s → SeenAt w l s
  seen_back w [] s h = absurd h
  seen_back w (x ∷ xs) s h = by (listed_either (cond (nat_eq x.word w) (own_slots p c x.name 0 (own_of (tree_of p.types x.name))) []) (seen_slots p c w xs) s h) (λ k. seen_back w xs s k)
    where
      here_at : (nat_eq x.word w ≡ true) ⊎ (nat_eq x.word w ≡ false) → Listed (cond (nat_eq x.word w) (own_slots p c x.name 0 (own_of (tree_of p.types x.name))) []) s → SeenAt w (x ∷ xs) s
      here_at (inl t) k = record { type = x.name; seen = inl (refl, sym (eqb-true x.word w t)); own = (rw t at k) }
      here_at (inr t) k = let z : ⊥ = (rw t at k) in absurd z

      by : Listed (cond (nat_eq x.word w) (own_slots p c x.name 0 (own_of (tree_of p.types x.name))) []) s ⊎ Listed (seen_slots p c w xs) s → (Listed (seen_slots p c w xs) s → SeenAt w xs s) → SeenAt w (x ∷ xs) s
      by (inl k) again = here_at (cases_Bool (nat_eq x.word w)) k
      by (inr k) again = let q : SeenAt w xs s = again k in record { type = q.type; seen = inr q.seen; own = q.own }

  -- the list has a slot exactly where a type seen or the class has it
  pub own_listed : (w : ℕ) (o : Place) (m t : ℕ) → OwnSlot p c w o m t → Listed (table_slots p c w) (own_slot p c o m t)
  own_listed w o m t a = listed_left (seen_slots p c w (object_spots (chain_of p c))) (cond (nat_eq w 0) (hidden_slots p c (raised p.types) (hidden (chain_of p c))) []) (own_slot p c o m t)
      (seen_there w t (object_spots (chain_of p c)) (own_slot p c o m t) a.seen
      (subst (λ q. Listed (own_slots p c t 0 (own_of (tree_of p.types t))) (own_slot p c q m t)) (ap (place (tree_of p.types t)) (let z : 0 + a.index ≡ a.index = omega arith in z) ∙ sym a.there)
      (own_there t 0 a.index m (own_of (tree_of p.types t)) a.method)))

  pub hidden_listed : (w : ℕ) (o : Place) (m : ℕ) → HiddenAt p c w o m → Listed (table_slots p c w) (hidden_slot p c o m)
  hidden_listed w o m a = listed_right (seen_slots p c w (object_spots (chain_of p c))) (cond (nat_eq w 0) (hidden_slots p c (raised p.types) (hidden (chain_of p c))) []) (hidden_slot p c o m)
      (subst (λ b. Listed (cond b (hidden_slots p c (raised p.types) (hidden (chain_of p c))) []) (hidden_slot p c o m)) (sym (eq-eqb w 0 a.anchor))
      (subst (λ q. Listed (hidden_slots p c (raised p.types) (hidden (chain_of p c))) (hidden_slot p c q m)) (sym a.there)
      (hidden_there (raised p.types) a.index m (hidden (chain_of p c)) a.method)))

  record IsOwn (w : ℕ) (s : Slot) : Type 0 where
    at : Place
    method : ℕ
    type : ℕ
    own : OwnSlot p c w at method type
    is : s ≡ own_slot p c at method type

  record IsHidden (w : ℕ) (s : Slot) : Type 0 where
    at : Place
    method : ℕ
    hid : HiddenAt p c w at method
    is : s ≡ hidden_slot p c at method

  slot_back : (w : ℕ) (s : Slot) → Listed (table_slots p c w) s → IsOwn w s ⊎ IsHidden w s
  slot_back w s h = by (listed_either (seen_slots p c w (object_spots (chain_of p c))) (cond (nat_eq w 0) (hidden_slots p c (raised p.types) (hidden (chain_of p c))) []) s h)
    where
      own_case : SeenAt w (object_spots (chain_of p c)) s → IsOwn w s
      own_case k = let q : Own k.type 0 (own_of (tree_of p.types k.type)) s = own_back k.type 0 (own_of (tree_of p.types k.type)) s k.own in
          let z : 0 + q.index ≡ q.index = omega arith in
          record {
            at = place (tree_of p.types k.type) q.index;
            method = q.method;
            type = k.type;
            own = record { index = q.index; seen = k.seen; method = q.got; there = refl };
            is = q.is ∙ ap (λ y. own_slot p c (place (tree_of p.types k.type) y) q.method k.type) z;
          }

      hidden_case : (nat_eq w 0 ≡ true) ⊎ (nat_eq w 0 ≡ false) → Listed (cond (nat_eq w 0) (hidden_slots p c (raised p.types) (hidden (chain_of p c))) []) s → IsHidden w s
      hidden_case (inl t) k = let q : Hid (raised p.types) (hidden (chain_of p c)) s = hidden_back (raised p.types) (hidden (chain_of p c)) s (rw t at k) in
          record { at = Above (raised p.types + q.index); method = q.method; hid = record { index = q.index; anchor = eqb-true w 0 t; method = q.got; there = refl }; is = q.is }
      hidden_case (inr t) k = let z : ⊥ = (rw t at k) in absurd z

      by : Listed (seen_slots p c w (object_spots (chain_of p c))) s ⊎ Listed (cond (nat_eq w 0) (hidden_slots p c (raised p.types) (hidden (chain_of p c))) []) s → IsOwn w s ⊎ IsHidden w s
      by (inl k) = inl (own_case (seen_back w (object_spots (chain_of p c)) s k))
      by (inr k) = inr (hidden_case (cases_Bool (nat_eq w 0)) k)

  module _ (v : V5 p) where
    at_own : (w : ℕ) (o : Place) (m t : ℕ) → OwnSlot p c w o m t → (x : Slot) → IsOwn w x ⊎ IsHidden w x → x.offset ≡ offset o → x ≡ own_slot p c o m t
    at_own w o m t a x (inl y) e =
        let q : y.at ≡ o = offset_one y.at o (sym (ap (λ s. s.offset) y.is) ∙ e) in
        let b : OwnSlot p c w o y.method y.type = subst (λ z. OwnSlot p c w z y.method y.type) q y.own in
        let k : (y.method ≡ m) × (y.type ≡ t) = v.own c w o y.method m y.type t b a in
        y.is ∙ ap (λ z. own_slot p c z y.method y.type) q ∙ ap (λ z. own_slot p c o z y.type) k.0 ∙ ap (own_slot p c o m) k.1
    at_own w o m t a x (inr y) e =
        let q : y.at ≡ o = offset_one y.at o (sym (ap (λ s. s.offset) y.is) ∙ e) in
        absurd (v.apart c w o m y.method t a (subst (λ z. HiddenAt p c w z y.method) q y.hid))

    at_hidden : (w : ℕ) (o : Place) (m : ℕ) → HiddenAt p c w o m → (x : Slot) → IsOwn w x ⊎ IsHidden w x → x.offset ≡ offset o → x ≡ hidden_slot p c o m
    at_hidden w o m a x (inl y) e =
        let q : y.at ≡ o = offset_one y.at o (sym (ap (λ s. s.offset) y.is) ∙ e) in
        absurd (v.apart c w o y.method m y.type (subst (λ z. OwnSlot p c w z y.method y.type) q y.own) a)
    at_hidden w o m a x (inr y) e =
        let q : y.at ≡ o = offset_one y.at o (sym (ap (λ s. s.offset) y.is) ∙ e) in
        let k : y.method ≡ m = v.hidden c w o y.method m (subst (λ z. HiddenAt p c w z y.method) q y.hid) a in
        y.is ∙ ap (λ z. hidden_slot p c z y.method) q ∙ ap (hidden_slot p c o) k

    pub own_found : (w : ℕ) (o : Place) (m t : ℕ) → OwnSlot p c w o m t → slot_at p c w (offset o) ≡ Some (own_slot p c o m t)
    own_found w o m t a = listed_first (table_slots p c w) (own_slot p c o m t) (own_listed w o m t a) (λ x h e. at_own w o m t a x (slot_back w x h) e)

    pub hidden_found : (w : ℕ) (o : Place) (m : ℕ) → HiddenAt p c w o m → slot_at p c w (offset o) ≡ Some (hidden_slot p c o m)
    hidden_found w o m a = listed_first (table_slots p c w) (hidden_slot p c o m) (hidden_listed w o m a) (λ x h e. at_hidden w o m a x (slot_back w x h) e)

  pub only_these : (w : ℕ) (z : ℤ) (s : Slot) → slot_at p c w z ≡ Some s
      → ((o : Place) × (m : ℕ) × (t : ℕ) × OwnSlot p c w o m t × (z ≡ offset o)) ⊎ ((o : Place) × (m : ℕ) × HiddenAt p c w o m × (z ≡ offset o))
  only_these w z s e = by (slot_back w s g.0)
    where
      g : Listed (table_slots p c w) s × (s.offset ≡ z)
      g = first_listed (table_slots p c w) z s e

      by : IsOwn w s ⊎ IsHidden w s → ((o : Place) × (m : ℕ) × (t : ℕ) × OwnSlot p c w o m t × (z ≡ offset o)) ⊎ ((o : Place) × (m : ℕ) × HiddenAt p c w o m × (z ≡ offset o))
      by (inl y) = inl (y.at, y.method, y.type, y.own, sym g.1 ∙ ap (λ x. x.offset) y.is)
      by (inr y) = inr (y.at, y.method, y.hid, sym g.1 ∙ ap (λ x. x.offset) y.is)

pub all_v3_whole : (p : Program) → Sound p → V3Whole p
all_v3_whole p g = record { own = λ c w o m t a. own_found p c (all_v5 p g) w o m t a; hidden = λ c w o m a. hidden_found p c (all_v5 p g) w o m a; only = λ c w z s e. only_these p c w z s e }
