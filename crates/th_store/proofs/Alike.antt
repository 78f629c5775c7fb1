-- Look-ups and changes of worlds and stocks that are alike.
use Rattle.std.proofs.Common.{◌≡◌, ◌≢◌, refl, sym, ap, ◌∙◌, ℕ, zero, suc, ◌+◌, ◌<◌, ◌≤◌, get_or, Result, Ok, Err, IfOk, IfErr, OnOk, OnErr, IfSome, IfNone, arith, ℤ, pos, negsuc, Bool, true, false, ◌&&◌, List, [], ◌∷◌, ◌++◌, find, length, set, Option, Some, None, option_map, slice_get, cond, subst}
use Rattle.th_meaning.specs.World.{Slot, is_slot, Object, Instance, Array, World, Effect, Did, Stops, Fails, Stuck, on_array, on_instance, within_bounds, item_at, with_item, if_set, element, array_length, field_value, set_element, set_field, with_object, add_object, and_then}
use Rattle.th_meaning.specs.Meaning.{Value, class_of}
use Rattle.th_store.specs.Stock.{Stock}
use denote.Ref.{Bor}
use Rattle.th_store.specs.declared.object.Miss.{Miss}
use Rattle.th_store.specs.declared.object.Miss.TheVariants.{Stuck as IsStuck, Unset as IsUnset, Bounds}
use Rattle.th_store.specs.Found.{missed}
use Rattle.th_store.specs.Slots.{with_slot, SetsSlot, StaysArray, SlotSets}
use Rattle.th_store.proofs.Slots.{find_with}
use Rattle.th_store.specs.Alike.{SlotsAlike, ObjectAlike, AllAlike, Alike, SetsTo, FieldSets, Adds}

-- objects that there may be
abbrev pub FoundAlike : Option (Object Value) → Option (Object Value) → Type 0
FoundAlike None None = Unit {0}
FoundAlike None (Some b) = ⊥
FoundAlike (Some a) None = ⊥
FoundAlike (Some a) (Some b) = ObjectAlike a b

pub get_alike : (xs ys : List (Object Value)) (k : ℕ) → AllAlike xs ys → FoundAlike (slice_get xs k) (slice_get ys k)
get_alike [] [] k h = tt
get_alike [] (y ∷ ys) k h = absurd h
get_alike (x ∷ xs) [] k h = absurd h
get_alike (x ∷ xs) (y ∷ ys) zero h = h.0
get_alike (x ∷ xs) (y ∷ ys) (suc k) h = get_alike xs ys k h.1

pub set_alike : (xs ys : List (Object Value)) (k : ℕ) (x y : Object Value) → AllAlike xs ys → ObjectAlike x y → AllAlike (set xs k x) (set ys k y)
set_alike [] [] k x y h o = tt
set_alike [] (b ∷ ys) k x y h o = absurd h
set_alike (a ∷ xs) [] k x y h o = absurd h
set_alike (a ∷ xs) (b ∷ ys) zero x y h o = (o, h.1)
set_alike (a ∷ xs) (b ∷ ys) (suc k) x y h o = (h.0, set_alike xs ys k x y h.1 o)

pub append_alike : (xs ys : List (Object Value)) (x y : Object Value) → AllAlike xs ys → ObjectAlike x y → AllAlike (xs ++ x ∷ []) (ys ++ y ∷ [])
append_alike [] [] x y h o = (o, tt)
append_alike [] (b ∷ ys) x y h o = absurd h
append_alike (a ∷ xs) [] x y h o = absurd h
append_alike (a ∷ xs) (b ∷ ys) x y h o = (h.0, append_alike xs ys x y h.1 o)

pub length_alike : (xs ys : List (Object Value)) → AllAlike xs ys → length xs ≡ length ys
length_alike [] [] h = refl
length_alike [] (y ∷ ys) h = absurd h
length_alike (x ∷ xs) [] h = absurd h
length_alike (x ∷ xs) (y ∷ ys) h = ap suc (length_alike xs ys h.1)

pub same_alike : (o : Object Value) → ObjectAlike o o
same_alike (Instance c slots) = (refl, λ class f. refl)
same_alike (Array elements) = refl

-- the elements of arrays that are alike are equal
pub on_array_alike : {A : Type 0} → (a b : Option (Object Value)) (w : World Value) (f : List Value → Effect Value A) → FoundAlike a b → on_array a w f ≡ on_array b w f
on_array_alike None None w f h = refl
on_array_alike None (Some b) w f h = absurd h
on_array_alike (Some a) None w f h = absurd h
on_array_alike (Some (Instance c xs)) (Some (Instance d ys)) w f h = refl
on_array_alike (Some (Instance c xs)) (Some (Array ys)) w f h = absurd h
on_array_alike (Some (Array xs)) (Some (Instance d ys)) w f h = absurd h
on_array_alike (Some (Array xs)) (Some (Array ys)) w f h = ap f h

-- the value of a field of objects that are alike
pub on_field_alike : (a b : Option (Object Value)) (w : World Value) (class : List ℕ) (f : ℕ) → FoundAlike a b
    → on_instance a w (λ _ slots. if_set (option_map (λ s. s.value) (find (is_slot class f) slots)) w)
    ≡ on_instance b w (λ _ slots. if_set (option_map (λ s. s.value) (find (is_slot class f) slots)) w)
on_field_alike None None w class f h = refl
on_field_alike None (Some b) w class f h = absurd h
on_field_alike (Some a) None w class f h = absurd h
on_field_alike (Some (Instance c xs)) (Some (Instance d ys)) w class f h = ap (λ v. if_set v w) (h.1 class f)
on_field_alike (Some (Instance c xs)) (Some (Array ys)) w class f h = absurd h
on_field_alike (Some (Array xs)) (Some (Instance d ys)) w class f h = absurd h
on_field_alike (Some (Array xs)) (Some (Array ys)) w class f h = refl

-- the classes of objects that are alike
pub class_alike : (a b : Option (Object Value)) → FoundAlike a b → class_of a ≡ class_of b
class_alike None None h = refl
class_alike None (Some b) h = absurd h
class_alike (Some a) None h = absurd h
class_alike (Some (Instance c xs)) (Some (Instance d ys)) h = ap Some h.0
class_alike (Some (Instance c xs)) (Some (Array ys)) h = absurd h
class_alike (Some (Array xs)) (Some (Instance d ys)) h = absurd h
class_alike (Some (Array xs)) (Some (Array ys)) h = refl

before_both : (x : Bool) (new : Slot Value) (l m : Option (Slot Value)) → option_map (λ s. s.value) l ≡ option_map (λ s. s.value) m
    → option_map (λ s. s.value) (cond x (Some new) l) ≡ option_map (λ s. s.value) (cond x (Some new) m)
before_both true new l m h = refl
before_both false new l m h = h

-- what it does to a world where a field of an object is set, and to a stock where its slot is set
pub slots_alike : (new : Slot Value) (xs ys : List (Slot Value)) → SlotsAlike xs ys → SlotsAlike (new ∷ xs) (with_slot new ys)
slots_alike new xs ys h d g = before_both (is_slot d g new) new (find (is_slot d g) xs) (find (is_slot d g) ys) (h d g) ∙ sym (find_with d g new ys)

-- the stock's objects with another one
abbrev pub with_thing : Stock → ℕ → Object Value → Stock
with_thing s k o = record s { objects = set s.objects k o }

item_there : (o : Option (Object Value)) (w : World Value) (elements : List Value) (f : List Value → Effect Value (Unit {0})) → FoundAlike o (Some (Array elements))
    → on_array o w f ≡ f elements
item_there o w elements f h = on_array_alike o (Some (Array elements)) w f h

-- an element of an array is set
pub sets_element : (w : World Value) (s : Stock) (k : ℕ) (i : ℤ) (v x : Value) (elements : List Value) → Alike w s
    → slice_get s.objects k ≡ Some (Array elements) → item_at elements i ≡ Some x
    → SetsTo (set_element k i v w) w (with_thing s k (Array (with_item elements i v)))
sets_element w s k i v x elements h there item =
    let found : FoundAlike (slice_get w.objects k) (Some (Array elements)) = subst (FoundAlike (slice_get w.objects k)) there (get_alike w.objects s.objects k h.objects) in
    record {
      objects = set w.objects k (Array (with_item elements i v));
      is = item_there (slice_get w.objects k) w elements _ found ∙ rw item refl;
      alike = record { turns = h.turns; room = h.room; objects = set_alike w.objects s.objects k _ _ h.objects refl };
    }

instance_there : (o : Option (Object Value)) (c : List ℕ) (ys : List (Slot Value)) → FoundAlike o (Some (Instance c ys)) → (xs : List (Slot Value)) × (o ≡ Some (Instance c xs)) × SlotsAlike xs ys
instance_there None c ys h = absurd h
instance_there (Some (Instance d xs)) c ys h = (xs, ap (λ n. Some (Instance n xs)) h.0, h.1)
instance_there (Some (Array xs)) c ys h = absurd h

-- a field of an object is set
pub sets_field : (w : World Value) (s : Stock) (k : ℕ) (c class : List ℕ) (f : ℕ) (v : Value) (slots : List (Slot Value)) → Alike w s
    → slice_get s.objects k ≡ Some (Instance c slots)
    → SetsTo (set_field k class f v w) w (with_thing s k (Instance c (with_slot (record { class = class; field = f; value = v }) slots)))
sets_field w s k c class f v slots h there =
    let found : FoundAlike (slice_get w.objects k) (Some (Instance c slots)) = subst (FoundAlike (slice_get w.objects k)) there (get_alike w.objects s.objects k h.objects) in
    let here : (xs : List (Slot Value)) × (slice_get w.objects k ≡ Some (Instance c xs)) × SlotsAlike xs slots = instance_there (slice_get w.objects k) c slots found in
    record {
      objects = set w.objects k (Instance c (record { class = class; field = f; value = v } ∷ here.0));
      is = ap (λ o. on_instance o w (λ d xs. Did tt (with_object k (Instance d (record { class = class; field = f; value = v } ∷ xs)) w))) here.1;
      alike = record { turns = h.turns; room = h.room; objects = set_alike w.objects s.objects k _ _ h.objects (refl, slots_alike _ here.0 slots here.2) };
    }

no_instance : (o : Option (Object Value)) (w : World Value) (f : List ℕ → List (Slot Value) → Effect Value (Unit {0})) → FoundAlike o None → on_instance o w f ≡ Stops Stuck w
no_instance None w f h = refl
no_instance (Some o) w f h = absurd h

no_array : (o : Option (Object Value)) (w : World Value) (elements : List Value) (f : List ℕ → List (Slot Value) → Effect Value (Unit {0})) → FoundAlike o (Some (Array elements)) → on_instance o w f ≡ Stops Stuck w
no_array None w elements f h = absurd h
no_array (Some (Instance c xs)) w elements f h = absurd h
no_array (Some (Array xs)) w elements f h = refl

-- where there is no object nothing is set
pub no_field : (w : World Value) (s : Stock) (k : ℕ) (class : List ℕ) (f : ℕ) (v : Value) → Alike w s → slice_get s.objects k ≡ None → set_field k class f v w ≡ Stops Stuck w
no_field w s k class f v h there = no_instance (slice_get w.objects k) w _ (subst (FoundAlike (slice_get w.objects k)) there (get_alike w.objects s.objects k h.objects))

-- and where it is an array
pub array_field : (w : World Value) (s : Stock) (k : ℕ) (class : List ℕ) (f : ℕ) (v : Value) (elements : List Value) → Alike w s → slice_get s.objects k ≡ Some (Array elements)
    → set_field k class f v w ≡ Stops Stuck w
array_field w s k class f v elements h there = no_array (slice_get w.objects k) w elements _ (subst (FoundAlike (slice_get w.objects k)) there (get_alike w.objects s.objects k h.objects))

-- an object is added
pub adds : (w : World Value) (s : Stock) (o : Object Value) → Alike w s → Adds o w (length s.objects) (record s { objects = s.objects ++ o ∷ [] })
adds w s o h = record {
  is = ap (λ n. Did n (record w { objects = w.objects ++ o ∷ [] })) (length_alike w.objects s.objects h.objects);
  alike = record { turns = h.turns; room = h.room; objects = append_alike w.objects s.objects o o h.objects (same_alike o) };
}

-- the class of an object
pub class_at : (w : World Value) (s : Stock) (k : ℕ) (o : Option (Object Value)) → Alike w s → o ≡ slice_get s.objects k → class_of (slice_get w.objects k) ≡ class_of o
class_at w s k o h there = class_alike (slice_get w.objects k) (slice_get s.objects k) (get_alike w.objects s.objects k h.objects) ∙ ap class_of (sym there)

pub class_some : (s : Stock) (k : ℕ) (o : Object Value) (r : Option (Bor (List ℕ))) → Some o ≡ slice_get s.objects k → IfSome r (λ class. class_of (Some o) ≡ Some class.now)
    → IfSome r (λ class. (w : World Value) → Alike w s → class_of (slice_get w.objects k) ≡ Some class.now)
class_some s k o None there h = h
class_some s k o (Some class) there h = λ w a. class_at w s k (Some o) a there ∙ h

pub class_none : (s : Stock) (k : ℕ) (o : Object Value) (r : Option (Bor (List ℕ))) → Some o ≡ slice_get s.objects k → IfNone r (class_of (Some o) ≡ None)
    → IfNone r ((w : World Value) → Alike w s → class_of (slice_get w.objects k) ≡ None)
class_none s k o None there h = λ w a. class_at w s k (Some o) a there ∙ h
class_none s k o (Some class) there h = h

-- look-ups
pub length_at : (w : World Value) (s : Stock) (k : ℕ) (o : Option (Object Value)) → Alike w s → o ≡ slice_get s.objects k → array_length k w ≡ on_array o w (λ elements. Did (length elements) w)
length_at w s k o h there =
    on_array_alike (slice_get w.objects k) (slice_get s.objects k) w (λ elements. Did (length elements) w) (get_alike w.objects s.objects k h.objects)
    ∙ ap (λ x. on_array x w (λ elements. Did (length elements) w)) (sym there)

pub element_at : (w : World Value) (s : Stock) (k : ℕ) (i : ℤ) (o : Option (Object Value)) → Alike w s → o ≡ slice_get s.objects k → element k i w ≡ on_array o w (λ elements. within_bounds (item_at elements i) w)
element_at w s k i o h there =
    on_array_alike (slice_get w.objects k) (slice_get s.objects k) w (λ elements. within_bounds (item_at elements i) w) (get_alike w.objects s.objects k h.objects)
    ∙ ap (λ x. on_array x w (λ elements. within_bounds (item_at elements i) w)) (sym there)

pub field_at : (w : World Value) (s : Stock) (k : ℕ) (class : List ℕ) (f : ℕ) (o : Option (Object Value)) → Alike w s → o ≡ slice_get s.objects k
    → field_value k class f w ≡ on_instance o w (λ _ slots. if_set (option_map (λ t. t.value) (find (is_slot class f) slots)) w)
field_at w s k class f o h there =
    on_field_alike (slice_get w.objects k) (slice_get s.objects k) w class f (get_alike w.objects s.objects k h.objects)
    ∙ ap (λ x. on_instance x w (λ _ slots. if_set (option_map (λ t. t.value) (find (is_slot class f) slots)) w)) (sym there)

-- an object is added
pub adds_by : (w : World Value) (s now : Stock) (o : Object Value) (n : ℕ) (items : List (Object Value)) → n ≡ length s.objects → items ≡ s.objects ++ o ∷ [] → s ≡ now → Alike w now
    → Adds o w n (record s { objects = items })
adds_by w s now o n items long is same h =
    subst (λ xs. Adds o w n (record s { objects = xs })) (sym is) (subst (λ m. Adds o w m (record s { objects = s.objects ++ o ∷ [] })) (sym long) (adds w s o (subst (Alike w) (sym same) h)))

past : {A : Type 0} → (xs : List A) (k : ℕ) → length xs ≤ k → slice_get xs k ≡ None
past [] k h = refl
past (x ∷ xs) zero h = absurd (omega (arith, h))
past (x ∷ xs) (suc k) h = past xs k (omega (arith, h))

within : {A : Type 0} → (xs : List A) (k : ℕ) (x : A) → k < length xs → x ≡ get_or xs k x → slice_get xs k ≡ Some x
within [] k x h e = absurd (omega (arith, h))
within (y ∷ xs) zero x h e = ap Some (sym e)
within (y ∷ xs) (suc k) x h e = within xs k x (omega (arith, h)) e

-- an item that is put where it stands
pub set_same : {A : Type 0} → (xs : List A) (k : ℕ) (x : A) → k < length xs → x ≡ get_or xs k x → set xs k x ≡ xs
set_same [] k x h e = refl
set_same (y ∷ xs) zero x h e = ap (λ z. z ∷ xs) e
set_same (y ∷ xs) (suc k) x h e = ap (λ zs. y ∷ zs) (set_same xs k x (omega (arith, h)) e)

-- there is no object
pub no_element_set : (s now : Stock) (k n : ℕ) (i : ℤ) (v : Value) → n ≡ length s.objects → n ≤ k → s ≡ now → (w : World Value) → Alike w now → set_element k i v w ≡ Stops Stuck w
no_element_set s now k n i v long beyond same w h =
    let a : Alike w s = subst (Alike w) (sym same) h in
    let p : length s.objects ≤ k = omega (arith, long, beyond) in
    on_array_alike (slice_get w.objects k) (slice_get s.objects k) w _ (get_alike w.objects s.objects k a.objects)
    ∙ ap (λ x. on_array x w (λ elements. and_then (within_bounds (item_at elements i) w) (λ _ w1. Did tt (with_object k (Array (with_item elements i v)) w1)))) (past s.objects k p)

pub no_field_set : (s now : Stock) (k n : ℕ) (class : List ℕ) (f : ℕ) (v : Value) → n ≡ length s.objects → n ≤ k → s ≡ now → (w : World Value) → Alike w now → FieldSets false (set_field k class f v w) w now
no_field_set s now k n class f v long beyond same w h =
    let p : length s.objects ≤ k = omega (arith, long, beyond) in
    (no_field w s k class f v (subst (Alike w) (sym same) h) (past s.objects k p), h)

-- an element is set
pub element_sets : (r : Result (Unit {0}) Miss) (s now : Stock) (k : ℕ) (i : ℤ) (v : Value) (x y : Object Value) → k < length s.objects → x ≡ get_or s.objects k x → s ≡ now
    → OnOk r ((elements : List Value) × (x ≡ Array elements) × (found_item : Value) × (item_at elements i ≡ Some found_item) × (y ≡ Array (with_item elements i v)))
    → OnOk r ((w : World Value) → Alike w now → SetsTo (set_element k i v w) w (with_thing s k y))
element_sets (Err e) s now k i v x y below is same h = h
element_sets (Ok u) s now k i v x y below is same h = λ w a.
    subst (λ z. SetsTo (set_element k i v w) w (with_thing s k z)) (sym h.4)
    (sets_element w s k i v h.2 h.0 (subst (Alike w) (sym same) a) (within s.objects k x below is ∙ ap Some h.1) h.3)

miss_item : (o : Option Value) (miss : Miss) (w : World Value) (f : Value → World Value → Effect Value (Unit {0})) → within_bounds o w ≡ missed miss w → and_then (within_bounds o w) f ≡ missed miss w
miss_item None IsStuck w f h = cc
miss_item None IsUnset w f h = cc
miss_item None Bounds w f h = refl
miss_item (Some a) IsStuck w f h = cc
miss_item (Some a) IsUnset w f h = cc
miss_item (Some a) Bounds w f h = cc

miss_by : (x : Object Value) (miss : Miss) (w : World Value) (i : ℤ) (f : List Value → Value → World Value → Effect Value (Unit {0}))
    → on_array (Some x) w (λ elements. within_bounds (item_at elements i) w) ≡ missed miss w → on_array (Some x) w (λ elements. and_then (within_bounds (item_at elements i) w) (f elements)) ≡ missed miss w
miss_by (Instance c slots) IsStuck w i f h = refl
miss_by (Instance c slots) IsUnset w i f h = cc
miss_by (Instance c slots) Bounds w i f h = cc
miss_by (Array elements) miss w i f h = miss_item (item_at elements i) miss w (f elements) h

-- it isn't there
pub element_missed : (r : Result (Unit {0}) Miss) (s now : Stock) (k : ℕ) (i : ℤ) (v : Value) (x : Object Value) → k < length s.objects → x ≡ get_or s.objects k x → s ≡ now
    → IfErr r (λ miss. (w : World Value) → on_array (Some x) w (λ elements. within_bounds (item_at elements i) w) ≡ missed miss w)
    → IfErr r (λ miss. (w : World Value) → Alike w now → set_element k i v w ≡ missed miss w)
element_missed (Ok u) s now k i v x below is same h = h
element_missed (Err miss) s now k i v x below is same h = λ w a.
    on_array_alike (slice_get w.objects k) (slice_get s.objects k) w _ (get_alike w.objects s.objects k (subst (Alike w) (sym same) a).objects)
    ∙ ap (λ o. on_array o w (λ elements. and_then (within_bounds (item_at elements i) w) (λ _ w1. Did tt (with_object k (Array (with_item elements i v)) w1)))) (within s.objects k x below is)
    ∙ miss_by x miss w i (λ elements _ w1. Did tt (with_object k (Array (with_item elements i v)) w1)) (h w)

-- then the stock stays
pub element_kept : (r : Result (Unit {0}) Miss) (s now : Stock) (k : ℕ) (x y : Object Value) → k < length s.objects → x ≡ get_or s.objects k x → s ≡ now → OnErr r (y ≡ x) → IfErr r (λ miss. with_thing s k y ≡ now)
element_kept (Ok u) s now k x y below is same h = h
element_kept (Err miss) s now k x y below is same h = ap (λ z. with_thing s k z) h ∙ ap (λ xs. record s { objects = xs }) (set_same s.objects k x below is) ∙ same

-- a field is set
pub field_sets : {E : Type 0} → (r : Result Bool E) (s now : Stock) (k : ℕ) (class : List ℕ) (f : ℕ) (v : Value) (x y : Object Value) → k < length s.objects → x ≡ get_or s.objects k x → s ≡ now
    → IfOk r (λ set. SlotSets set x (record { class = class; field = f; value = v }) y) → IfOk r (λ set. (w : World Value) → Alike w now → FieldSets set (set_field k class f v w) w (with_thing s k y))
field_sets (Err e) s now k class f v x y below is same h = h
field_sets (Ok true) s now k class f v x y below is same h = λ w a.
    subst (λ z. SetsTo (set_field k class f v w) w (with_thing s k z)) (sym h.is)
    (sets_field w s k h.class class f v h.slots (subst (Alike w) (sym same) a) (within s.objects k x below is ∙ ap Some h.was))
field_sets (Ok false) s now k class f v x y below is same h = λ w a.
    let b : Alike w s = subst (Alike w) (sym same) a in
    let e : with_thing s k y ≡ s = ap (λ z. with_thing s k z) h.is ∙ ap (λ xs. record s { objects = xs }) (set_same s.objects k x below is) in
    (array_field w s k class f v h.elements b (within s.objects k x below is ∙ ap Some h.was), subst (Alike w) (sym e) b)
