-- Each effect with more turns.
use Rattle.std.proofs.Common.{◌≡◌, ℕ, zero, suc, ◌+◌, ◌-◌, ◌*◌, ◌≤◌, Bool, true, false, List, [], ◌∷◌, ◌++◌, Option, Some, None, refl, arith, length}
use Rattle.std.specs.Prelude.{ℤ, pos, negsuc, ◌+ℤ◌, ◌-ℤ◌, ◌*ℤ◌, neg_ℤ, int_div, int_rem, nat_lt, nat_eq, slice_get, option_map, find, replicate, if◌then◌else◌}
use Rattle.std.specs.Fmt.{signed_decimal}
use Rattle.th_world.specs.Event.{Event, Put, Took, FoundEnd, Entered, Prefix}
use Rattle.th_meaning.specs.World.{Object, Instance, Array, Slot, World, Halt, OutOfTurns, OutOfRoom, Unset, Stuck, Deep, Effect, Did, Fails, Stops, and_then, overflow, zero_divide, bounds, end_of_input, spend, lacks_room, reserve, note, enter, yield_weight, open_yield, fits_word, unless_overflow, is_zero, quotient, remainder, put_byte, put_all, put_int, put_each, put_text, take_of, get_byte, greatest, text_weight, join, item_at, within_bounds, letter, add_object, new_object, new_array, on_array, element, array_length, with_item, with_object, set_element, on_instance, is_slot, if_set, field_value, set_field}
use Rattle.th_meaning.proofs.Effects.{plus, Later, later_refl, later_trans, prefix_refl, FineEffect, fine_effects, fine_did, fine_fails, fine_by, fine_stops, fine_if, fine_after, fine_spend}

abbrev reserved : {V : Type 0} → ℕ → World V → World V
reserved k w = record w { room = option_map (λ room. room - k) w.room }

pub fine_reserve : {V : Type 0} (d k : ℕ) → FineEffect {V = V} d (reserve k)
fine_reserve d k = fine_by d (λ w. w.room) (λ room w. if lacks_room room k then Stops OutOfRoom w else Did tt (reserved k w)) (λ w. refl)
    (λ room. fine_if d (lacks_room room k) (λ w. Stops OutOfRoom w) (λ w. Did tt (reserved k w))
    (fine_stops d OutOfRoom tt (λ w. refl)) (fine_did d tt (reserved k) (λ w. record { turns = omega arith; trace = prefix_refl w.trace }) (λ w. refl)))

later_note : {V : Type 0} (e : Event) (w : World V) → Later w (note e w)
later_note e w = record { turns = omega arith; trace = record { more = e ∷ []; is = refl } }

pub fine_enter : {V : Type 0} (d weight : ℕ) (unit : List ℕ) → FineEffect {V = V} d (enter weight unit)
fine_enter d weight unit = fine_effects d (reserve weight) (λ _ w1. Did tt (note (Entered unit) w1)) (fine_reserve d weight)
    (λ _. fine_did d tt (note (Entered unit)) (later_note (Entered unit)) (λ w. refl))

pub fine_open_yield : {V : Type 0} (d : ℕ) → FineEffect {V = V} d open_yield
fine_open_yield d = fine_effects d (spend 1) (λ _ w1. reserve yield_weight w1) (fine_spend d 1) (λ _. fine_reserve d yield_weight)

pub fine_result : {V A : Type 0} (d : ℕ) (a : A) → FineEffect {V = V} d (λ w. Did a w)
fine_result d a = fine_did d a (λ w. w) later_refl (λ w. refl)

pub fine_failure : {V A : Type 0} (d : ℕ) (x : List ℕ) → FineEffect {V = V} {A = A} d (λ w. Fails x w)
fine_failure d x = fine_fails d x (λ w. w) later_refl (λ w. refl)

pub fine_stuck : {V A : Type 0} (d : ℕ) → FineEffect {V = V} {A = A} d (λ w. Stops Stuck w)
fine_stuck d = fine_stops d Stuck tt (λ w. refl)

pub fine_unless_overflow : {V : Type 0} (d : ℕ) (x y : ℤ) → FineEffect {V = V} d (unless_overflow x y)
fine_unless_overflow d x y = fine_if d (fits_word x) (λ w. Did y w) (λ w. Fails overflow w) (fine_result d y) (fine_failure d overflow)

pub fine_quotient : {V : Type 0} (d : ℕ) (x y : ℤ) → FineEffect {V = V} d (quotient x y)
fine_quotient d x y = fine_if d (is_zero y) (λ w. Fails zero_divide w) (unless_overflow (int_div x y) (int_div x y)) (fine_failure d zero_divide) (fine_unless_overflow d (int_div x y) (int_div x y))

pub fine_remainder : {V : Type 0} (d : ℕ) (x y : ℤ) → FineEffect {V = V} d (remainder x y)
fine_remainder d x y = fine_if d (is_zero y) (λ w. Fails zero_divide w) (unless_overflow (int_div x y) (int_rem x y)) (fine_failure d zero_divide) (fine_unless_overflow d (int_div x y) (int_rem x y))

pub fine_put_byte : {V : Type 0} (d : ℕ) (x : ℤ) → FineEffect {V = V} d (put_byte x)
fine_put_byte d (pos n) = fine_if d (nat_lt n 256) (λ w. Did tt (note (Put n) w)) (λ w. Fails bounds w) (fine_did d tt (note (Put n)) (later_note (Put n)) (λ w. refl)) (fine_failure d bounds)
fine_put_byte d (negsuc n) = fine_failure d bounds

later_put_all : {V : Type 0} (bytes : List ℕ) (w : World V) → Later w (put_all bytes w)
later_put_all [] w = later_refl w
later_put_all (b ∷ bytes) w = later_trans w (note (Put b) w) (put_all bytes (note (Put b) w)) (later_note (Put b) w) (later_put_all bytes (note (Put b) w))

plus_put_all : {V : Type 0} (d : ℕ) (bytes : List ℕ) (w : World V) → put_all bytes (plus d w) ≡ plus d (put_all bytes w)
plus_put_all d [] w = refl
plus_put_all d (b ∷ bytes) w = plus_put_all d bytes (note (Put b) w)

pub fine_put_int : {V : Type 0} (d : ℕ) (x : ℤ) → FineEffect {V = V} d (put_int x)
fine_put_int d x = fine_effects d (spend (length (signed_decimal x) + 1)) (λ _ w1. Did tt (put_all (signed_decimal x) w1)) (fine_spend d (length (signed_decimal x) + 1))
    (λ _. fine_did d tt (put_all (signed_decimal x)) (later_put_all (signed_decimal x)) (plus_put_all d (signed_decimal x)))

fine_put_each : {V : Type 0} (d : ℕ) (bytes : List ℕ) → FineEffect {V = V} d (put_each bytes)
fine_put_each d [] = fine_result d tt
fine_put_each d (b ∷ bytes) = fine_effects d (spend 1) (λ _ w1. put_each bytes (note (Put b) w1)) (fine_spend d 1)
    (λ _. fine_after d (note (Put b)) (put_each bytes) (later_note (Put b)) (λ w. refl) (fine_put_each d bytes))

pub fine_put_text : {V : Type 0} (d : ℕ) (bytes : List ℕ) → FineEffect {V = V} d (put_text bytes)
fine_put_text d bytes = fine_effects d (spend 1) (λ _ w1. put_each bytes w1) (fine_spend d 1) (λ _. fine_put_each d bytes)

abbrev took : {V : Type 0} → ℕ → List ℕ → World V → World V
took b bytes w = note (Took b) (record w { input = bytes })

fine_take : {V : Type 0} (d : ℕ) (input : List ℕ) → FineEffect {V = V} d (take_of input)
fine_take d [] = fine_fails d end_of_input (note FoundEnd) (later_note FoundEnd) (λ w. refl)
fine_take d (b ∷ bytes) = fine_did d (pos b) (took b bytes) (λ w. record { turns = omega arith; trace = record { more = Took b ∷ []; is = refl } }) (λ w. refl)

pub fine_get_byte : {V : Type 0} (d : ℕ) → FineEffect {V = V} d get_byte
fine_get_byte d = fine_by d (λ w. w.input) take_of (λ w. refl) (fine_take d)

pub fine_join : {V : Type 0} (d : ℕ) (a b : List ℕ) → FineEffect {V = V} d (join a b)
fine_join d a b =
    let size : ℕ = length a + length b in
    fine_if d (nat_lt greatest size) (λ w. Fails bounds w) (λ w. and_then (spend (size + 1) w) (λ _ w1. and_then (reserve (text_weight size) w1) (λ _ w2. Did (a ++ b) w2))) (fine_failure d bounds)
    (fine_effects d (spend (size + 1)) (λ _ w1. and_then (reserve (text_weight size) w1) (λ _ w2. Did (a ++ b) w2)) (fine_spend d (size + 1))
    (λ _. fine_effects d (reserve (text_weight size)) (λ _ w2. Did (a ++ b) w2) (fine_reserve d (text_weight size)) (λ _. fine_result d (a ++ b))))

fine_within : {V A : Type 0} (d : ℕ) (o : Option A) → FineEffect {V = V} d (within_bounds o)
fine_within d None = fine_failure d bounds
fine_within d (Some a) = fine_result d a

pub fine_letter : {V : Type 0} (d : ℕ) (bytes : List ℕ) (i : ℤ) → FineEffect {V = V} d (letter bytes i)
fine_letter d bytes i = fine_within d (item_at bytes i)

abbrev with_new : {V : Type 0} → Object V → World V → World V
with_new o w = record w { objects = w.objects ++ o ∷ [] }

fine_add_object : {V : Type 0} (d : ℕ) (o : Object V) → FineEffect {V = V} d (add_object o)
fine_add_object d o = fine_by d (λ w. length w.objects) (λ n w. Did n (with_new o w)) (λ w. refl)
    (λ n. fine_did d n (with_new o) (λ w. record { turns = omega arith; trace = prefix_refl w.trace }) (λ w. refl))

pub fine_room_then_object : {V : Type 0} (d k : ℕ) (o : Object V) → FineEffect {V = V} d (λ w. and_then (reserve k w) (λ _ w1. add_object o w1))
fine_room_then_object d k o = fine_effects d (reserve k) (λ _ w1. add_object o w1) (fine_reserve d k) (λ _. fine_add_object d o)

pub fine_new_object : {V : Type 0} (d : ℕ) (class : List ℕ) (weight : ℕ) → FineEffect {V = V} d (new_object class weight)
fine_new_object d class weight = fine_effects d (spend 1) (λ _ w1. and_then (reserve weight w1) (λ _ w2. add_object (Instance class []) w2)) (fine_spend d 1) (λ _. fine_room_then_object d weight (Instance class []))

pub fine_new_array : {V : Type 0} (d : ℕ) (count : ℤ) (fill : V) → FineEffect {V = V} d (new_array count fill)
fine_new_array d (pos n) fill = fine_effects d (spend (n + 1)) (λ _ w1. and_then (reserve (8 + 4 * n) w1) (λ _ w2. add_object (Array (replicate n fill)) w2)) (fine_spend d (n + 1)) (λ _. fine_room_then_object d (8 + 4 * n) (Array (replicate n fill)))
fine_new_array d (negsuc n) fill = fine_failure d bounds

fine_on_array : {V A : Type 0} (d : ℕ) (o : Option (Object V)) (f : List V → World V → Effect V A) → ((elements : List V) → FineEffect d (f elements)) → FineEffect d (λ w. on_array o w (λ elements. f elements w))
fine_on_array d None f k = fine_stuck d
fine_on_array d (Some (Instance class slots)) f k = fine_stuck d
fine_on_array d (Some (Array elements)) f k = k elements

pub fine_element : {V : Type 0} (d k : ℕ) (i : ℤ) → FineEffect {V = V} d (element k i)
fine_element d k i = fine_by d (λ w. slice_get w.objects k) (λ o w. on_array o w (λ elements. within_bounds (item_at elements i) w)) (λ w. refl)
    (λ o. fine_on_array d o (λ elements. within_bounds (item_at elements i)) (λ elements. fine_within d (item_at elements i)))

pub fine_array_length : {V : Type 0} (d k : ℕ) → FineEffect {V = V} d (array_length k)
fine_array_length d k = fine_by d (λ w. slice_get w.objects k) (λ o w. on_array o w (λ elements. Did (length elements) w)) (λ w. refl)
    (λ o. fine_on_array d o (λ elements w. Did (length elements) w) (λ elements. fine_result d (length elements)))

fine_with_object : {V : Type 0} (d k : ℕ) (o : Object V) → FineEffect {V = V} {A = Unit {0}} d (λ w. Did tt (with_object k o w))
fine_with_object d k o = fine_did d tt (with_object k o) (λ w. record { turns = omega arith; trace = prefix_refl w.trace }) (λ w. refl)

pub fine_set_element : {V : Type 0} (d k : ℕ) (i : ℤ) (v : V) → FineEffect {V = V} d (set_element k i v)
fine_set_element d k i v = fine_by d (λ w. slice_get w.objects k)
    (λ o w. on_array o w (λ elements. and_then (within_bounds (item_at elements i) w) (λ _ w1. Did tt (with_object k (Array (with_item elements i v)) w1)))) (λ w. refl)
    (λ o. fine_on_array d o (λ elements w. and_then (within_bounds (item_at elements i) w) (λ _ w1. Did tt (with_object k (Array (with_item elements i v)) w1)))
    (λ elements. fine_effects d (within_bounds (item_at elements i)) (λ _ w1. Did tt (with_object k (Array (with_item elements i v)) w1)) (fine_within d (item_at elements i)) (λ _. fine_with_object d k (Array (with_item elements i v)))))

fine_on_instance : {V A : Type 0} (d : ℕ) (o : Option (Object V)) (f : List ℕ → List (Slot V) → World V → Effect V A) → ((class : List ℕ) (slots : List (Slot V)) → FineEffect d (f class slots)) → FineEffect d (λ w. on_instance o w (λ class slots. f class slots w))
fine_on_instance d None f k = fine_stuck d
fine_on_instance d (Some (Instance class slots)) f k = k class slots
fine_on_instance d (Some (Array elements)) f k = fine_stuck d

fine_if_set : {V A : Type 0} (d : ℕ) (o : Option A) → FineEffect {V = V} d (if_set o)
fine_if_set d None = fine_stops d Unset tt (λ w. refl)
fine_if_set d (Some a) = fine_result d a

pub fine_field_value : {V : Type 0} (d k : ℕ) (class : List ℕ) (field : ℕ) → FineEffect {V = V} d (field_value k class field)
fine_field_value d k class field = fine_by d (λ w. slice_get w.objects k)
    (λ o w. on_instance o w (λ _ slots. if_set (option_map (λ s. s.value) (find (is_slot class field) slots)) w)) (λ w. refl)
    (λ o. fine_on_instance d o (λ _ slots. if_set (option_map (λ s. s.value) (find (is_slot class field) slots))) (λ _ slots. fine_if_set d (option_map (λ s. s.value) (find (is_slot class field) slots))))

pub fine_set_field : {V : Type 0} (d k : ℕ) (class : List ℕ) (field : ℕ) (v : V) → FineEffect {V = V} d (set_field k class field v)
fine_set_field d k class field v = fine_by d (λ w. slice_get w.objects k)
    (λ o w. on_instance o w (λ c slots. Did tt (with_object k (Instance c (record { class = class; field = field; value = v } ∷ slots)) w))) (λ w. refl)
    (λ o. fine_on_instance d o (λ c slots w. Did tt (with_object k (Instance c (record { class = class; field = field; value = v } ∷ slots)) w))
    (λ c slots. fine_with_object d k (Instance c (record { class = class; field = field; value = v } ∷ slots))))
