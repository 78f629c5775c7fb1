-- The world of a run, and each effect on it that can charge, fail or be seen. V is what the run's values are: the
-- meaning of checked programs and that of what they are compiled to share these effects. Each charge is taken whole
-- before its effect, turns before room.
use Rattle.std.specs.Prelude.{ℕ, zero, suc, ◌+◌, ◌-◌, ◌*◌, ◌/◌, ◌^◌, Bool, true, false, ◌&&◌, List, [], ◌∷◌, ◌++◌, length, replicate, set, Option, Some, None, option_map, ℤ, pos, negsuc, ◌+ℤ◌, ◌-ℤ◌, ◌*ℤ◌, neg_ℤ, int_div, int_rem, nat_eq, nat_lt, bytes_eq, slice_get, find, if◌then◌else◌, codes}
use Rattle.std.specs.Fmt.{signed_decimal}
use Rattle.th_world.specs.Event.{Event, Put, Took, FoundEnd, Entered}

-- a value of an object: the class that has the field, the field's place among that class's own, and the value
pub record Slot (V : Type 0) : Type 0 where
  pub class : List ℕ
  pub field : ℕ
  pub value : V

-- an object: a class's full name and the values of its fields, the newest first; or the elements of an array
pub data Object (V : Type 0) : Type 0 where
  Instance : (class : List ℕ) → (slots : List (Slot V)) → Object V
  Array : (elements : List V) → Object V

-- the input left, the turns left, the room left (None: unlimited), the objects by their numbers, and the trace, the
-- newest event first
pub record World (V : Type 0) : Type 0 where
  pub input : List ℕ
  pub turns : ℕ
  pub room : Option ℕ
  pub objects : List (Object V)
  pub trace : List Event

-- why a run stops at once: too few turns; too little room; a local or a field is read before it is bound; an operand
-- isn't of the kind that its form takes, or what a form names isn't there; a bound of the definition itself ran out
pub data Halt : Type 0 where
  OutOfTurns : Halt
  OutOfRoom : Halt
  Unset : Halt
  Stuck : Halt
  Deep : Halt

-- what an effect gives: a result; one of the predeclared exceptions; or the run's stop
pub data Effect (V A : Type 0) : Type 0 where
  Did : A → World V → Effect V A
  Fails : (name : List ℕ) → World V → Effect V A
  Stops : Halt → World V → Effect V A

-- one effect after another
abbrev pub and_then : {V A B : Type 0} → Effect V A → (A → World V → Effect V B) → Effect V B
and_then (Did a w) f = f a w
and_then (Fails x w) f = Fails x w
and_then (Stops h w) f = Stops h w

-- the predeclared exceptions
abbrev pub overflow : List ℕ
overflow = codes "overflow"

abbrev pub zero_divide : List ℕ
zero_divide = codes "zero_divide"

abbrev pub bounds : List ℕ
bounds = codes "bounds"

abbrev pub end_of_input : List ℕ
end_of_input = codes "end_of_input"

-- a charge of k turns, taken whole or not at all
abbrev pub spend : {V : Type 0} → ℕ → World V → Effect V (Unit {0})
spend k w = if nat_lt w.turns k then Stops OutOfTurns w else Did tt (record w { turns = w.turns - k })

-- whether fewer than k bytes of room are left
abbrev pub lacks_room : Option ℕ → ℕ → Bool
lacks_room None k = false
lacks_room (Some room) k = nat_lt room k

-- a charge of k bytes of room, taken whole or not at all
abbrev pub reserve : {V : Type 0} → ℕ → World V → Effect V (Unit {0})
reserve k w = if lacks_room w.room k then Stops OutOfRoom w else Did tt (record w { room = option_map (λ room. room - k) w.room })

-- k bytes of room are given back
abbrev pub give_back : {V : Type 0} → ℕ → World V → World V
give_back k w = record w { room = option_map (λ room. room + k) w.room }

-- an event is seen
abbrev pub note : {V : Type 0} → Event → World V → World V
note e w = record w { trace = e ∷ w.trace }

-- a unit is entered: the room of the open call, then the event
abbrev pub enter : {V : Type 0} → (weight : ℕ) → (unit : List ℕ) → World V → Effect V (Unit {0})
enter weight unit w = and_then (reserve weight w) (λ _ w1. Did tt (note (Entered unit) w1))

-- the room of an open yield
abbrev pub yield_weight : ℕ
yield_weight = 64

-- a yield is opened: one turn, then its room
abbrev pub open_yield : {V : Type 0} → World V → Effect V (Unit {0})
open_yield w = and_then (spend 1 w) (λ _ w1. reserve yield_weight w1)

-- whether a number is one of the language's: from -2^31 to 2^31 - 1
abbrev pub fits_word : ℤ → Bool
fits_word (pos n) = nat_lt n (2 ^ 31)
fits_word (negsuc n) = nat_lt n (2 ^ 31)

-- the number y, where x is one of the language's; else `overflow` is raised
abbrev pub unless_overflow : {V : Type 0} → (x y : ℤ) → World V → Effect V ℤ
unless_overflow x y w = if fits_word x then Did y w else Fails overflow w

abbrev pub sum : {V : Type 0} → ℤ → ℤ → World V → Effect V ℤ
sum x y w = unless_overflow (x +ℤ y) (x +ℤ y) w

abbrev pub difference : {V : Type 0} → ℤ → ℤ → World V → Effect V ℤ
difference x y w = unless_overflow (x -ℤ y) (x -ℤ y) w

abbrev pub product : {V : Type 0} → ℤ → ℤ → World V → Effect V ℤ
product x y w = unless_overflow (x *ℤ y) (x *ℤ y) w

abbrev pub negation : {V : Type 0} → ℤ → World V → Effect V ℤ
negation x w = unless_overflow (neg_ℤ x) (neg_ℤ x) w

-- whether a number is zero
abbrev pub is_zero : ℤ → Bool
is_zero (pos n) = nat_eq n 0
is_zero (negsuc n) = false

-- the quotient, truncated toward zero
abbrev pub quotient : {V : Type 0} → ℤ → ℤ → World V → Effect V ℤ
quotient x y w = if is_zero y then Fails zero_divide w else unless_overflow (int_div x y) (int_div x y) w

-- the remainder, of the dividend's sign; it raises `overflow` where the quotient does
abbrev pub remainder : {V : Type 0} → ℤ → ℤ → World V → Effect V ℤ
remainder x y w = if is_zero y then Fails zero_divide w else unless_overflow (int_div x y) (int_rem x y) w

-- a byte is put: a number from 0 to 255; every other number raises `bounds`
abbrev pub put_byte : {V : Type 0} → ℤ → World V → Effect V (Unit {0})
put_byte (pos n) w = if nat_lt n 256 then Did tt (note (Put n) w) else Fails bounds w
put_byte (negsuc n) w = Fails bounds w

-- bytes are put, one after another
abbrev pub put_all : {V : Type 0} → List ℕ → World V → World V
put_all [] w = w
put_all (b ∷ bytes) w = put_all bytes (note (Put b) w)

-- a number is put in decimal: as many turns as it has bytes, and one more, before the first of them
abbrev pub put_int : {V : Type 0} → ℤ → World V → Effect V (Unit {0})
put_int x w = and_then (spend (length (signed_decimal x) + 1) w) (λ _ w1. Did tt (put_all (signed_decimal x) w1))

-- bytes are put, each after one turn
abbrev pub put_each : {V : Type 0} → List ℕ → World V → Effect V (Unit {0})
put_each [] w = Did tt w
put_each (b ∷ bytes) w = and_then (spend 1 w) (λ _ w1. put_each bytes (note (Put b) w1))

-- a text is put: one turn, and one more before each byte
abbrev pub put_text : {V : Type 0} → List ℕ → World V → Effect V (Unit {0})
put_text bytes w = and_then (spend 1 w) (λ _ w1. put_each bytes w1)

-- the first byte of the input is taken; where there is none, that is seen, and `end_of_input` raised
abbrev pub take_of : {V : Type 0} → List ℕ → World V → Effect V ℤ
take_of [] w = Fails end_of_input (note FoundEnd w)
take_of (b ∷ bytes) w = Did (pos b) (note (Took b) (record w { input = bytes }))

abbrev pub get_byte : {V : Type 0} → World V → Effect V ℤ
get_byte w = take_of w.input w

-- the greatest number of the language
abbrev pub greatest : ℕ
greatest = 2147483647

-- the room of a text of k bytes
abbrev pub text_weight : ℕ → ℕ
text_weight k = 8 + 4 * ((k + 3) / 4)

-- two texts are joined: `bounds` where they are too long together, a turn for each byte and one more, then room
abbrev pub join : {V : Type 0} → List ℕ → List ℕ → World V → Effect V (List ℕ)
join a b w = if nat_lt greatest (length a + length b) then Fails bounds w
    else and_then (spend (length a + length b + 1) w) (λ _ w1. and_then (reserve (text_weight (length a + length b)) w1) (λ _ w2. Did (a ++ b) w2))

-- the item at an index, from 0
abbrev pub item_at : {A : Type 0} → List A → ℤ → Option A
item_at items (pos i) = slice_get items i
item_at items (negsuc i) = None

-- an item that is there; where there is none `bounds` is raised
abbrev pub within_bounds : {V A : Type 0} → Option A → World V → Effect V A
within_bounds None w = Fails bounds w
within_bounds (Some a) w = Did a w

-- a byte of a text
abbrev pub letter : {V : Type 0} → List ℕ → ℤ → World V → Effect V ℕ
letter bytes i w = within_bounds (item_at bytes i) w

-- a new object has the next number
abbrev pub add_object : {V : Type 0} → Object V → World V → Effect V ℕ
add_object o w = Did (length w.objects) (record w { objects = w.objects ++ o ∷ [] })

-- an object of a class is made, with no field bound: one turn, then its room
abbrev pub new_object : {V : Type 0} → (class : List ℕ) → (weight : ℕ) → World V → Effect V ℕ
new_object class weight w = and_then (spend 1 w) (λ _ w1. and_then (reserve weight w1) (λ _ w2. add_object (Instance class []) w2))

-- an array is made: `bounds` for a negative length, a turn for each element and one more, then room
abbrev pub new_array : {V : Type 0} → (count : ℤ) → (fill : V) → World V → Effect V ℕ
new_array (pos n) fill w = and_then (spend (n + 1) w) (λ _ w1. and_then (reserve (8 + 4 * n) w1) (λ _ w2. add_object (Array (replicate n fill)) w2))
new_array (negsuc n) fill w = Fails bounds w

-- the elements of an array
abbrev pub on_array : {V A : Type 0} → Option (Object V) → World V → (List V → Effect V A) → Effect V A
on_array None w f = Stops Stuck w
on_array (Some (Instance class slots)) w f = Stops Stuck w
on_array (Some (Array elements)) w f = f elements

-- an element of an array
abbrev pub element : {V : Type 0} → (number : ℕ) → (index : ℤ) → World V → Effect V V
element k i w = on_array (slice_get w.objects k) w (λ elements. within_bounds (item_at elements i) w)

-- how many elements an array has
abbrev pub array_length : {V : Type 0} → (number : ℕ) → World V → Effect V ℕ
array_length k w = on_array (slice_get w.objects k) w (λ elements. Did (length elements) w)

-- the items with another one at an index where there is one
abbrev pub with_item : {A : Type 0} → List A → ℤ → A → List A
with_item items (pos i) a = set items i a
with_item items (negsuc i) a = items

-- the world with another object of this number
abbrev pub with_object : {V : Type 0} → (number : ℕ) → Object V → World V → World V
with_object k o w = record w { objects = set w.objects k o }

-- an element of an array is set
abbrev pub set_element : {V : Type 0} → (number : ℕ) → (index : ℤ) → V → World V → Effect V (Unit {0})
set_element k i v w = on_array (slice_get w.objects k) w
    (λ elements. and_then (within_bounds (item_at elements i) w) (λ _ w1. Did tt (with_object k (Array (with_item elements i v)) w1)))

-- the class and the fields of an object
abbrev pub on_instance : {V A : Type 0} → Option (Object V) → World V → (List ℕ → List (Slot V) → Effect V A) → Effect V A
on_instance None w f = Stops Stuck w
on_instance (Some (Instance class slots)) w f = f class slots
on_instance (Some (Array elements)) w f = Stops Stuck w

-- whether a slot is that of a class's field
abbrev pub is_slot : {V : Type 0} → (class : List ℕ) → (field : ℕ) → Slot V → Bool
is_slot class field s = bytes_eq s.class class && nat_eq s.field field

-- a value that is bound
abbrev pub if_set : {V A : Type 0} → Option A → World V → Effect V A
if_set None w = Stops Unset w
if_set (Some a) w = Did a w

-- the value of an object's field
abbrev pub field_value : {V : Type 0} → (number : ℕ) → (class : List ℕ) → (field : ℕ) → World V → Effect V V
field_value k class field w = on_instance (slice_get w.objects k) w (λ _ slots. if_set (option_map (λ s. s.value) (find (is_slot class field) slots)) w)

-- an object's field is set
abbrev pub set_field : {V : Type 0} → (number : ℕ) → (class : List ℕ) → (field : ℕ) → V → World V → Effect V (Unit {0})
set_field k class field v w = on_instance (slice_get w.objects k) w
    (λ c slots. Did tt (with_object k (Instance c (record { class = class; field = field; value = v } ∷ slots)) w))
