-- Slots that are set.
use Rattle.std.proofs.Common.{◌≡◌, refl, sym, ap, ◌∙◌, subst, ℕ, zero, suc, ◌+◌, ◌<◌, ◌≤◌, Bool, true, false, cond, not, ◌&&◌, nat_eq, List, [], ◌∷◌, ◌++◌, length, set, Option, Some, None, option_map, arith}
use Rattle.std.specs.List.{find, position_or_len}
use Rattle.std.specs.Str.{bytes_eq}
use Rattle.std.proofs.lemmas.Slice.Eq.{bytes_eq-Decides}
use Rattle.std.proofs.lemmas.Bool.{eqb-true, eq-eqb}
use Rattle.th_meaning.specs.World.{Slot, is_slot}
use Rattle.th_meaning.specs.Meaning.{Value}
use Rattle.th_store.specs.Slots.{with_slot}

both_parts : (x y : Bool) → (x && y) ≡ true → (x ≡ true) × (y ≡ true)
both_parts true true h = (refl, refl)
both_parts true false h = (refl, h)
both_parts false true h = (h, refl)
both_parts false false h = (h, h)

both_from : (x y : Bool) → x ≡ true → y ≡ true → (x && y) ≡ true
both_from x y h k = cc

-- the slot of a field has its key
pub is_slot_key : (c : List ℕ) (f : ℕ) (s : Slot Value) → is_slot c f s ≡ true → (s.class ≡ c) × (s.field ≡ f)
is_slot_key c f s h =
    let b : (bytes_eq s.class c ≡ true) × (nat_eq s.field f ≡ true) = both_parts (bytes_eq s.class c) (nat_eq s.field f) h in
    ((bytes_eq-Decides s.class c).0 b.0, eqb-true s.field f b.1)

pub key_is_slot : (c : List ℕ) (f : ℕ) (s : Slot Value) → s.class ≡ c → s.field ≡ f → is_slot c f s ≡ true
key_is_slot c f s h k = both_from (bytes_eq s.class c) (nat_eq s.field f) ((bytes_eq-Decides s.class c).1 h) (eq-eqb s.field f k)

-- slots of one key are those of the same fields
same_key : (s new : Slot Value) → s.class ≡ new.class → s.field ≡ new.field → (d : List ℕ) (g : ℕ) → is_slot d g s ≡ is_slot d g new
same_key s new h k d g = ap (λ c. bytes_eq c d && nat_eq s.field g) h ∙ ap (λ f. bytes_eq new.class d && nat_eq f g) k

nested : (x : Bool) (a b c : Option (Slot Value)) → cond x a c ≡ cond x a (cond x b c)
nested true a b c = refl
nested false a b c = refl

mixed : (x y : Bool) (s new : Slot Value) (l f : Option (Slot Value)) → (x ≡ true → y ≡ true → ⊥)
    → option_map (λ t. t.value) l ≡ option_map (λ t. t.value) (cond x (Some new) f)
    → option_map (λ t. t.value) (cond y (Some s) l) ≡ option_map (λ t. t.value) (cond x (Some new) (cond y (Some s) f))
mixed true true s new l f never h = absurd (never refl refl)
mixed true false s new l f never h = h
mixed false true s new l f never h = refl
mixed false false s new l f never h = h

at_head : (d : List ℕ) (g : ℕ) (new s : Slot Value) (rest : List (Slot Value)) (b : Bool) → is_slot new.class new.field s ≡ b
    → option_map (λ t. t.value) (find (is_slot d g) (with_slot new rest)) ≡ option_map (λ t. t.value) (find (is_slot d g) (new ∷ rest))
    → option_map (λ t. t.value) (find (is_slot d g) (cond b (new ∷ rest) (s ∷ with_slot new rest))) ≡ option_map (λ t. t.value) (find (is_slot d g) (new ∷ s ∷ rest))
at_head d g new s rest true e ih =
    let key : (s.class ≡ new.class) × (s.field ≡ new.field) = is_slot_key new.class new.field s e in
    ap (option_map (λ t. t.value))
    (nested (is_slot d g new) (Some new) (Some s) (find (is_slot d g) rest)
    ∙ ap (λ x. cond (is_slot d g new) (Some new) (cond x (Some s) (find (is_slot d g) rest))) (sym (same_key s new key.0 key.1 d g)))
at_head d g new s rest false e ih =
    mixed (is_slot d g new) (is_slot d g s) s new (find (is_slot d g) (with_slot new rest)) (find (is_slot d g) rest)
    (λ x y.
    let a : (new.class ≡ d) × (new.field ≡ g) = is_slot_key d g new x in
    let b : (s.class ≡ d) × (s.field ≡ g) = is_slot_key d g s y in
    let there : is_slot new.class new.field s ≡ true = key_is_slot new.class new.field s (b.0 ∙ sym a.0) (b.1 ∙ sym a.1) in
    cc)
    ih

-- each field has the value of the slots with the new one before them
pub find_with : (d : List ℕ) (g : ℕ) (new : Slot Value) (slots : List (Slot Value))
    → option_map (λ t. t.value) (find (is_slot d g) (with_slot new slots)) ≡ option_map (λ t. t.value) (find (is_slot d g) (new ∷ slots))
find_with d g new [] = refl
find_with d g new (s ∷ rest) = at_head d g new s rest (is_slot new.class new.field s) refl (find_with d g new rest)

set_step : (b : Bool) (n m : ℕ) (new s : Slot Value) (rest : List (Slot Value)) → m ≡ cond (not b) (1 + n) 0 → m < suc (length rest)
    → (n < length rest → set rest n new ≡ with_slot new rest) → set (s ∷ rest) m new ≡ cond b (new ∷ rest) (s ∷ with_slot new rest)
set_step true n m new s rest e h ih = rw e refl
set_step false n m new s rest e h ih = let k : m ≡ suc n = omega arith in rw k (ap (λ r. s ∷ r) (ih (omega arith)))

last_step : (b : Bool) (n m : ℕ) (new s : Slot Value) (rest : List (Slot Value)) → m ≡ cond (not b) (1 + n) 0 → suc (length rest) ≤ m
    → (length rest ≤ n → rest ++ new ∷ [] ≡ with_slot new rest) → s ∷ (rest ++ new ∷ []) ≡ cond b (new ∷ rest) (s ∷ with_slot new rest)
last_step true n m new s rest e h ih = absurd (omega arith)
last_step false n m new s rest e h ih = ap (λ r. s ∷ r) (ih (omega arith))

-- a slot that stands in place of another
pub set_at : (new : Slot Value) (slots : List (Slot Value)) → position_or_len (is_slot new.class new.field) slots < length slots
    → set slots (position_or_len (is_slot new.class new.field) slots) new ≡ with_slot new slots
set_at new [] h = absurd (omega arith)
set_at new (s ∷ rest) h = set_step (is_slot new.class new.field s) (position_or_len (is_slot new.class new.field) rest) _ new s rest refl h (set_at new rest)

-- the same by the values that the code has
pub set_at_by : (slots : List (Slot Value)) (new x : Slot Value) (at : ℕ) → at ≡ position_or_len (is_slot new.class new.field) slots → at < length slots → x ≡ new → set slots at x ≡ with_slot new slots
set_at_by slots new x at is below same =
    let p : position_or_len (is_slot new.class new.field) slots < length slots = subst (λ n. n < length slots) is below in
    ap (λ s. set slots at s) same ∙ ap (λ n. set slots n new) is ∙ set_at new slots p

-- a slot that is the last
pub set_last : (new : Slot Value) (slots : List (Slot Value)) → length slots ≤ position_or_len (is_slot new.class new.field) slots
    → slots ++ new ∷ [] ≡ with_slot new slots
set_last new [] h = refl
set_last new (s ∷ rest) h = last_step (is_slot new.class new.field s) (position_or_len (is_slot new.class new.field) rest) _ new s rest refl h (set_last new rest)
