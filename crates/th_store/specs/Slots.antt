-- The fields of an object, one slot for each that is bound.
use Rattle.std.specs.Prelude.{◌≡◌, ℕ, Bool, true, false, List, [], ◌∷◌, if◌then◌else◌}
use Rattle.th_meaning.specs.World.{Slot, is_slot, Object, Instance, Array}
use Rattle.th_meaning.specs.Meaning.{Value}

-- the slots with this one in place of the first of its field, or at the end where the field isn't bound
abbrev pub with_slot : Slot Value → List (Slot Value) → List (Slot Value)
with_slot new [] = new ∷ []
with_slot new (s ∷ rest) = if is_slot new.class new.field s then new ∷ rest else s ∷ with_slot new rest

-- the slot is set in an object of a class
pub record SetsSlot (old : Object Value) (slot : Slot Value) (new : Object Value) : Type 0 where
  pub class : List ℕ
  pub slots : List (Slot Value)
  pub was : old ≡ Instance class slots
  pub is : new ≡ Instance class (with_slot slot slots)

-- an array stays as it is
pub record StaysArray (old new : Object Value) : Type 0 where
  pub elements : List Value
  pub was : old ≡ Array elements
  pub is : new ≡ old

-- the slot is set, or the object is an array
abbrev pub SlotSets : Bool → Object Value → Slot Value → Object Value → Type 0
SlotSets true old slot new = SetsSlot old slot new
SlotSets false old slot new = StaysArray old new
