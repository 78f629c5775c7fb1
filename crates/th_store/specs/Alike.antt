-- A stock has what a world has, but for the order in which the fields of objects were bound, and for how often.
use Rattle.std.specs.Prelude.{◌≡◌, ℕ, Bool, true, false, List, [], ◌∷◌, ◌++◌, find, Option, Some, None, option_map}
use Rattle.th_meaning.specs.World.{Slot, is_slot, Object, Instance, Array, World, Effect, Did, Stops, Stuck, add_object}
use Rattle.th_meaning.specs.Meaning.{Value}
use Rattle.th_store.specs.Stock.{Stock}

-- each field has the same value in both
abbrev pub SlotsAlike : List (Slot Value) → List (Slot Value) → Type 0
SlotsAlike a b = (class : List ℕ) (f : ℕ) → option_map (λ s. s.value) (find (is_slot class f) a) ≡ option_map (λ s. s.value) (find (is_slot class f) b)

-- objects of one class with the same values of fields; or equal arrays
abbrev pub ObjectAlike : Object Value → Object Value → Type 0
ObjectAlike (Instance c a) (Instance d b) = (c ≡ d) × SlotsAlike a b
ObjectAlike (Instance c a) (Array b) = ⊥
ObjectAlike (Array a) (Instance d b) = ⊥
ObjectAlike (Array a) (Array b) = a ≡ b

-- the objects of each number are alike
abbrev pub AllAlike : List (Object Value) → List (Object Value) → Type 0
AllAlike [] [] = Unit {0}
AllAlike [] (b ∷ ys) = ⊥
AllAlike (a ∷ xs) [] = ⊥
AllAlike (a ∷ xs) (b ∷ ys) = ObjectAlike a b × AllAlike xs ys

-- the stock has what the world has
pub record Alike (w : World Value) (s : Stock) : Type 0 where
  pub turns : w.turns ≡ s.turns
  pub room : w.room ≡ s.room
  pub objects : AllAlike w.objects s.objects

-- the effect sets an object of the world, and the stock has what it then has
pub record SetsTo (e : Effect Value (Unit {0})) (w : World Value) (s : Stock) : Type 0 where
  pub objects : List (Object Value)
  pub is : e ≡ Did tt (record w { objects = objects })
  pub alike : Alike (record w { objects = objects }) s

-- the effect sets a field, or finds no object
abbrev pub FieldSets : Bool → Effect Value (Unit {0}) → World Value → Stock → Type 0
FieldSets true e w s = SetsTo e w s
FieldSets false e w s = (e ≡ Stops Stuck w) × Alike w s

-- the object is added with this number, and the stock has what the world then has
pub record Adds (o : Object Value) (w : World Value) (number : ℕ) (s : Stock) : Type 0 where
  pub is : add_object o w ≡ Did number (record w { objects = w.objects ++ o ∷ [] })
  pub alike : Alike (record w { objects = w.objects ++ o ∷ [] }) s
