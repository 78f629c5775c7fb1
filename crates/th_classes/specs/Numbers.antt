-- Classes by their numbers, and what stands above them.
use Rattle.std.specs.Prelude.{ℕ, zero, suc, List, [], ◌∷◌, Option, Some, None, slice_get}
use Rattle.th_meaning.specs.Program.{ProgramClass, Program, classes_of, inherited_name}
use Rattle.th_units.specs.Units.{number_in}

-- the number of a class by its full name: its place among all classes, in the order of the modules
abbrev pub class_number : Program → List ℕ → Option ℕ
class_number p name = number_in (λ c. c.head.name) (classes_of p) name

-- the number of a name that there may be
abbrev pub number_of : Program → Option (List ℕ) → Option ℕ
number_of p None = None
number_of p (Some name) = class_number p name

-- the number of the class that a class inherits, where it is there
abbrev pub above_number : Program → ProgramClass → Option ℕ
above_number p c = number_of p (inherited_name c.head.inherits)

-- a class that there may be, and what stands above it
abbrev pub with_above : Option ProgramClass → (ProgramClass → List ProgramClass) → List ProgramClass
with_above None up = []
with_above (Some c) up = c ∷ up c

-- the classes from the class of a number up, at most n of them
abbrev pub chain_from : ℕ → Program → Option ℕ → List ProgramClass
chain_from zero p k = []
chain_from (suc n) p None = []
chain_from (suc n) p (Some k) = with_above (slice_get (classes_of p) k) (λ c. chain_from n p (above_number p c))
