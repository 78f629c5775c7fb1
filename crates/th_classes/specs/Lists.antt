-- Classes by their numbers.
use Rattle.std.specs.Prelude.{◌≡◌, ℕ, zero, suc, List, [], ◌∷◌, map, Option, Some, None, bytes_eq, slice_get}
use Rattle.std.specs.HashMap.{get_by}
use Rattle.th_meaning.specs.View.{class_of}
use Rattle.th_meaning.specs.Program.{ProgramClass, Program, classes_of, inherited_name}
use Rattle.th_units.specs.Units.{number_in}
use Rattle.th_classes.specs.declared.list.ClassList.{ClassList}

-- the list has these classes in order, and each name has the number of the first class of this name
pub record Lists (list : ClassList) (all : List ProgramClass) : Type 0 where
  pub classes : map (λ c. class_of c.now) list.classes.items ≡ all
  pub numbers : (name : List ℕ) → get_by (λ k. bytes_eq name k.now) list.numbers ≡ number_in (λ c. c.head.name) all name
