-- Programs of Flat code: what their operations can name.
use Rattle.std.specs.Prelude.{ℕ, zero, suc, ◌+◌, ◌*◌, Bool, true, false, ◌&&◌, List, [], ◌∷◌, ◌++◌, length, sum_by, Option, Some, None, option_map, flat_map, find, filter, slice_get, bytes_eq, nat_eq, codes, if◌then◌else◌}
use Rattle.std.specs.List.{list_any}
use Rattle.th_flat.specs.declared.module.FlatUnit.{FlatUnit}
use Rattle.th_flat.specs.declared.module.FlatModule.{FlatModule}
use Rattle.th_flat.specs.declared.module.Class.{Class}

-- what operations can name, with full names throughout. A method's result is told where it is a declared type
pub record FlatProgram : Type 0 where
  -- the unit of a name
  pub unit : List ℕ → Option FlatUnit
  -- the unit that runs first
  pub main : Option FlatUnit
  -- the unit that a call of a name enters, and the result of the method that the name means, if it means one: the name of a
  -- class, `.` and that of a method mean the body that the walk from the class finds
  pub called : List ℕ → Option FlatUnit
  pub called_result : List ℕ → Option (List ℕ)
  -- the unit that a call of a type's method enters at an object of a class, and the method's result in the type; no unit
  -- where the type isn't the method's home
  pub dispatched : (head method class : List ℕ) → Option FlatUnit
  pub dispatched_result : (head method : List ℕ) → Option (List ℕ)
  -- the unit that a call of a hidden method enters at an object of the class `of`; none where `class` has no such method
  pub hidden : (class method of : List ℕ) → Option FlatUnit
  -- the result of the method that a unit is a body of
  pub result : (unit : List ℕ) → Option (List ℕ)
  -- the weight of an object of a class
  pub weight : (class : List ℕ) → Option ℕ
  -- how many where-words and fields of its own a class has
  pub slots : (class : List ℕ) → ℕ
  -- the type that a class is for
  pub class_type : (class : List ℕ) → Option (List ℕ)
  -- whether a class is another or inherits it
  pub inherits : (of class : List ℕ) → Bool
  -- whether a type is another or has it among its supertypes, by names
  pub reaches : (from to : List ℕ) → Bool

-- what the canonical texts of interfaces and of heads of classes tell
pub record Declared : Type 0 where
  -- the type that a class is for, and the class that it inherits
  pub class_type : (class : List ℕ) → Option (List ℕ)
  pub inherited : (class : List ℕ) → Option (List ℕ)
  -- whether a type is another or has it among its supertypes, by names
  pub reaches : (from to : List ℕ) → Bool
  -- whether a type is the home of a method
  pub is_home : (head method : List ℕ) → Bool
  -- the result of a method in a type, and in a class's signature of it, where it is a declared type
  pub type_result : (head method : List ℕ) → Option (List ℕ)
  pub class_result : (class method : List ℕ) → Option (List ℕ)
  -- how many header words an object of a class has
  pub header_words : (class : List ℕ) → ℕ

-- a name without what stands from the first `.` on, and what stands after it
abbrev pub before_dot : List ℕ → List ℕ
before_dot [] = []
before_dot (b ∷ name) = if nat_eq b 46 then [] else b ∷ before_dot name

abbrev pub after_dot : List ℕ → List ℕ
after_dot [] = []
after_dot (b ∷ name) = if nat_eq b 46 then name else after_dot name

-- whether a list of names has a name
abbrev pub has_name : List ℕ → List (List ℕ) → Bool
has_name name names = list_any (bytes_eq name) names

-- the first of two that is there
abbrev pub or_else : {A : Type 0} → Option A → Option A → Option A
or_else None b = b
or_else (Some a) b = Some a

-- what a function gives of a thing that is there
abbrev pub and_if : {A B : Type 0} → Option A → (A → Option B) → Option B
and_if None f = None
and_if (Some a) f = f a

-- a thing that is there where a test holds
abbrev pub given_that : {A : Type 0} → Bool → Option A → Option A
given_that true a = a
given_that false a = None

module _ (d : Declared) (modules : List FlatModule) where
  abbrev pub all_classes : List Class
  all_classes = flat_map (λ m. m.classes) modules

  abbrev pub all_units : List FlatUnit
  all_units = flat_map (λ m. m.units) modules

  abbrev pub unit_named : List ℕ → Option FlatUnit
  unit_named name = find (λ u. bytes_eq u.name name) all_units

  abbrev pub class_named : List ℕ → Option Class
  class_named name = find (λ c. bytes_eq c.name name) all_classes

  -- a class that is there, and what stands above it
  abbrev pub class_and_above : Option Class → (List ℕ → List Class) → List Class
  class_and_above None up = []
  class_and_above (Some c) up = c ∷ above (d.inherited c.name)
    where
      above : Option (List ℕ) → List Class
      above None = []
      above (Some name) = up name

  -- the classes from a class up, at most n of them
  abbrev pub chain_within : ℕ → List ℕ → List Class
  chain_within zero name = []
  chain_within (suc n) name = class_and_above (class_named name) (chain_within n)

  -- the chain of a class: the class, the one that it inherits, and so on
  abbrev pub chain : List ℕ → List Class
  chain name = chain_within (length all_classes) name

  -- the name of the body of a method that is found first from a class up
  abbrev pub walk : (class method : List ℕ) → Option (List ℕ)
  walk class method = option_map (λ c. c.name ++ (46 ∷ method)) (find (λ c. has_name method c.methods) (chain class))

  abbrev pub inherits_class : (of class : List ℕ) → Bool
  inherits_class of class = list_any (λ c. bytes_eq c.name class) (chain of)

  -- the units named `main` of their modules
  abbrev pub mains : List FlatUnit
  mains = flat_map (λ m. filter (λ u. bytes_eq u.name (m.name ++ codes "/main")) m.units) modules

  -- the program of modules
  abbrev pub program_of : FlatProgram
  program_of = record {
    unit = unit_named;
    main = slice_get mains 0;
    called = λ name. and_if (or_else (walk (before_dot name) (after_dot name)) (Some name)) unit_named;
    called_result = λ name. and_if (walk (before_dot name) (after_dot name)) (λ _. d.class_result (before_dot name) (after_dot name));
    dispatched = λ head method class. given_that (d.is_home head method) (and_if (walk class method) unit_named);
    dispatched_result = d.type_result;
    hidden = λ class method of. given_that (list_any (λ c. has_name method c.hidden) (chain class) && inherits_class of class) (and_if (walk of method) unit_named);
    result = λ name. d.class_result (before_dot name) (after_dot name);
    weight = λ class. option_map (λ _. 4 * (d.header_words class + sum_by (λ c. c.wheres + c.fields) (chain class))) (class_named class);
    slots = λ class. unwrap_slots (class_named class);
    class_type = d.class_type;
    inherits = inherits_class;
    reaches = d.reaches;
  }
    where
      unwrap_slots : Option Class → ℕ
      unwrap_slots None = 0
      unwrap_slots (Some c) = c.wheres + c.fields
