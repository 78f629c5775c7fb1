-- When the modules of a program agree, so that they can be linked.
use Rattle.std.specs.Prelude.{◌≡◌, ℕ, ◌⊎◌, List, [], ◌∷◌, ◌++◌, map, flat_map, filter, slice_get, Some, codes, Result, Ok, Err}
use Rattle.th_type.specs.Lists.{IsIn}
use Rattle.th_meaning.specs.Program.{UnitSort, of_routine, of_method, of_init, ProgramUnit, ProgramClass, ProgramInterface, ProgramModule, Program, is_main, main_of}
use Rattle.th_agree.specs.Names.{IsLeastName, IsNoName}
use Rattle.th_agree.specs.declared.error.AgreeError.{AgreeError}
use Rattle.th_agree.specs.declared.error.AgreeError.TheVariants as errors

-- the interfaces that modules keep, each as often as a module keeps it
abbrev pub kept_interfaces : Program → List ProgramInterface
kept_interfaces p = flat_map (λ m. m.interfaces) p

-- the full name of a unit that is a routine or an iterator
abbrev pub routine_name : UnitSort → List ℕ → List (List ℕ)
routine_name of_routine name = name ∷ []
routine_name (of_method c m) name = []
routine_name (of_init c) name = []

-- the full names of classes
abbrev pub class_names : List ProgramClass → List (List ℕ)
class_names cs = map (λ c. c.head.name) cs

-- the full names of the routines among units
abbrev pub routine_names : List ProgramUnit → List (List ℕ)
routine_names us = flat_map (λ u. routine_name u.sort u.name) us

-- the full names of the classes and routines that a module defines
abbrev pub defined : ProgramModule → List (List ℕ)
defined m = class_names m.classes ++ routine_names m.units

-- the name `main`, for each unit that is the module's `main`
abbrev pub main_names : ProgramModule → List (List ℕ)
main_names m = map (λ u. codes "main") (filter (is_main m) m.units)

-- the name of a module
abbrev pub own_name : ProgramModule → List (List ℕ)
own_name m = m.name ∷ []

-- the full names of the classes and routines that an interface exports
abbrev pub exported : ProgramInterface → List (List ℕ)
exported i = map (λ c. c.head.name) i.classes ++ map (λ r. r.name) i.routines

-- modules keep different texts of the interface of this name
pub record Differs (p : Program) (n : List ℕ) : Type 0 where
  pub one : ProgramInterface
  pub other : ProgramInterface
  pub one_kept : IsIn one (kept_interfaces p)
  pub other_kept : IsIn other (kept_interfaces p)
  pub one_named : one.name ≡ n
  pub other_named : other.name ≡ n
  pub differ : ¬ (one.canonical ≡ other.canonical)

-- two modules of the program, at different places, have this name among their names of a kind
pub record TwiceBy (names : ProgramModule → List (List ℕ)) (p : Program) (n : List ℕ) : Type 0 where
  pub k : ℕ
  pub l : ℕ
  pub one : ProgramModule
  pub other : ProgramModule
  pub differ : ¬ (k ≡ l)
  pub one_there : slice_get p k ≡ Some one
  pub other_there : slice_get p l ≡ Some other
  pub one_has : IsIn n (names one)
  pub other_has : IsIn n (names other)

-- two modules have this name, or define a class or a routine of it, or each define `main`. The names of private classes and
-- routines begin with their module's name and `/`, so that these are twice only where the module's name is, which stands before
abbrev pub Twice : Program → List ℕ → Type 0
Twice p n = (TwiceBy own_name p n ⊎ TwiceBy defined p n) ⊎ TwiceBy main_names p n

-- an interface that a module keeps exports a class or a routine of this name, and no module defines it
abbrev pub Missing : Program → List ℕ → Type 0
Missing p n = IsIn n (flat_map exported (kept_interfaces p)) × (¬ IsIn n (flat_map defined p))

-- a module defines a routine `main`
abbrev pub HasMain : Program → Type 0
HasMain p = (u : ProgramUnit) × (main_of p ≡ Some u)

-- modules agree
pub record Agrees (p : Program) : Type 0 where
  pub same : IsNoName (Differs p)
  pub once : IsNoName (Twice p)
  pub all : IsNoName (Missing p)
  pub main : HasMain p

-- whether modules agree, or the first condition that fails, with its least name; want of memory says nothing
abbrev pub IsAgreeAnswer : Program → Result (Unit {0}) AgreeError → Type 0
IsAgreeAnswer p (Ok u) = Agrees p
IsAgreeAnswer p (Err (errors.Differs n)) = IsLeastName (Differs p) n
IsAgreeAnswer p (Err (errors.Twice n)) = IsNoName (Differs p) × IsLeastName (Twice p) n
IsAgreeAnswer p (Err (errors.Missing n)) = IsNoName (Differs p) × IsNoName (Twice p) × IsLeastName (Missing p) n
IsAgreeAnswer p (Err errors.NoMain) = IsNoName (Differs p) × IsNoName (Twice p) × IsNoName (Missing p) × (¬ HasMain p)
IsAgreeAnswer p (Err errors.Memory) = Unit {0}
