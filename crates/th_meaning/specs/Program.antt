-- Programs: modules, their classes and units, and the declarations of the interfaces that they name.
use Rattle.std.specs.Prelude.{ℕ, zero, suc, Bool, List, [], ◌∷◌, ◌++◌, length, Option, Some, None, option_map, map, flat_map, find, filter, slice_get, bytes_eq, codes, is_some}
use Rattle.th_meaning.specs.Trees.{TypeTree, int_type, bool_type, text_type, array_type, named_type, param_type, Signature, MethodTree, ClauseTree, BodyTree}

-- a declared type: its full name, how many parameters it has, its declared supertypes, and the methods written in it
pub record TypeDecl : Type 0 where
  pub name : List ℕ
  pub params : ℕ
  pub supertypes : List TypeTree
  pub methods : List MethodTree

-- a declared exception: its full name, and the type of its argument where it has one
pub record ExceptionDecl : Type 0 where
  pub name : List ℕ
  pub argument : Option TypeTree

-- the head of a class: its full name, how many parameters it has, the type that it is for, the class that it inherits,
-- and its where-clauses
pub record ClassHead : Type 0 where
  pub name : List ℕ
  pub params : ℕ
  pub of : TypeTree
  pub inherits : Option TypeTree
  pub clauses : List ClauseTree

-- a class that an interface declares
pub record ClassDecl : Type 0 where
  pub head : ClassHead
  pub hidden : List MethodTree
  pub init : Signature

-- a routine or an iterator that an interface declares
pub record RoutineDecl : Type 0 where
  pub name : List ℕ
  pub params : ℕ
  pub sig : Signature
  pub clauses : List ClauseTree

-- an interface: its name, its canonical text, and what it declares
pub record ProgramInterface : Type 0 where
  pub name : List ℕ
  pub canonical : List ℕ
  pub types : List TypeDecl
  pub exceptions : List ExceptionDecl
  pub classes : List ClassDecl
  pub routines : List RoutineDecl

-- a field of a class
pub record FieldDecl : Type 0 where
  pub name : List ℕ
  pub of : TypeTree

-- a class: the canonical text of its head, its head, its own fields, the hidden methods that it introduces, and the
-- methods of which it has a body
pub record ProgramClass : Type 0 where
  pub text : List ℕ
  pub head : ClassHead
  pub fields : List FieldDecl
  pub hidden : List (List ℕ)
  pub methods : List (List ℕ)

-- what a unit is: a routine or an iterator, a body of a method of a class, or the initializer of a class
pub data UnitSort : Type 0 where
  of_routine : UnitSort
  of_method : (class : List ℕ) → (method : List ℕ) → UnitSort
  of_init : (class : List ℕ) → UnitSort

-- a unit: its full name, what it is, its type parameters and where-clauses, its signature and its statements
pub record ProgramUnit : Type 0 where
  pub name : List ℕ
  pub sort : UnitSort
  pub params : ℕ
  pub clauses : List ClauseTree
  pub sig : Signature
  pub body : BodyTree

-- a module: its name, the interfaces that it names, its classes and its units
pub record ProgramModule : Type 0 where
  pub name : List ℕ
  pub interfaces : List ProgramInterface
  pub classes : List ProgramClass
  pub units : List ProgramUnit

-- a program: its modules, whose order means nothing
abbrev pub Program : Type 0
Program = List ProgramModule

-- all units of a program
abbrev pub units_of : Program → List ProgramUnit
units_of p = flat_map (λ m. m.units) p

-- the full names of all units of a program
abbrev pub unit_names : Program → List (List ℕ)
unit_names p = map (λ u. u.name) (units_of p)

-- all classes of a program
abbrev pub classes_of : Program → List ProgramClass
classes_of p = flat_map (λ m. m.classes) p

-- all types that the interfaces of a program declare; an interface that two modules name has its types there twice
abbrev pub types_of_program : Program → List TypeDecl
types_of_program p = flat_map (λ m. flat_map (λ i. i.types) m.interfaces) p

-- the unit of a full name
abbrev pub unit_named : Program → List ℕ → Option ProgramUnit
unit_named p name = find (λ u. bytes_eq u.name name) (units_of p)

-- the class of a full name
abbrev pub class_named : Program → List ℕ → Option ProgramClass
class_named p name = find (λ c. bytes_eq c.head.name name) (classes_of p)

-- the declaration of a type of a full name
abbrev pub type_named : Program → List ℕ → Option TypeDecl
type_named p name = find (λ t. bytes_eq t.name name) (types_of_program p)

-- the full name M/n of the item n of module M
abbrev pub full_name : List ℕ → List ℕ → List ℕ
full_name m n = m ++ (47 ∷ n)

-- the full name of the body of a method in a class
abbrev pub method_name : (class : List ℕ) → (method : List ℕ) → List ℕ
method_name c m = c ++ (46 ∷ m)

-- the full name of a class's initializer
abbrev pub init_name : (class : List ℕ) → List ℕ
init_name c = c ++ codes ".init"

-- the name of a declared type or of a class
abbrev pub name_of_type : TypeTree → Option (List ℕ)
name_of_type int_type = None
name_of_type bool_type = None
name_of_type text_type = None
name_of_type (array_type t) = None
name_of_type (named_type n ts) = Some n
name_of_type (param_type k) = None

-- the name of the class that a class inherits, where there is one
abbrev pub inherited_name : Option TypeTree → Option (List ℕ)
inherited_name None = None
inherited_name (Some t) = name_of_type t

-- what stands above a class: the chain of the class that it inherits, where there is one
abbrev pub above : Option (List ℕ) → (List ℕ → List ProgramClass) → List ProgramClass
above None up = []
above (Some name) up = up name

-- a class that is there, and what stands above it
abbrev pub class_and_above : Option ProgramClass → (List ℕ → List ProgramClass) → List ProgramClass
class_and_above None up = []
class_and_above (Some c) up = c ∷ above (inherited_name c.head.inherits) up

-- the classes from a class up, at most n of them: the class, the one that it inherits, and so on
abbrev pub chain_within : ℕ → Program → List ℕ → List ProgramClass
chain_within zero p name = []
chain_within (suc n) p name = class_and_above (class_named p name) (chain_within n p)

-- the chain of a class: the class, the one that it inherits, and so on. No class is in it twice where no class reaches
-- itself, so that as many steps as there are classes are enough
abbrev pub chain : Program → List ℕ → List ProgramClass
chain p name = chain_within (length (classes_of p)) p name

-- whether a class has a body of a method
abbrev pub has_body : List ℕ → ProgramClass → Bool
has_body method c = is_some (find (λ m. bytes_eq m method) c.methods)

-- the walk: the full name of the body of a method that is found from a class up
abbrev pub walk : Program → (class : List ℕ) → (method : List ℕ) → Option (List ℕ)
walk p class method = option_map (λ c. method_name c.head.name method) (find (has_body method) (chain p class))

-- whether the unit is the module's `main`
abbrev pub is_main : ProgramModule → ProgramUnit → Bool
is_main m u = bytes_eq u.name (full_name m.name (codes "main"))

-- the units that are `main` of their modules
abbrev pub mains : Program → List ProgramUnit
mains p = flat_map (λ m. filter (is_main m) m.units) p

-- the program's `main`
abbrev pub main_of : Program → Option ProgramUnit
main_of p = slice_get (mains p) 0
