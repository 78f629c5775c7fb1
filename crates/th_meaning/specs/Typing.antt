-- Types of checked programs: which types are there, subtypes, signatures of methods, and what satisfies a where-clause.
use Rattle.std.specs.Prelude.{◌≡◌, ◌⊎◌, ℕ, zero, suc, ◌<◌, Bool, true, false, ◌&&◌, bytes_eq, List, [], ◌∷◌, ◌++◌, length, map, Option, Some, None, option_map, find, filter, slice_get, All, Contains, if◌then◌else◌, codes, is_none, not}
use Rattle.th_meaning.specs.declared.types.Primitive.{Primitive}
use Rattle.th_meaning.specs.declared.types.Primitive.TheVariants.{IntEqual, IntLess, BoolEqual}
use Rattle.th_meaning.specs.Trees.{TypeTree, int_type, bool_type, text_type, array_type, named_type, param_type, TypeTrees, no_type, more_types, Signature, MethodTree, ClauseTree, SupplyTree, by_primitive, by_method, passed}
use Rattle.th_meaning.specs.Program.{TypeDecl, ClassHead, ProgramClass, ProgramUnit, Program, type_named, class_named, unit_named, types_of_program, classes_of, chain, has_body, walk, method_name, init_name}
use Rattle.th_meaning.specs.Weights.{type_list, substituted, all_substituted, same_type, supertypes, steps_up, arguments}

abbrev mutual
  -- the type is one of the program, where so many type parameters are in scope: each declared type in it is there and has as
  -- many arguments as parameters
  pub TypeStands : Program → (params : ℕ) → TypeTree → Type 0
  TypeStands p params int_type = Unit {0}
  TypeStands p params bool_type = Unit {0}
  TypeStands p params text_type = Unit {0}
  TypeStands p params (array_type t) = TypeStands p params t
  TypeStands p params (named_type n ts) = ((d : TypeDecl) × (type_named p n ≡ Some d) × (length (type_list ts) ≡ d.params)) × TypesStand p params ts
  TypeStands p params (param_type k) = k < params

  pub TypesStand : Program → (params : ℕ) → TypeTrees → Type 0
  TypesStand p params no_type = Unit {0}
  TypesStand p params (more_types t ts) = TypeStands p params t × TypesStand p params ts

-- P holds of what there may be
abbrev pub OfSome : {A : Type 0} → (A → Type 0) → Option A → Type 0
OfSome P None = Unit {0}
OfSome P (Some a) = P a

-- the subtypes of a type: itself, and those that have a declared supertype among them
pub data Subtype (p : Program) (u : TypeTree) : TypeTree → Type 0 where
  same : Subtype p u u
  above : (t s : TypeTree) → Contains (supertypes p t) s → Subtype p u s → Subtype p u t

-- the signature with arguments in place of type parameters
abbrev pub sig_with : List TypeTree → Signature → Signature
sig_with args s = record { iterator = s.iterator; formals = map (substituted args) s.formals; gives = option_map (substituted args) s.gives; signals = s.signals }

-- the signature of a method of this name in a list
abbrev pub sig_in : List MethodTree → List ℕ → Option Signature
sig_in methods m = option_map (λ x. x.sig) (find (λ x. bytes_eq x.name m) methods)

-- the first that is there
abbrev pub first_of : {A : Type 0} → List (Option A) → Option A
first_of [] = None
first_of (None ∷ more) = first_of more
first_of (Some a ∷ more) = Some a

-- the first one, or the second where it isn't there
abbrev pub or_other : {A : Type 0} → Option A → Option A → Option A
or_other None b = b
or_other (Some a) b = Some a

-- the signature of a method that is written in a type, over the type's arguments
abbrev pub written_sig : Option TypeDecl → List TypeTree → List ℕ → Option Signature
written_sig None args m = None
written_sig (Some d) args m = option_map (sig_with args) (sig_in d.methods m)

-- a method of a type within n steps up: the signature that is written in the type, else that of the first declared supertype
-- that has the method
abbrev pub method_within : ℕ → Program → TypeTree → List ℕ → Option Signature
method_within zero p t m = None
method_within (suc n) p int_type m = None
method_within (suc n) p bool_type m = None
method_within (suc n) p text_type m = None
method_within (suc n) p (array_type t) m = None
method_within (suc n) p (named_type name ts) m = or_other (written_sig (type_named p name) (type_list ts) m)
    (first_of (map (λ s. method_within n p s m) (supertypes p (named_type name ts))))
method_within (suc n) p (param_type k) m = None

-- the signature of a type's method
abbrev pub method_sig : Program → TypeTree → List ℕ → Option Signature
method_sig p t m = method_within (suc (steps_up p)) p t m

-- a class's own body of a method: its unit's signature, over the class's own parameters
abbrev pub body_sig : Program → (class : List ℕ) → (method : List ℕ) → Option Signature
body_sig p class m = option_map (λ u. u.sig) (unit_named p (method_name class m))

-- the signature of a method that a class has, over a chain from the class up: that of its type, else the inherited one with
-- arguments in place of parameters, else that of the class's own body
abbrev pub sig_over : Program → List ProgramClass → List ℕ → Option Signature
sig_over p [] m = None
sig_over p (c ∷ up) m = first_of (method_sig p c.head.of m ∷ option_map (sig_with (arguments c.head.inherits)) (sig_over p up m)
    ∷ (if has_body m c then body_sig p c.head.name m else None) ∷ [])

-- the signature of a class's method
abbrev pub class_sig : Program → (class : List ℕ) → (method : List ℕ) → Option Signature
class_sig p class m = sig_over p (chain p class) m

-- signals as a set: each of the first is one of the second
abbrev pub SignalsWithin : List (List ℕ) → List (List ℕ) → Type 0
SignalsWithin xs ys = All (λ x. Contains ys x) xs

-- a result may be a subtype of a result; what is yielded is equal
pub data ResultConforms (p : Program) : Signature → Signature → Type 0 where
  no_result : (s t : Signature) → s.gives ≡ None → t.gives ≡ None → ResultConforms p s t
  equal_result : (s t : Signature) (r : TypeTree) → s.gives ≡ Some r → t.gives ≡ Some r → ResultConforms p s t
  sub_result : (s t : Signature) (r u : TypeTree) → s.iterator ≡ false → s.gives ≡ Some r → t.gives ≡ Some u → Subtype p u r → ResultConforms p s t

-- the signature s conforms to t: both are procedures or both iterators, formals are equal in order, the result of s is a
-- subtype of that of t, what is yielded is equal, and each signal of s is one of t
pub record Conforms (p : Program) (s t : Signature) : Type 0 where
  pub iterator : s.iterator ≡ t.iterator
  pub formals : s.formals ≡ t.formals
  pub gives : ResultConforms p s t
  pub signals : SignalsWithin s.signals t.signals

-- the same, with equal results
pub record ExactlyConforms (s t : Signature) : Type 0 where
  pub iterator : s.iterator ≡ t.iterator
  pub formals : s.formals ≡ t.formals
  pub gives : s.gives ≡ t.gives
  pub signals : SignalsWithin s.signals t.signals

-- the signature of a primitive
abbrev pub primitive_sig : Primitive → Signature
primitive_sig IntEqual = record { iterator = false; formals = int_type ∷ []; gives = Some bool_type; signals = [] }
primitive_sig IntLess = record { iterator = false; formals = int_type ∷ []; gives = Some bool_type; signals = [] }
primitive_sig BoolEqual = record { iterator = false; formals = bool_type ∷ []; gives = Some bool_type; signals = [] }

-- the method that a primitive is
abbrev pub primitive_name : Primitive → List ℕ
primitive_name IntEqual = codes "equal"
primitive_name IntLess = codes "less"
primitive_name BoolEqual = codes "equal"

-- the type that has a primitive
abbrev pub primitive_type : Primitive → TypeTree
primitive_type IntEqual = int_type
primitive_type IntLess = int_type
primitive_type BoolEqual = bool_type

-- what a supply gives for a method m of the type argument t, where these where-clauses are in scope: a primitive of t; the
-- method of t, where it is a declared type; or the where-method of t, where it is a type parameter
abbrev pub SupplyGives : Program → List ClauseTree → TypeTree → List ℕ → SupplyTree → Signature → Type 0
SupplyGives p clauses t m (by_primitive x) s = (t ≡ primitive_type x) × (m ≡ primitive_name x) × (s ≡ primitive_sig x)
SupplyGives p clauses t m (by_method name method) s = (m ≡ method) × ((args : TypeTrees) × (t ≡ named_type name args)) × (method_sig p t m ≡ Some s)
SupplyGives p clauses t m (passed k) s = (c : ClauseTree) × (slice_get clauses k ≡ Some c) × (t ≡ param_type c.param) × (m ≡ c.method.name) × (s ≡ c.method.sig)

-- the supply stands for a where-method of what is called with these type arguments: what it gives exactly conforms to the clause
pub record Satisfies (p : Program) (clauses : List ClauseTree) (args : List TypeTree) (c : ClauseTree) (x : SupplyTree) : Type 0 where
  pub arg : TypeTree
  pub is : slice_get args c.param ≡ Some arg
  pub sig : Signature
  pub gives : SupplyGives p clauses arg c.method.name x sig
  pub conforms : ExactlyConforms sig (sig_with args c.method.sig)

-- the supplies stand for the where-clauses of what is called, in order
abbrev pub AllSatisfied : Program → List ClauseTree → List TypeTree → List ClauseTree → List SupplyTree → Type 0
AllSatisfied p clauses args [] [] = Unit {0}
AllSatisfied p clauses args (c ∷ cs) (x ∷ xs) = Satisfies p clauses args c x × AllSatisfied p clauses args cs xs
AllSatisfied p clauses args _ _ = ⊥
