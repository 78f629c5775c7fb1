-- The methods of declared types, by name: how many formals each has, what it gives, and its home, which is the type in whose table
-- of slots it stands.
use Rattle.std.specs.Prelude.{ℕ, zero, suc, Bool, true, false, ◌&&◌, ◌||◌, not, bytes_eq, List, [], ◌∷◌, length, map, Option, Some, None, option_map, flat_map, find, is_some, if◌then◌else◌}
use Rattle.std.specs.List.{list_any}
use Rattle.th_meaning.specs.Trees.{TypeTree, int_type, bool_type, text_type, array_type, named_type, param_type, MethodTree}
use Rattle.th_meaning.specs.Program.{TypeDecl, ProgramModule, name_of_type}
use Rattle.th_meaning.specs.Weights.{type_list, substituted}
use Rattle.th_meaning.specs.Typing.{first_of, or_other}

-- the types that the interfaces of a module declare
abbrev pub types_known : ProgramModule → List TypeDecl
types_known m = flat_map (λ i. i.types) m.interfaces

-- the declared type of a full name
abbrev pub decl_named : List TypeDecl → List ℕ → Option TypeDecl
decl_named types name = find (λ t. bytes_eq t.name name) types

-- what a method takes and gives: how many formals it has, and the type of its result or of what it yields
pub record MethodShape : Type 0 where
  pub formals : ℕ
  pub gives : Option TypeTree

-- the shape over arguments in place of type parameters
abbrev pub shape_with : List TypeTree → MethodShape → MethodShape
shape_with args s = record { formals = s.formals; gives = option_map (substituted args) s.gives }

-- the shape of a method as it is written
abbrev pub shape_of : MethodTree → MethodShape
shape_of m = record { formals = length m.sig.formals; gives = m.sig.gives }

-- a method that is written in a type, over the type's own parameters
abbrev pub written : TypeDecl → (method : List ℕ) → Option MethodShape
written d m = option_map shape_of (find (λ x. bytes_eq x.name m) d.methods)

-- a method of a type that is declared so, where `up` tells of its declared supertypes: the written one, else that of the first
-- declared supertype that has it
abbrev pub shape_in : Option TypeDecl → (method : List ℕ) → (up : TypeTree → Option MethodShape) → Option MethodShape
shape_in None m up = None
shape_in (Some d) m up = or_other (written d m) (first_of (map up d.supertypes))

-- a type's method within n steps up
abbrev pub shape_within : ℕ → List TypeDecl → TypeTree → (method : List ℕ) → Option MethodShape
shape_within zero p t m = None
shape_within (suc n) p int_type m = None
shape_within (suc n) p bool_type m = None
shape_within (suc n) p text_type m = None
shape_within (suc n) p (array_type t) m = None
shape_within (suc n) p (named_type name ts) m = option_map (shape_with (type_list ts)) (shape_in (decl_named p name) m (λ t. shape_within n p t m))
shape_within (suc n) p (param_type k) m = None

-- a type's method; as many steps as there are declared types reach every supertype
abbrev pub method_shape : List TypeDecl → TypeTree → (method : List ℕ) → Option MethodShape
method_shape p t m = shape_within (suc (length p)) p t m

-- the name of what a method gives, where that is a declared type
abbrev pub name_given : Option TypeTree → Option (List ℕ)
name_given None = None
name_given (Some t) = name_of_type t

-- whether two names are equal, or both absent
abbrev pub same_name : Option (List ℕ) → Option (List ℕ) → Bool
same_name None None = true
same_name None (Some m) = false
same_name (Some n) None = false
same_name (Some n) (Some m) = bytes_eq n m

-- whether a type has a method, with another result than one of this name
abbrev pub differs : Option MethodShape → Option (List ℕ) → Bool
differs None name = false
differs (Some s) name = not (same_name (name_given s.gives) name)

-- whether a written method with a result of this name is the type's own: no declared supertype has it, or one has it with another
-- result
abbrev pub own_over : Option (List ℕ) → List (Option MethodShape) → Bool
own_over name above = not (list_any is_some above) || list_any (λ x. differs x name) above

abbrev pub own_among : Option MethodShape → List (Option MethodShape) → Bool
own_among None above = false
own_among (Some s) above = own_over (name_given s.gives) above

-- whether a method is a declared type's own
abbrev pub is_own : List TypeDecl → TypeDecl → (method : List ℕ) → Bool
is_own p d m = own_among (written d m) (map (λ t. method_shape p t m) d.supertypes)

-- the name of the first declared supertype that has a method
abbrev pub first_with : List TypeDecl → (method : List ℕ) → List TypeTree → Option (List ℕ)
first_with p m [] = None
first_with p m (t ∷ ts) = if is_some (method_shape p t m) then name_of_type t else first_with p m ts

-- where a method goes on from a type to its home: nowhere where the type is its home, else to the first declared supertype that
-- has it
abbrev pub above_for : List TypeDecl → (method : List ℕ) → Option TypeDecl → Option (List ℕ)
above_for p m None = None
above_for p m (Some d) = if is_own p d m then None else first_with p m d.supertypes

-- the home of a type's method within n steps up
abbrev pub home_within : ℕ → List TypeDecl → (of method : List ℕ) → List ℕ
home_within zero p of m = of
home_within (suc n) p of m = elim (above_for p m (decl_named p of)) [ None ↦ of | Some above ↦ home_within n p above m ]

-- the home of a type's method: the type itself where the method is its own, else the home in the first declared supertype that has it
abbrev pub home : List TypeDecl → (of method : List ℕ) → List ℕ
home p of m = home_within (length p) p of m
