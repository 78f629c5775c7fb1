-- What the code builds of rows, by functions from numbers to places.
use Rattle.std.specs.Prelude.{◌≡◌, ◌↔◌, ℕ, ◌<◌, List, [], ◌∷◌, map, length, slice_get, nat_eq, IsTrue, IsSome, Bool, true, Option, Some, None, option_map, option_and_then}
use Rattle.std.specs.Map.{lookup}
use Rattle.std.specs.List.Sorted.{IsPermutation}
use Rattle.th_type.specs.Types.{TypeExpr, subst_ty}
use Rattle.th_type.specs.Declarations.{DeclaredType, supers_of}
use Rattle.th_type.specs.Methods.{method_of}
use Rattle.th_views.specs.declared.TypeRow.{TypeRow}
use Rattle.th_views.specs.declared.ClassRow.{ClassRow}
use Rattle.th_views.specs.Lookups.{given_in, index_of, type_numbers}
use Rattle.th_shape.specs.declared.results.Head.{Head}
use Rattle.th_shape.specs.declared.results.Results.{Results}
use Rattle.th_shape.specs.declared.class_rows.ClassResults.{ClassResults}
use Rattle.th_shape.specs.Heads.{result_kind, declared_in}
use Rattle.th_views.specs.Shapes.{Shape, base_args, base_name, names_of, IsLine}
use Rattle.th_shape.specs.Order.{IsOrder}
use Rattle.th_type.specs.Closure.{Distinct}
use Rattle.th_type.specs.Ordering.{SupersFirst}
use Rattle.th_shape.specs.Lines.{result_of, type_result, sig_result, arrival, named_by, OnChain, Extends}
use Rattle.th_shape.specs.Own.{own_methods}
use Rattle.th_shape.specs.Placed.{place_by, places_by}

-- the row of a declared type
pub record TypeBuilt (D : List DeclaredType) (f : ℕ → Option ℕ) (seconds : ℕ → Option Bool) (r : TypeRow) : Type 0 where
  pub supers : r.supers ≡ places_by f (supers_of D r.name)
  pub marked : IsTrue r.marked ↔ (seconds r.name ≡ Some true)
  pub own : r.own ≡ own_methods D r.name
  pub gives : (m : ℕ) → given_in r.gives m ≡ option_and_then f (named_by (option_map result_of (method_of D r.name m)))

-- the rows of the types of these numbers
pub record TypesBuilt (D : List DeclaredType) (f : ℕ → Option ℕ) (seconds : ℕ → Option Bool) (names : List ℕ) (rows : List TypeRow) : Type 0 where
  pub numbers : type_numbers rows ≡ names
  pub each : (k : ℕ) (r : TypeRow) → slice_get rows k ≡ Some r → TypeBuilt D f seconds r

-- what the methods have of a class of a line
abbrev pub kinds : Results → ℕ → Option Head
kinds r q = lookup (nat_eq q) r.of.entries

pub record HasResults (D : List DeclaredType) (l : List Shape) (r : ClassResults) : Type 0 where
  pub sigs : (q : ℕ) → kinds r.sigs q ≡ option_map result_kind (sig_result D l q)
  pub arrivals : (q : ℕ) → kinds r.arrivals q ≡ option_map result_kind (arrival D l q)

abbrev pub ResultsAt : List DeclaredType → List Shape → Option ClassResults → Type 0
ResultsAt D l None = ⊥
ResultsAt D l (Some r) = HasResults D l r

-- the results of the class that is inherited, which begins the line, if one is inherited
abbrev pub UpResults : List DeclaredType → List ClassResults → Option ℕ → List Shape → Type 0
UpResults D done None l = l ≡ []
UpResults D done (Some j) l = ResultsAt D l (slice_get done j)

-- whether a class extends the group of another
abbrev pub ExtendsBase : List DeclaredType → Shape → Option Shape → Type 0
ExtendsBase D s None = ⊥
ExtendsBase D s (Some b) = OnChain D s.of (subst_ty (base_args s) b.of)

abbrev pub shape_at : List Shape → Option ℕ → Option Shape
shape_at S None = None
shape_at S (Some k) = slice_get S k

-- the class at a place of an order, if there is a place
abbrev pub base_at : List Shape → List ℕ → Option ℕ → Option Shape
base_at S order None = None
base_at S order (Some j) = shape_at S (slice_get order j)

-- the row of the class s
pub record ClassBuilt (D : List DeclaredType) (f g : ℕ → Option ℕ) (s : Shape) (base : Option Shape) (results : ClassResults) (r : ClassRow) : Type 0 where
  pub name : r.name ≡ s.name
  pub of : Some r.of ≡ place_by f s.of
  pub inherits : r.inherits ≡ option_and_then (place_by g) s.inherits
  pub extends : IsTrue r.extends ↔ ExtendsBase D s base
  pub hidden : r.hidden ≡ s.hidden
  pub bodies : r.bodies ≡ s.methods
  pub wheres : r.wheres ≡ s.where_words
  pub fields : r.fields ≡ s.own_fields
  pub gives : (m : ℕ) → given_in r.gives m ≡ option_and_then f (option_and_then declared_in (kinds results.sigs m))
  pub arrives : (m : ℕ) → given_in r.arrives m ≡ option_and_then f (option_and_then declared_in (kinds results.arrivals m))

abbrev pub name_in : Option Shape → ℕ
name_in None = 0
name_in (Some s) = s.name

-- the numbers of the classes at places
abbrev pub names_at : List Shape → List ℕ → List ℕ
names_at S ks = map (λ k. name_in (slice_get S k)) ks

-- for each class the place of the class that it inherits
abbrev pub ups_in : (ℕ → Option ℕ) → List Shape → List (Option ℕ)
ups_in h S = map (λ s. option_and_then (place_by h) s.inherits) S

-- what is known before the rows of classes are made: f and g give the places of types and classes
pub record Ready (D : List DeclaredType) (types : List ℕ) (f : ℕ → Option ℕ) (S : List Shape) (order : List ℕ) (g : ℕ → Option ℕ) : Type 0 where
  pub types_first : SupersFirst D types
  pub types_all : IsPermutation (map (λ d. d.name) D) types
  pub type_places : (q : ℕ) → f q ≡ index_of q types
  pub typed : (k : ℕ) (s : Shape) → slice_get S k ≡ Some s → IsSome (place_by f s.of)
  pub differ : Distinct (names_of S)
  pub ordered : IsOrder (ups_in (λ q. index_of q (names_of S)) S) order
  pub class_places : (q : ℕ) → g q ≡ index_of q (names_at S order)

-- what the results of the class at a place of the order name, whatever its line is
pub record ResultsBuilt (D : List DeclaredType) (S : List Shape) (s : Shape) (results : ClassResults) : Type 0 where
  pub fits : (above : List Shape) → IsLine S (base_name s) above → HasResults D (s ∷ above) results

-- the row of the class at a place of the order
pub record RowBuilt (D : List DeclaredType) (f g : ℕ → Option ℕ) (S : List Shape) (order : List ℕ) (k : Option ℕ) (r : ClassRow) : Type 0 where
  pub shape : Shape
  pub results : ClassResults
  pub here : shape_at S k ≡ Some shape
  pub row : ClassBuilt D f g shape (base_at S order (option_and_then (place_by g) shape.inherits)) results r
  pub named : ResultsBuilt D S shape results

pub record ClassesBuilt (D : List DeclaredType) (f g : ℕ → Option ℕ) (S : List Shape) (order : List ℕ) (rows : List ClassRow) : Type 0 where
  pub many : length rows ≡ length order
  pub each : (k : ℕ) (r : ClassRow) → slice_get rows k ≡ Some r → RowBuilt D f g S order (slice_get order k) r
