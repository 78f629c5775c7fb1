-- What is asked of a layout, by the numbers of types, classes and methods. Distances and offsets are in bytes.
use Rattle.std.specs.Prelude.{◌≡◌, ℕ, ℤ, pos, negsuc, ◌+◌, ◌*◌, ◌<◌, ◌≤◌, List, [], ◌∷◌, Bool, true, false, unwrap_or, slice_get, nat_eq, nat_lt, cond, Option, Some, None, option_map, option_and_then}
use Rattle.std.specs.List.{Contains}
use Rattle.std.specs.List.Sorted.{IsStrictlyIncreasing}
use Rattle.th_views.specs.declared.Spot.{Spot}
use Rattle.th_views.specs.declared.TypeRow.{TypeRow}
use Rattle.th_views.specs.declared.Gives.{Gives}
use Rattle.th_views.specs.declared.ClassRow.{ClassRow}
use Rattle.th_views.specs.Tree.{Tree, own_of, span, Place, Below, Above, place}
use Rattle.th_views.specs.Listed.{spots, first_of, HasSpot}
use Rattle.th_views.specs.Home.{home, offers}
use Rattle.th_views.specs.Chain.{Link, among, lookup, start, words, hidden, field_word, size}
use Rattle.th_views.specs.Sums.{sum, sum_words}
use Rattle.th_views.specs.Objects.{raised, object_spots}
use Rattle.th_views.specs.Rows.{Program, tree_of, chain_of}

abbrev pub type_numbers : List TypeRow → List ℕ
type_numbers [] = []
type_numbers (r ∷ rest) = r.name ∷ type_numbers rest

abbrev pub class_numbers : List ClassRow → List ℕ
class_numbers [] = []
class_numbers (c ∷ rest) = c.name ∷ class_numbers rest

abbrev pub after : Option ℕ → Option ℕ
after None = None
after (Some k) = Some (k + 1)

-- the first place at which a number stands
abbrev pub index_of : ℕ → List ℕ → Option ℕ
index_of n [] = None
index_of n (x ∷ xs) = cond (nat_eq x n) (Some 0) (after (index_of n xs))

-- the places of the type and of the class with a number
abbrev pub type_place : Program → ℕ → Option ℕ
type_place p n = index_of n (type_numbers p.types)

abbrev pub class_place : Program → ℕ → Option ℕ
class_place p n = index_of n (class_numbers p.classes)

-- what a type with the number answers, else what a class with the number answers
abbrev pub answer : {A : Type 0} → (ℕ → Option A) → (ℕ → Option A) → Option ℕ → Option ℕ → Option A
answer f g (Some t) c = f t
answer f g None c = option_and_then g c

-- the header words of a type or of a class's objects
abbrev pub words_of : Program → ℕ → Option ℕ
words_of p n = answer (λ k. Some (span (tree_of p.types k))) (λ k. Some (words (chain_of p k))) (type_place p n) (class_place p n)

-- the sum over the declared supertypes, by which limits and weights count
abbrev pub sum_of : Program → ℕ → Option ℕ
sum_of p n = answer (λ k. Some (sum (tree_of p.types k))) (λ k. Some (sum_words (chain_of p k))) (type_place p n) (class_place p n)

-- the offset of a place in a table from its middle word
abbrev pub offset : Place → ℤ
offset (Below k) = negsuc (4 * k + 3)
offset (Above k) = pos (4 * (k + 1))

abbrev pub own_place : ℕ → Tree → Option Place
own_place m t = option_map (place t) (index_of m (own_of t))

-- the place of a type's method in the table of its home
abbrev pub method_place : Tree → ℕ → Option Place
method_place x m = option_and_then (own_place m) (home x m)

-- the place of a class's hidden method
abbrev pub hidden_place : Program → ℕ → ℕ → Option Place
hidden_place p c m = option_map (λ i. Above (raised p.types + i)) (index_of m (hidden (chain_of p c)))

-- the offset of a type's method in the table of its home, or of a class's hidden method
abbrev pub slot_of : Program → ℕ → ℕ → Option ℤ
slot_of p n m = answer (λ k. option_map offset (method_place (tree_of p.types k) m)) (λ k. option_map offset (hidden_place p k m)) (type_place p n) (class_place p n)

-- the distance from one type's view down to another's
abbrev pub cast_at : Program → ℕ → ℕ → Option ℕ
cast_at p t u = option_map (λ w. 4 * w) (first_of u (spots (tree_of p.types t)))

-- the distance from the anchor down to a class's own group, where the type is its own
abbrev pub group_at : Program → ℕ → ℕ → Option ℕ
group_at p c u = option_and_then (λ r. cond (nat_eq r.of u) (Some (4 * start (chain_of p c))) None) (slice_get p.classes c)

-- the distance in bytes from a type down to a supertype or itself, or from a class's anchor down to its own type
abbrev pub cast_of : Program → ℕ → ℕ → Option ℕ
cast_of p n u = option_and_then (λ to. answer (λ t. cast_at p t to) (λ c. group_at p c to) (type_place p n) (class_place p n)) (type_place p u)

-- the where-word or field i of a class, where-words first: its offset above the anchor
abbrev pub field_at : Program → ℕ → ℕ → Option ℕ
field_at p c i = option_and_then (λ r. cond (nat_lt i (r.wheres + r.fields)) (Some (4 * field_word (chain_of p c) i)) None) (slice_get p.classes c)

abbrev pub field_of : Program → ℕ → ℕ → Option ℕ
field_of p n i = option_and_then (λ c. field_at p c i) (class_place p n)

-- the bytes of a class's objects
abbrev pub size_of : Program → ℕ → Option ℕ
size_of p n = option_map (λ c. size (chain_of p c)) (class_place p n)

-- the number of the type at a place
abbrev pub type_number : List TypeRow → ℕ → Option ℕ
type_number types t = option_map (λ r. r.name) (slice_get types t)

-- the type with the number n is one of those seen at the word w
abbrev pub SeesAt : List TypeRow → List Spot → ℕ → ℕ → Type 0
SeesAt types seen w n = (t : ℕ) × HasSpot seen t w × (type_number types t ≡ Some n)

-- the list has the numbers of the types seen at the word w, each once, ascending
pub record IsView (types : List TypeRow) (seen : List Spot) (w : ℕ) (view : List ℕ) : Type 0 where
  pub ascending : IsStrictlyIncreasing view
  pub sound : (n : ℕ) → Contains view n → SeesAt types seen w n
  pub whole : (n : ℕ) → SeesAt types seen w n → Contains view n

-- there is no such class, or its objects have no header word w
abbrev pub NoWord : Program → Option ℕ → ℕ → Type 0
NoWord p None w = Unit {0}
NoWord p (Some c) w = words (chain_of p c) ≤ w

-- the list has the types that objects of the class see at their header word w
abbrev pub ViewAt : Program → Option ℕ → ℕ → List ℕ → Type 0
ViewAt p None w view = ⊥
ViewAt p (Some c) w view = (w < words (chain_of p c)) × IsView p.types (object_spots (chain_of p c)) w view

-- the type that a method gives, if it is a declared type
abbrev pub given_in : List Gives → ℕ → Option ℕ
given_in [] m = None
given_in (g ∷ gs) m = cond (nat_eq g.method m) (Some g.of) (given_in gs m)

abbrev pub type_gives : Option TypeRow → List Gives
type_gives None = []
type_gives (Some r) = r.gives

abbrev pub class_gives : Option ClassRow → List Gives
class_gives None = []
class_gives (Some r) = r.gives

abbrev pub class_arrives : Option ClassRow → List Gives
class_arrives None = []
class_arrives (Some r) = r.arrives

-- the distance in bytes from one type down to another, 0 where it does not reach it
abbrev pub lowering : Program → ℕ → ℕ → ℕ
lowering p a b = unwrap_or (cast_at p a b) 0

-- the distance from a first result to a second, 0 where one of them is no declared type
abbrev pub between : Program → Option ℕ → Option ℕ → ℕ
between p None b = 0
between p (Some a) None = 0
between p (Some a) (Some b) = lowering p a b

-- the distance from what arrives for a class's method to what a type, or a class, says that it gives
abbrev pub to_type : Program → ℕ → ℕ → ℕ → ℕ
to_type p c m t = between p (given_in (class_arrives (slice_get p.classes c)) m) (given_in (type_gives (slice_get p.types t)) m)

abbrev pub to_class : Program → ℕ → ℕ → ℕ → ℕ
to_class p c m d = between p (given_in (class_arrives (slice_get p.classes c)) m) (given_in (class_gives (slice_get p.classes d)) m)

-- whether a class has a method: its type has it, or it or an inherited class has it hidden, or an inherited class's type has it
abbrev pub knows : List Link → ℕ → Bool
knows [] m = false
knows (c ∷ rest) m = cond (offers c.of m) true (cond (among c.hidden m) true (knows rest m))

abbrev pub where_true : Bool → ℕ → Option ℕ
where_true b n = cond b (Some n) None

-- the distance of the body that a class's walk finds to a type's or a class's result; none where no body is found or the other has no such method
abbrev pub narrowed_at : Program → ℕ → ℕ → ℕ → Option ℕ
narrowed_at p c m to = option_and_then (λ b. answer (λ t. where_true (offers (tree_of p.types t) m) (to_type p c m t))
    (λ d. where_true (knows (chain_of p d) m) (to_class p c m d)) (type_place p to) (class_place p to)) (lookup (chain_of p c) m)

abbrev pub narrowed_of : Program → ℕ → ℕ → ℕ → Option ℕ
narrowed_of p n m to = option_and_then (λ c. narrowed_at p c m to) (class_place p n)
