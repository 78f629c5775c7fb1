-- A program's types and classes as lists of rows. A row names another by its place in its list. What a row names stands before it.
use Rattle.std.specs.Prelude.{◌≡◌, ℕ, zero, suc, ◌<◌, List, [], ◌∷◌, length, Bool, true, false, Option, Some, None, slice_get, max, nat_eq, cond}
use Rattle.th_views.specs.declared.TypeRow.{TypeRow}
use Rattle.th_views.specs.declared.ClassRow.{ClassRow}
use Rattle.th_views.specs.Tree.{Tree, Trees}
use Rattle.th_views.specs.Graph.{Graph, grow, trees_by, Ranked}
use Rattle.th_views.specs.Chain.{Link}

-- the places of a type's declared supertypes
abbrev pub supers_in : Option TypeRow → List ℕ
supers_in None = []
supers_in (Some r) = r.supers

abbrev pub marked_in : Option TypeRow → Bool
marked_in None = false
marked_in (Some r) = r.marked

abbrev pub own_in : Option TypeRow → List ℕ
own_in None = []
own_in (Some r) = r.own

-- the types as a graph of their places
abbrev pub graph_of : List TypeRow → Graph
graph_of rows = record { supers = λ n. supers_in (slice_get rows n); marked = λ n. marked_in (slice_get rows n); own = λ n. own_in (slice_get rows n) }

-- the type at a place, with everything above it
abbrev pub tree_of : List TypeRow → ℕ → Tree
tree_of rows n = grow (graph_of rows) n n

-- the declared supertypes of the type at a place
abbrev pub above_of : List TypeRow → ℕ → Trees
above_of rows n = trees_by (tree_of rows) (supers_in (slice_get rows n))

-- each supertype stands before its subtypes
abbrev pub Ordered : List TypeRow → Type 0
Ordered rows = Ranked (graph_of rows) (λ n. n)

-- the types and classes of a program
pub record Program : Type 0 where
  pub types : List TypeRow
  pub classes : List ClassRow

-- the place of the inherited class
abbrev pub inherits_in : Option ClassRow → Option ℕ
inherits_in None = None
inherits_in (Some c) = c.inherits

abbrev pub inherited : (ℕ → List Link) → Option ℕ → List Link
inherited f None = []
inherited f (Some d) = f d

-- a class before those that it inherits
abbrev pub linked : List TypeRow → Option ClassRow → List Link → List Link
linked types None rest = []
linked types (Some c) rest = record { class = c.name; of = tree_of types c.of; extends = c.extends; hidden = c.hidden; bodies = c.bodies; wheres = c.wheres; fields = c.fields } ∷ rest

-- the class at a place with so many classes that it inherits
abbrev pub climb : Program → ℕ → ℕ → List Link
climb p zero n = linked p.types (slice_get p.classes n) []
climb p (suc h) n = linked p.types (slice_get p.classes n) (inherited (climb p h) (inherits_in (slice_get p.classes n)))

-- the class at a place, and the classes that it inherits
abbrev pub chain_of : Program → ℕ → List Link
chain_of p n = climb p n n

abbrev pub Before : ℕ → Option ℕ → Type 0
Before n None = Unit {0}
Before n (Some d) = d < n

-- each inherited class stands before its heirs
abbrev pub Inherited : List ClassRow → Type 0
Inherited classes = (n : ℕ) → Before n (inherits_in (slice_get classes n))
