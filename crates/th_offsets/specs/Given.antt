-- What methods give and which classes have their bodies, for each type and class.
use Rattle.std.specs.Prelude.{◌≡◌, ℕ, ◌<◌, List, [], ◌∷◌, ◌++◌, length, nat_eq, Bool, true, false, cond, Option, Some, None, slice_get}
use Rattle.std.specs.HashMap.{get}
use Rattle.th_offsets.specs.declared.heads_of.Heads.{Heads}
use Rattle.th_offsets.specs.declared.heads_of.Bodies.{Bodies}
use Rattle.th_views.specs.declared.ClassRow.{ClassRow}
use Rattle.th_views.specs.declared.Gives.{Gives}
use Rattle.th_views.specs.declared.TypeRow.{TypeRow}
use Rattle.th_views.specs.Chain.{Link, lookup}
use Rattle.th_views.specs.Home.{offers}
use Rattle.th_views.specs.Lookups.{given_in, type_gives, class_gives, class_arrives}
use Rattle.th_views.specs.Rows.{Program, chain_of}

-- methods with the class that has their bodies
abbrev pub bodies_from : ℕ → List ℕ → List Gives
bodies_from n [] = []
bodies_from n (m ∷ ms) = record { method = m; of = n } ∷ bodies_from n ms

-- the bodies of a class and of those that it inherits
abbrev pub body_list : List Link → List Gives
body_list [] = []
body_list (c ∷ rest) = bodies_from c.class c.bodies ++ body_list rest

abbrev pub HeadsAt : Option Heads → List Gives → Type 0
HeadsAt None l = ⊥
HeadsAt (Some h) l = (q : ℕ) → get nat_eq h.of q ≡ given_in l q

abbrev pub GivenTypes : List TypeRow → List Heads → Type 0
GivenTypes rows done = (k : ℕ) → k < length done → HeadsAt (slice_get done k) (type_gives (slice_get rows k))

abbrev pub GivenClasses : List ClassRow → List Heads → Type 0
GivenClasses rows done = (k : ℕ) → k < length done → HeadsAt (slice_get done k) (class_gives (slice_get rows k))

abbrev pub Arriving : List ClassRow → List Heads → Type 0
Arriving rows done = (k : ℕ) → k < length done → HeadsAt (slice_get done k) (class_arrives (slice_get rows k))

abbrev pub BodiesAt : Option Bodies → List Link → Type 0
BodiesAt None chain = ⊥
BodiesAt (Some b) chain = b.list.items ≡ body_list chain

abbrev pub BodyLists : Program → List Bodies → Type 0
BodyLists p done = (k : ℕ) → k < length done → BodiesAt (slice_get done k) (chain_of p k)

abbrev pub BodiedAt : Option Heads → List Link → Type 0
BodiedAt None chain = ⊥
BodiedAt (Some h) chain = (q : ℕ) → get nat_eq h.of q ≡ lookup chain q

-- the classes whose bodies the walks of the first classes find
abbrev pub Bodied : Program → List Heads → Type 0
Bodied p done = (k : ℕ) → k < length done → BodiedAt (slice_get done k) (chain_of p k)

-- whether the type of a class of the chain has the method
abbrev pub types_offer : List Link → ℕ → Bool
types_offer [] m = false
types_offer (c ∷ rest) m = cond (offers c.of m) true (types_offer rest m)
