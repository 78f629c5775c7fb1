-- What a layout keeps of its program: of its types, of its classes, and the places of their numbers.
use Rattle.std.specs.Prelude.{◌≡◌, ℕ, ◌<◌, ◌≤◌, length, nat_eq, List, Option, Some, None, slice_get}
use Rattle.std.specs.HashMap.{get}
use Rattle.th_offsets.specs.declared.maps.Casts.{Casts}
use Rattle.th_layout.specs.declared.sides.TypeSide.{TypeSide}
use Rattle.th_layout.specs.declared.sides.ClassSide.{ClassSide}
use Rattle.th_layout.specs.declared.sides.Places.{Places}
use Rattle.th_layout.specs.declared.sides.Sums.{Sums}
use Rattle.th_offsets.specs.Known.{Done, Summed, Spotted, Tallied, Homed, Formed, HiddenAts, Viewed, Few, FewWords, FewFields, Shallow, Placed, Typed, HiddenNames, Owned, WordsViewed}
use Rattle.th_offsets.specs.Given.{GivenTypes, GivenClasses, Arriving, Bodied}
use Rattle.th_views.specs.Objects.{raised}
use Rattle.th_views.specs.declared.TypeRow.{TypeRow}
use Rattle.th_views.specs.Tree.{Tree}
use Rattle.th_views.specs.Listed.{spots, first_of}
use Rattle.th_views.specs.Lookups.{index_of, type_numbers, class_numbers}
use Rattle.th_views.specs.Rows.{Program, tree_of, chain_of}
use Rattle.th_views.specs.Sums.{sum, sum_words, class_slots}

abbrev pub CastedAt : Option Casts → Tree → Type 0
CastedAt None x = ⊥
CastedAt (Some c) x = (q : ℕ) → get nat_eq c.words q ≡ first_of q (spots x)

-- the words of the first views of the first types
abbrev pub Casted : List TypeRow → List Casts → Type 0
Casted rows done = (k : ℕ) → k < length done → CastedAt (slice_get done k) (tree_of rows k)

-- each number's first place
pub record IsPlaces (p : Program) (a : Places) : Type 0 where
  pub types : (q : ℕ) → get nat_eq a.types q ≡ index_of q (type_numbers p.types)
  pub classes : (q : ℕ) → get nat_eq a.classes q ≡ index_of q (class_numbers p.classes)

-- the sums of header words, none above the greatest limit
pub record IsSums (p : Program) (a : Sums) : Type 0 where
  pub types : (length a.types.items ≡ length p.types) × Summed p.types a.types.items
  pub few : (k : ℕ) → k < length p.types → sum (tree_of p.types k) ≤ 64
  pub classes : (length a.classes.items ≡ length p.classes) × Tallied p a.classes.items
  pub few_classes : (k : ℕ) → k < length p.classes → sum_words (chain_of p k) ≤ 64

pub record IsTypeSide (rows : List TypeRow) (a : TypeSide) : Type 0 where
  pub facts : (length a.facts.items ≡ length rows) × Done rows a.facts.items
  pub spots : (length a.spots.items ≡ length rows) × Spotted rows a.spots.items
  pub casts : (length a.casts.items ≡ length rows) × Casted rows a.casts.items
  pub offsets : (length a.offsets.items ≡ length rows) × Homed rows a.offsets.items
  pub few : Few rows
  pub shallow : Shallow rows
  pub depths : (length a.depths.items ≡ length rows) × Placed rows a.depths.items
  pub gives : (length a.gives.items ≡ length rows) × GivenTypes rows a.gives.items

pub record IsClassSide (p : Program) (a : ClassSide) : Type 0 where
  pub objects : (length a.objects.items ≡ length p.classes) × Formed p a.objects.items
  pub hidden : (length a.hidden.items ≡ length p.classes) × HiddenAts p a.hidden.items
  pub seen : (length a.seen.items ≡ length p.classes) × Viewed p a.seen.items
  pub few_words : FewWords p
  pub few_fields : FewFields p
  pub few_slots : (c : ℕ) → class_slots (chain_of p c) ≤ 250
  pub typed : Typed p
  pub names : (length a.names.items ≡ length p.classes) × HiddenNames p a.names.items
  pub raised : a.raised ≡ raised p.types
  pub owned : (length a.owned.items ≡ length p.classes) × Owned p a.owned.items
  pub views : (length a.views.items ≡ length p.classes) × WordsViewed p a.views.items
  pub gives : (length a.gives.items ≡ length p.classes) × GivenClasses p.classes a.gives.items
  pub arrives : (length a.arrives.items ≡ length p.classes) × Arriving p.classes a.arrives.items
  pub bodies : (length a.bodies.items ≡ length p.classes) × Bodied p a.bodies.items
