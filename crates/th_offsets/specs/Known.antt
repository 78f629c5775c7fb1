-- What is known of each type, one after another: its headers, its views and its sum of header words.
use Rattle.std.specs.Prelude.{get_or, min, ◌≡◌, ℕ, ◌+◌, ◌<◌, ◌≤◌, List, [], ◌∷◌, length, nat_eq, cond, Option, Some, None, slice_get, option_map}
use Rattle.std.specs.HashMap.{get}
use Rattle.th_offsets.specs.declared.maps.Casts.{Casts}
use Rattle.th_offsets.specs.declared.maps.Offsets.{Offsets}
use Rattle.th_offsets.specs.declared.objects.Object.{Object}
use Rattle.th_views.specs.Lookups.{offset, method_place, hidden_place, IsView}
use Rattle.th_views.specs.Objects.{object_spots}
use Rattle.th_views.specs.declared.TypeRow.{TypeRow}
use Rattle.th_offsets.specs.declared.heads.Facts.{Facts}
use Rattle.th_offsets.specs.declared.views.Spots.{Spots}
use Rattle.th_views.specs.Listed.{spots, first_of}
use Rattle.th_views.specs.Tree.{Tree, is_up, topped, span, depth}
use Rattle.th_views.specs.Rows.{Program, tree_of, chain_of}
use Rattle.th_views.specs.Chain.{Link, start, words, hidden, filled, filled_above, wheres_in, fields_in}
use Rattle.th_views.specs.declared.Spot.{Spot}
use Rattle.th_views.specs.declared.ClassRow.{ClassRow}
use Rattle.th_offsets.specs.declared.counts.Tally.{Tally}
use Rattle.th_offsets.specs.Counts.{IsTally}
use Rattle.th_offsets.specs.Maps.{offset_in}
use Rattle.th_offsets.specs.declared.seen_words.WordTypes.{WordTypes}
use Rattle.th_views.specs.Sums.{sum, plain_depth, greatest}

pub record IsFacts (f : Facts) (x : Tree) : Type 0 where
  pub span : f.span ≡ span x
  pub topped : f.topped ≡ topped x
  pub upward : f.upward ≡ is_up x

abbrev pub FactsAt : Option Facts → Tree → Type 0
FactsAt None x = ⊥
FactsAt (Some f) x = IsFacts f x

-- the facts of the first types
abbrev pub Done : List TypeRow → List Facts → Type 0
Done rows done = (k : ℕ) → k < length done → FactsAt (slice_get done k) (tree_of rows k)

abbrev pub SpotsAt : Option Spots → Tree → Type 0
SpotsAt None x = ⊥
SpotsAt (Some f) x = f.list.items ≡ spots x

-- the views of the first types
abbrev pub Spotted : List TypeRow → List Spots → Type 0
Spotted rows done = (k : ℕ) → k < length done → SpotsAt (slice_get done k) (tree_of rows k)

-- the sums of the first types, each no more than one above the greatest limit
abbrev pub Summed : List TypeRow → List ℕ → Type 0
Summed rows done = (k : ℕ) → k < length done → get_or done k 0 ≡ min 65 (sum (tree_of rows k))

-- the slots downward of the first types at their own views, each no more than one above the limit
abbrev pub Deep : List TypeRow → List ℕ → Type 0
Deep rows done = (k : ℕ) → k < length done → get_or done k 0 ≡ min 251 (plain_depth (tree_of rows k))

-- the most slots downward of the first types and those above them, each no more than one above the limit
abbrev pub Reaching : List TypeRow → List ℕ → Type 0
Reaching rows done = (k : ℕ) → k < length done → get_or done k 0 ≡ min 251 (greatest (tree_of rows k))

abbrev pub TallyAt : Option Tally → List Link → Type 0
TallyAt None chain = ⊥
TallyAt (Some t) chain = IsTally t chain

-- the counts of the first classes
abbrev pub Tallied : Program → List Tally → Type 0
Tallied p done = (k : ℕ) → k < length done → TallyAt (slice_get done k) (chain_of p k)

-- each count is no more than one above its greatest limit
pub record IsSmall (t : Tally) : Type 0 where
  pub sum_start : t.sum_start ≤ 65
  pub sum : t.sum ≤ 65
  pub hidden : t.hidden ≤ 251
  pub filled : t.filled ≤ 401

abbrev pub TypedAt : ℕ → Option ClassRow → Type 0
TypedAt n None = Unit {0}
TypedAt n (Some c) = c.of < n

-- each class is for a type of the program
abbrev pub Typed : Program → Type 0
Typed p = (k : ℕ) → TypedAt (length p.types) (slice_get p.classes k)

-- no type has more header words than the greatest limit
abbrev pub Few : List TypeRow → Type 0
Few rows = (k : ℕ) → span (tree_of rows k) ≤ 64

-- no type has more slots downward at its own view than the limit
abbrev pub Shallow : List TypeRow → Type 0
Shallow rows = (k : ℕ) → plain_depth (tree_of rows k) ≤ 250

-- the slots downward of the first types
abbrev pub Placed : List TypeRow → List ℕ → Type 0
Placed rows done = (k : ℕ) → k < length done → get_or done k 0 ≡ depth (tree_of rows k)

-- each type of the list stands below a place
abbrev pub Within : ℕ → List Spot → Type 0
Within n [] = Unit {0}
Within n (s ∷ ss) = (s.name < n) × Within n ss

abbrev pub CastAt : Option Casts → Option Spots → Type 0
CastAt None o = ⊥
CastAt (Some c) None = ⊥
CastAt (Some c) (Some s) = (q : ℕ) → get nat_eq c.words q ≡ first_of q s.list.items

-- the words of the first views of the first types
abbrev pub Cast : List Spots → List Casts → Type 0
Cast spots done = (k : ℕ) → k < length done → CastAt (slice_get done k) (slice_get spots k)

abbrev pub HomedAt : Option Offsets → Tree → Type 0
HomedAt None x = ⊥
HomedAt (Some o) x = (q : ℕ) → get nat_eq o.bytes q ≡ option_map offset (method_place x q)

-- the offsets of the methods of the first types
abbrev pub Homed : List TypeRow → List Offsets → Type 0
Homed rows done = (k : ℕ) → k < length done → HomedAt (slice_get done k) (tree_of rows k)

-- no class has more header words, where-words and fields than the greatest limits
abbrev pub FewWords : Program → Type 0
FewWords p = (c : ℕ) → words (chain_of p c) ≤ 64

abbrev pub FewFields : Program → Type 0
FewFields p = (c : ℕ) → filled (chain_of p c) ≤ 400

-- the words of a class's objects, from those of the class that it inherits
abbrev pub object_on : ClassRow → Object → ℕ → Object
object_on c up n = record { start = cond c.extends up.start up.words; words = cond c.extends up.start up.words + n; wheres = up.wheres + c.wheres; fields = up.fields + c.fields; below = up.wheres + up.fields }

pub record IsObject (o : Object) (chain : List Link) : Type 0 where
  pub start : o.start ≡ start chain
  pub words : o.words ≡ words chain
  pub wheres : o.wheres ≡ wheres_in chain
  pub fields : o.fields ≡ fields_in chain
  pub below : o.below ≡ filled_above chain
  pub filled : o.wheres + o.fields ≡ filled chain

abbrev pub ObjectAt : Option Object → List Link → Type 0
ObjectAt None chain = ⊥
ObjectAt (Some o) chain = IsObject o chain

-- the words of the objects of the first classes
abbrev pub Formed : Program → List Object → Type 0
Formed p done = (k : ℕ) → k < length done → ObjectAt (slice_get done k) (chain_of p k)

-- the hidden methods of the first classes
abbrev pub HiddenNames : Program → List (List ℕ) → Type 0
HiddenNames p done = (k : ℕ) → k < length done → slice_get done k ≡ Some (hidden (chain_of p k))

abbrev pub ViewedAt : Option Spots → List Link → Type 0
ViewedAt None chain = ⊥
ViewedAt (Some s) chain = s.list.items ≡ object_spots chain

-- the types that the objects of the first classes see
abbrev pub Viewed : Program → List Spots → Type 0
Viewed p done = (k : ℕ) → k < length done → ViewedAt (slice_get done k) (chain_of p k)

abbrev pub HiddenAtsOf : Option Offsets → Program → ℕ → Type 0
HiddenAtsOf None p c = ⊥
HiddenAtsOf (Some o) p c = (q : ℕ) → get nat_eq o.bytes q ≡ option_map offset (hidden_place p c q)

-- the offsets of the hidden methods of the first classes
abbrev pub HiddenAts : Program → List Offsets → Type 0
HiddenAts p done = (k : ℕ) → k < length done → HiddenAtsOf (slice_get done k) p k

abbrev pub OwnedAt : Option Offsets → Program → ℕ → Type 0
OwnedAt None p c = ⊥
OwnedAt (Some o) p c = (q : ℕ) → get nat_eq o.bytes q ≡ offset_in p.types (object_spots (chain_of p c)) q

-- the own methods of the types that the objects of the first classes see
abbrev pub Owned : Program → List Offsets → Type 0
Owned p done = (k : ℕ) → k < length done → OwnedAt (slice_get done k) p k

abbrev pub number_in : Option TypeRow → ℕ
number_in None = 0
number_in (Some r) = r.name

-- the number of the type at a place of the list
abbrev pub number_at : List TypeRow → ℕ → ℕ
number_at types t = number_in (slice_get types t)

-- the numbers of the types seen at a word, in the order in which they are seen
abbrev pub numbers_at : List TypeRow → List Spot → ℕ → List ℕ
numbers_at types [] w = []
numbers_at types (s ∷ ss) w = cond (nat_eq s.word w) (number_at types s.name ∷ numbers_at types ss w) (numbers_at types ss w)

abbrev pub ViewGot : List TypeRow → List Spot → ℕ → Option (List ℕ) → Type 0
ViewGot types seen w None = ⊥
ViewGot types seen w (Some v) = IsView types seen w v

-- the types seen at the first words
abbrev pub EachView : List TypeRow → List Spot → List (List ℕ) → Type 0
EachView types seen views = (w : ℕ) → w < length views → ViewGot types seen w (slice_get views w)

abbrev pub WordTypesAt : Option WordTypes → Program → ℕ → Type 0
WordTypesAt None p c = ⊥
WordTypesAt (Some v) p c = (length v.at.items ≡ words (chain_of p c)) × EachView p.types (object_spots (chain_of p c)) v.at.items

-- the types seen at each header word of the objects of the first classes
abbrev pub WordsViewed : Program → List WordTypes → Type 0
WordsViewed p done = (k : ℕ) → k < length done → WordTypesAt (slice_get done k) p k
