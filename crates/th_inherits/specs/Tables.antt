-- What is known of each class: the list of the heights at which what it reaches has its parameters.
use Rattle.std.specs.Prelude.{◌≡◌, ℕ, suc, ◌≤◌, ◌<◌, Bool, false, length, nat_eq, nat_lt, ◌||◌, List, [], ◌∷◌, map, option_map, Option, Some, None, slice_get, slice_set, unwrap_or, if◌then◌else◌}
use Rattle.std.specs.Global.{Vec}
use Rattle.std.specs.Bool.{MatchBool}
use Rattle.std.specs.Map.{lookup}
use Rattle.th_type.specs.declared.place.Place.{Place}
use Rattle.th_type.specs.Declarations.{Meant, unresolved, parameter, by_head, whole}
use Rattle.th_type.specs.Types.{TypeExpr, TypeExprs}
use Rattle.th_module_rules.specs.Inheriting.{ClassRow, row_at, Inherits, ReachesIn}
use Rattle.th_inherits.specs.Heights.{height_at, stepped}
use Rattle.th_inherits.specs.Occurrences.{Occurs}

-- the place of the first class of that full name
abbrev pub place_of : List ClassRow → ℕ → Option ℕ
place_of [] n = None
place_of (r ∷ rs) n = if nat_eq r.full n then Some 0 else option_map suc (place_of rs n)

-- the class at a place
abbrev pub row_in : List ClassRow → Option ℕ → Option ClassRow
row_in rows None = None
row_in rows (Some k) = slice_get rows k

-- the list that a table has at a place
abbrev pub list_at : List (List ℕ) → Option ℕ → List ℕ
list_at hss None = []
list_at hss (Some k) = unwrap_or (slice_get hss k) []

-- the lists of the code's table
abbrev pub lists_of : List (Vec ℕ) → List (List ℕ)
lists_of table = map (λ v. v.items) table

-- the list that a table has for the class of that full name
abbrev pub heights_of : List ClassRow → List (List ℕ) → ℕ → List ℕ
heights_of rows hss n = list_at hss (place_of rows n)

-- for each number the places are that of the first class of that full name
abbrev pub ArePlaces : List ClassRow → List (ℕ × ℕ) → Type 0
ArePlaces rows places = (n : ℕ) → lookup (nat_eq n) places ≡ place_of rows n

-- in what the class n reaches, what has the place l stands at least at the height h
abbrev pub Reached : List ClassRow → ℕ → ℕ → ℕ → Type 0
Reached rows n l h = (k : ℕ) × (t : TypeExpr) × (d : ℕ) × ReachesIn k rows n t × Occurs t l d × (h ≤ suc d)

-- each height is reached
abbrev pub AllReached : List ClassRow → (ℕ → List ℕ) → Type 0
AllReached rows H = (n l : ℕ) → 0 < height_at (H n) l → Reached rows n l (height_at (H n) l)

-- the class n has no lower height than what it inherits leaves
abbrev pub IsSettled : List ClassRow → (ℕ → List ℕ) → ℕ → Type 0
IsSettled rows H n = (r : ClassRow) (m : ℕ) (args : TypeExprs) → row_at rows n ≡ Some r → Inherits r.inherits m args → (l : ℕ) → height_at (stepped (H m) args (H n)) l ≤ height_at (H n) l

-- the class that is inherited with its arguments, where these resolve
abbrev pub whole_meant : Meant → Option (ℕ × TypeExprs)
whole_meant unresolved = None
whole_meant parameter = None
whole_meant (by_head n) = None
whole_meant (whole n args) = Some (n, args)

abbrev pub whole_in : Option (Meant × Place) → Option (ℕ × TypeExprs)
whole_in None = None
whole_in (Some i) = whole_meant i.0

-- the class n at the place k took over what it inherits from the class m, where it is the first of its full name
abbrev pub TookFrom : List ClassRow → ℕ → ℕ → ℕ → TypeExprs → List (List ℕ) → List (List ℕ) → Bool → Type 0
TookFrom rows k n m args old new grew =
    let list = stepped (heights_of rows old m) args (list_at old (Some k)) in
    MatchBool grew ((place_of rows n ≡ Some k) × (new ≡ slice_set old k list)) ((new ≡ old) × (place_of rows n ≡ Some k → list ≡ list_at old (Some k)))

-- the classes of the first k places are settled
abbrev pub AreSettled : List ClassRow → List (List ℕ) → ℕ → Type 0
AreSettled rows hss k = (n j : ℕ) → j < k → place_of rows n ≡ Some j → IsSettled rows (heights_of rows hss) n

-- classes took over what they inherit: no list of another length, each height is reached where those before were, and where
-- nothing grew the classes of the first k places are settled
pub record Passed (rows : List ClassRow) (k : ℕ) (old new : List (List ℕ)) (grew : Bool) : Type 0 where
  pub long : length new ≡ length old
  pub reached : AllReached rows (heights_of rows old) → AllReached rows (heights_of rows new)
  pub settled : grew ≡ false → (new ≡ old) × AreSettled rows old k

-- classes took over what they inherit: no list of another length, and each height is reached where those before were
pub record Kept (rows : List ClassRow) (old new : List (List ℕ)) : Type 0 where
  pub long : length new ≡ length old
  pub reached : AllReached rows (heights_of rows old) → AllReached rows (heights_of rows new)

-- the same of the class at the place k
pub record Took (rows : List ClassRow) (k : ℕ) (old new : List (List ℕ)) (grew : Bool) : Type 0 where
  pub long : length new ≡ length old
  pub reached : AllReached rows (heights_of rows old) → AllReached rows (heights_of rows new)
  pub settled : grew ≡ false → (new ≡ old) × ((n : ℕ) → place_of rows n ≡ Some k → IsSettled rows (heights_of rows old) n)

-- the lists have all that classes reach
pub record Settled (rows : List ClassRow) (hss : List (List ℕ)) : Type 0 where
  pub reached : AllReached rows (heights_of rows hss)
  pub settled : (n : ℕ) → IsSettled rows (heights_of rows hss) n

-- whether a height is above 600
abbrev pub is_high : List ℕ → Bool
is_high [] = false
is_high (h ∷ hs) = nat_lt 600 h || is_high hs
