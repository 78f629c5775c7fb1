-- Where in the list of items the first of each name stands.
use Rattle.std.specs.Prelude.{◌≡◌, ℕ, suc, Bool, false, ◌&&◌, nat_eq, List, [], ◌∷◌, Option, Some, None, slice_get, if◌then◌else◌}
use Rattle.std.specs.Map.{lookup}
use Rattle.th_rules.specs.Context.{Item, Head, exception_head, type_head, class_head, routine_head, ClassInfo, same_origin}
use Rattle.th_scope.specs.declared.items.Reference.{Reference}

-- whether two names are written alike
abbrev pub same_reference : Reference → Reference → Bool
same_reference a b = same_origin a.from b.from && nat_eq a.name b.name

-- whether the item has that name
abbrev pub is_named : Reference → Item → Bool
is_named r i = same_reference r (record { from = i.from; name = i.name })

-- the class that an item is, where it is one
abbrev pub head_class : Head → Option ClassInfo
head_class (exception_head t) = None
head_class (type_head k) = None
head_class (class_head c) = Some c
head_class (routine_head r) = None

-- whether there is a class
abbrev pub is_class : Option ClassInfo → Bool → Bool
is_class None b = false
is_class (Some c) b = b

-- whether the item is a class of that full name
abbrev pub is_class_named : ℕ → Item → Bool
is_class_named n i = is_class (head_class i.head) (nat_eq n i.full)

-- the place of the first item that passes the test, where the list begins at place k
abbrev pub place_from : (Item → Bool) → (k : ℕ) → List Item → Option ℕ
place_from test k [] = None
place_from test k (i ∷ is) = if test i then Some k else place_from test (suc k) is

-- the item at a place, where there is a place
abbrev pub item_at : List Item → Option ℕ → Option Item
item_at is None = None
item_at is (Some k) = slice_get is k

-- the class that the item is, where there is an item and it is one
abbrev pub class_in : Option Item → Option ClassInfo
class_in None = None
class_in (Some i) = head_class i.head

-- each name has the place of the first item of that name
abbrev pub Named : List Item → List (Reference × ℕ) → Type 0
Named is places = (r : Reference) → lookup (same_reference r) places ≡ place_from (is_named r) 0 is

-- each full name has the place of the first class of that full name
abbrev pub Classed : List Item → List (ℕ × ℕ) → Type 0
Classed is places = (n : ℕ) → lookup (nat_eq n) places ≡ place_from (is_class_named n) 0 is
