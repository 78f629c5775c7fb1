-- The rule on what classes are for and what they inherit.
use Rattle.std.specs.Prelude.{◌≡◌, ℕ, zero, suc, ◌+◌, ◌<◌, Bool, true, false, nat_eq, not, ◌⊎◌, List, [], ◌∷◌, ◌++◌, length, Option, Some, None, if◌then◌else◌}
use Rattle.th_tree.specs.Trees.{NamedSyn, ClassHeadSyn, InterfaceItemSyn, exception_item, type_item, class_item, routine_item, InterfaceSyn, ModuleSyn}
use Rattle.th_type.specs.declared.place.Place.{Place}
use Rattle.th_type.specs.declared.place.Failure.{Failure}
use Rattle.th_type.specs.Failures.{place, failure, unless}
use Rattle.th_type.specs.Lists.{IsIn, is_in}
use Rattle.th_type.specs.Types.{TypeExpr, TypeExprs, named_ty, list_of, subst_ty, ty_height}
use Rattle.th_type.specs.Declarations.{Meant, unresolved, parameter, by_head, whole}
use Rattle.th_hier.specs.declared.item.Sort.{Sort}
use Rattle.th_hier.specs.declared.item.Sort.TheVariants.{Exception, Declared, Class, Routine, Iterator}
use Rattle.th_hier.specs.declared.item.Entry.{Entry}
use Rattle.th_hier.specs.declared.item.Referent.{Referent}
use Rattle.th_hier.specs.declared.item.Referent.TheVariants as referents
use Rattle.th_hier.specs.Naming.{Items, Visible, has, item_in, meaning}
use Rattle.th_hier.specs.Resolve.{count, resolved_types}
use Rattle.th_hier.specs.Texts.{visible, whole_meant, within}
use Rattle.th_module_rules.specs.Own.{all_items, head_items, module_visible}

-- a class: the number of its full name, where its name stands, where what it is for stands and whether this is a type
-- parameter, and the class that it inherits with where this stands, if it inherits one
pub record ClassRow : Type 0 where
  pub full : ℕ
  pub place : Place
  pub of_place : Place
  pub for_param : Bool
  pub inherits : Option (Meant × Place)

-- what an item with n arguments is after `inherits`
abbrev pub class_sort_meant : Sort → ℕ → ℕ → Option TypeExprs → Meant
class_sort_meant Exception full n ts = unresolved
class_sort_meant (Declared k) full n ts = unresolved
class_sort_meant (Class k) full n ts = whole_meant full (nat_eq n k) ts
class_sort_meant (Routine k) full n ts = unresolved
class_sort_meant (Iterator k) full n ts = unresolved

-- what is referred to after `inherits`, with n arguments
abbrev pub class_meant : Referent → ℕ → Option TypeExprs → Meant
class_meant referents.Nothing n ts = unresolved
class_meant (referents.Param k) n ts = unresolved
class_meant (referents.Item e) n ts = class_sort_meant e.sort e.full n ts

-- whether a type parameter is referred to
abbrev pub is_param : Referent → Bool
is_param referents.Nothing = false
is_param (referents.Param k) = true
is_param (referents.Item e) = false

-- the inherited class, where it stands
abbrev pub inherited : Items → Visible → ℕ → Option NamedSyn → Option (Meant × Place)
inherited items v text None = None
inherited items v text (Some n) = Some (class_meant (meaning items v n.item) (count n.args) (resolved_types items v n.args), place text n.item.first.at)

-- a class of a text by its head, where `v` can be seen within it
abbrev pub class_row : Items → Visible → ℕ → ℕ → ClassHeadSyn → ClassRow
class_row items v text full h = record {
  full = full;
  place = place text h.name.at;
  of_place = place text h.of.item.first.at;
  for_param = is_param (meaning items v h.of.item);
  inherits = inherited items v text h.inherits;
}

-- the class that an item is, where the text has it under its name
abbrev pub row_with : Items → Visible → ℕ → Option Entry → ClassHeadSyn → List ClassRow
row_with items v text None h = []
row_with items v text (Some e) h = class_row items (within v h.params) text e.full h ∷ []

abbrev pub item_rows : Items → Visible → ℕ → InterfaceItemSyn → List ClassRow
item_rows items v text (exception_item e) = []
item_rows items v text (type_item t) = []
item_rows items v text (class_item c) = row_with items v text (item_in items v.text c.head.name.name) c.head
item_rows items v text (routine_item r) = []

-- the classes among items
abbrev pub items_rows : Items → Visible → ℕ → List InterfaceItemSyn → List ClassRow
items_rows items v text [] = []
items_rows items v text (i ∷ is) = item_rows items v text i ++ items_rows items v text is

-- the classes of interfaces, of which the first is the text of this number
abbrev pub interfaces_rows : Items → ℕ → List InterfaceSyn → List ClassRow
interfaces_rows items text [] = []
interfaces_rows items text (f ∷ fs) = items_rows items (visible f) text f.items ++ interfaces_rows items (text + 1) fs

-- the classes of a module
abbrev pub module_rows : List (List ℕ) → Items → ℕ → ModuleSyn → List ClassRow
module_rows table items text m = items_rows (all_items table items m) (module_visible table m) text (head_items m)

-- the first class of that full name
abbrev pub row_at : List ClassRow → ℕ → Option ClassRow
row_at [] n = None
row_at (r ∷ rs) n = if nat_eq r.full n then Some r else row_at rs n

-- the number of a class that is meant
abbrev pub meant_number : Meant → Option ℕ
meant_number unresolved = None
meant_number parameter = None
meant_number (by_head n) = Some n
meant_number (whole n ts) = Some n

abbrev pub inherits_number : Option (Meant × Place) → Option ℕ
inherits_number None = None
inherits_number (Some i) = meant_number i.0

-- the class that a class inherits, by number
abbrev pub next_class : Option ClassRow → Option ℕ
next_class None = None
next_class (Some r) = inherits_number r.inherits

abbrev pub cons_opt : Option ℕ → (ℕ → List ℕ) → List ℕ
cons_opt None f = []
cons_opt (Some n) f = n ∷ f n

-- the classes that are reached from a class in at most k steps, by number
abbrev pub classes_up : ℕ → List ClassRow → ℕ → List ℕ
classes_up zero rows n = []
classes_up (suc k) rows n = cons_opt (next_class (row_at rows n)) (classes_up k rows)

-- whether a class reaches itself
abbrev pub reaches_itself : List ClassRow → ℕ → Bool
reaches_itself rows n = is_in n (classes_up (length rows) rows n)

-- the inherited class with its arguments, where these resolve
abbrev pub Inherits : Option (Meant × Place) → ℕ → TypeExprs → Type 0
Inherits i n args = (p : Place) × (i ≡ Some (whole n args, p))

-- a class with arguments is reached from another in k steps
abbrev pub ReachesIn : ℕ → List ClassRow → ℕ → TypeExpr → Type 0
ReachesIn zero rows n t = ⊥
ReachesIn (suc k) rows n t =
    (r : ClassRow) × (m : ℕ) × (args : TypeExprs) × (row_at rows n ≡ Some r) × Inherits r.inherits m args
    × ((t ≡ named_ty m args) ⊎ ((u : TypeExpr) × ReachesIn k rows m u × (t ≡ subst_ty (list_of args) u)))

-- a class is reached with arguments that make it higher than 600
abbrev pub ReachesHigh : List ClassRow → ℕ → Type 0
ReachesHigh rows n = (k : ℕ) × (t : TypeExpr) × ReachesIn k rows n t × (600 < ty_height t)

-- whether a class that is inherited is an interface's, where it resolves
abbrev pub is_exported : List ℕ → Option ℕ → Bool
is_exported fulls None = true
is_exported fulls (Some n) = has fulls n

-- the failure of an exported class that inherits one that is not an interface's
abbrev pub exported_fails : List ℕ → Bool → Option (Meant × Place) → List Failure
exported_fails fulls true None = []
exported_fails fulls true (Some i) = unless (is_exported fulls (meant_number i.0)) 10 i.1
exported_fails fulls false i = []

-- the failures that are found of a class alone or by numbers: it is for no type parameter, it does not reach itself, and an
-- exported class inherits an exported one; `fulls` are the numbers of the items of interfaces
abbrev pub row_fails : List ℕ → List ClassRow → ClassRow → List Failure
row_fails fulls rows r =
    unless (not r.for_param) 10 r.of_place ++ unless (not (reaches_itself rows r.full)) 10 r.place ++ exported_fails fulls (has fulls r.full) r.inherits

abbrev pub rows_fail : List ℕ → List ClassRow → List ClassRow → List Failure
rows_fail fulls rows [] = []
rows_fail fulls rows (r ∷ rs) = row_fails fulls rows r ++ rows_fail fulls rows rs

-- f is a failure of the rule on what the classes `own` are for and what they inherit, of all classes that there are
abbrev pub InheritingFails : List ℕ → List ClassRow → List ClassRow → Failure → Type 0
InheritingFails fulls rows own f =
    IsIn f (rows_fail fulls rows own)
    ⊎ ((r : ClassRow) × (m : Meant) × (p : Place) × IsIn r own × (r.inherits ≡ Some (m, p)) × ReachesHigh rows r.full × (f ≡ failure 10 p))
