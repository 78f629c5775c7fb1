-- Names that differ within their list.
use Rattle.std.specs.Prelude.{ℕ, ◌+◌, not, List, [], ◌∷◌, ◌++◌, map}
use Rattle.th_tree.specs.declared.tree.Ident.{Ident}
use Rattle.th_tree.specs.Trees.{FormalSyn, SigSyn, InterfaceItemSyn, exception_item, type_item, class_item, routine_item, InterfaceSyn}
use Rattle.th_type.specs.declared.place.Failure.{Failure}
use Rattle.th_type.specs.Failures.{place, unless}
use Rattle.th_hier.specs.declared.spot.Spot.{Spot}
use Rattle.th_hier.specs.Naming.{has, with_number}

-- the failures of a rule at the names that stand before, in `seen` or in the list
abbrev pub repeats : ℕ → List ℕ → List Spot → List Failure
repeats rule seen [] = []
repeats rule seen (s ∷ ss) = unless (not (has seen s.name)) rule s.place ++ repeats rule (with_number seen s.name) ss

-- a name where it stands in a text
abbrev pub spot_at : ℕ → Ident → Spot
spot_at text i = record { name = i.name; place = place text i.at }

-- names where they stand in a text
abbrev pub spots : ℕ → List Ident → List Spot
spots text is = map (spot_at text) is

-- the names of formals
abbrev pub formal_spots : ℕ → List FormalSyn → List Spot
formal_spots text fs = map (λ f. spot_at text f.name) fs

-- the names of methods
abbrev pub sig_spots : ℕ → List SigSyn → List Spot
sig_spots text ss = map (λ s. spot_at text s.name) ss

-- the name of an item of an interface
abbrev pub item_name : InterfaceItemSyn → Ident
item_name (exception_item e) = e.name
item_name (type_item t) = t.name
item_name (class_item c) = c.head.name
item_name (routine_item r) = r.name

-- the names of items
abbrev pub item_spots : ℕ → List InterfaceItemSyn → List Spot
item_spots text items = map (λ i. spot_at text (item_name i)) items

-- the names of interfaces, of which the first is the text of this number
abbrev pub interface_spots : ℕ → List InterfaceSyn → List Spot
interface_spots text [] = []
interface_spots text (f ∷ fs) = spot_at text f.name ∷ interface_spots (text + 1) fs
