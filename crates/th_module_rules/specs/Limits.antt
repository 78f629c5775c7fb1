-- The limits on texts: what is counted where, and what is too large.
use Rattle.std.specs.Prelude.{◌≡◌, ℕ, ◌+◌, ◌<◌, ◌≤◌, ◌⊎◌, List, [], ◌∷◌, ◌++◌, length}
use Rattle.th_tree.specs.Trees.{SigSyn, ClauseSyn, MethodSyn, InterfaceItemSyn, exception_item, type_item, class_item, routine_item, ModuleItemSyn, module_class, module_routine, ModuleSyn}
use Rattle.th_type.specs.declared.place.Place.{Place}
use Rattle.th_type.specs.declared.place.What.{What}
use Rattle.th_type.specs.declared.place.What.TheVariants as whats
use Rattle.th_type.specs.Failures.{place}
use Rattle.th_type.specs.Lists.{IsIn}
use Rattle.th_hier.specs.Resolve.{count}
use Rattle.th_meaning.specs.Program.{ProgramUnit, ProgramModule}
use Rattle.th_meaning.specs.Counts.{unit_nodes, unit_locals, unit_depth, module_nodes}
use Rattle.th_module_rules.specs.Own.{head_items}

-- what is counted, how many there are, and where
pub record Counted : Type 0 where
  pub what : What
  pub many : ℕ
  pub place : Place

abbrev pub counted : What → ℕ → Place → Counted
counted w n p = record { what = w; many = n; place = p }

-- how many there may be at most
abbrev pub limit_of : What → ℕ
limit_of whats.Name = 64
limit_of whats.Params = 8
limit_of whats.Formals = 8
limit_of whats.Where = 8
limit_of whats.Nodes = 10000
limit_of whats.Locals = 400
limit_of whats.Module = 40000
limit_of whats.Literal = 1024
limit_of _ = 0

-- too large
abbrev pub IsExcess : Counted → Type 0
IsExcess c = limit_of c.what < c.many

-- the place of a limit among limits, of which the first is named where two are exceeded at one place
abbrev pub rank : What → ℕ
rank whats.Name = 0
rank whats.Params = 1
rank whats.Formals = 2
rank whats.Where = 3
rank whats.Nodes = 4
rank whats.Locals = 5
rank whats.Module = 6
rank whats.Literal = 7
rank _ = 8

-- c stands before d: by text, then byte, then limit; or both stand there
abbrev pub CountedUpTo : Counted → Counted → Type 0
CountedUpTo c d = (c.place.text < d.place.text) ⊎ ((c.place.text ≡ d.place.text) × ((c.place.at < d.place.at) ⊎ ((c.place.at ≡ d.place.at) × (rank c.what ≤ rank d.what))))

-- the first that is too large
abbrev pub IsFirstExcess : List Counted → Counted → Type 0
IsFirstExcess cs c = IsIn c cs × IsExcess c × ((d : Counted) → IsIn d cs → IsExcess d → CountedUpTo c d)

-- nothing is too large
abbrev pub KeepsLimits : List Counted → Type 0
KeepsLimits cs = (c : Counted) → IsIn c cs → c.many ≤ limit_of c.what

-- the formals of a signature, of a clause
abbrev pub sig_counts : ℕ → SigSyn → List Counted
sig_counts text s = counted whats.Formals (length s.formals) (place text s.at) ∷ []

abbrev pub sigs_counts : ℕ → List SigSyn → List Counted
sigs_counts text [] = []
sigs_counts text (s ∷ ss) = sig_counts text s ++ sigs_counts text ss

abbrev pub clauses_counts : ℕ → List ClauseSyn → List Counted
clauses_counts text [] = []
clauses_counts text (c ∷ cs) = counted whats.Formals (count c.formals) (place text c.param.at) ∷ clauses_counts text cs

-- the counts of an item: its type parameters, the formals of each signature, its where-methods
abbrev pub item_counts : ℕ → InterfaceItemSyn → List Counted
item_counts text (exception_item e) = []
item_counts text (type_item t) = counted whats.Params (length t.params) (place text t.at) ∷ sigs_counts text t.methods
item_counts text (class_item c) =
    counted whats.Params (length c.head.params) (place text c.head.at) ∷ counted whats.Where (length c.head.clauses) (place text c.head.at)
    ∷ clauses_counts text c.head.clauses ++ sigs_counts text c.hidden ++ counted whats.Formals (length c.init.formals) (place text c.init.at) ∷ []
item_counts text (routine_item r) =
    counted whats.Params (length r.params) (place text r.at) ∷ counted whats.Where (length r.clauses) (place text r.at) ∷ counted whats.Formals (length r.formals) (place text r.at)
    ∷ clauses_counts text r.clauses

abbrev pub items_counts : ℕ → List InterfaceItemSyn → List Counted
items_counts text [] = []
items_counts text (i ∷ is) = item_counts text i ++ items_counts text is

-- where the units of a module begin: of a class its initializer and its methods, from the word `hidden` on
abbrev pub method_places : ℕ → List MethodSyn → List Place
method_places text [] = []
method_places text (m ∷ ms) = place text m.at ∷ method_places text ms

abbrev pub unit_places : ℕ → List ModuleItemSyn → List Place
unit_places text [] = []
unit_places text (module_class c ∷ is) = place text c.init.head.at ∷ method_places text c.methods ++ unit_places text is
unit_places text (module_routine r ∷ is) = place text r.head.at ∷ unit_places text is

-- the counts of checked units, which begin at these places
abbrev pub units_counts : List Place → List ProgramUnit → List Counted
units_counts [] us = []
units_counts (p ∷ ps) [] = []
units_counts (p ∷ ps) (u ∷ us) = counted whats.Nodes (unit_nodes u) p ∷ counted whats.Locals (unit_locals u + unit_depth u) p ∷ units_counts ps us

-- the counts of a module that was checked
abbrev pub module_counts : ℕ → ModuleSyn → ProgramModule → List Counted
module_counts text m p =
    items_counts text (head_items m) ++ units_counts (unit_places text m.items) p.units ++ counted whats.Module (module_nodes p) (place text m.at) ∷ []

-- a name, or the value of a string literal, by the number of its bytes, at a byte of a text
abbrev pub name_count : ℕ → ℕ × ℕ → Counted
name_count text t = counted whats.Name t.1 (place text t.0)

abbrev pub literal_count : ℕ → ℕ × ℕ → Counted
literal_count text t = counted whats.Literal t.1 (place text t.0)
