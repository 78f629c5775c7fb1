-- The checked modules of a program's texts.
use Rattle.std.specs.Prelude.{◌≡◌, ◌↔◌, ℕ, zero, suc, Bool, true, nat_eq, ◌⊎◌, List, [], ◌∷◌, ◌++◌, map, filter, slice_get, unwrap_or, Option, Some, None, if◌then◌else◌}
use Rattle.th_tree.specs.Spans.{Tokenized}
use Rattle.th_tree.specs.Trees.{ClassHeadSyn, ClassSyn, ModuleItemSyn, module_class, module_routine, InterfaceItemSyn, exception_item, type_item, class_item, routine_item, InterfaceSyn, ModuleSyn}
use Rattle.th_lex.specs.Canonical.{canonical}
use Rattle.th_type.specs.declared.place.Place.{Place}
use Rattle.th_type.specs.Failures.{place}
use Rattle.th_type.specs.Lists.{IsIn, first_some}
use Rattle.th_hier.specs.Naming.{Items}
use Rattle.th_meaning.specs.Program.{ProgramInterface, ProgramClass, ProgramModule}
use Rattle.th_rules.specs.Context.{Head, exception_head, type_head, class_head, routine_head, Item, find_item}
use Rattle.th_rules.specs.Cores.{name_at}
use Rattle.th_module_rules.specs.Contexts.{interface_items}
use Rattle.th_module_rules.specs.Own.{implemented}
use Rattle.th_module_rules.specs.Stages.{Numbered, Program, hierarchy_in, interface_trees}
use Rattle.th_module_rules.specs.Units.{module_units}
use Rattle.th_cores.specs.Cores.{core_class, core_interface}
use Rattle.th_bodies.specs.Bodies.{judged_in}
use Rattle.th_head_texts.specs.Heads.{declared_head, private_head}

-- a module names an interface after so many interfaces between: itself, or an interface that it names so uses it
abbrev pub NamesIn : ℕ → List (Numbered InterfaceSyn) → ModuleSyn → ℕ → Type 0
NamesIn zero is m n = (implemented m ≡ Some n) ⊎ IsIn n (map (λ u. u.name) m.uses)
NamesIn (suc k) is m n = (i : Numbered InterfaceSyn) × IsIn i is × NamesIn k is m i.tree.name.name × IsIn n (map (λ u. u.name) i.tree.uses)

-- a module names an interface, directly or not
abbrev pub Names : List (Numbered InterfaceSyn) → ModuleSyn → ℕ → Type 0
Names is m n = (k : ℕ) × NamesIn k is m n

-- the text of that number with its tokens
abbrev pub no_text : Tokenized
no_text = record { text = []; list = [] }

abbrev pub text_at : List Tokenized → ℕ → Tokenized
text_at xs n = unwrap_or (slice_get xs n) no_text

-- the canonical text of the text of that number
abbrev pub canonical_at : List Tokenized → ℕ → List ℕ
canonical_at xs n = canonical (text_at xs n).text (text_at xs n).list

-- an interface of the program with its canonical text
abbrev pub checked_interface : Program → List Tokenized → Numbered InterfaceSyn → ProgramInterface
checked_interface p xs i =
    core_interface p.table (hierarchy_in p).types i.tree.name.name (interface_items (hierarchy_in p).items [] (interface_trees p)) (canonical_at xs i.text)

-- the interfaces that a module names, directly or not, in the order of the texts
abbrev pub AreNamed : Program → List Tokenized → ModuleSyn → List ProgramInterface → Type 0
AreNamed p xs m is =
    (named : ℕ → Bool) × ((n : ℕ) → (named n ≡ true) ↔ Names p.interfaces m n)
    × (is ≡ map (checked_interface p xs) (filter (λ i. named i.tree.name.name) p.interfaces))

-- where the head of the class of that name begins, where an item of a text is that class
abbrev pub item_place : ℕ → ℕ → InterfaceItemSyn → Option Place
item_place text n (exception_item e) = None
item_place text n (type_item t) = None
item_place text n (class_item c) = if nat_eq n c.head.name.name then Some (place text c.head.at) else None
item_place text n (routine_item r) = None

-- where the head of class n of the interface i begins, where this text is that interface
abbrev pub place_in : ℕ → ℕ → Numbered InterfaceSyn → Option Place
place_in i n f = if nat_eq i f.tree.name.name then first_some (item_place f.text n) f.tree.items else None

-- where the head of the declaration of class n of an interface begins, where there is an interface and it declares the class
abbrev pub declaration_place : List (Numbered InterfaceSyn) → Option ℕ → ℕ → Option Place
declaration_place is None n = None
declaration_place is (Some i) n = first_some (place_in i n) is

-- the canonical text of the head of a class of a module: that of its declaration, where it has one
abbrev pub head_text : List (List ℕ) → Items → List Tokenized → ℕ → Option ℕ → Option Place → ClassHeadSyn → List ℕ
head_text table items xs text implements (Some d) h = declared_head (text_at xs d.text) d.at
head_text table items xs text implements None h = private_head table items implements (text_at xs text) h

abbrev pub class_text : Program → List Tokenized → Numbered ModuleSyn → ClassSyn → List ℕ
class_text p xs m c =
    head_text p.table (hierarchy_in p).items xs m.text (implemented m.tree) (declaration_place p.interfaces (implemented m.tree) c.head.name.name) c.head

-- a class of a module by what is known of it, with the canonical text of its head
abbrev pub known_class : List (List ℕ) → List ℕ → ClassSyn → ℕ → Head → List ProgramClass
known_class table text c full (exception_head t) = []
known_class table text c full (type_head k) = []
known_class table text c full (class_head i) = core_class table full i c.methods text ∷ []
known_class table text c full (routine_head r) = []

abbrev pub found_class : List (List ℕ) → List ℕ → ClassSyn → Option Item → List ProgramClass
found_class table text c None = []
found_class table text c (Some i) = known_class table text c i.full i.head

-- the class that an item of a module is, where this is known of the items; with the canonical text of its head
abbrev pub item_classes : List (List ℕ) → (ClassSyn → List ℕ) → List Item → ModuleItemSyn → List ProgramClass
item_classes table texts known (module_class c) = found_class table (texts c) c (find_item known None c.head.name.name)
item_classes table texts known (module_routine r) = []

-- the classes of a module, in the order of the text
abbrev pub core_classes : List (List ℕ) → (ClassSyn → List ℕ) → List Item → List ModuleItemSyn → List ProgramClass
core_classes table texts known [] = []
core_classes table texts known (i ∷ is) = item_classes table texts known i ++ core_classes table texts known is

-- a module and its checked form
pub record IsChecked (p : Program) (xs : List Tokenized) (m : Numbered ModuleSyn) (c : ProgramModule) : Type 0 where
  pub name : c.name ≡ name_at p.table m.tree.name.name
  pub interfaces : AreNamed p xs m.tree c.interfaces
  pub classes : c.classes ≡ core_classes p.table (class_text p xs m) (judged_in p m).items m.tree.items
  pub units : module_units (judged_in p m) ≡ Some c.units

-- modules and their checked forms, in order
abbrev pub AreChecked : Program → List Tokenized → List (Numbered ModuleSyn) → List ProgramModule → Type 0
AreChecked p xs [] [] = Unit {0}
AreChecked p xs [] (c ∷ cs) = ⊥
AreChecked p xs (m ∷ ms) [] = ⊥
AreChecked p xs (m ∷ ms) (c ∷ cs) = IsChecked p xs m c × AreChecked p xs ms cs
