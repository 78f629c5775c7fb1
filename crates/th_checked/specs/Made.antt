-- A checked module as it is made of what all modules have in common.
use Rattle.std.specs.Prelude.{◌≡◌, ◌↔◌, ℕ, true, List, [], ◌∷◌, ◌++◌, Option, if◌then◌else◌}
use Rattle.th_tree.specs.Spans.{Tokenized}
use Rattle.th_tree.specs.Trees.{ClassSyn, InterfaceSyn, ModuleSyn}
use Rattle.th_hier.specs.Hierarchies.{TypeHierarchy}
use Rattle.th_hier.specs.Naming.{has}
use Rattle.th_meaning.specs.Program.{ProgramInterface, ProgramModule, ProgramUnit}
use Rattle.th_rules.specs.Context.{Item}
use Rattle.th_rules.specs.Cores.{name_at}
use Rattle.th_module_rules.specs.Contexts.{interface_items}
use Rattle.th_module_rules.specs.Own.{implemented}
use Rattle.th_module_rules.specs.Stages.{Numbered}
use Rattle.th_cores.specs.Cores.{core_interface}
use Rattle.th_checked.specs.Checked.{canonical_at, core_classes, head_text}
use Rattle.th_checked.specs.Noting.{Places, head_place}
use Rattle.th_checked.specs.Reaching.{Reached, first_names, used_by}

-- an interface by its own items
abbrev pub own_interface : List (List ℕ) → TypeHierarchy → List Tokenized → ℕ → InterfaceSyn → ProgramInterface
own_interface table h xs text f = core_interface table h.types f.name.name (interface_items h.items [] (f ∷ [])) (canonical_at xs text)

-- an interface, where its name is one of these
abbrev pub chosen : List (List ℕ) → TypeHierarchy → List Tokenized → List ℕ → ℕ → InterfaceSyn → List ProgramInterface
chosen table h xs named text f = if has named f.name.name then own_interface table h xs text f ∷ [] else []

-- the interfaces whose names are among these
abbrev pub all_chosen : List (List ℕ) → TypeHierarchy → List Tokenized → List ℕ → List (Numbered InterfaceSyn) → List ProgramInterface
all_chosen table h xs named [] = []
all_chosen table h xs named (i ∷ is) = chosen table h xs named i.text i.tree ++ all_chosen table h xs named is

-- the interfaces that a module names
abbrev pub NamedAre : List (List ℕ) → TypeHierarchy → List Tokenized → List (Numbered InterfaceSyn) → List InterfaceSyn → ModuleSyn → List ProgramInterface → Type 0
NamedAre table h xs is fs m cs =
    (named : List ℕ) × ((n : ℕ) → (has named n ≡ true) ↔ Reached (used_by fs) (first_names m) n) × (cs ≡ all_chosen table h xs named is)

-- the text of the head of a class, by the places of the heads of declared classes
abbrev pub text_by : List (List ℕ) → TypeHierarchy → List Tokenized → Places → ℕ → Option ℕ → ClassSyn → List ℕ
text_by table h xs places text implements c = head_text table h.items xs text implements (head_place places implements c.head.name.name) c.head

-- a module that is made; the tokens of the texts are given twice, also as heads are found in them
pub record IsMade (table : List (List ℕ)) (h : TypeHierarchy) (xs hs : List Tokenized) (is : List (Numbered InterfaceSyn)) (fs : List InterfaceSyn) (places : Places) (text : ℕ) (m : ModuleSyn) (known : List Item) (us : List ProgramUnit) (c : ProgramModule) : Type 0 where
  pub name : c.name ≡ name_at table m.name.name
  pub interfaces : NamedAre table h xs is fs m c.interfaces
  pub classes : c.classes ≡ core_classes table (text_by table h hs places text (implemented m)) known m.items
  pub units : c.units ≡ us

-- modules that are made, in order
abbrev pub AllMade : List (List ℕ) → TypeHierarchy → List Tokenized → List Tokenized → List (Numbered InterfaceSyn) → List InterfaceSyn → Places → List (Numbered ModuleSyn) → List (List Item) → List (List ProgramUnit) → List ProgramModule → Type 0
AllMade table h xs hs is fs places [] [] [] [] = Unit {0}
AllMade table h xs hs is fs places (m ∷ ms) (k ∷ ks) (us ∷ rest) (c ∷ cs) = IsMade table h xs hs is fs places m.text m.tree k us c × AllMade table h xs hs is fs places ms ks rest cs
AllMade table h xs hs is fs places _ _ _ _ = ⊥
