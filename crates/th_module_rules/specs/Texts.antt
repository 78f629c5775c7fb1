-- The texts of a program: what is read of them, and that they are accepted.
use Rattle.std.specs.Prelude.{◌≡◌, ℕ, ◌+◌, ◌⊎◌, true, List, [], ◌∷◌, ◌++◌, map, slice_get, Option, Some, None, codes}
use Rattle.th_tree.specs.declared.tree.Ident.{Ident}
use Rattle.th_tree.specs.declared.tokens.Token.{Token}
use Rattle.th_tree.specs.declared.tokens.TokenKind.TheVariants as kinds
use Rattle.th_tree.specs.declared.tokens.Reserved.TheVariants.{KeyInterface}
use Rattle.th_tree.specs.Cut.{Cut}
use Rattle.th_tree.specs.Tokens.{kind_of}
use Rattle.th_tree.specs.Spans.{bytes_of}
use Rattle.th_tree.specs.Numbered.{lexemes_of}
use Rattle.th_tree.specs.Names.{is_there}
use Rattle.th_tree.specs.Trees.{InterfaceItemSyn, InterfaceSyn, ModuleSyn}
use Rattle.th_tree.specs.Declarations.{WholeModule, WholeInterface}
use Rattle.th_type.specs.Lists.{IsIn}
use Rattle.th_hier.specs.Numbering.{full_name, name_bytes}
use Rattle.th_hier.specs.Spots.{item_name}
use Rattle.th_module_rules.specs.Own.{head_items}
use Rattle.th_module_rules.specs.Stages.{Numbered, numbered, Program, RulesHold}

-- the tokens of a text
pub record AreTokens (text : List ℕ) (ts : List Token) : Type 0 where
  pub cut : Cut text ts
  pub kinds : (k : ℕ) (t : Token) → slice_get ts k ≡ Some t → kind_of (bytes_of text t) ≡ Some t.kind

-- the first token is the word `interface`
abbrev pub BeginsInterface : List Token → Type 0
BeginsInterface ts = (t : Token) × (slice_get ts 0 ≡ Some t) × (t.kind ≡ kinds.Word KeyInterface)

-- a text is a module of this tree, or an interface; names and literals have their numbers in the table
abbrev pub ReadsModule : List (List ℕ) → List ℕ → ModuleSyn → Type 0
ReadsModule table text m = (ts : List Token) × AreTokens text ts × (¬ BeginsInterface ts) × WholeModule m (lexemes_of table text ts)

abbrev pub ReadsInterface : List (List ℕ) → List ℕ → InterfaceSyn → Type 0
ReadsInterface table text f = (ts : List Token) × AreTokens text ts × BeginsInterface ts × WholeInterface f (lexemes_of table text ts)

-- texts, of which the first has this number, are these interfaces and modules, in order
abbrev pub AreRead : List (List ℕ) → ℕ → List (List ℕ) → List (Numbered InterfaceSyn) → List (Numbered ModuleSyn) → Type 0
AreRead table n [] is ms = (is ≡ []) × (ms ≡ [])
AreRead table n (t ∷ ts) is ms =
    ((f : InterfaceSyn) × (js : List (Numbered InterfaceSyn)) × (is ≡ numbered n f ∷ js) × ReadsInterface table t f × AreRead table (n + 1) ts js ms)
    ⊎ ((m : ModuleSyn) × (ns : List (Numbered ModuleSyn)) × (ms ≡ numbered n m ∷ ns) × ReadsModule table t m × AreRead table (n + 1) ts is ns)

-- the names of interfaces
abbrev pub interface_names : List (Numbered InterfaceSyn) → List ℕ
interface_names is = map (λ i. i.tree.name.name) is

-- a name after `uses` or `implements` of a text, at its byte
pub record UsedName : Type 0 where
  pub text : ℕ
  pub name : Ident

abbrev pub used_names : ℕ → List Ident → List UsedName
used_names text [] = []
used_names text (n ∷ ns) = record { text = text; name = n } ∷ used_names text ns

abbrev pub used_of_option : ℕ → Option Ident → List UsedName
used_of_option text None = []
used_of_option text (Some n) = record { text = text; name = n } ∷ []

abbrev pub used_by_interfaces : List (Numbered InterfaceSyn) → List UsedName
used_by_interfaces [] = []
used_by_interfaces (i ∷ is) = used_names i.text i.tree.uses ++ used_by_interfaces is

abbrev pub used_by_modules : List (Numbered ModuleSyn) → List UsedName
used_by_modules [] = []
used_by_modules (m ∷ ms) = used_of_option m.text m.tree.implements ++ used_names m.text m.tree.uses ++ used_by_modules ms

-- each name after `uses` or `implements` is that of an interface
abbrev pub AllGiven : Program → Type 0
AllGiven p = (u : UsedName) → IsIn u (used_by_interfaces p.interfaces ++ used_by_modules p.modules) → IsIn u.name.name (interface_names p.interfaces)

-- the table has the names under which the private items of a module stand, and the number of the module's own items
abbrev pub HasOwnNames : List (List ℕ) → ModuleSyn → Type 0
HasOwnNames table m =
    (is_there table (name_bytes table m.name.name ++ 47 ∷ []) ≡ true)
    × ((i : InterfaceItemSyn) → IsIn i (head_items m) → is_there table (name_bytes table m.name.name ++ 47 ∷ name_bytes table (item_name i).name) ≡ true)

-- the table has the full names of the items of an interface
abbrev pub HasItemNames : List (List ℕ) → InterfaceSyn → Type 0
HasItemNames table f = (i : InterfaceItemSyn) → IsIn i f.items → is_there table (full_name table f.name.name (item_name i).name) ≡ true

-- the table of a program has the full names of all items and the name `main`, so that each has a number of its own
pub record HasNames (p : Program) : Type 0 where
  pub main : is_there p.table (codes "main") ≡ true
  pub interfaces : (i : Numbered InterfaceSyn) → IsIn i p.interfaces → HasItemNames p.table i.tree
  pub modules : (m : Numbered ModuleSyn) → IsIn m p.modules → HasOwnNames p.table m.tree

-- texts are a program all of whose names are given and in which every rule holds
pub record Lawful (texts : List (List ℕ)) (p : Program) : Type 0 where
  pub read : AreRead p.table 0 texts p.interfaces p.modules
  pub named : HasNames p
  pub given : AllGiven p
  pub rules : RulesHold p
