-- What a name means in a scope.
use Rattle.std.specs.Prelude.{ℕ, Bool, false, nat_eq, ◌&&◌, ◌||◌, List, [], ◌∷◌, ◌++◌, Option, Some, None, position, if◌then◌else◌}
use Rattle.std.specs.List.{list_any}
use Rattle.th_tree.specs.declared.tree.Ident.{Ident}
use Rattle.th_tree.specs.declared.tree.RefTree.{RefTree}
use Rattle.th_hier.specs.declared.item.ItemName.{ItemName}
use Rattle.th_hier.specs.declared.item.Entry.{Entry}
use Rattle.th_hier.specs.declared.item.Referent.{Referent}
use Rattle.th_hier.specs.declared.item.Referent.TheVariants as referents

-- whether the number is among the numbers
abbrev pub has : List ℕ → ℕ → Bool
has ns n = list_any (nat_eq n) ns

-- the numbers with this one, which goes last where it is not there
abbrev pub with_number : List ℕ → ℕ → List ℕ
with_number ns n = if has ns n then ns else ns ++ n ∷ []

-- the first numbers and those of the second that are not there yet, each once
abbrev pub with_numbers : List ℕ → List ℕ → List ℕ
with_numbers ns [] = ns
with_numbers ns (m ∷ ms) = with_numbers (with_number ns m) ms

-- the numbers, each once
abbrev pub different : List ℕ → List ℕ
different ns = with_numbers [] ns

-- items of interfaces, each by its interface's name and its own, in order
abbrev pub Items : Type 0
Items = List (ItemName × Entry)

-- whether the two are one name
abbrev pub same_item : ItemName → ItemName → Bool
same_item a b = nat_eq a.interface b.interface && nat_eq a.name b.name

-- the first item with that name
abbrev pub item_at : Items → ItemName → Option Entry
item_at [] key = None
item_at (e ∷ es) key = if same_item key e.0 then Some e.1 else item_at es key

-- the item of that name of the interface, where there is an interface
abbrev pub item_in : Items → Option ℕ → ℕ → Option Entry
item_in items None n = None
item_in items (Some i) n = item_at items (record { interface = i; name = n })

-- The names that can be seen at a place: the text's own interface and the implemented one, whose items stand bare; the
-- interfaces after `uses`; the type parameters.
pub record Visible : Type 0 where
  pub text : Option ℕ
  pub implements : Option ℕ
  pub uses : List ℕ
  pub params : List ℕ

-- whether the number is there and is this one
abbrev pub is_number : Option ℕ → ℕ → Bool
is_number None n = false
is_number (Some m) n = nat_eq m n

-- the item that a bare name means: one of the text's own interface, else one of the implemented interface
abbrev pub own_or : Option Entry → Option Entry → Referent
own_or (Some e) other = referents.Item e
own_or None (Some e) = referents.Item e
own_or None None = referents.Nothing

-- a bare name means a type parameter, else an item
abbrev pub param_or : Option ℕ → Referent → Referent
param_or (Some k) m = referents.Param k
param_or None m = m

-- what a bare name means
abbrev pub bare_meaning : Items → Visible → ℕ → Referent
bare_meaning items v n = param_or (position (nat_eq n) v.params) (own_or (item_in items v.text n) (item_in items v.implements n))

-- what `I$n` means: item n of the interface I, where it is named after `uses` or `implements`
abbrev pub full_meaning : Items → Visible → ℕ → ℕ → Referent
full_meaning items v i n = if has v.uses i || is_number v.implements i then own_or (item_at items (record { interface = i; name = n })) None else referents.Nothing

-- what the name means after a first one, or alone
abbrev pub named_meaning : Items → Visible → Ident → Option Ident → Referent
named_meaning items v first None = bare_meaning items v first.name
named_meaning items v first (Some second) = full_meaning items v first.name second.name

-- what a reference means
abbrev pub meaning : Items → Visible → RefTree → Referent
meaning items v r = named_meaning items v r.first r.second
