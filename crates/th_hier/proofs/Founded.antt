-- The items by name come from the items of interfaces, and have different numbers.
use Rattle.std.proofs.Common.{◌≡◌, ℕ, Bool, true, false, nat_eq, ◌&&◌, ◌||◌, List, [], ◌∷◌, ◌++◌, Some, is_some, refl, sym, ap, ◌∙◌, inl, inr, if◌then◌else◌, true≢false, subst}
use Rattle.std.proofs.lemmas.Bool.{eqb-true}
use borrow.Author.Tests.{eq-eqb}
use Rattle.th_tree.specs.Trees.{InterfaceItemSyn, InterfaceSyn}
use Rattle.th_type.specs.Lists.{IsIn}
use Rattle.th_type.proofs.Members.{from_append}
use Rattle.th_hier.specs.declared.item.ItemName.{ItemName}
use Rattle.th_hier.specs.declared.item.Entry.{Entry}
use Rattle.th_hier.specs.Naming.{Items, has, with_number, same_item, item_at}
use Rattle.th_hier.specs.Spots.{item_name}
use Rattle.th_hier.specs.Numbering.{full_name, full_numbers, with_item, Numbering, numbering, add_item, add_items, add_interface, add_interfaces, numbered_items, item_sort}
use Rattle.th_tree.specs.Names.{place_of}

-- an item by name is an item of one of the interfaces
pub record Comes (fs : List InterfaceSyn) (x : ItemName × Entry) : Type 0 where
  pub home : InterfaceSyn
  pub item : InterfaceItemSyn
  pub there : IsIn home fs
  pub within : IsIn item home.items
  pub interface : x.0.interface ≡ home.name.name
  pub name : x.0.name ≡ (item_name item).name
  pub sort : x.1.sort ≡ item_sort item

-- the items by name come from interfaces, and have different numbers
abbrev pub FullsDiffer : Items → Type 0
FullsDiffer [] = Unit {0}
FullsDiffer (x ∷ xs) = ((y : ItemName × Entry) → IsIn y xs → x.1.full ≡ y.1.full → ⊥) × FullsDiffer xs

pub record Founded (fs : List InterfaceSyn) (items : Items) : Type 0 where
  pub come : (x : ItemName × Entry) → IsIn x items → Comes fs x
  pub differ : FullsDiffer items

free_head : (n m : ℕ) (b : Bool) → (nat_eq n m || b) ≡ false → (n ≡ m → ⊥) × (b ≡ false)
free_head n m b h = by (nat_eq n m) refl h
  where
    by : (t : Bool) → nat_eq n m ≡ t → (t || b) ≡ false → (n ≡ m → ⊥) × (b ≡ false)
    by true e h = absurd (true≢false h)
    by false e h = (λ (s : n ≡ m). true≢false (sym (eq-eqb n m s) ∙ e), h)

push_differ : (items : Items) (x : ItemName × Entry) → FullsDiffer items → has (full_numbers items) x.1.full ≡ false → FullsDiffer (items ++ x ∷ [])
push_differ [] x d h = (λ y m e. m, tt)
push_differ (z ∷ items) x d h =
    let p = free_head x.1.full z.1.full (has (full_numbers items) x.1.full) h in (
      λ y m (e : z.1.full ≡ y.1.full). elim (from_append y items (x ∷ []) m) [
        | inl a ↦ d.0 y a e
        | inr b ↦ elim b [ inl s ↦ p.0 (sym (e ∙ ap (λ (w : ItemName × Entry). w.1.full) s)) | inr n ↦ n ]
      ],
      push_differ items x d.1 p.1,
    )

push_founded : (fs : List InterfaceSyn) (items : Items) (x : ItemName × Entry) (a b : Bool) → Comes fs x → has (full_numbers items) x.1.full ≡ b
    → Founded fs items → Founded fs (if a || b then items else items ++ x ∷ [])
push_founded fs items x true b c h f = f
push_founded fs items x false true c h f = f
push_founded fs items x false false c h f = record {
  come = λ y m. elim (from_append y items (x ∷ []) m) [ inl p ↦ f.come y p | inr q ↦ elim q [ inl s ↦ subst (Comes fs) (sym s) c | inr n ↦ absurd n ] ];
  differ = push_differ items x f.differ h;
}

with_founded : (fs : List InterfaceSyn) (items : Items) (key : ItemName) (e : Entry) → Comes fs (key, e) → Founded fs items → Founded fs (with_item items key e)
with_founded fs items key e c f = push_founded fs items (key, e) (is_some (item_at items key)) (has (full_numbers items) e.full) c refl f

items_founded : (fs : List InterfaceSyn) (f : InterfaceSyn) (s : Numbering) (xs : List InterfaceItemSyn) → IsIn f fs → ((x : InterfaceItemSyn) → IsIn x xs → IsIn x f.items)
    → Founded fs s.items → Founded fs (add_items s f.name.name xs).items
items_founded fs f s [] there within g = g
items_founded fs f s (x ∷ xs) there within g =
    items_founded fs f (add_item s f.name.name x) xs there (λ y m. within y (inr m))
    (with_founded fs s.items (record { interface = f.name.name; name = (item_name x).name })
    (record { full = place_of s.table (full_name s.table f.name.name (item_name x).name); sort = item_sort x })
    (record { home = f; item = x; there = there; within = within x (inl refl); interface = refl; name = refl; sort = refl }) g)

one_founded : (fs : List InterfaceSyn) (f : InterfaceSyn) (s : Numbering) (b : Bool) → IsIn f fs → Founded fs s.items → Founded fs (if b then s else add_items s f.name.name f.items).items
one_founded fs f s true there g = g
one_founded fs f s false there g = items_founded fs f s f.items there (λ x m. m) g

all_founded : (fs : List InterfaceSyn) (seen : List ℕ) (s : Numbering) (gs : List InterfaceSyn) → ((f : InterfaceSyn) → IsIn f gs → IsIn f fs) → Founded fs s.items
    → Founded fs (add_interfaces seen s gs).items
all_founded fs seen s [] there g = g
all_founded fs seen s (f ∷ gs) there g =
    all_founded fs (with_number seen f.name.name) (add_interface seen s f) gs (λ h m. there h (inr m)) (one_founded fs f s (has seen f.name.name) (there f (inl refl)) g)

-- the numbered items of interfaces come from them and have different numbers
pub numbered_founded : (table : List (List ℕ)) (fs : List InterfaceSyn) → Founded fs (numbered_items table fs).items
numbered_founded table fs = all_founded fs [] (numbering table []) fs (λ f m. m) (record { come = λ x m. absurd m; differ = tt })

-- two items with one number are one
pub one_by_full : (items : Items) (x y : ItemName × Entry) → FullsDiffer items → IsIn x items → IsIn y items → x.1.full ≡ y.1.full → x ≡ y
one_by_full [] x y d m n e = absurd m
one_by_full (z ∷ items) x y d (inl p) (inl q) e = p ∙ sym q
one_by_full (z ∷ items) x y d (inl p) (inr n) e = absurd (d.0 y n (ap (λ (w : ItemName × Entry). w.1.full) (sym p) ∙ e))
one_by_full (z ∷ items) x y d (inr m) (inl q) e = absurd (d.0 x m (ap (λ (w : ItemName × Entry). w.1.full) (sym q) ∙ sym e))
one_by_full (z ∷ items) x y d (inr m) (inr n) e = one_by_full items x y d.1 m n e

both : (a b : Bool) → (a && b) ≡ true → (a ≡ true) × (b ≡ true)
both true true h = (refl, refl)
both true false h = absurd (true≢false (sym h))
both false b h = absurd (true≢false (sym h))

-- what a look-up finds is an item of that name
pub record FoundAt (items : Items) (key : ItemName) (e : Entry) : Type 0 where
  pub found : ItemName × Entry
  pub there : IsIn found items
  pub interface : key.interface ≡ found.0.interface
  pub name : key.name ≡ found.0.name
  pub is : found.1 ≡ e

found_if : (items : Items) (key : ItemName) (e : Entry) (x : ItemName × Entry) (b : Bool) → same_item key x.0 ≡ b → (item_at items key ≡ Some e → FoundAt items key e)
    → (if b then Some x.1 else item_at items key) ≡ Some e → FoundAt (x ∷ items) key e
found_if items key e x true s rest h =
    let p = both (nat_eq key.interface x.0.interface) (nat_eq key.name x.0.name) s in
    record { found = x; there = inl refl; interface = eqb-true _ _ p.0; name = eqb-true _ _ p.1; is = cc }
found_if items key e x false s rest h = let r = rest h in record { found = r.found; there = inr r.there; interface = r.interface; name = r.name; is = r.is }

pub found_at : (items : Items) (key : ItemName) (e : Entry) → item_at items key ≡ Some e → FoundAt items key e
found_at [] key e h = absurd (cc)
found_at (x ∷ items) key e h = found_if items key e x (same_item key x.0) refl (found_at items key e) h

-- look-ups that find one number find one item
pub same_by_full : (items : Items) (k l : ItemName) (e f : Entry) → FullsDiffer items → item_at items k ≡ Some e → item_at items l ≡ Some f → e.full ≡ f.full → e ≡ f
same_by_full items k l e f d p q h =
    let a = found_at items k e p in
    let b = found_at items l f q in
    let s : a.found ≡ b.found = one_by_full items a.found b.found d a.there b.there (ap (λ (x : Entry). x.full) a.is ∙ h ∙ ap (λ (x : Entry). x.full) (sym b.is)) in
    sym a.is ∙ ap (λ (w : ItemName × Entry). w.1) s ∙ b.is
