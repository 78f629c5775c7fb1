-- The look-up of items among a text's own and those of interfaces.
use Rattle.std.proofs.Common.{◌≡◌, ℕ, Bool, true, false, List, [], ◌∷◌, ◌++◌, Option, Some, None, is_some, refl, ap, sym, ◌∙◌, if◌then◌else◌, true≢false}
use Rattle.indexmap.specs.IndexMap.{insert_entry}
use Rattle.th_type.specs.Lists.{or_else}
use Rattle.th_hier.specs.declared.item.ItemName.{ItemName}
use Rattle.th_hier.specs.declared.item.Entry.{Entry}
use Rattle.th_hier.specs.Naming.{Items, same_item, item_at}
use Rattle.th_heads.specs.Adding.{with_own}

or_if : (b : Bool) (e : Entry) (x y : Option Entry) → (if b then Some e else or_else x y) ≡ or_else (if b then Some e else x) y
or_if true e x y = refl
or_if false e x y = refl

-- the item is among the first ones, or among the others
pub item_in_both : (xs ys : Items) (key : ItemName) → item_at (xs ++ ys) key ≡ or_else (item_at xs key) (item_at ys key)
item_in_both [] ys key = refl
item_in_both (x ∷ xs) ys key =
    ap (λ o. if same_item key x.0 then Some x.1 else o) (item_in_both xs ys key) ∙ or_if (same_item key x.0) x.1 (item_at xs key) (item_at ys key)

absent_if : (key : ItemName) (e : Entry) (x : ItemName × Entry) (es : Items) (b : Bool) → (is_some (item_at es key) ≡ false → insert_entry same_item es key e ≡ es ++ (key, e) ∷ [])
    → is_some (if b then Some x.1 else item_at es key) ≡ false → (if b then (x.0, e) ∷ es else x ∷ insert_entry same_item es key e) ≡ x ∷ (es ++ (key, e) ∷ [])
absent_if key e x es true rest h = absurd (true≢false h)
absent_if key e x es false rest h = ap (λ (r : Items). x ∷ r) (rest h)

-- a name that no item has goes last
insert_absent : (key : ItemName) (e : Entry) (es : Items) → is_some (item_at es key) ≡ false → insert_entry same_item es key e ≡ es ++ (key, e) ∷ []
insert_absent key e [] h = refl
insert_absent key e (x ∷ es) h = absent_if key e x es (same_item key x.0) (insert_absent key e es) h

-- an item whose name is new goes last
pub new_own : (key : ItemName) (e : Entry) (es new : Items) → is_some (item_at es key) ≡ false → new ≡ insert_entry same_item es key e → new ≡ with_own es key e
new_own key e es new absent made = made ∙ insert_absent key e es absent ∙ ap (λ (b : Bool). if b then es else es ++ (key, e) ∷ []) (sym absent)

-- an item whose name is there changes nothing
pub old_own : (key : ItemName) (e : Entry) (es : Items) → is_some (item_at es key) ≡ true → es ≡ with_own es key e
old_own key e es there = ap (λ (b : Bool). if b then es else es ++ (key, e) ∷ []) (sym there)
