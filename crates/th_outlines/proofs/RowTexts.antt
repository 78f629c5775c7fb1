-- The failures of what classes of interfaces are for and inherit stand at places in these.
use Rattle.std.proofs.Common.{◌≡◌, ℕ, suc, ◌+◌, ◌<◌, Bool, true, false, not, List, [], ◌∷◌, ◌++◌, length, Option, Some, None, refl, sym, ap, ◌∙◌, subst, inl, inr, arith, zero-add}
use Rattle.std.specs.Prelude.{option_map}
use Rattle.th_tree.specs.Trees.{NamedSyn, ClassHeadSyn, InterfaceItemSyn, exception_item, type_item, class_item, routine_item, InterfaceSyn}
use Rattle.th_type.specs.declared.place.Place.{Place}
use Rattle.th_type.specs.declared.place.Failure.{Failure}
use Rattle.th_type.specs.Lists.{IsIn}
use Rattle.th_type.specs.Failures.{unless, IsLeastOf}
use Rattle.th_type.specs.Declarations.{Meant}
use Rattle.th_type.proofs.Members.{from_append}
use Rattle.th_hier.specs.declared.item.Entry.{Entry}
use Rattle.th_hier.specs.Naming.{Items, Visible, has, item_in}
use Rattle.th_hier.specs.Texts.{within, visible}
use Rattle.th_module_rules.specs.Inheriting.{ClassRow, class_row, inherited, meant_number, is_exported, reaches_itself, row_with, item_rows, items_rows, interfaces_rows, exported_fails, row_fails, rows_fail, InheritingFails}
use Rattle.th_program.specs.Programs.{Ascending}
use Rattle.th_outlines.specs.Placing.{placed_in, Placed}
use Rattle.th_outlines.proofs.Placing.{least_placed}
use Rattle.th_outlines.proofs.InTexts.{AllAt, in_at, both, unless_at}

-- what stands after `inherits` stands in this text
abbrev pub InheritedAt : ℕ → Option (Meant × Place) → Type 0
InheritedAt t None = Unit {0}
InheritedAt t (Some i) = i.1.text ≡ t

-- a class stands in this text
abbrev pub RowAt : ℕ → ClassRow → Type 0
RowAt t r = (r.place.text ≡ t) × (r.of_place.text ≡ t) × InheritedAt t r.inherits

inherited_at : (items : Items) (v : Visible) (t : ℕ) (o : Option NamedSyn) → InheritedAt t (inherited items v t o)
inherited_at items v t None = tt
inherited_at items v t (Some n) = refl

class_at : (items : Items) (v : Visible) (t full : ℕ) (h : ClassHeadSyn) → RowAt t (class_row items v t full h)
class_at items v t full h = (refl, refl, inherited_at items v t h.inherits)

with_at : (items : Items) (v : Visible) (t : ℕ) (o : Option Entry) (h : ClassHeadSyn) (r : ClassRow) → IsIn r (row_with items v t o h) → RowAt t r
with_at items v t None h r m = absurd m
with_at items v t (Some e) h r (inl s) = subst (λ (x : ClassRow). RowAt t x) (sym s) (class_at items (within v h.params) t e.full h)
with_at items v t (Some e) h r (inr m) = absurd m

item_at_text : (items : Items) (v : Visible) (t : ℕ) (i : InterfaceItemSyn) (r : ClassRow) → IsIn r (item_rows items v t i) → RowAt t r
item_at_text items v t (exception_item x) r m = absurd m
item_at_text items v t (type_item x) r m = absurd m
item_at_text items v t (class_item c) r m = with_at items v t (item_in items v.text c.head.name.name) c.head r m
item_at_text items v t (routine_item x) r m = absurd m

items_at_text : (items : Items) (v : Visible) (t : ℕ) (is : List InterfaceItemSyn) (r : ClassRow) → IsIn r (items_rows items v t is) → RowAt t r
items_at_text items v t [] r m = absurd m
items_at_text items v t (i ∷ is) r m = elim (from_append r (item_rows items v t i) (items_rows items v t is) m) [
  | inl a ↦ item_at_text items v t i r a
  | inr b ↦ items_at_text items v t is r b
]

-- a class stands in a text before the n-th
abbrev pub RowBelow : ℕ → ClassRow → Type 0
RowBelow n r = (t : ℕ) × (t < n) × RowAt t r

here_below : (t n : ℕ) → t < t + suc n
here_below t n = omega arith

next_below : (u t n : ℕ) → u < t + 1 + n → u < t + suc n
next_below u t n h = omega arith

pub rows_below : (items : Items) (t : ℕ) (fs : List InterfaceSyn) (r : ClassRow) → IsIn r (interfaces_rows items t fs) → RowBelow (t + length fs) r
rows_below items t [] r m = absurd m
rows_below items t (f ∷ fs) r m = elim (from_append r (items_rows items (visible f) t f.items) (interfaces_rows items (t + 1) fs) m) [
  | inl a ↦ (t, here_below t (length fs), items_at_text items (visible f) t f.items r a)
  | inr b ↦ let w = rows_below items (t + 1) fs r b in (w.0, next_below w.0 t (length fs) w.1, w.2)
]

exported_at : (t : ℕ) (fulls : List ℕ) (b : Bool) (o : Option (Meant × Place)) → InheritedAt t o → AllAt t (exported_fails fulls b o)
exported_at t fulls true None h = tt
exported_at t fulls true (Some i) h = unless_at t 10 i.1 (is_exported fulls (meant_number i.0)) h
exported_at t fulls false o h = tt

row_at_text : (t : ℕ) (fulls : List ℕ) (rows : List ClassRow) (r : ClassRow) → RowAt t r → AllAt t (row_fails fulls rows r)
row_at_text t fulls rows r h =
    both t (unless (not r.for_param) 10 r.of_place ++ unless (not (reaches_itself rows r.full)) 10 r.place) (exported_fails fulls (has fulls r.full) r.inherits)
    (both t (unless (not r.for_param) 10 r.of_place) (unless (not (reaches_itself rows r.full)) 10 r.place)
    (unless_at t 10 r.of_place (not r.for_param) h.1) (unless_at t 10 r.place (not (reaches_itself rows r.full)) h.0))
    (exported_at t fulls (has fulls r.full) r.inherits h.2)

still : (a b n : ℕ) → a ≡ b → b < n → a < n
still a b n e h = omega arith

rows_in : (n : ℕ) (fulls : List ℕ) (rows own : List ClassRow) → ((r : ClassRow) → IsIn r own → RowBelow n r) → (g : Failure) → IsIn g (rows_fail fulls rows own) → g.place.text < n
rows_in n fulls rows [] h g m = absurd m
rows_in n fulls rows (r ∷ own) h g m = elim (from_append g (row_fails fulls rows r) (rows_fail fulls rows own) m) [
  | inl a ↦ let w = h r (inl refl) in still g.place.text w.0 n (in_at w.0 (row_fails fulls rows r) g (row_at_text w.0 fulls rows r w.2) a) w.1
  | inr b ↦ rows_in n fulls rows own (λ x i. h x (inr i)) g b
]

-- a failure in classes that stand in texts before the n-th stands in these
pub inheriting_in : (n : ℕ) (fulls : List ℕ) (rows own : List ClassRow) → ((r : ClassRow) → IsIn r own → RowBelow n r) → (g : Failure) → InheritingFails fulls rows own g → g.place.text < n
inheriting_in n fulls rows own h g (inl m) = rows_in n fulls rows own h g m
inheriting_in n fulls rows own h g (inr (r, m, p, i, e, high, s)) =
    let w = h r i in
    let at : p.text ≡ w.0 = subst (InheritedAt w.0) e w.2.2 in
    still g.place.text w.0 n (ap (λ (y : Failure). y.place.text) s ∙ at) w.1

-- the least failure in the classes of interfaces, at its text
pub exported_least : (texts fulls : List ℕ) (items : Items) (fs : List InterfaceSyn) (a b : List ClassRow) (o r : Option Failure) → length texts ≡ length fs → Ascending texts
    → a ≡ interfaces_rows items 0 fs → b ≡ interfaces_rows items 0 fs → r ≡ option_map (placed_in texts) o → IsLeastOf (InheritingFails fulls a b) o
    → IsLeastOf (Placed texts (InheritingFails fulls (interfaces_rows items 0 fs) (interfaces_rows items 0 fs))) r
exported_least texts fulls items fs a b o r len up ea eb er l =
    let rows : List ClassRow = interfaces_rows items 0 fs in
    subst (λ (x : Option Failure). IsLeastOf (Placed texts (InheritingFails fulls rows rows)) x) (sym er)
    (least_placed texts (InheritingFails fulls rows rows) o up
    (λ g x. inheriting_in (length texts) fulls rows rows (λ y i. subst (λ (n : ℕ). RowBelow n y) (zero-add (length fs) ∙ sym len) (rows_below items 0 fs y i)) g x)
    (subst (λ (y : List ClassRow). IsLeastOf (InheritingFails fulls rows y) o) eb (subst (λ (x : List ClassRow). IsLeastOf (InheritingFails fulls x b) o) ea l)))
