-- The least failure outside bodies and initializers is that of its parts.
use Rattle.std.proofs.Common.{◌≡◌, ℕ, Bool, true, false, not, List, [], ◌∷◌, ◌++◌, length, map, Option, Some, None, refl, sym, ap, ◌∙◌, subst, ◌⊎◌, inl, inr}
use Rattle.th_tree.specs.Trees.{InterfaceSyn, ModuleSyn}
use Rattle.th_type.specs.declared.place.Place.{Place}
use Rattle.th_type.specs.declared.place.Failure.{Failure}
use Rattle.th_type.specs.Lists.{IsIn}
use Rattle.th_type.specs.Declarations.{Meant}
use Rattle.th_type.specs.Failures.{unless, lowest, IsLeastOf}
use Rattle.th_type.proofs.Least.{least_alike, least_lowest}
use Rattle.th_hier.specs.Naming.{Items, has}
use Rattle.th_hier.specs.Numbering.{full_numbers}
use Rattle.th_hier.specs.Hierarchies.{items_of}
use Rattle.th_module_rules.specs.Inheriting.{ClassRow, module_rows, interfaces_rows, meant_number, is_exported, reaches_itself, exported_fails, row_fails, rows_fail, InheritingFails}
use Rattle.th_module_rules.specs.Stages.{Program, interface_trees, hierarchy_in, FailsThird}
use Rattle.th_outlines.specs.Placing.{of_option, Placed}
use Rattle.th_program.specs.Programs.{program, with_texts}
use Rattle.th_outlines.specs.Stages.{lists_fail, KeepsLeast, OwnFails}
use Rattle.th_outlines.proofs.Keeping.{least_after, least_found}
use Rattle.th_outlines.proofs.Pairing.{texts_are, trees_are}

-- only whether a number is among them is asked
exported_same : (a b : List ℕ) → ((n : ℕ) → has a n ≡ has b n) → (o : Option ℕ) → is_exported a o ≡ is_exported b o
exported_same a b h None = refl
exported_same a b h (Some n) = h n

fails_same : (a b : List ℕ) → ((n : ℕ) → has a n ≡ has b n) → (e : Bool) (o : Option (Meant × Place)) → exported_fails a e o ≡ exported_fails b e o
fails_same a b h true None = refl
fails_same a b h true (Some i) = ap (λ (x : Bool). unless x 10 i.1) (exported_same a b h (meant_number i.0))
fails_same a b h false o = refl

row_same : (a b : List ℕ) → ((n : ℕ) → has a n ≡ has b n) → (rows : List ClassRow) (r : ClassRow) → row_fails a rows r ≡ row_fails b rows r
row_same a b h rows r =
    ap (λ (fs : List Failure). unless (not r.for_param) 10 r.of_place ++ unless (not (reaches_itself rows r.full)) 10 r.place ++ fs)
    (ap (λ (e : Bool). exported_fails a e r.inherits) (h r.full) ∙ fails_same a b h (has b r.full) r.inherits)

rows_same : (a b : List ℕ) → ((n : ℕ) → has a n ≡ has b n) → (rows own : List ClassRow) → rows_fail a rows own ≡ rows_fail b rows own
rows_same a b h rows [] = refl
rows_same a b h rows (r ∷ own) =
    ap (λ (fs : List Failure). fs ++ rows_fail a rows own) (row_same a b h rows r) ∙ ap (λ (fs : List Failure). row_fails b rows r ++ fs) (rows_same a b h rows own)

same_fails : (a b : List ℕ) → ((n : ℕ) → has a n ≡ has b n) → (rows own : List ClassRow) (f : Failure) → InheritingFails a rows own f → InheritingFails b rows own f
same_fails a b h rows own f (inl m) = inl (subst (λ (fs : List Failure). IsIn f fs) (rows_same a b h rows own) m)
same_fails a b h rows own f (inr w) = inr w

-- the third stage by its parts
abbrev pub ByParts : List (List ℕ) → List ℕ → List ℕ → List InterfaceSyn → Items → Program → Failure → Type 0
ByParts table fulls texts fs items p f =
    IsIn f (lists_fail items p) ⊎ Placed texts (InheritingFails fulls (interfaces_rows items 0 fs) (interfaces_rows items 0 fs)) f ⊎ OwnFails table fulls items (interfaces_rows items 0 fs) p.modules f

parts_alike : (table : List (List ℕ)) (a b texts : List ℕ) (fs : List InterfaceSyn) (items : Items) (p : Program) → ((n : ℕ) → has a n ≡ has b n)
    → (f : Failure) → ByParts table a texts fs items p f → ByParts table b texts fs items p f
parts_alike table a b texts fs items p h f (inl m) = inl m
parts_alike table a b texts fs items p h f (inr (inl (g, x, s))) = inr (inl (g, same_fails a b h (interfaces_rows items 0 fs) (interfaces_rows items 0 fs) g x, s))
parts_alike table a b texts fs items p h f (inr (inr (m, i, x))) =
    inr (inr (m, i, same_fails a b h (module_rows table items m.text m.tree ++ interfaces_rows items 0 fs) (module_rows table items m.text m.tree) f x))

-- the parts at the trees and texts that stand in the program are the stage
moved : (table : List (List ℕ)) (p : Program) (ts ts2 : List ℕ) (fs fs2 : List InterfaceSyn) → ts ≡ ts2 → fs ≡ fs2 → (f : Failure)
    → ByParts table (full_numbers (items_of table fs)) ts fs (items_of table fs) p f → ByParts table (full_numbers (items_of table fs2)) ts2 fs2 (items_of table fs2) p f
moved table p ts ts2 fs fs2 e d f x =
    subst (λ (t : List ℕ). ByParts table (full_numbers (items_of table fs2)) t fs2 (items_of table fs2) p f) e
    (subst (λ (l : List InterfaceSyn). ByParts table (full_numbers (items_of table l)) ts l (items_of table l) p f) d x)

least_parts : (table : List (List ℕ)) (fulls texts : List ℕ) (fs : List InterfaceSyn) (items : Items) (p : Program) (e new : Option Failure)
    → IsLeastOf (Placed texts (InheritingFails fulls (interfaces_rows items 0 fs) (interfaces_rows items 0 fs))) e
    → KeepsLeast (lowest (lowest None (lists_fail items p)) (of_option e)) (OwnFails table fulls items (interfaces_rows items 0 fs) p.modules) new
    → IsLeastOf (ByParts table fulls texts fs items p) new
least_parts table fulls texts fs items p e new exported kept =
    let L : Failure → Type 0 = λ f. IsIn f (lists_fail items p) in
    let E : Failure → Type 0 = Placed texts (InheritingFails fulls (interfaces_rows items 0 fs) (interfaces_rows items 0 fs)) in
    let O : Failure → Type 0 = OwnFails table fulls items (interfaces_rows items 0 fs) p.modules in
    let l : Option Failure = lowest None (lists_fail items p) in
    least_alike (λ f. (L f ⊎ E f) ⊎ O f) (ByParts table fulls texts fs items p) new
    (λ g w. elim w [ inl a ↦ elim a [ inl x ↦ inl x | inr y ↦ inr (inl y) ] | inr z ↦ inr (inr z) ])
    (λ g w. elim w [ inl x ↦ inl (inl x) | inr a ↦ elim a [ inl y ↦ inl (inr y) | inr z ↦ inr z ] ])
    (least_after (λ f. L f ⊎ E f) O (lowest l (of_option e)) new
    (least_found L E l e
    (least_alike (λ f. ⊥ ⊎ IsIn f (lists_fail items p)) L l (λ g w. elim w [ inl n ↦ absurd n | inr m ↦ m ]) (λ g m. inr m) (least_lowest (λ f. ⊥) None (lists_fail items p) (λ g n. n)))
    exported)
    kept)

pub third_least : (table : List (List ℕ)) (fulls texts : List ℕ) (fs : List InterfaceSyn) (ns : List ℕ) (ms : List ModuleSyn) (e new : Option Failure) → length texts ≡ length fs
    → ((n : ℕ) → has fulls n ≡ has (full_numbers (items_of table fs)) n)
    → IsLeastOf (Placed texts (InheritingFails fulls (interfaces_rows (items_of table fs) 0 fs) (interfaces_rows (items_of table fs) 0 fs))) e
    → KeepsLeast (lowest (lowest None (lists_fail (items_of table fs) (program table texts fs ns ms))) (of_option e)) (OwnFails table fulls (items_of table fs) (interfaces_rows (items_of table fs) 0 fs) (with_texts ns ms)) new
    → IsLeastOf (FailsThird (program table texts fs ns ms)) new
third_least table fulls texts fs ns ms e new len same exported kept =
    let p : Program = program table texts fs ns ms in
    let items : Items = items_of table fs in
    least_alike (ByParts table fulls texts fs items p) (FailsThird p) new
    (λ f x. moved table p texts (map (λ i. i.text) p.interfaces) fs (interface_trees p) (sym (texts_are texts fs len)) (sym (trees_are texts fs len)) f
    (parts_alike table fulls (full_numbers items) texts fs items p same f x))
    (λ f x. parts_alike table (full_numbers items) fulls texts fs items p (λ n. sym (same n)) f
    (moved table p (map (λ i. i.text) p.interfaces) texts (interface_trees p) fs (texts_are texts fs len) (trees_are texts fs len) f x))
    (least_parts table fulls texts fs items p e new exported kept)

-- the same, where the items are those of an index and the table is that which stands after the lists
pub third_is : (table now : List (List ℕ)) (fulls texts : List ℕ) (fs : List InterfaceSyn) (ns : List ℕ) (ms : List ModuleSyn) (items : Items) (l k e new : Option Failure) → length texts ≡ length fs
    → now ≡ table → items ≡ (hierarchy_in (program table texts fs ns ms)).items
    → ((t : List (List ℕ)) → items ≡ items_of t fs → (n : ℕ) → has fulls n ≡ has (full_numbers items) n)
    → l ≡ lowest None (lists_fail items (program table texts fs ns ms))
    → IsLeastOf (Placed texts (InheritingFails fulls (interfaces_rows items 0 fs) (interfaces_rows items 0 fs))) e
    → k ≡ lowest l (of_option e)
    → KeepsLeast k (OwnFails now fulls items (interfaces_rows items 0 fs) (with_texts ns ms)) new
    → IsLeastOf (FailsThird (program table texts fs ns ms)) new
third_is table now fulls texts fs ns ms items l k e new len en is same el exported ek kept =
    let p : Program = program table texts fs ns ms in
    let at : items ≡ items_of table fs = is ∙ ap (items_of table) (trees_are texts fs len) in
    let Q : Items → Type 0 = λ (x : Items). ((n : ℕ) → has fulls n ≡ has (full_numbers x) n)
    → IsLeastOf (Placed texts (InheritingFails fulls (interfaces_rows x 0 fs) (interfaces_rows x 0 fs))) e
    → KeepsLeast (lowest (lowest None (lists_fail x p)) (of_option e)) (OwnFails table fulls x (interfaces_rows x 0 fs) (with_texts ns ms)) new
    → IsLeastOf (FailsThird p) new in
    subst Q (sym at) (third_least table fulls texts fs ns ms e new len) (same table at) exported
    (subst (λ (o : Option Failure). KeepsLeast o (OwnFails table fulls items (interfaces_rows items 0 fs) (with_texts ns ms)) new) (ek ∙ ap (λ (o : Option Failure). lowest o (of_option e)) el)
    (subst (λ (t : List (List ℕ)). KeepsLeast k (OwnFails t fulls items (interfaces_rows items 0 fs) (with_texts ns ms)) new) en kept))
