-- Look-ups through places of first classes.
use Rattle.std.proofs.Common.{◌≡◌, ◌∙◌, ℕ, zero, suc, Bool, true, false, nat_eq, List, [], ◌∷◌, Option, Some, None, slice_get, drop, if◌then◌else◌, refl, ap, sym}
use Rattle.std.specs.Map.{lookup}
use Rattle.std.proofs.lemmas.Cmp.{nat_eq_equiv}
use Rattle.indexmap.specs.IndexMap.{insert_entry}
use Rattle.th_module_rules.specs.Contexts.{Base, base_at}
use Rattle.th_scope.proofs.Places.{lookup_inserted}
use Rattle.th_contexts.specs.Placing.{base_place, Placed}

-- the class at a place, where there is a place
abbrev pub base_in : List Base → Option ℕ → Option Base
base_in bs None = None
base_in bs (Some k) = slice_get bs k

base_there : (all : List Base) (k : ℕ) (b : Base) (bs : List Base) → drop k all ≡ b ∷ bs → (slice_get all k ≡ Some b) × (drop (suc k) all ≡ bs)
base_there [] zero b bs h = cc
base_there [] (suc k) b bs h = cc
base_there (x ∷ all) zero b bs h = (cc, cc)
base_there (x ∷ all) (suc k) b bs h = base_there all k b bs h

finds_if : (n : ℕ) (all : List Base) (k : ℕ) (b : Base) (bs : List Base) (t : Bool) → nat_eq n b.full ≡ t → slice_get all k ≡ Some b
    → base_in all (base_place n (suc k) bs) ≡ base_at bs n
    → base_in all (if t then Some k else base_place n (suc k) bs) ≡ (if nat_eq b.full n then Some b else base_at bs n)
finds_if n all k b bs true e there rest = there ∙ sym (ap (λ (t : Bool). if t then Some b else base_at bs n) (nat_eq_equiv.symm b.full n ∙ e))
finds_if n all k b bs false e there rest = rest ∙ sym (ap (λ (t : Bool). if t then Some b else base_at bs n) (nat_eq_equiv.symm b.full n ∙ e))

-- the class at the place of the first of a number is the first of that number
finds : (n : ℕ) (all : List Base) (k : ℕ) (bs : List Base) → drop k all ≡ bs → base_in all (base_place n k bs) ≡ base_at bs n
finds n all k [] h = refl
finds n all k (b ∷ bs) h =
    let there = base_there all k b bs h in
    finds_if n all k b bs (nat_eq n b.full) refl there.0 (finds n all (suc k) bs there.1)

-- places of the classes from place k on
abbrev pub PlacedFrom : (k : ℕ) → List Base → List (ℕ × ℕ) → Type 0
PlacedFrom k bs places = (n : ℕ) → lookup (nat_eq n) places ≡ base_place n k (drop k bs)

-- one more class
pub placed_more : (all : List Base) (k : ℕ) (b : Base) (places new : List (ℕ × ℕ)) → drop k all ≡ b ∷ drop (suc k) all → PlacedFrom (suc k) all places
    → new ≡ insert_entry nat_eq places b.full k → PlacedFrom k all new
placed_more all k b places new d old made n =
    ap (λ (es : List (ℕ × ℕ)). lookup (nat_eq n) es) made
    ∙ lookup_inserted nat_eq_equiv b.full k n places
    ∙ ap (λ (o : Option ℕ). if nat_eq n b.full then Some k else o) (old n)
    ∙ sym (ap (base_place n k) d)

-- what a number leads to
pub led : (n : ℕ) (all : List Base) (places : List (ℕ × ℕ)) (found : Option ℕ) → Placed all places → found ≡ lookup (nat_eq n) places → base_in all found ≡ base_at all n
led n all places found placed is = ap (base_in all) (is ∙ placed n) ∙ finds n all 0 all refl
