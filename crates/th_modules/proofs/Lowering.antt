-- The least failure that is kept, of several collections.
use Rattle.std.proofs.Common.{◌≡◌, ℕ, zero, suc, ◌<◌, map, List, [], ◌∷◌, length, get_or, drop, Option, Some, None, refl, sym, subst, ◌⊎◌, inl, inr}
use Rattle.th_tree.specs.Trees.{ModuleItemSyn}
use Rattle.th_type.specs.declared.place.Failure.{Failure}
use Rattle.th_type.specs.Failures.{lowest, IsLeastOf}
use Rattle.th_type.specs.Lists.{IsIn}
use Rattle.th_type.proofs.Least.{least_alike, least_lowest}
use Rattle.th_type.proofs.Members.{in_map}
use Rattle.th_hier.proofs.Failing.{next_item}
use Rattle.th_overrides.proofs.Leasts.{least_after, least_same}
use Rattle.th_modules.specs.Lowering.{Lowers, InItems, ItemFails}
use Rattle.th_module_rules.specs.Modules.{Judged, ModuleFails}

-- nothing more is kept where nothing more fails
pub lowers_none : (P : Failure → Type 0) (o : Option Failure) → ((g : Failure) → ¬ P g) → Lowers P o o
lowers_none P o h = least_same P o h

-- what is kept is the least of itself
pub least_self : (o : Option Failure) → IsLeastOf (λ f. o ≡ Some f) o
least_self o = least_alike (λ f. (o ≡ Some f) ⊎ ⊥) (λ f. o ≡ Some f) o (λ g q. elim q [ inl p ↦ p | inr n ↦ absurd n ]) (λ g p. inl p) (least_same (λ f. ⊥) o (λ f n. n))

-- the failures of a list
pub lowers_list : (o new : Option Failure) (fs : List Failure) → new ≡ lowest o fs → Lowers (λ f. IsIn f fs) o new
lowers_list o new fs e = subst (λ n. Lowers (λ f. IsIn f fs) o n) (sym e) (least_lowest (λ g. o ≡ Some g) o fs (least_self o))

-- alike collections
pub lowers_alike : (P Q : Failure → Type 0) (o new : Option Failure) → ((g : Failure) → P g → Q g) → ((g : Failure) → Q g → P g) → Lowers P o new → Lowers Q o new
lowers_alike P Q o new forth back h =
    least_alike (λ g. (o ≡ Some g) ⊎ P g) (λ g. (o ≡ Some g) ⊎ Q g) new
    (λ g q. elim q [ inl p ↦ inl p | inr n ↦ inr (forth g n) ]) (λ g q. elim q [ inl p ↦ inl p | inr n ↦ inr (back g n) ]) h

-- one collection after the other
pub lowers_both : (P Q : Failure → Type 0) (o mid new : Option Failure) → Lowers P o mid → Lowers Q mid new → Lowers (λ g. P g ⊎ Q g) o new
lowers_both P Q o mid new a b = least_after o mid new P Q a b

-- a list, and then another collection
pub lowers_after : (P : Failure → Type 0) (fs : List Failure) (o mid new : Option Failure) → mid ≡ lowest o fs → Lowers P mid new → Lowers (λ f. IsIn f fs ⊎ P f) o new
lowers_after P fs o mid new e h = lowers_both (λ f. IsIn f fs) P o mid new (lowers_list o mid fs e) h

-- where nothing is kept, nothing was kept before
pub lowered_none : (P : Failure → Type 0) (o : Option Failure) → Lowers P o None → o ≡ None
lowered_none P None h = refl
lowered_none P (Some f) h = absurd (h f (inl refl))

-- the items that are left, after the next of them
pub next_items : (J : Judged) (xs : List ModuleItemSyn) (x : ModuleItemSyn) (rest : List ModuleItemSyn) (o mid new : Option Failure)
    → xs ≡ x ∷ rest → Lowers (ItemFails J x) o mid → Lowers (InItems J rest) mid new → Lowers (InItems J xs) o new
next_items J xs x rest o mid new e a b =
    subst (λ ys. Lowers (InItems J ys) o new) (sym e)
    (lowers_alike (λ g. ItemFails J x g ⊎ InItems J rest g) (InItems J (x ∷ rest)) o new (λ g q. q) (λ g q. q) (lowers_both (ItemFails J x) (InItems J rest) o mid new a b))

items_forth : (J : Judged) (xs : List ModuleItemSyn) (f : Failure) → InItems J xs f → (x : ModuleItemSyn) × IsIn x xs × ItemFails J x f
items_forth J [] f h = absurd h
items_forth J (x ∷ xs) f (inl h) = (x, inl refl, h)
items_forth J (x ∷ xs) f (inr h) = let r = items_forth J xs f h in (r.0, inr r.1, r.2)

items_back : (J : Judged) (xs : List ModuleItemSyn) (f : Failure) (x : ModuleItemSyn) → IsIn x xs → ItemFails J x f → InItems J xs f
items_back J [] f x m h = absurd m
items_back J (y ∷ xs) f x (inl e) h = inl (subst (λ z. ItemFails J z f) e h)
items_back J (y ∷ xs) f x (inr m) h = inr (items_back J xs f x m h)

-- the failures in a module are those in its items
pub module_lowers : (J : Judged) (o new : Option Failure) → Lowers (InItems J J.tree.items) o new → Lowers (ModuleFails J) o new
module_lowers J o new h =
    lowers_alike (InItems J J.tree.items) (ModuleFails J) o new
    (λ f q. let r = items_forth J J.tree.items f q in (r.0, r.2.0, r.1, r.2.1, r.2.2))
    (λ f q. items_back J J.tree.items f q.0 q.2 (q.1, q.3, q.4)) h

in_dropped : {A : Type 0} (i : ℕ) (xs : List A) (x : A) → IsIn x (drop i xs) → IsIn x xs
in_dropped zero xs x h = h
in_dropped (suc i) [] x h = h
in_dropped (suc i) (y ∷ ys) x h = inr (in_dropped i ys x h)

-- an element of a list
pub item_there : {A B : Type 0} (f : A → B) (xs : List A) (i : ℕ) (x : A) → i < length xs → x ≡ get_or xs i x → IsIn (f x) (map f xs)
item_there f xs i x below is = in_map f x xs (in_dropped i xs x (subst (λ ys. IsIn x ys) (sym (next_item xs i x below is)) (inl refl)))

-- where nothing is kept after an item, nothing was kept before
pub item_none : (J : Judged) (x : ModuleItemSyn) (o new : Option Failure) → Lowers (ItemFails J x) o new → new ≡ None → o ≡ None
item_none J x o new h e = lowered_none (ItemFails J x) o (subst (λ n. Lowers (ItemFails J x) o n) e h)

-- nothing fails in no item
pub no_items : (J : Judged) (o : Option Failure) → Lowers (InItems J []) o o
no_items J o = lowers_none (InItems J []) o (λ g h. h)
