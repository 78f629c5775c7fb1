-- The types seen at each header word, and the methods of all types seen.
use Rattle.std.proofs.Common.{◌≡◌, ℕ, zero, suc, ◌+◌, ◌<◌, ◌≤◌, List, [], ◌∷◌, ◌++◌, length, get_or, drop, Bool, true, false, nat_eq, cond, refl, sym, ap, ◌∙◌, subst, ◌⊎◌, inl, inr, arith, Option, Some, None, drop-cons, add-one, append_assoc, eq-eqb, le_refl}
use Rattle.std.proofs.lemmas.Bool.{cases_Bool, eqb-true}
use Rattle.std.proofs.lemmas.List.Kept.{Contains-dedup_nat, Contains-from_dedup}
use Rattle.std.proofs.lemmas.List.Sorted.{Contains-permutation, IsPermutation-sym}
use Rattle.std.proofs.lemmas.Map.Keys.{IsStrictlyIncreasing-dedup}
use Rattle.std.specs.List.{Contains, dedup}
use Rattle.std.specs.List.Sorted.{IsPermutation, IsSorted, IsStrictlyIncreasing}
use Rattle.std.specs.Ordering.{nat_cmp}
use Rattle.std.specs.Prelude.{slice_get, option_map}
use Rattle.std.specs.HashMap.{get}
use Rattle.th_views.specs.declared.TypeRow.{TypeRow}
use Rattle.th_views.specs.declared.Spot.{Spot}
use Rattle.th_views.specs.declared.ClassRow.{ClassRow}
use Rattle.th_views.specs.Chain.{Link, start, words}
use Rattle.th_views.specs.Listed.{spots, lowered, HasSpot}
use Rattle.th_views.specs.Lookups.{type_number, SeesAt, IsView}
use Rattle.th_views.specs.Objects.{object_spots}
use Rattle.th_views.specs.Rows.{Program, tree_of, chain_of, climb, linked, inherited, inherits_in, Ordered}
use Rattle.th_offsets.specs.declared.maps.Offsets.{Offsets}
use Rattle.th_offsets.specs.declared.objects.Object.{Object}
use Rattle.th_offsets.specs.declared.seen_words.WordTypes.{WordTypes}
use Rattle.th_offsets.specs.declared.views.Spots.{Spots}
use Rattle.th_offsets.specs.Known.{Viewed, ViewedAt, Within, Typed, TypedAt, Formed, IsObject, numbers_at, number_at, number_in, EachView, ViewGot, WordsViewed, WordTypesAt, Owned, OwnedAt}
use Rattle.th_offsets.specs.Maps.{offset_in}
use Rattle.th_offsets.proofs.Pushed.{push_each, within_more, within_append, within_lowered, within_grow}
use Rattle.th_offsets.proofs.Seeing.{object_got}

pub viewed_got : (l : List Spots) (n : ℕ) (d : Spots) (chain : List Link) → n < length l → ViewedAt (slice_get l n) chain → (get_or l n d).list.items ≡ object_spots chain
viewed_got [] n d chain h g = absurd (omega arith)
viewed_got (x ∷ xs) zero d chain h g = g
viewed_got (x ∷ xs) (suc n) d chain h g = viewed_got xs n d chain (omega arith) g

-- the types that an object sees are the program's
within_tree : (types : List TypeRow) → Ordered types → (t : ℕ) → t < length types → Within (length types) (spots (tree_of types t))
within_tree types o t h = within_more (suc t) (length types) (spots (tree_of types t)) (omega arith) (within_grow types o t t (le_refl t))

within_linked : (p : Program) → Ordered p.types → (n : ℕ) → TypedAt (length p.types) (slice_get p.classes n) → (rest : List Link) → Within (length p.types) (object_spots rest)
    → Within (length p.types) (object_spots (linked p.types (slice_get p.classes n) rest))
within_linked p o n t rest w = by (slice_get p.classes n) t
  where
    by : (x : Option ClassRow) → TypedAt (length p.types) x → Within (length p.types) (object_spots (linked p.types x rest))
    by None t = tt
    by (Some c) t = within_append (length p.types) (lowered (start (linked p.types (Some c) rest)) (spots (tree_of p.types c.of))) (object_spots rest)
        (within_lowered (length p.types) (start (linked p.types (Some c) rest)) (spots (tree_of p.types c.of)) (within_tree p.types o c.of t)) w

within_inherited : (p : Program) (h : ℕ) (d : Option ℕ) → ((k : ℕ) → Within (length p.types) (object_spots (climb p h k))) → Within (length p.types) (object_spots (inherited (climb p h) d))
within_inherited p h None again = tt
within_inherited p h (Some k) again = again k

pub within_chain : (p : Program) → Ordered p.types → Typed p → (h n : ℕ) → Within (length p.types) (object_spots (climb p h n))
within_chain p o t zero n = within_linked p o n (t n) [] tt
within_chain p o t (suc h) n = within_linked p o n (t n) (inherited (climb p h) (inherits_in (slice_get p.classes n)))
    (within_inherited p h (inherits_in (slice_get p.classes n)) (λ k. within_chain p o t h k))

pub within_seen : (p : Program) (c : ℕ) (l : List Spot) → Ordered p.types → Typed p → l ≡ object_spots (chain_of p c) → Within (length p.types) l
within_seen p c l o t e = subst (Within (length p.types)) (sym e) (within_chain p o t c c)

pub viewed_is : (p : Program) (seen : List Spots) (k : ℕ) (d : Spots) (l : List Spot) → length seen ≡ length p.classes → k < length p.classes → Viewed p seen → l ≡ (get_or seen k d).list.items → l ≡ object_spots (chain_of p k)
viewed_is p seen k d l m h v f = let i : k < length seen = omega arith in f ∙ viewed_got seen k d (chain_of p k) i (v k i)

pub words_at : (p : Program) (objects : List Object) (k : ℕ) (d : Object) → length objects ≡ length p.classes → k < length p.classes → Formed p objects → (get_or objects k d).words ≡ words (chain_of p k)
words_at p objects k d m h f = let i : k < length objects = omega arith in (object_got objects k d (chain_of p k) i (f k i)).words

pub owned_push : (p : Program) (done all : List Offsets) (x : Offsets) (n : ℕ) (l : List Spot) → length done ≡ n → Owned p done → l ≡ object_spots (chain_of p n)
    → ((q : ℕ) → get nat_eq x.bytes q ≡ offset_in p.types l q) → all ≡ done ++ x ∷ [] → Owned p all
owned_push p done all x n l m d e g a =
    let z : OwnedAt (Some x) p n = λ q. g q ∙ ap (λ y. offset_in p.types y q) e in
    subst (Owned p) (sym a) (push_each (λ k o. OwnedAt o p k) done x d (subst (λ k. OwnedAt (Some x) p k) (sym m) z))

pub views_push : (types : List TypeRow) (seen : List Spot) (done all : List (List ℕ)) (x : List ℕ) (n : ℕ) → length done ≡ n → EachView types seen done → IsView types seen n x → all ≡ done ++ x ∷ [] → EachView types seen all
views_push types seen done all x n m d v a = subst (EachView types seen) (sym a) (push_each (λ w o. ViewGot types seen w o) done x d (subst (λ w. IsView types seen w x) (sym m) v))

pub words_push : (p : Program) (done all : List WordTypes) (x : WordTypes) (n : ℕ) (l : List Spot) (w : ℕ) → length done ≡ n → WordsViewed p done → l ≡ object_spots (chain_of p n) → w ≡ words (chain_of p n)
    → length x.at.items ≡ w → EachView p.types l x.at.items → all ≡ done ++ x ∷ [] → WordsViewed p all
words_push p done all x n l w m d e f g v a =
    let z : WordTypesAt (Some x) p n = (g ∙ f, subst (λ s. EachView p.types s x.at.items) e v) in
    subst (WordsViewed p) (sym a) (push_each (λ k o. WordTypesAt o p k) done x d (subst (λ k. WordTypesAt (Some x) p k) (sym m) z))

-- members of the numbers at a word
contains_head : (x : ℕ) (xs : List ℕ) → Contains (x ∷ xs) x
contains_head x xs = (0, omega arith, refl)

contains_tail : (x y : ℕ) (xs : List ℕ) → Contains xs y → Contains (x ∷ xs) y
contains_tail x y xs c = let h : c.0 < length xs = c.1 in (suc c.0, omega arith, c.2)

contains_split : (x y : ℕ) (xs : List ℕ) → Contains (x ∷ xs) y → (x ≡ y) ⊎ Contains xs y
contains_split x y xs c = by c.0 c.1 c.2
  where
    by : (k : ℕ) → k < length (x ∷ xs) → get_or (x ∷ xs) k y ≡ y → (x ≡ y) ⊎ Contains xs y
    by zero h e = inl e
    by (suc k) h e = inr (k, omega arith, e)

number_got : (types : List TypeRow) (k : ℕ) → k < length types → type_number types k ≡ Some (number_at types k)
number_got [] k h = absurd (omega arith)
number_got (x ∷ xs) zero h = refl
number_got (x ∷ xs) (suc k) h = number_got xs k (omega arith)

number_by : (o : Option TypeRow) (n : ℕ) → option_map (λ r. r.name) o ≡ Some n → number_in o ≡ n
number_by None n e = absurd (cc)
number_by (Some r) n e = cc

numbers_sound : (types : List TypeRow) (l : List Spot) (w n : ℕ) → Within (length types) l → Contains (numbers_at types l w) n → SeesAt types l w n
numbers_sound types [] w n h c = let k : c.0 < 0 = c.1 in absurd (omega arith)
numbers_sound types (s ∷ ss) w n h c = by (cases_Bool (nat_eq s.word w)) (numbers_sound types ss w n h.1)
  where
    later : SeesAt types ss w n → SeesAt types (s ∷ ss) w n
    later r = (r.0, inr r.1, r.2)

    here : (number_at types s.name ≡ n) ⊎ Contains (numbers_at types ss w) n → nat_eq s.word w ≡ true → (Contains (numbers_at types ss w) n → SeesAt types ss w n) → SeesAt types (s ∷ ss) w n
    here (inl e) t again = (s.name, inl (refl, sym (eqb-true s.word w t)), number_got types s.name h.0 ∙ ap Some e)
    here (inr d) t again = later (again d)

    by : (nat_eq s.word w ≡ true) ⊎ (nat_eq s.word w ≡ false) → (Contains (numbers_at types ss w) n → SeesAt types ss w n) → SeesAt types (s ∷ ss) w n
    by (inl t) again = here (contains_split (number_at types s.name) n (numbers_at types ss w) (rw t at c)) t again
    by (inr f) again = later (again (rw f at c))

numbers_whole : (types : List TypeRow) (l : List Spot) (w n t : ℕ) → HasSpot l t w → type_number types t ≡ Some n → Contains (numbers_at types l w) n
numbers_whole types [] w n t h e = absurd h
numbers_whole types (s ∷ ss) w n t h e = by h (λ d. numbers_whole types ss w n t d e)
  where
    skip : (b : Bool) → Contains (numbers_at types ss w) n → Contains (cond b (number_at types s.name ∷ numbers_at types ss w) (numbers_at types ss w)) n
    skip true d = contains_tail (number_at types s.name) n (numbers_at types ss w) d
    skip false d = d

    by : ((t ≡ s.name) × (w ≡ s.word)) ⊎ HasSpot ss t w → (HasSpot ss t w → Contains (numbers_at types ss w) n) → Contains (numbers_at types (s ∷ ss) w) n
    by (inl g) again =
        let q : number_at types s.name ≡ n = ap (number_at types) (sym g.0) ∙ number_by (slice_get types t) n e in
        let z : nat_eq s.word w ≡ true = eq-eqb s.word w (sym g.1) in
        rw z (subst (λ m. Contains (number_at types s.name ∷ numbers_at types ss w) m) q (contains_head (number_at types s.name) (numbers_at types ss w)))
    by (inr d) again = skip (nat_eq s.word w) (again d)

pub number_is : (types : List TypeRow) (k : ℕ) (r : TypeRow) → k < length types → (get_or types k r).name ≡ number_at types k
number_is [] k r h = absurd (omega arith)
number_is (x ∷ xs) zero r h = refl
number_is (x ∷ xs) (suc k) r h = number_is xs k r (omega arith)

pub view_made : (types : List TypeRow) (seen : List Spot) (w : ℕ) (xs ys zs : List ℕ) → Within (length types) seen → xs ≡ numbers_at types seen w → IsPermutation xs ys → IsSorted nat_cmp ys → zs ≡ dedup nat_eq ys → IsView types seen w zs
view_made types seen w xs ys zs h e p s d = record {
  ascending = subst IsStrictlyIncreasing (sym d) (IsStrictlyIncreasing-dedup ys s);
  sound = λ n c. numbers_sound types seen w n h (subst (λ l. Contains l n) e (Contains-permutation ys xs n (IsPermutation-sym xs ys p) (Contains-from_dedup nat_eq ys n (subst (λ l. Contains l n) d c))));
  whole = λ n g. subst (λ l. Contains l n) (sym d) (Contains-dedup_nat ys n (Contains-permutation xs ys n p (subst (λ l. Contains l n) (sym e) (numbers_whole types seen w n g.0 g.1 g.2))));
}
