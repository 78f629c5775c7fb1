-- Supertypes, and the header words over them.
use Rattle.std.proofs.Common.{◌≡◌, refl, sym, ap, ◌∙◌, ℕ, zero, suc, ◌+◌, ◌-◌, ◌<◌, ◌≤◌, map, take, length, get_or, sum, Bool, true, false, cond, ◌||◌, List, [], ◌∷◌, ◌++◌, Option, Some, None, option_map, slice_get, nat_eq, arith}
use Rattle.std.proofs.lemmas.List.{map-append, take_more}
use Rattle.std.proofs.lemmas.List.Sums.{sum_by_push}
use Rattle.std.proofs.Math.Dec.{eqb-suc-zero}
use Rattle.th_meaning.specs.declared.types.CoreType.{CoreType}
use Rattle.th_meaning.specs.declared.declared.CoreTypeDecl.{CoreTypeDecl}
use Rattle.th_meaning.specs.Trees.{TypeTree, TypeTrees, named_type}
use Rattle.th_meaning.specs.View.{type_of, type_decl_of}
use Rattle.th_meaning.specs.Program.{Program, type_named}
use Rattle.th_meaning.specs.Weights.{substituted, type_list, same_type, holds_of, supertypes, supertypes_of, words_within, first_reaches, steps_up, type_words}
use Rattle.th_weights.specs.declared.words.Open.{Open}
use Rattle.th_weights.specs.declared.types.Reach.{Reach}
use Rattle.th_weights.specs.declared.types.Reach.TheVariants.{Here, Above, Nowhere}
use Rattle.th_weights.specs.Open.{words_of}
use Rattle.th_weights.specs.Supers.{reached}

-- a type without a declaration
pub declared_none : (p : Program) (n : List ℕ) (ts : TypeTrees) → None ≡ type_named p n → supertypes p (named_type n ts) ≡ []
declared_none p n ts h = ap (λ o. supertypes_of o ts) (sym h)

-- a type with one
pub declared_some : (p : Program) (n : List ℕ) (ts : TypeTrees) (d : CoreTypeDecl) → Some (type_decl_of d) ≡ type_named p n
    → supertypes p (named_type n ts) ≡ map (substituted (type_list ts)) (map type_of d.supertypes.items)
declared_some p n ts d h = ap (λ o. supertypes_of o ts) (sym h)

-- the first of a list that is mapped
pub first_mapped : {A B : Type 0} → (f : A → B) (xs : List A) (o : Option A) → slice_get xs 0 ≡ o → slice_get (map f xs) 0 ≡ option_map f o
first_mapped f [] o h = ap (option_map f) h
first_mapped f (x ∷ xs) o h = ap (option_map f) h

-- the type is the other one
pub reaches_here : (p : Program) (n : ℕ) (u t : TypeTree) → same_type t u ≡ true → first_reaches (suc n) p u t ≡ true
reaches_here p n u t h = ap (λ b. b || holds_of (slice_get (supertypes p t) 0) (first_reaches n p u)) h

-- it is on the chain of the first supertype
pub reaches_above : (p : Program) (n : ℕ) (u t a : TypeTree) → same_type t u ≡ false → slice_get (supertypes p t) 0 ≡ Some a → first_reaches (suc n) p u t ≡ first_reaches n p u a
reaches_above p n u t a h is = ap (λ b. b || holds_of (slice_get (supertypes p t) 0) (first_reaches n p u)) h ∙ ap (λ o. holds_of o (first_reaches n p u)) is

-- there is no supertype
pub reaches_none : (p : Program) (n : ℕ) (u t : TypeTree) → same_type t u ≡ false → slice_get (supertypes p t) 0 ≡ None → first_reaches (suc n) p u t ≡ false
reaches_none p n u t h is = ap (λ b. b || holds_of (slice_get (supertypes p t) 0) (first_reaches n p u)) h ∙ ap (λ o. holds_of o (first_reaches n p u)) is

words_by : (b : Bool) (x y : ℕ) → b ≡ false → cond b x y ≡ y
words_by true x y h = cc
words_by false x y h = refl

no_length : {A B : Type 0} → (f : A → B) (xs : List A) (ts : List B) → map f xs ≡ ts → length xs ≡ 0 → nat_eq (length ts) 0 ≡ true
no_length f [] ts h e = ap (λ l. nat_eq (length l) 0) (sym h)
no_length f (x ∷ xs) ts h e = absurd (omega (arith, e))

some_length : {A B : Type 0} → (f : A → B) (xs : List A) (ts : List B) → map f xs ≡ ts → (length xs ≡ 0 → ⊥) → nat_eq (length ts) 0 ≡ false
some_length f [] ts h e = absurd (e refl)
some_length f (x ∷ xs) ts h e = ap (λ l. nat_eq (length l) 0) (sym h) ∙ eqb-suc-zero (length (map f xs))

-- a type without supertypes has one header word
pub words_leaf : (p : Program) (n : ℕ) (t : TypeTree) (above : List CoreType) → map type_of above ≡ supertypes p t → length above ≡ 0 → words_within n p t ≡ 1
words_leaf p zero t above h e = refl
words_leaf p (suc n) t above h e = ap (λ b. cond b 1 (sum (map (words_within n p) (supertypes p t)))) (no_length type_of above (supertypes p t) h e)

-- one with supertypes has theirs
pub words_node : (p : Program) (n : ℕ) (t : TypeTree) (above : List CoreType) → map type_of above ≡ supertypes p t → (length above ≡ 0 → ⊥)
    → sum (map (words_within n p) (map type_of above)) ≡ words_within (suc n) p t
words_node p n t above h e =
    ap (λ ts. sum (map (words_within n p) ts)) h
    ∙ sym (ap (λ b. cond b 1 (sum (map (words_within n p) (supertypes p t)))) (some_length type_of above (supertypes p t) h e))

-- an open type more
pub words_snoc : (p : Program) (left : List Open) (o : Open) → words_of p (left ++ o ∷ []) ≡ words_of p left + words_within o.steps p (type_of o.of)
words_snoc p left o = sum_by_push (λ x. words_within x.steps p (type_of x.of)) left o

map_snoc_sum : {A B : Type 0} → (f : B → ℕ) (g : A → B) (xs : List A) (x : A) → sum (map f (map g (xs ++ x ∷ []))) ≡ sum (map f (map g xs)) + f (g x)
map_snoc_sum f g xs x =
    ap (λ ys. sum (map f ys)) (map-append g xs (x ∷ []))
    ∙ ap sum (map-append f (map g xs) (g x ∷ []))
    ∙ sum_by_push (λ n. n) (map f (map g xs)) (f (g x))

-- the words of one type more
pub open_more : (p : Program) (steps i : ℕ) (types : List CoreType) (x : CoreType) → i < length types → x ≡ get_or types i x
    → sum (map (words_within steps p) (map type_of (take (i + 1) types))) ≡ sum (map (words_within steps p) (map type_of (take i types))) + words_within steps p (type_of x)
open_more p steps i types x below is =
    ap (λ xs. sum (map (words_within steps p) (map type_of xs))) (take_more types i x below)
    ∙ ap (λ y. sum (map (words_within steps p) (map type_of (take i types ++ y ∷ [])))) (sym is)
    ∙ map_snoc_sum (words_within steps p) type_of (take i types) x

sum_up : (a b o s s2 w1 w2 : ℕ) → a ≡ b + w1 → b ≡ o + s → s2 ≡ s + w2 → w1 ≡ w2 → a ≡ o + s2
sum_up a b o s s2 w1 w2 h i j k = omega (arith, h, i, j, k)

-- a type that is opened
pub opens_one : (p : Program) (old now new : List Open) (steps i : ℕ) (types : List CoreType) (x of : CoreType) → i < length types → x ≡ get_or types i x → type_of of ≡ type_of x
    → new ≡ now ++ record { steps = steps; of = of } ∷ [] → words_of p now ≡ words_of p old + sum (map (words_within steps p) (map type_of (take i types)))
    → words_of p new ≡ words_of p old + sum (map (words_within steps p) (map type_of (take (i + 1) types)))
opens_one p old now new steps i types x of below is same more so =
    sum_up (words_of p new) (words_of p now) (words_of p old) (sum (map (words_within steps p) (map type_of (take i types)))) (sum (map (words_within steps p) (map type_of (take (i + 1) types))))
    (words_within steps p (type_of of)) (words_within steps p (type_of x)) (ap (words_of p) more ∙ words_snoc p now (record { steps = steps; of = of })) so (open_more p steps i types x below is)
    (ap (words_within steps p) same)

-- the first type that is opened
pub words_begin : (p : Program) (items : List Open) (count : ℕ) (of this : CoreType) → items ≡ record { steps = count; of = of } ∷ [] → count ≡ steps_up p → type_of of ≡ type_of this
    → 0 + words_of p items ≡ type_words p (type_of this)
words_begin p items count of this is counts same =
    let z : 0 + words_within count p (type_of of) ≡ words_within count p (type_of of) = omega arith in
    let a : words_of p items ≡ words_within count p (type_of of) = ap (words_of p) is ∙ z in
    let b : 0 + words_of p items ≡ words_within count p (type_of of) = omega (arith, a) in
    b ∙ ap (λ n. words_within n p (type_of of)) counts ∙ ap (words_within (steps_up p) p) same

turn_up : (m a w b r x t : ℕ) → b ≡ r + x → w + b ≡ t → m + a ≡ w + (r + x) → m + a ≡ t
turn_up m a w b r x t h i j = omega (arith, h, i, j)

-- a type that is counted or opened
pub words_turn : (p : Program) (more words t : ℕ) (before rest after : List Open) (next : Open) → before ≡ rest ++ next ∷ [] → words + words_of p before ≡ t
    → more + words_of p after ≡ words + (words_of p rest + words_within next.steps p (type_of next.of)) → more + words_of p after ≡ t
words_turn p more words t before rest after next is so then =
    turn_up more (words_of p after) words (words_of p before) (words_of p rest) (words_within next.steps p (type_of next.of)) t (ap (words_of p) is ∙ words_snoc p rest next) so then

-- no type is open
pub words_end : (p : Program) (words t : ℕ) (before : List Open) → before ≡ [] → words + words_of p before ≡ t → words ≡ t
words_end p words t before is so = let a : words_of p before ≡ 0 = ap (words_of p) is in omega (arith, a, so)

count_up : (m w o x : ℕ) → m ≡ w + 1 → x ≡ 1 → m + o ≡ w + (o + x)
count_up m w o x h i = omega (arith, h, i)

pub count_zero : (p : Program) (more words o steps : ℕ) (t : TypeTree) → more ≡ words + 1 → steps ≡ 0 → more + o ≡ words + (o + words_within steps p t)
count_zero p more words o steps t h none = count_up more words o (words_within steps p t) h (ap (λ n. words_within n p t) none)

pub count_leaf : (p : Program) (more words o steps : ℕ) (t : TypeTree) (above : List CoreType) → more ≡ words + 1 → map type_of above ≡ supertypes p t → length above ≡ 0
    → more + o ≡ words + (o + words_within steps p t)
count_leaf p more words o steps t above h is none = count_up more words o (words_within steps p t) h (words_leaf p steps t above is none)

pred_of : (n : ℕ) → (n ≡ 0 → ⊥) → n ≡ suc (n - 1)
pred_of zero h = absurd (h refl)
pred_of (suc n) h = omega arith

pub count_node : (p : Program) (words o new steps : ℕ) (t : TypeTree) (above : List CoreType) → (steps ≡ 0 → ⊥) → map type_of above ≡ supertypes p t → (length above ≡ 0 → ⊥)
    → new ≡ o + sum (map (words_within (steps - 1) p) (map type_of above)) → words + new ≡ words + (o + words_within steps p t)
count_node p words o new steps t above some is there so =
    let e : steps ≡ suc (steps - 1) = pred_of steps some in
    ap (λ n. words + n) (so ∙ ap (λ n. o + n) (words_node p (steps - 1) t above is there ∙ sym (ap (λ n. words_within n p t) e)))

-- before the first step
pub reach_begins : (p : Program) (count : ℕ) (u t at : TypeTree) → count ≡ steps_up p → at ≡ t → first_reaches (steps_up p) p u t ≡ first_reaches (count - 0) p u at
reach_begins p count u t at h same =
    let e : steps_up p ≡ count - 0 = omega (arith, h) in
    ap (λ n. first_reaches n p u t) e ∙ ap (first_reaches (count - 0) p u) (sym same)

-- a step of a walk
reach_step : (p : Program) (count step : ℕ) (u at : TypeTree) (b : Bool) (found : Reach) → step < count → b ≡ first_reaches (count - step) p u at
    → ((n : ℕ) → first_reaches (suc n) p u at ≡ reached p u n found) → b ≡ reached p u (count - (step + 1)) found
reach_step p count step u at b found below so is =
    let e : count - step ≡ suc (count - (step + 1)) = omega (arith, below) in
    so ∙ ap (λ n. first_reaches n p u at) e ∙ is (count - (step + 1))

-- a step of a walk that finds the type
pub reach_here : (p : Program) (count step : ℕ) (u at : TypeTree) (b : Bool) (found : Reach) → step < count → b ≡ first_reaches (count - step) p u at
    → ((n : ℕ) → first_reaches (suc n) p u at ≡ reached p u n found) → found ≡ Here → true ≡ b
reach_here p count step u at b found below so is here = sym (reach_step p count step u at b found below so is ∙ ap (reached p u (count - (step + 1))) here)

-- one that ends
pub reach_nowhere : (p : Program) (count step : ℕ) (u at : TypeTree) (b : Bool) (found : Reach) → step < count → b ≡ first_reaches (count - step) p u at
    → ((n : ℕ) → first_reaches (suc n) p u at ≡ reached p u n found) → found ≡ Nowhere → false ≡ b
reach_nowhere p count step u at b found below so is nowhere = sym (reach_step p count step u at b found below so is ∙ ap (reached p u (count - (step + 1))) nowhere)

-- one that goes on
pub reach_on : (p : Program) (count step : ℕ) (u at : TypeTree) (b : Bool) (found : Reach) (up : CoreType) → step < count → b ≡ first_reaches (count - step) p u at
    → ((n : ℕ) → first_reaches (suc n) p u at ≡ reached p u n found) → found ≡ Above up → b ≡ first_reaches (count - (step + 1)) p u (type_of up)
reach_on p count step u at b found up below so is above = reach_step p count step u at b found below so is ∙ ap (reached p u (count - (step + 1))) above

-- after the last step
pub reach_full : (p : Program) (count step : ℕ) (u at : TypeTree) (b : Bool) → count ≤ step → b ≡ first_reaches (count - step) p u at → b ≡ same_type at u
reach_full p count step u at b past so = let e : count - step ≡ 0 = omega (arith, past) in so ∙ ap (λ n. first_reaches n p u at) e
