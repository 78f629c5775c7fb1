-- The weights of objects.
use Rattle.std.proofs.Common.{◌≡◌, refl, sym, ap, ◌∙◌, subst, ℕ, zero, suc, ◌+◌, ◌-◌, ◌*◌, ◌<◌, ◌≤◌, ◌⊎◌, inl, inr, length, sum_by, Bool, true, false, cond, List, [], ◌∷◌, ◌++◌, append_assoc, append-nil, length-append, map, take, Option, Some, None, slice_get, arith}
use Rattle.std.proofs.lemmas.List.{length-map}
use Rattle.std.proofs.lemmas.List.Sums.{sum_by_push, sum_by-cons}
use Rattle.th_meaning.specs.declared.types.CoreTypeList.{CoreTypeList}
use Rattle.th_meaning.specs.declared.declared.CoreClass.{CoreClass}
use Rattle.th_meaning.specs.View.{class_of, field_of, clause_of, type_of, types_of}
use Rattle.th_meaning.specs.Program.{ProgramClass, Program, classes_of, chain, inherited_name}
use Rattle.th_meaning.specs.Weights.{substituted, type_list, arguments, first_reaches, steps_up, type_words, words_over, chain_words, own_words, object_weight}
use Rattle.th_classes.specs.Numbers.{class_number, number_of, above_number, with_above, chain_from}
use Rattle.th_classes.specs.declared.row.ClassRow.{ClassRow}
use Rattle.th_classes.specs.Rows.{IsClassRow, RowIs}
use Rattle.th_classes.proofs.Walking.{chain_numbers}
use Rattle.th_weights.specs.declared.size.Size.{Size}
use Rattle.th_weights.specs.Sizes.{class_at, less_under, less_of, IsSize, IsAt, SizeAt, SizesAre, words_on, weight_from, WeightsFrom, AreWeights}

-- sizes and one more
pub sizes_snoc : (p : Program) (ss : List Size) (cs : List ProgramClass) (s : Size) (c : ProgramClass) → SizesAre p ss cs → IsSize p s c → SizesAre p (ss ++ s ∷ []) (cs ++ c ∷ [])
sizes_snoc p [] [] s c h is = (is, tt)
sizes_snoc p [] (d ∷ cs) s c h is = absurd h
sizes_snoc p (r ∷ ss) [] s c h is = absurd h
sizes_snoc p (r ∷ ss) (d ∷ cs) s c h is = (h.0, sizes_snoc p ss cs s c h.1 is)

-- the size at a place
abbrev pub SizeIs : Program → Option Size → Option ProgramClass → Type 0
SizeIs p None None = Unit {0}
SizeIs p None (Some c) = ⊥
SizeIs p (Some s) None = ⊥
SizeIs p (Some s) (Some c) = IsSize p s c

pub sizes_get : (p : Program) (ss : List Size) (cs : List ProgramClass) (i : ℕ) → SizesAre p ss cs → SizeIs p (slice_get ss i) (slice_get cs i)
sizes_get p [] [] i h = tt
sizes_get p [] (d ∷ cs) i h = absurd h
sizes_get p (r ∷ ss) [] i h = absurd h
sizes_get p (r ∷ ss) (d ∷ cs) zero h = h.0
sizes_get p (r ∷ ss) (d ∷ cs) (suc i) h = sizes_get p ss cs i h.1

over_by : (b : Bool) (w a t : ℕ) → cond b (w - a + t) (w + t) ≡ w - cond b a 0 + t
over_by true w a t = refl
over_by false w a t = omega arith

-- the words of a class over those of the class above it
pub words_over_less : (p : Program) (c a : ProgramClass) (w : ℕ) → words_over p c a w ≡ w - less_under p c (Some a) + type_words p c.head.of
words_over_less p c a w = over_by (first_reaches (steps_up p) p (substituted (arguments c.head.inherits) a.head.of) c.head.of) w (type_words p a.head.of) (type_words p c.head.of)

head_by : (n : ℕ) (p : Program) (k : ℕ) (o : Option ProgramClass) → slice_get (classes_of p) k ≡ o
    → (chain_from (suc n) p (Some k) ≡ []) ⊎ ((a : ProgramClass) × (more : List ProgramClass) × (chain_from (suc n) p (Some k) ≡ a ∷ more) × (class_at p (Some k) ≡ Some a))
head_by n p k None h = inl (ap (λ o. with_above o (λ c. chain_from n p (above_number p c))) h)
head_by n p k (Some c) h = inr (c, chain_from n p (above_number p c), ap (λ o. with_above o (λ d. chain_from n p (above_number p d))) h, h)

-- what stands in a chain first is the class that it begins with
pub chain_head : (n : ℕ) (p : Program) (o : Option ℕ) → (chain_from n p o ≡ []) ⊎ ((a : ProgramClass) × (more : List ProgramClass) × (chain_from n p o ≡ a ∷ more) × (class_at p o ≡ Some a))
chain_head zero p o = inl refl
chain_head (suc n) p None = inl refl
chain_head (suc n) p (Some k) = head_by n p k (slice_get (classes_of p) k) refl

-- the words of a class with the chain of the class that it inherits
chain_with : (p : Program) (c : ProgramClass) (rest : List ProgramClass) (ss : List Size) (s : Size) → IsSize p s c → SizesAre p ss rest → chain_words p rest ≡ words_on 0 ss
    → (rest ≡ []) ⊎ ((a : ProgramClass) × (more : List ProgramClass) × (rest ≡ a ∷ more) × (class_at p (above_number p c) ≡ Some a))
    → chain_words p (c ∷ rest) ≡ words_on 0 ss - s.less + s.words
chain_with p c rest ss s is sizes ih (inl none) =
    let w : words_on 0 ss ≡ 0 = sym ih ∙ ap (chain_words p) none in
    let g : type_words p c.head.of ≡ words_on 0 ss - s.less + s.words = omega (arith, w, is.words) in
    ap (λ r. chain_words p (c ∷ r)) none ∙ g
chain_with p c rest ss s is sizes ih (inr h) =
    let less : s.less ≡ less_under p c (Some h.0) = is.less ∙ ap (less_under p c) h.3 in
    ap (λ r. chain_words p (c ∷ r)) h.2
    ∙ words_over_less p c h.0 (chain_words p (h.0 ∷ h.1))
    ∙ ap (λ r. chain_words p r - less_under p c (Some h.0) + type_words p c.head.of) (sym h.2)
    ∙ ap (λ w. w - less_under p c (Some h.0) + type_words p c.head.of) ih
    ∙ ap (λ w. words_on 0 ss - w + type_words p c.head.of) (sym less)
    ∙ ap (λ w. words_on 0 ss - s.less + w) (sym is.words)

chain_by : (n : ℕ) (p : Program) (k : ℕ) (o : Option ProgramClass) (ss : List Size) → slice_get (classes_of p) k ≡ o
    → ((q : Option ℕ) (ts : List Size) → SizesAre p ts (chain_from n p q) → chain_words p (chain_from n p q) ≡ words_on 0 ts)
    → SizesAre p ss (with_above o (λ c. chain_from n p (above_number p c))) → chain_words p (with_above o (λ c. chain_from n p (above_number p c))) ≡ words_on 0 ss
chain_by n p k None [] h ih sizes = refl
chain_by n p k None (s ∷ ss) h ih sizes = absurd sizes
chain_by n p k (Some c) [] h ih sizes = absurd sizes
chain_by n p k (Some c) (s ∷ ss) h ih sizes =
    chain_with p c (chain_from n p (above_number p c)) ss s sizes.0 sizes.1 (ih (above_number p c) ss sizes.1) (chain_head n p (above_number p c))

no_sizes : (p : Program) (ss : List Size) → SizesAre p ss [] → 0 ≡ words_on 0 ss
no_sizes p [] h = refl
no_sizes p (s ∷ ss) h = absurd h

-- the header words over a chain are those over its sizes
pub chain_sum : (n : ℕ) (p : Program) (o : Option ℕ) (ss : List Size) → SizesAre p ss (chain_from n p o) → chain_words p (chain_from n p o) ≡ words_on 0 ss
chain_sum zero p o ss h = no_sizes p ss h
chain_sum (suc n) p None ss h = no_sizes p ss h
chain_sum (suc n) p (Some k) ss h = chain_by n p k (slice_get (classes_of p) k) ss refl (λ q ts. chain_sum n p q ts) h

both_sums : (a b x y : ℕ) → a ≡ b → y ≡ x → x + a ≡ y + b
both_sums a b x y h k = omega (arith, h, k)

-- the words of their own over a chain are those over its sizes
pub own_sum : (p : Program) (ss : List Size) (cs : List ProgramClass) → SizesAre p ss cs → sum_by own_words cs ≡ sum_by (λ s. s.own) ss
own_sum p [] [] h = refl
own_sum p [] (d ∷ cs) h = absurd h
own_sum p (r ∷ ss) [] h = absurd h
own_sum p (r ∷ ss) (d ∷ cs) h =
    sum_by-cons own_words d cs
    ∙ both_sums (sum_by own_words cs) (sum_by (λ s. s.own) ss) (own_words d) r.own (own_sum p ss cs h.1) h.0.own
    ∙ sym (sum_by-cons (λ s. s.own) r ss)

-- the last size first
pub words_last : (w : ℕ) (ss : List Size) (s : Size) → words_on w (ss ++ s ∷ []) ≡ words_on (w - s.less + s.words) ss
words_last w [] s = refl
words_last w (r ∷ ss) s = ap (λ n. n - r.less + r.words) (words_last w ss s)

pub own_last : (ss : List Size) (s : Size) → sum_by (λ x. x.own) (ss ++ s ∷ []) ≡ sum_by (λ x. x.own) ss + s.own
own_last ss s = sum_by_push (λ x. x.own) ss s

own_up : (a b s o o1 u : ℕ) → a ≡ b + s → o1 ≡ o + s → a + o ≡ u → b + o1 ≡ u
own_up a b s o o1 u h i j = omega (arith, h, i, j)

-- the sums with the last size counted
pub sums_step : (left rest : List Size) (s : Size) (less words words1 own own1 t u : ℕ) → left ≡ rest ++ s ∷ [] → less ≡ words - s.less → words1 ≡ less + s.words → own1 ≡ own + s.own
    → words_on words left ≡ t → sum_by (λ x. x.own) left + own ≡ u → (words_on words1 rest ≡ t) × (sum_by (λ x. x.own) rest + own1 ≡ u)
sums_step left rest s less words words1 own own1 t u is sub add more w o = (
  ap (λ n. words_on n rest) (add ∙ ap (λ n. n + s.words) sub) ∙ sym (words_last words rest s) ∙ sym (ap (words_on words) is) ∙ w,
  own_up (sum_by (λ x. x.own) left) (sum_by (λ x. x.own) rest) s.own own own1 u (ap (sum_by (λ x. x.own)) is ∙ own_last rest s) more o,
)

-- the weight by the sums over the sizes
pub weight_is : (p : Program) (k : ℕ) (ss : List Size) (words own : ℕ) → SizesAre p ss (chain_from (length (classes_of p)) p (Some k)) → words ≡ words_on 0 ss → own ≡ sum_by (λ s. s.own) ss
    → 4 * (words + own) ≡ weight_from p k
weight_is p k ss words own h w o =
    let a : words ≡ chain_words p (chain_from (length (classes_of p)) p (Some k)) = w ∙ sym (chain_sum (length (classes_of p)) p (Some k) ss h) in
    let b : own ≡ sum_by own_words (chain_from (length (classes_of p)) p (Some k)) = o ∙ sym (own_sum p ss (chain_from (length (classes_of p)) p (Some k)) h) in
    ap (λ n. 4 * (n + own)) a ∙ ap (λ n. 4 * (chain_words p (chain_from (length (classes_of p)) p (Some k)) + n)) b

-- weights and one more
pub weights_snoc : (p : Program) (k : ℕ) (ws : List ℕ) (w : ℕ) → WeightsFrom p k ws → w ≡ weight_from p (k + length ws) → WeightsFrom p k (ws ++ w ∷ [])
weights_snoc p k [] w h is = let e : k + 0 ≡ k = omega arith in (is ∙ ap (weight_from p) e, tt)
weights_snoc p k (v ∷ ws) w h is = let e : k + suc (length ws) ≡ suc k + length ws = omega arith in (h.0, weights_snoc p (suc k) ws w h.1 (is ∙ ap (weight_from p) e))

pub weights_get : (p : Program) (k : ℕ) (ws : List ℕ) (i w : ℕ) → WeightsFrom p k ws → slice_get ws i ≡ Some w → w ≡ weight_from p (k + i)
weights_get p k [] i w h is = cc
weights_get p k (v ∷ ws) zero w h is = let e : k ≡ k + 0 = omega arith in let f : Some v ≡ Some w = is in let g : v ≡ w = cc in sym g ∙ h.0 ∙ ap (weight_from p) e
weights_get p k (v ∷ ws) (suc i) w h is = let e : suc k + i ≡ k + suc i = omega arith in weights_get p (suc k) ws i w h.1 is ∙ ap (weight_from p) e

-- the weight of a class by its number
pub weight_there : (p : Program) (name : List ℕ) (ws : List ℕ) (k w : ℕ) → AreWeights p ws → class_number p name ≡ Some k → slice_get ws k ≡ Some w → w ≡ object_weight p name
weight_there p name ws k w are number is =
    let e : chain p name ≡ chain_from (length (classes_of p)) p (Some k) = chain_numbers (length (classes_of p)) p name ∙ ap (chain_from (length (classes_of p)) p) number in
    let f : 0 + k ≡ k = omega arith in
    weights_get p 0 ws k w are.each is ∙ ap (weight_from p) f ∙ sym (ap (λ cs. 4 * (chain_words p cs + sum_by own_words cs)) e)

no_weight_of : (p : Program) (name : List ℕ) → chain p name ≡ [] → 0 ≡ object_weight p name
no_weight_of p name e = sym (ap (λ cs. 4 * (chain_words p cs + sum_by own_words cs)) e)

none_from : (n : ℕ) (p : Program) → chain_from n p None ≡ []
none_from zero p = refl
none_from (suc n) p = refl

-- a class that isn't there has no objects
pub no_weight : (p : Program) (name : List ℕ) → class_number p name ≡ None → 0 ≡ object_weight p name
no_weight p name h =
    no_weight_of p name (chain_numbers (length (classes_of p)) p name ∙ ap (chain_from (length (classes_of p)) p) h ∙ none_from (length (classes_of p)) p)

past_end : {A : Type 0} → (xs : List A) (ys : List ℕ) (k : ℕ) → length ys ≡ length xs → slice_get ys k ≡ None → slice_get xs k ≡ None
past_end [] [] k e h = refl
past_end [] (y ∷ ys) k e h = absurd (omega (arith, e))
past_end (x ∷ xs) [] k e h = absurd (omega (arith, e))
past_end (x ∷ xs) (y ∷ ys) zero e h = cc
past_end (x ∷ xs) (y ∷ ys) (suc k) e h = past_end xs ys k (omega (arith, e)) h

gone_from : (n : ℕ) (p : Program) (k : ℕ) → slice_get (classes_of p) k ≡ None → chain_from n p (Some k) ≡ []
gone_from zero p k h = refl
gone_from (suc n) p k h = ap (λ o. with_above o (λ c. chain_from n p (above_number p c))) h

pub weight_gone : (p : Program) (name : List ℕ) (ws : List ℕ) (k : ℕ) → AreWeights p ws → class_number p name ≡ Some k → slice_get ws k ≡ None → 0 ≡ object_weight p name
weight_gone p name ws k are number none =
    no_weight_of p name (chain_numbers (length (classes_of p)) p name ∙ ap (chain_from (length (classes_of p)) p) number ∙ gone_from (length (classes_of p)) p k (past_end (classes_of p) ws k are.all none))

-- the chain from a class on
pub chain_on : (p : Program) (n at : ℕ) (s : Size) (up : Option ℕ) (ss : List Size) → IsAt p at s up → SizesAre p ss (chain_from n p up) → SizesAre p (s ∷ ss) (chain_from (suc n) p (Some at))
chain_on p n at s up ss is sizes =
    subst (SizesAre p (s ∷ ss)) (sym (ap (λ o. with_above o (λ d. chain_from n p (above_number p d))) is.there))
    (is.is, subst (λ o. SizesAre p ss (chain_from n p o)) is.above sizes)

-- no class of this number
pub chain_gone : (p : Program) (n at : ℕ) → slice_get (classes_of p) at ≡ None → SizesAre p [] (chain_from n p (Some at))
chain_gone p n at h = subst (SizesAre p []) (sym (gone_from n p at h)) tt

no_more : (n : ℕ) (p : Program) → SizesAre p [] (chain_from n p None)
no_more n p = subst (SizesAre p []) (sym (none_from n p)) tt

-- what is there of a chain, whatever comes
abbrev pub ChainSo : Program → (chain : List Size) → (steps at : ℕ) → List ProgramClass → Type 0
ChainSo p chain steps at all = (ss : List Size) → SizesAre p ss (chain_from steps p (Some at)) → SizesAre p (chain ++ ss) all

pub chain_step : (p : Program) (chain more : List Size) (count step at up : ℕ) (s : Size) (all : List ProgramClass) → step < count → more ≡ chain ++ s ∷ [] → IsAt p at s (Some up)
    → ChainSo p chain (count - step) at all → ChainSo p more (count - (step + 1)) up all
chain_step p chain more count step at up s all below is there so ss sizes =
    let e : suc (count - (step + 1)) ≡ count - step = omega (arith, below) in
    subst (λ xs. SizesAre p (xs ++ ss) all) (sym is)
    (subst (λ xs. SizesAre p xs all) (sym (append_assoc chain (s ∷ []) ss))
    (so (s ∷ ss) (subst (λ n. SizesAre p (s ∷ ss) (chain_from n p (Some at))) e (chain_on p (count - (step + 1)) at s (Some up) ss there sizes))))

pub chain_top : (p : Program) (chain more : List Size) (count step at : ℕ) (s : Size) (all : List ProgramClass) → step < count → more ≡ chain ++ s ∷ [] → IsAt p at s None
    → ChainSo p chain (count - step) at all → SizesAre p more all
chain_top p chain more count step at s all below is there so =
    let e : suc (count - (step + 1)) ≡ count - step = omega (arith, below) in
    subst (λ xs. SizesAre p xs all) (sym is)
    (so (s ∷ []) (subst (λ n. SizesAre p (s ∷ []) (chain_from n p (Some at))) e (chain_on p (count - (step + 1)) at s None [] there (no_more (count - (step + 1)) p))))

pub chain_cut : (p : Program) (chain : List Size) (steps at : ℕ) (all : List ProgramClass) → slice_get (classes_of p) at ≡ None → ChainSo p chain steps at all → SizesAre p chain all
chain_cut p chain steps at all h so = subst (λ xs. SizesAre p xs all) (append-nil chain) (so [] (chain_gone p steps at h))

pub chain_full : (p : Program) (chain : List Size) (count step at : ℕ) (all : List ProgramClass) → count ≤ step → ChainSo p chain (count - step) at all → SizesAre p chain all
chain_full p chain count step at all past so =
    let e : 0 ≡ count - step = omega (arith, past) in
    subst (λ xs. SizesAre p xs all) (append-nil chain) (so [] (subst (λ n. SizesAre p [] (chain_from n p (Some at))) e tt))

none_by : (p : Program) (s : Option Size) (c : Option ProgramClass) → s ≡ None → SizeIs p s c → c ≡ None
none_by p None None e h = refl
none_by p None (Some c) e h = absurd h
none_by p (Some s) c e h = cc

-- no size, no class
pub at_none : (p : Program) (ss : List Size) (number : ℕ) → SizesAre p ss (classes_of p) → slice_get ss number ≡ None → SizeAt p number None
at_none p ss number sizes none = none_by p (slice_get ss number) (slice_get (classes_of p) number) none (sizes_get p ss (classes_of p) number sizes)

size_by : (p : Program) (s : Option Size) (c : ProgramClass) (size : Size) → s ≡ Some size → SizeIs p s (Some c) → IsSize p size c
size_by p None c size e h = absurd h
size_by p (Some s) c size e h = let f : Some s ≡ Some size = e in let g : s ≡ size = cc in subst (λ x. IsSize p x c) g h

some_by : (p : Program) (ss : List Size) (number : ℕ) (size : Size) (row : ClassRow) (o : Option ProgramClass) → SizesAre p ss (classes_of p) → slice_get ss number ≡ Some size
    → slice_get (classes_of p) number ≡ o → RowIs p (Some row) o → SizeAt p number (Some (size, row.above))
some_by p ss number size row None sizes there e h = absurd h
some_by p ss number size row (Some c) sizes there e h = record {
  class = c;
  there = e;
  is = size_by p (slice_get ss number) c size there (subst (SizeIs p (slice_get ss number)) e (sizes_get p ss (classes_of p) number sizes));
  above = h.above;
}

-- a size, and the row of its class
pub at_some : (p : Program) (ss : List Size) (number : ℕ) (size : Size) (row : ClassRow) → SizesAre p ss (classes_of p) → slice_get ss number ≡ Some size → RowIs p (Some row) (slice_get (classes_of p) number)
    → SizeAt p number (Some (size, row.above))
at_some p ss number size row sizes there is = some_by p ss number size row (slice_get (classes_of p) number) sizes there refl is

-- no row, no class
pub no_row : (p : Program) (number : ℕ) (o : Option ProgramClass) → slice_get (classes_of p) number ≡ o → RowIs p None o → slice_get (classes_of p) number ≡ None
no_row p number None e h = e
no_row p number (Some c) e h = absurd h

-- weights that are added
pub weights_push : (p : Program) (old new : List ℕ) (w n : ℕ) → new ≡ old ++ w ∷ [] → length old ≡ n → WeightsFrom p 0 old → w ≡ weight_from p n → WeightsFrom p 0 new
weights_push p old new w n is long h weight =
    let e : n ≡ 0 + length old = omega (arith, long) in
    subst (WeightsFrom p 0) (sym is) (weights_snoc p 0 old w h (weight ∙ ap (weight_from p) e))

pub length_push : (old new : List ℕ) (w n : ℕ) → new ≡ old ++ w ∷ [] → length old ≡ n → length new ≡ n + 1
length_push old new w n is long = ap length is ∙ length-append old (w ∷ []) ∙ ap (λ k. k + 1) long

take_snoc : (cs : List ProgramClass) (i : ℕ) (c : ProgramClass) → slice_get cs i ≡ Some c → take i cs ++ c ∷ [] ≡ take (i + 1) cs
take_snoc [] i c h = cc
take_snoc (d ∷ cs) zero c h = let f : Some d ≡ Some c = h in let g : d ≡ c = cc in ap (λ x. x ∷ []) (sym g)
take_snoc (d ∷ cs) (suc i) c h = let e : suc (i + 1) ≡ suc i + 1 = omega arith in ap (λ xs. d ∷ xs) (take_snoc cs i c h) ∙ ap (λ n. take n (d ∷ cs)) e

sizes_by : (p : Program) (ss : List Size) (cs : List ProgramClass) (i : ℕ) (s : Size) (row : ClassRow) (o : Option ProgramClass) → slice_get cs i ≡ o → SizesAre p ss (take i cs) → RowIs p (Some row) o
    → ((c : ProgramClass) → IsClassRow p row c → IsSize p s c) → SizesAre p (ss ++ s ∷ []) (take (i + 1) cs)
sizes_by p ss cs i s row None e sizes is size = absurd is
sizes_by p ss cs i s row (Some c) e sizes is size = subst (SizesAre p (ss ++ s ∷ [])) (take_snoc cs i c e) (sizes_snoc p ss (take i cs) s c sizes (size c is))

-- the size of one class more
pub sizes_more : (p : Program) (ss more : List Size) (cs : List ProgramClass) (i : ℕ) (s : Size) (row : ClassRow) → more ≡ ss ++ s ∷ [] → SizesAre p ss (take i cs) → RowIs p (Some row) (slice_get cs i)
    → ((c : ProgramClass) → IsClassRow p row c → IsSize p s c) → SizesAre p more (take (i + 1) cs)
sizes_more p ss more cs i s row is sizes there size = subst (λ xs. SizesAre p xs (take (i + 1) cs)) (sym is) (sizes_by p ss cs i s row (slice_get cs i) refl sizes there size)

take_all : {A : Type 0} → (xs : List A) (n : ℕ) → length xs ≤ n → take n xs ≡ xs
take_all [] zero h = refl
take_all [] (suc n) h = refl
take_all (x ∷ xs) zero h = absurd (omega (arith, h))
take_all (x ∷ xs) (suc n) h = ap (λ ys. x ∷ ys) (take_all xs n (omega (arith, h)))

pub sizes_all : (p : Program) (ss : List Size) (cs : List ProgramClass) (n count : ℕ) → count ≡ length cs → count ≤ n → SizesAre p ss (take n cs) → SizesAre p ss cs
sizes_all p ss cs n count all past h = let e : length cs ≤ n = omega (arith, all, past) in subst (SizesAre p ss) (take_all cs n e) h

zero_by : (p : Program) (c : ProgramClass) (o : Option ProgramClass) → class_at p (above_number p c) ≡ o → o ≡ None → 0 ≡ less_of p c
zero_by p c o h none = sym (ap (less_under p c) (h ∙ none))

-- no class is inherited
pub less_none : (p : Program) (c : ProgramClass) (row : ClassRow) → IsClassRow p row c → inherited_name (class_of row.class.now).head.inherits ≡ None → 0 ≡ less_of p c
less_none p c row is h =
    let e : above_number p c ≡ None = sym (ap (λ d. number_of p (inherited_name d.head.inherits)) is.class) ∙ ap (number_of p) h in
    zero_by p c None (ap (class_at p) e) refl

-- it isn't there
pub less_gone : (p : Program) (c : ProgramClass) (row : ClassRow) → IsClassRow p row c → None ≡ class_at p row.above → 0 ≡ less_of p c
less_gone p c row is h = zero_by p c None (ap (class_at p) (sym is.above) ∙ sym h) refl

-- it is there
pub less_there : (p : Program) (c : ProgramClass) (row : ClassRow) (args : CoreTypeList) (over : CoreClass) (less : ℕ) → IsClassRow p row c
    → arguments (class_of row.class.now).head.inherits ≡ type_list (types_of args) → Some (class_of over) ≡ class_at p row.above
    → less ≡ cond (first_reaches (steps_up p) p (substituted (type_list (types_of args)) (type_of over.head.of)) (type_of row.class.now.head.of)) (type_words p (type_of over.head.of)) 0 → less ≡ less_of p c
less_there p c row args over less is given there h =
    let a : arguments c.head.inherits ≡ type_list (types_of args) = sym (ap (λ d. arguments d.head.inherits) is.class) ∙ given in
    let o : class_at p (above_number p c) ≡ Some (class_of over) = ap (class_at p) (sym is.above) ∙ sym there in
    h
    ∙ ap (λ t. cond (first_reaches (steps_up p) p (substituted (type_list (types_of args)) (type_of over.head.of)) t) (type_words p (type_of over.head.of)) 0) (ap (λ d. d.head.of) is.class)
    ∙ ap (λ ts. cond (first_reaches (steps_up p) p (substituted ts (type_of over.head.of)) c.head.of) (type_words p (type_of over.head.of)) 0) (sym a)
    ∙ sym (ap (less_under p c) o)

-- the fields and the where-words
pub own_is : (c : CoreClass) (a b own : ℕ) → a ≡ length c.fields.items → b ≡ length c.head.clauses.items → own ≡ a + b → own ≡ own_words (class_of c)
own_is c a b own f g h =
    let x : length (map field_of c.fields.items) ≡ length c.fields.items = length-map c.fields.items field_of in
    let y : length (map clause_of c.head.clauses.items) ≡ length c.head.clauses.items = length-map c.head.clauses.items clause_of in
    h ∙ ap (λ n. n + b) (f ∙ sym x) ∙ ap (λ n. length (map field_of c.fields.items) + n) (g ∙ sym y)
