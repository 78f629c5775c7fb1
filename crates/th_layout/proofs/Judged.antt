-- Counts that stop above a limit refuse alike, and what isn't refused is within the limits.
use Rattle.std.proofs.Common.{◌≡◌, ℕ, zero, suc, ◌+◌, ◌<◌, ◌≤◌, List, [], ◌∷◌, ◌++◌, length, get_or, map, Bool, true, false, cond, refl, sym, ap, ◌∙◌, subst, ◌⊎◌, inl, inr, arith, Option, Some, None}
use Rattle.std.proofs.lemmas.Bool.{cases_lt, lt-ltb, le-ltb}
use Rattle.std.specs.Prelude.{slice_get, min, max, nat_lt}
use Rattle.th_views.specs.declared.TypeRow.{TypeRow}
use Rattle.th_views.specs.declared.ClassRow.{ClassRow}
use Rattle.th_views.specs.Tree.{Tree, Node, End, span}
use Rattle.th_views.specs.Graph.{grow, trees_by}
use Rattle.th_views.specs.Chain.{Link, words, filled, hidden}
use Rattle.th_views.specs.Lookups.{type_numbers, class_numbers}
use Rattle.th_views.specs.Rows.{Program, graph_of, tree_of, chain_of, climb, linked, inherited, inherits_in, supers_in, marked_in, own_in}
use Rattle.th_views.specs.Sums.{sum, plain_depth, sum_words, class_slots, most_down}
use Rattle.th_views.proofs.Summed.{span_sum, words_less}
use Rattle.th_offsets.specs.declared.counts.Tally.{Tally}
use Rattle.th_offsets.specs.Counts.{Count, counted, paired, lesser, least_above, word_counts, slot_counts, field_counts, IsTally}
use Rattle.th_offsets.specs.Known.{Summed, Deep, Tallied, TallyAt, Few, Shallow, FewWords, FewFields}
use Rattle.th_layout.specs.Refusals.{Accepted}

over_cap : (limit cap c x : ℕ) → limit < cap → c ≡ min cap x → nat_lt limit c ≡ nat_lt limit x
over_cap limit cap c x h e = by (cases_lt limit x)
  where
    by : (limit < x) ⊎ (x ≤ limit) → nat_lt limit c ≡ nat_lt limit x
    by (inl k) = lt-ltb limit c (omega arith) ∙ sym (lt-ltb limit x k)
    by (inr k) = le-ltb limit c (omega arith) ∙ sym (le-ltb limit x k)

-- counts that stop above the limit have the same least number above it
pub capped_least : (limit cap : ℕ) (names counts : List ℕ) (f : ℕ → ℕ) (k : ℕ) → limit < cap → length counts ≡ length names → ((i : ℕ) → i < length names → get_or counts i 0 ≡ min cap (f (k + i)))
    → least_above limit (paired names counts) ≡ least_above limit (counted f k names)
capped_least limit cap [] counts f k h e g = refl
capped_least limit cap (n ∷ ns) [] f k h e g = absurd (omega arith)
capped_least limit cap (n ∷ ns) (c ∷ cs) f k h e g =
    let a : nat_lt limit c ≡ nat_lt limit (f k) = over_cap limit cap c (f k) h (g 0 (omega arith) ∙ ap (λ j. min cap (f j)) (let z : k + 0 ≡ k = omega arith in z)) in
    let b : least_above limit (paired ns cs) ≡ least_above limit (counted f (k + 1) ns) = capped_least limit cap ns cs f (k + 1) h (omega arith)
    (λ i l. g (suc i) (omega arith) ∙ ap (λ j. min cap (f j)) (let z : k + suc i ≡ k + 1 + i = omega arith in z)) in
    ap (λ x. lesser (cond x (Some n) None) (least_above limit (paired ns cs))) a ∙ ap (lesser (cond (nat_lt limit (f k)) (Some n) None)) b

lesser_again : (a b c : Option ℕ) → lesser (lesser a b) c ≡ lesser a (lesser b c)
lesser_again None b c = refl
lesser_again (Some x) None c = refl
lesser_again (Some x) (Some y) None = refl
lesser_again (Some x) (Some y) (Some z) = let e : min (min x y) z ≡ min x (min y z) = omega arith in ap Some e

pub least_both : (limit : ℕ) (a b : List Count) → least_above limit (a ++ b) ≡ lesser (least_above limit a) (least_above limit b)
least_both limit [] b = refl
least_both limit (c ∷ cs) b = ap (lesser (cond (nat_lt limit c.count) (Some c.name) None)) (least_both limit cs b)
    ∙ sym (lesser_again (cond (nat_lt limit c.count) (Some c.name) None) (least_above limit cs) (least_above limit b))

lesser_none : (a b : Option ℕ) → lesser a b ≡ None → (a ≡ None) × (b ≡ None)
lesser_none None b e = (refl, e)
lesser_none (Some x) None e = absurd (cc)
lesser_none (Some x) (Some y) e = absurd (cc)

under : (limit n x : ℕ) → cond (nat_lt limit x) (Some n) None ≡ None → x ≤ limit
under limit n x e = by (cases_lt limit x)
  where
    by : (limit < x) ⊎ (x ≤ limit) → x ≤ limit
    by (inl k) = let q : nat_lt limit x ≡ true = lt-ltb limit x k in let z : Some n ≡ None = (rw q at e) in absurd (cc)
    by (inr k) = k

-- where none is above the limit, each is within it
none_above : (limit : ℕ) (f : ℕ → ℕ) (k : ℕ) (names : List ℕ) (i : ℕ) → least_above limit (counted f k names) ≡ None → i < length names → f (k + i) ≤ limit
none_above limit f k [] i e h = absurd (omega arith)
none_above limit f k (n ∷ ns) zero e h = subst (λ j. f j ≤ limit) (let z : k ≡ k + 0 = omega arith in z)
    (under limit n (f k) (lesser_none (cond (nat_lt limit (f k)) (Some n) None) (least_above limit (counted f (k + 1) ns)) e).0)
none_above limit f k (n ∷ ns) (suc i) e h = subst (λ j. f j ≤ limit) (let z : k + 1 + i ≡ k + suc i = omega arith in z)
    (none_above limit f (k + 1) ns i (lesser_none (cond (nat_lt limit (f k)) (Some n) None) (least_above limit (counted f (k + 1) ns)) e).1 (omega arith))

pub type_many : (rows : List TypeRow) → length (type_numbers rows) ≡ length rows
type_many [] = refl
type_many (r ∷ rest) = let k : length (type_numbers rest) ≡ length rest = type_many rest in omega arith

pub class_many : (rows : List ClassRow) → length (class_numbers rows) ≡ length rows
class_many [] = refl
class_many (r ∷ rest) = let k : length (class_numbers rest) ≡ length rest = class_many rest in omega arith

-- one count of each class
sum_got : (l : List Tally) (i : ℕ) (chain : List Link) → i < length l → TallyAt (slice_get l i) chain → get_or (map (λ t. t.sum) l) i 0 ≡ min 65 (sum_words chain)
sum_got [] i chain h t = absurd (omega arith)
sum_got (x ∷ xs) zero chain h t = t.sum
sum_got (x ∷ xs) (suc i) chain h t = sum_got xs i chain (omega arith) t

slots_got : (l : List Tally) (i : ℕ) (chain : List Link) → i < length l → TallyAt (slice_get l i) chain → get_or (map (λ t. max t.down t.hidden) l) i 0 ≡ min 251 (class_slots chain)
slots_got [] i chain h t = absurd (omega arith)
slots_got (x ∷ xs) zero chain h t = let a : x.down ≡ min 251 (most_down chain) = t.down in let b : x.hidden ≡ min 251 (length (hidden chain)) = t.hidden in omega arith
slots_got (x ∷ xs) (suc i) chain h t = slots_got xs i chain (omega arith) t

fields_got : (l : List Tally) (i : ℕ) (chain : List Link) → i < length l → TallyAt (slice_get l i) chain → get_or (map (λ t. t.filled) l) i 0 ≡ min 401 (filled chain)
fields_got [] i chain h t = absurd (omega arith)
fields_got (x ∷ xs) zero chain h t = t.filled
fields_got (x ∷ xs) (suc i) chain h t = fields_got xs i chain (omega arith) t

map_many : (g : Tally → ℕ) (l : List Tally) → length (map g l) ≡ length l
map_many g [] = refl
map_many g (x ∷ xs) = let k : length (map g xs) ≡ length xs = map_many g xs in omega arith

module _ (p : Program) (tallies : List Tally) (many : length tallies ≡ length p.classes) (t : Tallied p tallies) where
  class_side : (limit cap : ℕ) (g : Tally → ℕ) (v : List Link → ℕ) → limit < cap
      → ((i : ℕ) (chain : List Link) → i < length tallies → TallyAt (slice_get tallies i) chain → get_or (map g tallies) i 0 ≡ min cap (v chain))
      → least_above limit (paired (class_numbers p.classes) (map g tallies)) ≡ least_above limit (counted (λ c. v (chain_of p c)) 0 (class_numbers p.classes))
  class_side limit cap g v h f =
      let m : length (class_numbers p.classes) ≡ length p.classes = class_many p.classes in
      let n : length (map g tallies) ≡ length tallies = map_many g tallies in
      capped_least limit cap (class_numbers p.classes) (map g tallies) (λ c. v (chain_of p c)) 0 h (omega arith)
      (λ i l. let a : i < length tallies = omega arith in f i (chain_of p i) a (t i a) ∙ ap (λ j. min cap (v (chain_of p j))) (let z : i ≡ 0 + i = omega arith in z))

  pub words_side : (limit : ℕ) (sums : List ℕ) → limit < 65 → length sums ≡ length p.types → Summed p.types sums
      → lesser (least_above limit (paired (type_numbers p.types) sums)) (least_above limit (paired (class_numbers p.classes) (map (λ t. t.sum) tallies))) ≡ least_above limit (word_counts p)
  words_side limit sums h m s =
      let n : length (type_numbers p.types) ≡ length p.types = type_many p.types in
      ap (λ x. lesser x (least_above limit (paired (class_numbers p.classes) (map (λ t. t.sum) tallies))))
      (capped_least limit 65 (type_numbers p.types) sums (λ k. sum (tree_of p.types k)) 0 h (omega arith)
      (λ i l. s i (omega arith) ∙ ap (λ j. min 65 (sum (tree_of p.types j))) (let z : i ≡ 0 + i = omega arith in z)))
      ∙ ap (lesser (least_above limit (counted (λ k. sum (tree_of p.types k)) 0 (type_numbers p.types)))) (class_side limit 65 (λ t. t.sum) sum_words h (sum_got tallies))
      ∙ sym (least_both limit (counted (λ k. sum (tree_of p.types k)) 0 (type_numbers p.types)) (counted (λ c. sum_words (chain_of p c)) 0 (class_numbers p.classes)))

  pub slots_side : (plain : List ℕ) → length plain ≡ length p.types → Deep p.types plain
      → lesser (least_above 250 (paired (type_numbers p.types) plain)) (least_above 250 (paired (class_numbers p.classes) (map (λ t. max t.down t.hidden) tallies))) ≡ least_above 250 (slot_counts p)
  slots_side plain m s =
      let n : length (type_numbers p.types) ≡ length p.types = type_many p.types in
      ap (λ x. lesser x (least_above 250 (paired (class_numbers p.classes) (map (λ t. max t.down t.hidden) tallies))))
      (capped_least 250 251 (type_numbers p.types) plain (λ k. plain_depth (tree_of p.types k)) 0 (omega arith) (omega arith)
      (λ i l. s i (omega arith) ∙ ap (λ j. min 251 (plain_depth (tree_of p.types j))) (let z : i ≡ 0 + i = omega arith in z)))
      ∙ ap (lesser (least_above 250 (counted (λ k. plain_depth (tree_of p.types k)) 0 (type_numbers p.types)))) (class_side 250 251 (λ t. max t.down t.hidden) class_slots (omega arith) (slots_got tallies))
      ∙ sym (least_both 250 (counted (λ k. plain_depth (tree_of p.types k)) 0 (type_numbers p.types)) (counted (λ c. class_slots (chain_of p c)) 0 (class_numbers p.classes)))

  pub fields_side : least_above 400 (paired (class_numbers p.classes) (map (λ t. t.filled) tallies)) ≡ least_above 400 (field_counts p)
  fields_side = class_side 400 401 (λ t. t.filled) filled (omega arith) (fields_got tallies)

  pub words_made : (limit : ℕ) (sums tn cn cs : List ℕ) (r : Option ℕ) → limit ≤ 64 → length sums ≡ length p.types → Summed p.types sums
      → tn ≡ type_numbers p.types → cn ≡ class_numbers p.classes → cs ≡ map (λ t. t.sum) tallies
      → r ≡ lesser (least_above limit (paired tn sums)) (least_above limit (paired cn cs)) → r ≡ least_above limit (word_counts p)
  words_made limit sums tn cn cs r h m s a b d e = e ∙ ap (λ x. lesser (least_above limit (paired x sums)) (least_above limit (paired cn cs))) a
      ∙ ap (λ x. lesser (least_above limit (paired (type_numbers p.types) sums)) (least_above limit (paired x cs))) b
      ∙ ap (λ x. lesser (least_above limit (paired (type_numbers p.types) sums)) (least_above limit (paired (class_numbers p.classes) x))) d
      ∙ words_side limit sums (omega arith) m s

  pub slots_made : (plain tn cn cs : List ℕ) (r : Option ℕ) → length plain ≡ length p.types → Deep p.types plain
      → tn ≡ type_numbers p.types → cn ≡ class_numbers p.classes → cs ≡ map (λ t. max t.down t.hidden) tallies
      → r ≡ lesser (least_above 250 (paired tn plain)) (least_above 250 (paired cn cs)) → r ≡ least_above 250 (slot_counts p)
  slots_made plain tn cn cs r m s a b d e = e ∙ ap (λ x. lesser (least_above 250 (paired x plain)) (least_above 250 (paired cn cs))) a
      ∙ ap (λ x. lesser (least_above 250 (paired (type_numbers p.types) plain)) (least_above 250 (paired x cs))) b
      ∙ ap (λ x. lesser (least_above 250 (paired (type_numbers p.types) plain)) (least_above 250 (paired (class_numbers p.classes) x))) d
      ∙ slots_side plain m s

  pub fields_made : (cn cs : List ℕ) (r : Option ℕ) → cn ≡ class_numbers p.classes → cs ≡ map (λ t. t.filled) tallies → r ≡ least_above 400 (paired cn cs) → r ≡ least_above 400 (field_counts p)
  fields_made cn cs r b d e = e ∙ ap (λ x. least_above 400 (paired x cs)) b ∙ ap (λ x. least_above 400 (paired (class_numbers p.classes) x)) d ∙ fields_side

  pub names_many : (g : Tally → ℕ) (cn cs : List ℕ) → cn ≡ class_numbers p.classes → cs ≡ map g tallies → length cs ≡ length cn
  names_many g cn cs a b =
      let x : length cn ≡ length (class_numbers p.classes) = ap length a in let y : length (class_numbers p.classes) ≡ length p.classes = class_many p.classes in
      let z : length cs ≡ length (map g tallies) = ap length b in let w : length (map g tallies) ≡ length tallies = map_many g tallies in omega arith

pub type_names_many : (rows : List TypeRow) (tn l : List ℕ) → tn ≡ type_numbers rows → length l ≡ length rows → length l ≡ length tn
type_names_many rows tn l a b = let x : length tn ≡ length (type_numbers rows) = ap length a in let y : length (type_numbers rows) ≡ length rows = type_many rows in omega arith

-- past the end of a list there is a type without supertypes, and no class
pub none_past : (rows : List TypeRow) (n : ℕ) → length rows ≤ n → slice_get rows n ≡ None
none_past [] zero h = refl
none_past [] (suc n) h = refl
none_past (r ∷ rest) zero h = absurd (omega arith)
none_past (r ∷ rest) (suc n) h = none_past rest n (omega arith)

class_past : (rows : List ClassRow) (n : ℕ) → length rows ≤ n → slice_get rows n ≡ None
class_past [] zero h = refl
class_past [] (suc n) h = refl
class_past (r ∷ rest) zero h = absurd (omega arith)
class_past (r ∷ rest) (suc n) h = class_past rest n (omega arith)

pub bare_tree : (rows : List TypeRow) (n : ℕ) (o : Option TypeRow) → slice_get rows n ≡ o → o ≡ None → tree_of rows n ≡ Node n false [] End
bare_tree rows zero o e q = let z : slice_get rows zero ≡ None = e ∙ q in
    ap (λ x. Node zero x (own_in (slice_get rows zero)) End) (ap marked_in z) ∙ ap (λ x. Node zero false x End) (ap own_in z)
bare_tree rows (suc n) o e q = let z : slice_get rows (suc n) ≡ None = e ∙ q in
    ap (λ x. Node (suc n) (marked_in x) (own_in x) (trees_by (grow (graph_of rows) n) (supers_in x))) z

no_chain : (p : Program) (n : ℕ) → slice_get p.classes n ≡ None → chain_of p n ≡ []
no_chain p zero e = ap (λ o. linked p.types o []) e
no_chain p (suc n) e = ap (λ o. linked p.types o (inherited (climb p n) (inherits_in o))) e

-- a count of types within a limit on those that there are
types_within : (limit : ℕ) (v : Tree → ℕ) (rows : List TypeRow) → ((n : ℕ) → v (Node n false [] End) ≤ limit) → ((i : ℕ) → i < length rows → v (tree_of rows i) ≤ limit) → (k : ℕ) → v (tree_of rows k) ≤ limit
types_within limit v rows b f k = by (cases_lt k (length rows))
  where
    by : (k < length rows) ⊎ (length rows ≤ k) → v (tree_of rows k) ≤ limit
    by (inl h) = f k h
    by (inr h) = subst (λ x. v x ≤ limit) (sym (bare_tree rows k (slice_get rows k) refl (none_past rows k h))) (b k)

classes_within : (limit : ℕ) (v : List Link → ℕ) (p : Program) → v [] ≤ limit → ((i : ℕ) → i < length p.classes → v (chain_of p i) ≤ limit) → (k : ℕ) → v (chain_of p k) ≤ limit
classes_within limit v p b f k = by (cases_lt k (length p.classes))
  where
    by : (k < length p.classes) ⊎ (length p.classes ≤ k) → v (chain_of p k) ≤ limit
    by (inl h) = f k h
    by (inr h) = subst (λ x. v x ≤ limit) (sym (no_chain p k (class_past p.classes k h))) b

at_zero : (limit : ℕ) (f : ℕ → ℕ) (names : List ℕ) (i : ℕ) → least_above limit (counted f 0 names) ≡ None → i < length names → f i ≤ limit
at_zero limit f names i e h = subst (λ j. f j ≤ limit) (let z : 0 + i ≡ i = omega arith in z) (none_above limit f 0 names i e h)

-- a program that isn't refused is within the greatest limits
pub record Fitting (limit : ℕ) (p : Program) : Type 0 where
  pub few : Few p.types
  pub shallow : Shallow p.types
  pub words : FewWords p
  pub fields : FewFields p
  pub sums : (k : ℕ) → k < length p.types → sum (tree_of p.types k) ≤ limit
  pub class_sums : (k : ℕ) → k < length p.classes → sum_words (chain_of p k) ≤ limit
  pub slots : (k : ℕ) → class_slots (chain_of p k) ≤ 250

pub fitting : (limit : ℕ) (p : Program) → limit ≤ 64 → Accepted limit p → Fitting limit p
fitting limit p l a =
    let w : (least_above limit (counted (λ t. sum (tree_of p.types t)) 0 (type_numbers p.types)) ≡ None) × (least_above limit (counted (λ c. sum_words (chain_of p c)) 0 (class_numbers p.classes)) ≡ None) =
    lesser_none _ _ (sym (least_both limit (counted (λ t. sum (tree_of p.types t)) 0 (type_numbers p.types)) (counted (λ c. sum_words (chain_of p c)) 0 (class_numbers p.classes))) ∙ a.words) in
    let s : (least_above 250 (counted (λ t. plain_depth (tree_of p.types t)) 0 (type_numbers p.types)) ≡ None) × (least_above 250 (counted (λ c. class_slots (chain_of p c)) 0 (class_numbers p.classes)) ≡ None) =
    lesser_none _ _ (sym (least_both 250 (counted (λ t. plain_depth (tree_of p.types t)) 0 (type_numbers p.types)) (counted (λ c. class_slots (chain_of p c)) 0 (class_numbers p.classes))) ∙ a.slots) in
    let m : length (type_numbers p.types) ≡ length p.types = type_many p.types in
    let n : length (class_numbers p.classes) ≡ length p.classes = class_many p.classes in
    let sums : (k : ℕ) → k < length p.types → sum (tree_of p.types k) ≤ limit = λ k h. at_zero limit (λ t. sum (tree_of p.types t)) (type_numbers p.types) k w.0 (omega arith) in
    let class_sums : (k : ℕ) → k < length p.classes → sum_words (chain_of p k) ≤ limit = λ k h. at_zero limit (λ c. sum_words (chain_of p c)) (class_numbers p.classes) k w.1 (omega arith) in
    record {
      few = types_within 64 span p.types (λ k. omega arith) (λ k h. let x : span (tree_of p.types k) ≤ sum (tree_of p.types k) = span_sum (tree_of p.types k) in let y : sum (tree_of p.types k) ≤ limit = sums k h in omega arith);
      shallow = types_within 250 plain_depth p.types (λ k. omega arith) (λ k h. at_zero 250 (λ t. plain_depth (tree_of p.types t)) (type_numbers p.types) k s.0 (omega arith));
      words = classes_within 64 words p (omega arith) (λ k h. let x : words (chain_of p k) ≤ sum_words (chain_of p k) = words_less (chain_of p k) in let y : sum_words (chain_of p k) ≤ limit = class_sums k h in omega arith);
      fields = classes_within 400 filled p (omega arith) (λ k h. at_zero 400 (λ c. filled (chain_of p c)) (class_numbers p.classes) k a.fields (omega arith));
      sums = sums;
      class_sums = class_sums;
      slots = classes_within 250 class_slots p (omega arith) (λ k h. at_zero 250 (λ c. class_slots (chain_of p c)) (class_numbers p.classes) k s.1 (omega arith));
    }
