-- Tables that are made one by one.
use Rattle.std.proofs.Common.{◌≡◌, ℕ, zero, suc, ◌+◌, ◌*◌, ◌<◌, ◌≤◌, List, [], ◌∷◌, ◌++◌, map, length, get_or, take, Option, Some, None, refl, sym, ap, ◌∙◌, subst, ◌⊎◌, inl, inr, arith, append-nil, length-append}
use Rattle.std.proofs.lemmas.List.{map-append}
use Rattle.std.proofs.lemmas.List.Sorted.{Contains-permutation, IsPermutation-sym}
use Rattle.std.specs.Global.{Vec}
use Rattle.std.specs.Prelude.{slice_get, IsSome}
use Rattle.std.specs.List.Sorted.{IsPermutation}
use Rattle.th_type.specs.Lists.{IsIn}
use Rattle.th_views.specs.declared.ClassShape.{ClassShape}
use Rattle.th_views.specs.declared.Slot.{Slot}
use Rattle.th_views.specs.Chain.{Link, words, filled, wheres_in, fields_in, size}
use Rattle.th_views.specs.Lookups.{class_place}
use Rattle.th_views.specs.Rows.{Program, chain_of}
use Rattle.th_views.specs.Shapes.{names_of, shapes_of}
use Rattle.th_layout.specs.declared.layout.Held.{Held}
use Rattle.th_layout.specs.Held.{HeldAt}
use Rattle.th_layout.specs.Runs.{IsTableAnswer}
use Rattle.th_table.specs.declared.shown.Table.{Table}
use Rattle.th_table.specs.declared.shown.TableClass.{TableClass}
use Rattle.th_table.specs.Shown.{IsTableAt, TablesAt, IsClassTables, AllOfLayout}

-- what holds of each of a list and of one more holds of each of both
pub each_more : {A : Type 0} (P : ℕ → A → Type 0) (done : List A) (x : A) → ((k : ℕ) (y : A) → slice_get done k ≡ Some y → P k y) → P (length done) x
    → (k : ℕ) (y : A) → slice_get (done ++ x ∷ []) k ≡ Some y → P k y
each_more P [] x h p zero y g = let e : x ≡ y = cc in subst (P 0) e p
each_more P [] x h p (suc k) y g = absurd (cc)
each_more P (d ∷ ds) x h p zero y g = h 0 y g
each_more P (d ∷ ds) x h p (suc k) y g = each_more (λ j. P (suc j)) ds x (λ j z e. h (suc j) z e) p k y g

pub each_push : {A : Type 0} (P : ℕ → A → Type 0) (done all : List A) (x : A) (n : ℕ) → length done ≡ n → all ≡ done ++ x ∷ [] → ((k : ℕ) (y : A) → slice_get done k ≡ Some y → P k y) → P n x
    → (k : ℕ) (y : A) → slice_get all k ≡ Some y → P k y
each_push P done all x n l e h p k y g = each_more P done x h (subst (λ j. P j x) (sym l) p) k y (subst (λ v. slice_get v k ≡ Some y) e g)

pub each_none : {A : Type 0} (P : ℕ → A → Type 0) (none : List A) → none ≡ [] → (k : ℕ) (y : A) → slice_get none k ≡ Some y → P k y
each_none P none e zero y g = let q : slice_get [] 0 ≡ Some y = subst (λ v. slice_get v 0 ≡ Some y) e g in absurd (cc (q))
each_none P none e (suc k) y g = let q : slice_get [] (suc k) ≡ Some y = subst (λ v. slice_get v (suc k) ≡ Some y) e g in absurd (cc (q))

pub one_more : {A : Type 0} (done all : List A) (x : A) (n : ℕ) → length done ≡ n → all ≡ done ++ x ∷ [] → length all ≡ n + 1
one_more done all x n l e = ap length e ∙ length-append done (x ∷ []) ∙ ap (λ k. k + 1) l

taken_more : {A : Type 0} (l : List A) (k : ℕ) (d : A) → k < length l → take (k + 1) l ≡ take k l ++ get_or l k d ∷ []
taken_more [] k d h = absurd (omega arith)
taken_more (x ∷ xs) zero d h = refl
taken_more (x ∷ xs) (suc k) d h = same ∙ ap (λ l. x ∷ l) (taken_more xs k d (omega arith))
  where
    same : take (suc k + 1) (x ∷ xs) ≡ x ∷ take (k + 1) xs
    same = let e : suc k + 1 ≡ suc (k + 1) = omega arith in ap (λ n. take n (x ∷ xs)) e

taken_all : {A : Type 0} (l : List A) (k : ℕ) → length l ≤ k → take k l ≡ l
taken_all [] zero h = refl
taken_all [] (suc k) h = refl
taken_all (x ∷ xs) zero h = absurd (omega arith)
taken_all (x ∷ xs) (suc k) h = ap (λ l. x ∷ l) (taken_all xs k (omega arith))

-- the numbers of classes, one by one
names_append : (a : List ClassShape) (x : ClassShape) → names_of (shapes_of (a ++ x ∷ [])) ≡ names_of (shapes_of a) ++ x.name ∷ []
names_append [] x = refl
names_append (y ∷ ys) x = ap (λ l. y.name ∷ l) (names_append ys x)

pub names_step : (cs : List ClassShape) (i : ℕ) (x d : ClassShape) (names more : List ℕ) → i < length cs → x ≡ get_or cs i d → names ≡ names_of (shapes_of (take i cs)) → more ≡ names ++ x.name ∷ []
    → more ≡ names_of (shapes_of (take (i + 1) cs))
names_step cs i x d names more h e p g =
    g ∙ ap (λ l. l ++ x.name ∷ []) p ∙ sym (names_append (take i cs) x) ∙ ap (λ y. names_of (shapes_of (take i cs ++ y ∷ []))) e ∙ sym (ap (λ l. names_of (shapes_of l)) (taken_more cs i d h))

pub names_end : (cs : List ClassShape) (i : ℕ) (names : List ℕ) → length cs ≤ i → names ≡ names_of (shapes_of (take i cs)) → names ≡ names_of (shapes_of cs)
names_end cs i names h p = p ∙ ap (λ l. names_of (shapes_of l)) (taken_all cs i h)

-- the numbers of tables, one by one
pub numbers_push : (done all : List TableClass) (x : TableClass) (names : List ℕ) (k n d : ℕ) → map (λ t. t.class) done ≡ take k names → all ≡ done ++ x ∷ [] → x.class ≡ n → n ≡ get_or names k d → k < length names
    → map (λ t. t.class) all ≡ take (k + 1) names
numbers_push done all x names k n d p e c g h =
    ap (map (λ t. t.class)) e ∙ map-append (λ t. t.class) done (x ∷ []) ∙ ap (λ l. l ++ x.class ∷ []) p ∙ ap (λ m. take k names ++ m ∷ []) (c ∙ g) ∙ sym (taken_more names k d h)

pub numbers_end : (done : List TableClass) (names : List ℕ) (k : ℕ) → length names ≤ k → map (λ t. t.class) done ≡ take k names → map (λ t. t.class) done ≡ names
numbers_end done names k h p = p ∙ taken_all names k h

take_many : {A : Type 0} (l : List A) (k : ℕ) → k ≤ length l → length (take k l) ≡ k
take_many [] zero h = refl
take_many [] (suc k) h = absurd (omega arith)
take_many (x ∷ xs) zero h = refl
take_many (x ∷ xs) (suc k) h = ap suc (take_many xs k (omega arith))

map_many : {A B : Type 0} (f : A → B) (l : List A) → length (map f l) ≡ length l
map_many f [] = refl
map_many f (x ∷ xs) = ap suc (map_many f xs)

pub numbers_many : (done : List TableClass) (names : List ℕ) (k : ℕ) → k < length names → map (λ t. t.class) done ≡ take k names → length done ≡ k
numbers_many done names k h p = sym (map_many (λ t. t.class) done) ∙ ap length p ∙ take_many names k (omega arith)

-- each of the numbers is that of a class
in_here : (x : ℕ) (xs : List ℕ) (k : ℕ) → k < length xs → get_or xs k x ≡ x → IsIn x xs
in_here x [] k h e = absurd (omega arith)
in_here x (y ∷ ys) zero h e = inl (sym e)
in_here x (y ∷ ys) (suc k) h e = inr (in_here x ys k (omega arith) e)

pub known : (p : Program) (names sorted : List ℕ) (i n : ℕ) → AllOfLayout p names → IsPermutation names sorted → i < length sorted → n ≡ get_or sorted i n → IsSome (class_place p n)
known p names sorted i n all perm h e =
    let c = Contains-permutation sorted names n (IsPermutation-sym names sorted perm) (i, h, sym e) in all n (in_here n names c.0 c.1 c.2)

-- what objects hold
filled_sum : (chain : List Link) → filled chain ≡ wheres_in chain + fields_in chain
filled_sum [] = refl
filled_sum (c ∷ rest) = let h = filled_sum rest in omega (arith, h)

pub held_small : (p : Program) (o : Option ℕ) (h : Held) → HeldAt p o h → h.words ≤ 64
held_small p None h a = absurd a
held_small p (Some c) h a = a.few_words

pub held_few : (p : Program) (o : Option ℕ) (h : Held) → HeldAt p o h → h.words + h.fields + h.wheres ≤ 864
held_few p None h a = absurd a
held_few p (Some c) h a = let x = a.few_words in let y = a.few in let z = a.few_fields in omega (arith, x, y, z)

pub held_words : (p : Program) (o : Option ℕ) (h : Held) → HeldAt p o h → (c : ℕ) × (o ≡ Some c) × (h.words ≡ words (chain_of p c))
held_words p None h a = absurd a
held_words p (Some c) h a = (c, refl, a.words)

pub class_made : (p : Program) (o : Option ℕ) (h : Held) (class s : ℕ) (v : Vec Table) → HeldAt p o h → s ≡ 4 * (h.words + h.fields + h.wheres) → length v.items ≡ h.words → ((c : ℕ) → o ≡ Some c → TablesAt p c v.items)
    → (c : ℕ) → o ≡ Some c → IsClassTables p c (record { class = class; words = h.words; fields = h.fields; wheres = h.wheres; size = s; tables = v })
class_made p None h class s v a e m t c g = absurd a
class_made p (Some d) h class s v a e m t c g =
    let z : d ≡ c = cc (g) in subst (λ k. IsClassTables p k (record { class = class; words = h.words; fields = h.fields; wheres = h.wheres; size = s; tables = v })) z made
  where
    made : IsClassTables p d (record { class = class; words = h.words; fields = h.fields; wheres = h.wheres; size = s; tables = v })
    made = record {
      words = a.words;
      fields = a.fields;
      wheres = a.wheres;
      size = let f = filled_sum (chain_of p d) in let x = a.words in let y = a.wheres in let w = a.fields in omega (arith, e, f, x, y, w);
      many = m ∙ a.words;
      each = t d refl;
    }

pub class_step : (p : Program) (n : ℕ) (x : TableClass) → x.class ≡ n → ((c : ℕ) → class_place p n ≡ Some c → IsClassTables p c x) → (c : ℕ) → class_place p x.class ≡ Some c → IsClassTables p c x
class_step p n x e h c g = h c (ap (class_place p) (sym e) ∙ g)

-- what is answered of a table
pub table_made : (p : Program) (o : Option ℕ) (w d : ℕ) (v : Vec Slot) → IsTableAnswer p o w (Some v) → d ≡ 4 * w → (c : ℕ) → o ≡ Some c → IsTableAt p c w (record { distance = d; slots = v })
table_made p None w d v a e c g = absurd a
table_made p (Some b) w d v a e c g = let z : b ≡ c = cc (g) in subst (λ k. IsTableAt p k w (record { distance = d; slots = v })) z (record { distance = e; slots = a.1 })

pub table_there : (p : Program) (o : Option ℕ) (w : ℕ) → ((c : ℕ) × (o ≡ Some c) × (w < words (chain_of p c))) → IsTableAnswer p o w None → ⊥
table_there p None w g a = let e = g.1 in absurd (cc (e))
table_there p (Some b) w g a = let e = g.1 in let z : b ≡ g.0 = cc (e) in let q : w < words (chain_of p b) = subst (λ k. w < words (chain_of p k)) (sym z) g.2 in omega (arith, q, a)
