-- The counts of classes, and the least number above a limit.
use Rattle.std.proofs.Common.{◌≡◌, ℕ, zero, suc, ◌+◌, ◌<◌, ◌≤◌, List, [], ◌∷◌, ◌++◌, length, get_or, drop, Bool, true, false, cond, refl, sym, ap, ◌∙◌, subst, arith, add-one, drop-cons, length-append, Option, Some, None}
use Rattle.std.specs.Prelude.{slice_get, min, max, nat_lt}
use Rattle.th_views.specs.declared.TypeRow.{TypeRow}
use Rattle.th_views.specs.declared.ClassRow.{ClassRow}
use Rattle.th_views.specs.Chain.{Link, hidden, filled}
use Rattle.th_views.specs.Sums.{sum, greatest, sum_start, sum_words, most_down}
use Rattle.th_views.specs.Rows.{Program, tree_of, chain_of, linked, inherited, inherits_in, Inherited}
use Rattle.th_views.proofs.Objects.{chain_is}
use Rattle.th_offsets.specs.declared.counts.Tally.{Tally}
use Rattle.th_offsets.specs.Known.{Typed, TypedAt}
use Rattle.th_offsets.specs.Counts.{tally_on, IsTally, Count, lesser, least_above, paired}

-- a class's chain is the class before the chain of what it inherits
abbrev pub link : List TypeRow → ClassRow → Link
link types c = record { class = c.name; of = tree_of types c.of; extends = c.extends; hidden = c.hidden; bodies = c.bodies; wheres = c.wheres; fields = c.fields }

pub class_got : (classes : List ClassRow) (n : ℕ) (r : ClassRow) → n < length classes → slice_get classes n ≡ Some (get_or classes n r)
class_got [] n r h = absurd (omega arith)
class_got (x ∷ xs) zero r h = refl
class_got (x ∷ xs) (suc n) r h = class_got xs n r (omega arith)

pub chain_at : (p : Program) (o : Inherited p.classes) (n : ℕ) (r : ClassRow) → n < length p.classes
    → chain_of p n ≡ link p.types (get_or p.classes n r) ∷ inherited (chain_of p) (get_or p.classes n r).inherits
chain_at p o n r h = chain_is p o n ∙ ap (λ x. linked p.types x (inherited (chain_of p) (inherits_in x))) (class_got p.classes n r h)

pick : (b : Bool) (x y z w : ℕ) → x ≡ z → y ≡ w → cond b x y ≡ cond b z w
pick true x y z w a b = a
pick false x y z w a b = b

capped_pick : (b : Bool) (x y : ℕ) → cond b (min 65 x) (min 65 y) ≡ min 65 (cond b x y)
capped_pick true x y = refl
capped_pick false x y = refl

pub tally_link : (l : Link) (c : ClassRow) (rest : List Link) (up : Tally) (s g : ℕ) → l.extends ≡ c.extends → l.hidden ≡ c.hidden → l.wheres ≡ c.wheres → l.fields ≡ c.fields → IsTally up rest
    → s ≡ min 65 (sum l.of) → g ≡ min 251 (greatest l.of) → IsTally (tally_on c up s g) (l ∷ rest)
tally_link l c rest up s g a b w f t e k =
    let x : cond c.extends up.sum_start up.sum ≡ min 65 (cond l.extends (sum_start rest) (sum_words rest)) =
    pick c.extends up.sum_start up.sum (min 65 (sum_start rest)) (min 65 (sum_words rest)) t.sum_start t.sum ∙ capped_pick c.extends (sum_start rest) (sum_words rest)
    ∙ ap (λ y. min 65 (cond y (sum_start rest) (sum_words rest))) (sym a) in
    let h : length (hidden rest ++ l.hidden) ≡ length (hidden rest) + length l.hidden = length-append (hidden rest) l.hidden in
    let m : length l.hidden ≡ length c.hidden = ap length b in
    let th : up.hidden ≡ min 251 (length (hidden rest)) = t.hidden in
    let td : up.down ≡ min 251 (most_down rest) = t.down in
    let tf : up.filled ≡ min 401 (filled rest) = t.filled in
    record { sum_start = x; sum = sum_at (cond c.extends up.sum_start up.sum) (cond l.extends (sum_start rest) (sum_words rest)) s (sum l.of) x e; down = omega arith; hidden = omega arith; filled = omega arith }
  where
    sum_at : (y z s q : ℕ) → y ≡ min 65 z → s ≡ min 65 q → min 65 (y + s) ≡ min 65 (z + q)
    sum_at y z s q a b = omega arith

pub tally_made : (p : Program) (o : Inherited p.classes) (n : ℕ) (c r : ClassRow) (up z : Tally) (s g : ℕ) → n < length p.classes → c ≡ get_or p.classes n r
    → IsTally up (inherited (chain_of p) c.inherits) → s ≡ min 65 (sum (tree_of p.types c.of)) → g ≡ min 251 (greatest (tree_of p.types c.of)) → z ≡ tally_on c up s g → IsTally z (chain_of p n)
tally_made p o n c r up z s g h q t a b e =
    subst (λ l. IsTally z l) (sym (chain_at p o n r h ∙ ap (λ x. link p.types x ∷ inherited (chain_of p) x.inherits) (sym q)))
    (subst (λ y. IsTally y (link p.types c ∷ inherited (chain_of p) c.inherits)) (sym e)
    (tally_link (link p.types c) c (inherited (chain_of p) c.inherits) up s g refl refl refl refl t a b))

-- one more number and count
lesser_again : (a b c : Option ℕ) → lesser (lesser a b) c ≡ lesser a (lesser b c)
lesser_again None b c = refl
lesser_again (Some x) None c = refl
lesser_again (Some x) (Some y) None = refl
lesser_again (Some x) (Some y) (Some z) = let e : min (min x y) z ≡ min x (min y z) = omega arith in ap Some e

lesser_none : (a : Option ℕ) → lesser a None ≡ a
lesser_none None = refl
lesser_none (Some x) = refl

pair_next : (names counts : List ℕ) (k : ℕ) → k < length names → length counts ≡ length names
    → paired (drop k names) (drop k counts) ≡ record { name = get_or names k 0; count = get_or counts k 0 } ∷ paired (drop (k + 1) names) (drop (k + 1) counts)
pair_next names counts k h e = let g : k < length counts = omega arith in
    ap (λ x. paired x (drop k counts)) (drop-cons names k 0 h) ∙ ap (paired (get_or names k 0 ∷ drop (suc k) names)) (drop-cons counts k 0 g) ∙ rw add-one refl

pub least_step : (names counts : List ℕ) (k limit : ℕ) (least here next z : Option ℕ) → k < length names → length counts ≡ length names
    → here ≡ cond (nat_lt limit (get_or counts k 0)) (Some (get_or names k 0)) None → next ≡ lesser least here
    → lesser least (least_above limit (paired (drop k names) (drop k counts))) ≡ z
    → lesser next (least_above limit (paired (drop (k + 1) names) (drop (k + 1) counts))) ≡ z
least_step names counts k limit least here next z h e a b p =
    ap (λ x. lesser x (least_above limit (paired (drop (k + 1) names) (drop (k + 1) counts)))) (b ∙ ap (lesser least) a)
    ∙ lesser_again least (cond (nat_lt limit (get_or counts k 0)) (Some (get_or names k 0)) None) (least_above limit (paired (drop (k + 1) names) (drop (k + 1) counts)))
    ∙ ap (λ x. lesser least (least_above limit x)) (sym (pair_next names counts k h e)) ∙ p

typed_at : (classes : List ClassRow) (k n : ℕ) (r : ClassRow) → n < length classes → TypedAt k (slice_get classes n) → (get_or classes n r).of < k
typed_at [] k n r h t = absurd (omega arith)
typed_at (x ∷ xs) k zero r h t = t
typed_at (x ∷ xs) k (suc n) r h t = typed_at xs k n r (omega arith) t

-- a class's type stands in the list of types
pub of_within : (p : Program) (n : ℕ) (c r : ClassRow) → Typed p → n < length p.classes → c ≡ get_or p.classes n r → c.of < length p.types
of_within p n c r t h e = subst (λ x. x.of < length p.types) (sym e) (typed_at p.classes (length p.types) n r h (t n))
