-- Which methods a type and a class have, from what a layout keeps.
use Rattle.std.proofs.Common.{◌≡◌, ℕ, zero, suc, ◌+◌, ◌<◌, ◌≤◌, List, [], ◌∷◌, ◌++◌, length, get_or, Bool, true, false, nat_eq, cond, refl, sym, ap, ◌∙◌, subst, ◌⊎◌, inl, inr, arith, le_refl, Option, Some, None}
use Rattle.std.specs.Prelude.{slice_get, option_map, option_and_then, is_some}
use Rattle.std.specs.HashMap.{get}
use Rattle.th_views.specs.declared.ClassRow.{ClassRow}
use Rattle.th_views.specs.declared.TypeRow.{TypeRow}
use Rattle.th_views.specs.Chain.{Link, among, hidden, lookup}
use Rattle.th_views.specs.Home.{offers}
use Rattle.th_views.specs.Listed.{spots, lowered}
use Rattle.th_views.specs.Lookups.{index_of, after, offset, method_place, hidden_place, knows, narrowed_at, narrowed_of, class_place, type_place, answer, where_true, to_type, to_class}
use Rattle.th_views.specs.Objects.{object_spots, raised}
use Rattle.th_views.specs.Rows.{Program, tree_of, chain_of, climb, inherited, inherits_in, linked, Ordered}
use Rattle.th_views.specs.Chain.{start}
use Rattle.th_views.specs.Tree.{Tree, Place, Above}
use Rattle.th_layout.specs.declared.layout.Layout.TheInside.{Inside}
use Rattle.th_offsets.specs.declared.maps.Offsets.{Offsets}
use Rattle.th_offsets.specs.declared.heads_of.Heads.{Heads}
use Rattle.th_layout.specs.declared.sides.ClassSide.{ClassSide}
use Rattle.th_layout.specs.declared.sides.TypeSide.{TypeSide}
use Rattle.th_layout.specs.Inside.{laid, Kept}
use Rattle.th_layout.specs.Laid.{IsClassSide, IsTypeSide}
use Rattle.th_offsets.specs.Known.{Homed, HomedAt, HiddenAts, HiddenAtsOf, Owned, OwnedAt}
use Rattle.th_offsets.specs.Given.{Bodied, BodiedAt, types_offer}
use Rattle.th_offsets.specs.Maps.{or_else, offset_in}
use Rattle.th_offsets.proofs.Mapped.{Rooted, rooted, owned_in, owned_append, owned_lowered, owned_spots, Answers, answer_or, first_place, offers_answer, home_first, offset_owned}

-- each type of the chain is the tree of its name
abbrev AllRooted : (ℕ → Tree) → List Link → Type 0
AllRooted f [] = Unit
AllRooted f (c ∷ rest) = Rooted f c.of × AllRooted f rest

rooted_linked : (p : Program) → Ordered p.types → (x : Option ClassRow) (rest : List Link) → AllRooted (tree_of p.types) rest → AllRooted (tree_of p.types) (linked p.types x rest)
rooted_linked p o None rest r = tt
rooted_linked p o (Some c) rest r = (rooted p.types o c.of c.of (le_refl c.of), r)

rooted_inherited : (p : Program) (h : ℕ) (d : Option ℕ) → ((k : ℕ) → AllRooted (tree_of p.types) (climb p h k)) → AllRooted (tree_of p.types) (inherited (climb p h) d)
rooted_inherited p h None again = tt
rooted_inherited p h (Some k) again = again k

rooted_chain : (p : Program) → Ordered p.types → (h n : ℕ) → AllRooted (tree_of p.types) (climb p h n)
rooted_chain p o zero n = rooted_linked p o (slice_get p.classes n) [] tt
rooted_chain p o (suc h) n = rooted_linked p o (slice_get p.classes n) (inherited (climb p h) (inherits_in (slice_get p.classes n))) (rooted_inherited p h (inherits_in (slice_get p.classes n)) (λ k. rooted_chain p o h k))

typed_owned : (f : ℕ → Tree) (chain : List Link) (m : ℕ) → AllRooted f chain → Answers (types_offer chain m) (owned_in f m (object_spots chain))
typed_owned f [] m r = refl
typed_owned f (c ∷ rest) m r =
    subst (Answers (cond (offers c.of m) true (types_offer rest m))) (sym e) (answer_or (offers c.of m) (types_offer rest m) (first_place c.of m) (owned_in f m (object_spots rest)) (offers_answer c.of m) (typed_owned f rest m r.1))
  where
    e : owned_in f m (lowered (start (c ∷ rest)) (spots c.of) ++ object_spots rest) ≡ or_else (first_place c.of m) (owned_in f m (object_spots rest))
    e = owned_append f m (lowered (start (c ∷ rest)) (spots c.of)) (object_spots rest)
        ∙ ap (λ y. or_else y (owned_in f m (object_spots rest))) (owned_lowered f m (start (c ∷ rest)) (spots c.of) ∙ owned_spots f m c.of r.0)

among_append : (a b : List ℕ) (m : ℕ) → among (a ++ b) m ≡ cond (among a m) true (among b m)
among_append [] b m = refl
among_append (x ∷ xs) b m = by (nat_eq x m) (among_append xs b m)
  where
    by : (t : Bool) → among (xs ++ b) m ≡ cond (among xs m) true (among b m) → cond t true (among (xs ++ b) m) ≡ cond (cond t true (among xs m)) true (among b m)
    by true e = refl
    by false e = e

regroup : (o h t a : Bool) → cond o true (cond h true (cond t true a)) ≡ cond (cond o true t) true (cond a true h)
regroup true h t a = refl
regroup false true true a = refl
regroup false true false true = refl
regroup false true false false = refl
regroup false false true a = refl
regroup false false false true = refl
regroup false false false false = refl

knows_is : (chain : List Link) (m : ℕ) → knows chain m ≡ cond (types_offer chain m) true (among (hidden chain) m)
knows_is [] m = refl
knows_is (c ∷ rest) m = ap (λ b. cond (offers c.of m) true (cond (among c.hidden m) true b)) (knows_is rest m)
    ∙ regroup (offers c.of m) (among c.hidden m) (types_offer rest m) (among (hidden rest) m)
    ∙ ap (λ b. cond (cond (offers c.of m) true (types_offer rest m)) true b) (sym (among_append (hidden rest) c.hidden m))

some_answer : (b : Bool) (o : Option Place) → Answers b o → is_some (option_map offset o) ≡ b
some_answer true o h = ap (λ z. is_some (option_map offset z)) h.1
some_answer false o h = ap (λ z. is_some (option_map offset z)) h

some_index : (l : List ℕ) (m : ℕ) → is_some (index_of m l) ≡ among l m
some_index [] m = refl
some_index (x ∷ xs) m = by (nat_eq x m) (some_index xs m)
  where
    more : (o : Option ℕ) → is_some (after o) ≡ is_some o
    more None = refl
    more (Some k) = refl

    by : (t : Bool) → is_some (index_of m xs) ≡ among xs m → is_some (cond t (Some 0) (after (index_of m xs))) ≡ cond t true (among xs m)
    by true e = refl
    by false e = more (index_of m xs) ∙ e

some_hidden : (k : ℕ) (o : Option ℕ) → is_some (option_map offset (option_map (λ i. Above (k + i)) o)) ≡ is_some o
some_hidden k None = refl
some_hidden k (Some i) = refl

offsets_got : (l : List Offsets) (n : ℕ) (d : Offsets) (P : Option Offsets → Type 0) → n < length l → P (slice_get l n) → P (Some (get_or l n d))
offsets_got [] n d P h g = absurd (omega arith)
offsets_got (x ∷ xs) zero d P h g = g
offsets_got (x ∷ xs) (suc n) d P h g = offsets_got xs n d P (omega arith) g

heads_got : (l : List Heads) (n : ℕ) (d : Heads) (P : Option Heads → Type 0) → n < length l → P (slice_get l n) → P (Some (get_or l n d))
heads_got [] n d P h g = absurd (omega arith)
heads_got (x ∷ xs) zero d P h g = g
heads_got (x ∷ xs) (suc n) d P h g = heads_got xs n d P (omega arith) g

-- a type has a method where its offset is kept
pub offers_kept : (a : Inside) (p : Program) (t m : ℕ) (x d : Offsets) → laid a ≡ p → Kept (laid a) a → t < length p.types → x ≡ get_or a.type_side.offsets.items t d → is_some (get nat_eq x.bytes m) ≡ offers (tree_of p.types t) m
offers_kept a p t m x d e k h g =
    let s : IsTypeSide p.types a.type_side = (subst (λ y. Kept y a) e k).type_side in
    let i : t < length a.type_side.offsets.items = omega arith in
    let z : HomedAt (Some (get_or a.type_side.offsets.items t d)) (tree_of p.types t) = offsets_got a.type_side.offsets.items t d (λ o. HomedAt o (tree_of p.types t)) i (s.offsets.1 t i) in
    ap (λ y. is_some (get nat_eq y.bytes m)) g ∙ ap is_some (z m)
    ∙ some_answer (offers (tree_of p.types t) m) (method_place (tree_of p.types t) m) (subst (Answers (offers (tree_of p.types t) m)) (sym (home_first (tree_of p.types t) m)) (offers_answer (tree_of p.types t) m))

pub owned_kept : (a : Inside) (p : Program) (c m : ℕ) (x d : Offsets) → laid a ≡ p → Kept (laid a) a → c < length p.classes → x ≡ get_or a.class_side.owned.items c d → is_some (get nat_eq x.bytes m) ≡ types_offer (chain_of p c) m
owned_kept a p c m x d e k h g =
    let n : Kept p a = subst (λ y. Kept y a) e k in
    let i : c < length a.class_side.owned.items = let q : length a.class_side.owned.items ≡ length p.classes = n.class_side.owned.0 in omega arith in
    let z : OwnedAt (Some (get_or a.class_side.owned.items c d)) p c = offsets_got a.class_side.owned.items c d (λ o. OwnedAt o p c) i (n.class_side.owned.1 c i) in
    ap (λ y. is_some (get nat_eq y.bytes m)) g ∙ ap is_some (z m ∙ offset_owned p.types (object_spots (chain_of p c)) m)
    ∙ some_answer (types_offer (chain_of p c) m) (owned_in (tree_of p.types) m (object_spots (chain_of p c))) (typed_owned (tree_of p.types) (chain_of p c) m (rooted_chain p n.sound.types c c))

pub hidden_kept : (a : Inside) (p : Program) (c m : ℕ) (x d : Offsets) → laid a ≡ p → Kept (laid a) a → c < length p.classes → x ≡ get_or a.class_side.hidden.items c d → is_some (get nat_eq x.bytes m) ≡ among (hidden (chain_of p c)) m
hidden_kept a p c m x d e k h g =
    let n : Kept p a = subst (λ y. Kept y a) e k in
    let i : c < length a.class_side.hidden.items = let q : length a.class_side.hidden.items ≡ length p.classes = n.class_side.hidden.0 in omega arith in
    let z : HiddenAtsOf (Some (get_or a.class_side.hidden.items c d)) p c = offsets_got a.class_side.hidden.items c d (λ o. HiddenAtsOf o p c) i (n.class_side.hidden.1 c i) in
    ap (λ y. is_some (get nat_eq y.bytes m)) g ∙ ap is_some (z m) ∙ some_hidden (raised p.types) (index_of m (hidden (chain_of p c))) ∙ some_index (hidden (chain_of p c)) m

pub body_kept : (a : Inside) (p : Program) (c m : ℕ) (x d : Heads) → laid a ≡ p → Kept (laid a) a → c < length p.classes → x ≡ get_or a.class_side.bodies.items c d → is_some (get nat_eq x.of m) ≡ is_some (lookup (chain_of p c) m)
body_kept a p c m x d e k h g =
    let n : Kept p a = subst (λ y. Kept y a) e k in
    let i : c < length a.class_side.bodies.items = let q : length a.class_side.bodies.items ≡ length p.classes = n.class_side.bodies.0 in omega arith in
    let z : BodiedAt (Some (get_or a.class_side.bodies.items c d)) (chain_of p c) = heads_got a.class_side.bodies.items c d (λ o. BodiedAt o (chain_of p c)) i (n.class_side.bodies.1 c i) in
    ap (λ y. is_some (get nat_eq y.of m)) g ∙ ap is_some (z m)

pub knows_yes : (p : Program) (c m : ℕ) (a : Bool) → a ≡ types_offer (chain_of p c) m → a ≡ true → true ≡ knows (chain_of p c) m
knows_yes p c m a e t = sym (knows_is (chain_of p c) m ∙ ap (λ x. cond x true (among (hidden (chain_of p c)) m)) (sym e ∙ t))

pub knows_rest : (p : Program) (c m : ℕ) (a b : Bool) → a ≡ types_offer (chain_of p c) m → a ≡ false → b ≡ among (hidden (chain_of p c)) m → b ≡ knows (chain_of p c) m
knows_rest p c m a b e f g = g ∙ sym (knows_is (chain_of p c) m ∙ ap (λ x. cond x true (among (hidden (chain_of p c)) m)) (sym e ∙ f))
