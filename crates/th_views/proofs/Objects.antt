-- The laws of the objects of a program's classes, from those of trees.
use Rattle.std.proofs.Common.{◌≡◌, ℕ, zero, suc, ◌+◌, ◌<◌, ◌≤◌, List, [], ◌∷◌, ◌++◌, length, get_or, max, Bool, true, false, nat_eq, cond, refl, sym, ap, ◌∙◌, subst, ◌⊎◌, inl, inr, arith, le_refl, Option, Some, None}
use Rattle.std.specs.Prelude.{slice_get}
use Rattle.std.proofs.lemmas.Bool.{cases_Bool, eq-eqb}
use Rattle.th_views.specs.declared.TypeRow.{TypeRow}
use Rattle.th_views.specs.declared.ClassRow.{ClassRow}
use Rattle.th_views.specs.Tree.{Tree, Node, bare, name_of, own_of, is_up, span, depth, reaches, cast, Seen, On, Place, Above, place}
use Rattle.th_views.specs.Graph.{trees_by}
use Rattle.th_views.specs.Listed.{spots, lowered, first_of, HasSpot}
use Rattle.th_views.specs.Chain.{Link, start, words, hidden, SeenBy, OnHead, Grown, Raised, TypeSlot, HiddenSlot, among, lookup, filled, FieldAt}
use Rattle.th_views.specs.Rows.{Program, graph_of, tree_of, chain_of, climb, linked, inherited, inherits_in, supers_in, marked_in, own_in, Ordered, Inherited, Before}
use Rattle.th_views.specs.Objects.{object_spots, none, upward_count, raised, OwnSlot, HiddenAt, Extended, Sound}
use Rattle.th_views.specs.Laws.{V1, V2, V3, V5, Served, Counted}
use Rattle.th_views.proofs.Views.{Same}
use Rattle.th_views.proofs.Lists.{has_left, has_right, has_either, has_lowered, lowered_has, seen_spot, first_cast}
use Rattle.th_views.proofs.Grown.{seen_tree, tree_is}
use Rattle.th_views.proofs.Chains.{SeesBy, v1_class, v2_here, seen_by_below, apart_types, apart_hidden, hidden_same, field_in, field_same}
use Rattle.th_views.proofs.Lawful.{here, cast_found, name_tree, v3, or_true, true_cond}
use Rattle.th_views.proofs.Summed.{span_sum, depth_plain, words_less}

-- each class's type is one of the program's
abbrev pub Planted : List TypeRow → List Link → Type 0
Planted types [] = Unit
Planted types (c ∷ rest) = ((k : ℕ) × (c.of ≡ tree_of types k)) × Planted types rest

planted_linked : (types : List TypeRow) (o : Option ClassRow) (rest : List Link) → Planted types rest → Planted types (linked types o rest)
planted_linked types None rest h = tt
planted_linked types (Some c) rest h = ((c.of, refl), h)

planted_inherited : (types : List TypeRow) (f : ℕ → List Link) (o : Option ℕ) → ((k : ℕ) → Planted types (f k)) → Planted types (inherited f o)
planted_inherited types f None h = tt
planted_inherited types f (Some k) h = h k

pub planted : (p : Program) (h n : ℕ) → Planted p.types (climb p h n)
planted p zero n = planted_linked p.types (slice_get p.classes n) [] tt
planted p (suc h) n = planted_linked p.types (slice_get p.classes n) (inherited (climb p h) (inherits_in (slice_get p.classes n)))
    (planted_inherited p.types (climb p h) (inherits_in (slice_get p.classes n)) (λ k. planted p h k))

-- what the list shows is seen
pub object_shown : (types : List TypeRow) → Ordered types → (chain : List Link) → Planted types chain → (t w : ℕ) → HasSpot (object_spots chain) t w → SeenBy chain (tree_of types t) w
object_shown types o [] a t w h = absurd h
object_shown types o (c ∷ rest) a t w h = by (has_either (lowered (start (c ∷ rest)) (spots c.of)) (object_spots rest) t w h) (λ k. object_shown types o rest a.1 t w k)
  where
    by : HasSpot (lowered (start (c ∷ rest)) (spots c.of)) t w ⊎ HasSpot (object_spots rest) t w → (HasSpot (object_spots rest) t w → SeenBy rest (tree_of types t) w)
        → SeenBy (c ∷ rest) (tree_of types t) w
    by (inl k) again = let q : (v : ℕ) × (w ≡ start (c ∷ rest) + v) × HasSpot (spots c.of) t v = lowered_has (start (c ∷ rest)) (spots c.of) t w k in
        inl (q.0, q.1, subst (λ x. Seen x (tree_of types t) q.0) (sym a.0.1) (here types o a.0.0 t q.0 (subst (λ x. HasSpot (spots x) t q.0) a.0.1 q.2)))
    by (inr k) again = inr (again k)

-- what is seen is in the list
pub object_spot : (chain : List Link) (t : Tree) (w : ℕ) → SeenBy chain t w → HasSpot (object_spots chain) (name_of t) w
object_spot [] t w h = absurd h
object_spot (c ∷ rest) t w (inl h) = has_left (lowered (start (c ∷ rest)) (spots c.of)) (object_spots rest) (name_of t) w
    (subst (λ k. HasSpot (lowered (start (c ∷ rest)) (spots c.of)) (name_of t) k) (sym h.1) (has_lowered (start (c ∷ rest)) (spots c.of) (name_of t) h.0 (seen_spot c.of t h.0 h.2)))
object_spot (c ∷ rest) t w (inr h) = has_right (lowered (start (c ∷ rest)) (spots c.of)) (object_spots rest) (name_of t) w (object_spot rest t w h)

shown_at : (p : Program) → Sound p → (c t w : ℕ) → HasSpot (object_spots (chain_of p c)) t w → SeenBy (chain_of p c) (tree_of p.types t) w
shown_at p s c t w h = object_shown p.types s.types (chain_of p c) (planted p c c) t w h

pub all_v1 : (p : Program) → Sound p → V1 p
all_v1 p s c t w u d h e =
    let r : (reaches (tree_of p.types t) u ≡ true) × (cast (tree_of p.types t) u ≡ d) =
    cast_found (tree_of p.types t) u d (reaches (tree_of p.types t) u) (sym (first_cast (tree_of p.types t) u) ∙ e) in
    let k : SeesBy (chain_of p c) u (w + cast (tree_of p.types t) u) = v1_class (chain_of p c) (tree_of p.types t) w u (shown_at p s c t w h) r.0 in
    let g : HasSpot (object_spots (chain_of p c)) (name_of k.tree) (w + cast (tree_of p.types t) u) = object_spot (chain_of p c) k.tree (w + cast (tree_of p.types t) u) k.seen in
    subst (λ n. HasSpot (object_spots (chain_of p c)) n (w + d)) k.named (subst (λ v. HasSpot (object_spots (chain_of p c)) (name_of k.tree) (w + v)) r.1 g)

-- more levels than a class has classes above it change nothing
module _ (p : Program) (o : Inherited p.classes) where
  inherited_same : (h k n : ℕ) (d : Option ℕ) → Before n d → n ≤ suc h → n ≤ suc k → ((m : ℕ) → m ≤ h → m ≤ k → climb p h m ≡ climb p k m)
      → inherited (climb p h) d ≡ inherited (climb p k) d
  inherited_same h k n None b x y again = refl
  inherited_same h k n (Some d) b x y again = again d (omega arith) (omega arith)

  none_above : (n : ℕ) (d : Option ℕ) (f : ℕ → List Link) → Before n d → n ≤ 0 → [] ≡ inherited f d
  none_above n None f b x = refl
  none_above n (Some d) f b x = absurd (omega arith)

  pub climb_same : (h k n : ℕ) → n ≤ h → n ≤ k → climb p h n ≡ climb p k n
  climb_same zero zero n x y = refl
  climb_same zero (suc k) n x y = ap (linked p.types (slice_get p.classes n)) (none_above n (inherits_in (slice_get p.classes n)) (climb p k) (o n) x)
  climb_same (suc h) zero n x y = ap (linked p.types (slice_get p.classes n)) (sym (none_above n (inherits_in (slice_get p.classes n)) (climb p h) (o n) y))
  climb_same (suc h) (suc k) n x y = ap (linked p.types (slice_get p.classes n))
      (inherited_same h k n (inherits_in (slice_get p.classes n)) (o n) x y (λ m a b. climb_same h k m a b))

  inherited_own : (h n : ℕ) (d : Option ℕ) → Before n d → n ≤ suc h → inherited (climb p h) d ≡ inherited (chain_of p) d
  inherited_own h n None b x = refl
  inherited_own h n (Some d) b x = climb_same h d d (omega arith) (le_refl d)

  -- the equation of a class's chain
  pub chain_is : (n : ℕ) → chain_of p n ≡ linked p.types (slice_get p.classes n) (inherited (chain_of p) (inherits_in (slice_get p.classes n)))
  chain_is n = climb_same n (suc n) n (le_refl n) (omega arith)
      ∙ ap (linked p.types (slice_get p.classes n)) (inherited_own n n (inherits_in (slice_get p.classes n)) (o n) (omega arith))

own_at : (types : List TypeRow) (o : Option ClassRow) (c : ClassRow) (rest chain : List Link) → o ≡ Some c → chain ≡ linked types o rest
    → HasSpot (object_spots chain) (name_of (tree_of types c.of)) (start chain)
own_at types o c rest chain e q = subst (λ l. HasSpot (object_spots l) (name_of (tree_of types c.of)) (start l)) (sym (q ∙ ap (λ x. linked types x rest) e))
    (object_spot (linked types (Some c) rest) (tree_of types c.of) (start (linked types (Some c) rest)) (v2_here (record { class = c.name; of = tree_of types c.of; extends = c.extends; hidden = c.hidden; bodies = c.bodies; wheres = c.wheres; fields = c.fields }) rest))

above_at : (types : List TypeRow) (o : Option ClassRow) (rest : List Link) (d t w : ℕ) → inherits_in o ≡ Some d → HasSpot (object_spots rest) t w → HasSpot (object_spots (linked types o rest)) t w
above_at types None rest d t w e h = absurd (cc)
above_at types (Some c) rest d t w e h = has_right (lowered (start (linked types (Some c) rest)) (spots (tree_of types c.of))) (object_spots rest) t w h

pub all_v2 : (p : Program) → Sound p → V2 p
all_v2 p s = record {
  own = λ n c e. subst (λ k. HasSpot (object_spots (chain_of p n)) k (start (chain_of p n))) (name_tree p.types c.of)
      (own_at p.types (slice_get p.classes n) c (inherited (chain_of p) (inherits_in (slice_get p.classes n))) (chain_of p n) e (chain_is p s.classes n));
  above = λ n d t w e h. subst (λ l. HasSpot (object_spots l) t w) (sym (chain_is p s.classes n))
      (above_at p.types (slice_get p.classes n) (inherited (chain_of p) (inherits_in (slice_get p.classes n))) d t w e
      (subst (λ o. HasSpot (object_spots (inherited (chain_of p) o)) t w) (sym e) h));
}

-- a class that extends a group has the inherited class's type on its type's first chain
module _ (p : Program) (x : Extended p) where
  head_empty : (c : ClassRow) (n k : ℕ) (o : Option ClassRow) → slice_get p.classes n ≡ Some c → c.inherits ≡ Some k → slice_get p.classes k ≡ o → c.extends ≡ true
      → OnHead (linked p.types o []) (tree_of p.types c.of)
  head_empty c n k None e i q t = tt
  head_empty c n k (Some d) e i q t = x n k c d e i q t

  head_full : (c : ClassRow) (n k h : ℕ) (o : Option ClassRow) → slice_get p.classes n ≡ Some c → c.inherits ≡ Some k → slice_get p.classes k ≡ o → c.extends ≡ true
      → OnHead (linked p.types o (inherited (climb p h) (inherits_in o))) (tree_of p.types c.of)
  head_full c n k h None e i q t = tt
  head_full c n k h (Some d) e i q t = x n k c d e i q t

  head_climb : (c : ClassRow) (n k h : ℕ) → slice_get p.classes n ≡ Some c → c.inherits ≡ Some k → c.extends ≡ true → OnHead (climb p h k) (tree_of p.types c.of)
  head_climb c n k zero e i t = head_empty c n k (slice_get p.classes k) e i refl t
  head_climb c n k (suc h) e i t = head_full c n k h (slice_get p.classes k) e i refl t

  head_inherited : (c : ClassRow) (n h : ℕ) (d : Option ℕ) → slice_get p.classes n ≡ Some c → c.inherits ≡ d → c.extends ≡ true → OnHead (inherited (climb p h) d) (tree_of p.types c.of)
  head_inherited c n h None e i t = tt
  head_inherited c n h (Some k) e i t = head_climb c n k h e i t

  grown_inherited : (h : ℕ) (d : Option ℕ) → ((k : ℕ) → Grown (climb p h k)) → Grown (inherited (climb p h) d)
  grown_inherited h None again = tt
  grown_inherited h (Some k) again = again k

  grown_alone : (o : Option ClassRow) → Grown (linked p.types o [])
  grown_alone None = tt
  grown_alone (Some c) = (λ t. tt, tt)

  grown_linked : (n h : ℕ) (o : Option ClassRow) → slice_get p.classes n ≡ o → Grown (inherited (climb p h) (inherits_in o)) → Grown (linked p.types o (inherited (climb p h) (inherits_in o)))
  grown_linked n h None e g = g
  grown_linked n h (Some c) e g = (λ t. head_inherited c n h c.inherits e refl t, g)

  pub grown : (h n : ℕ) → Grown (climb p h n)
  grown zero n = grown_alone (slice_get p.classes n)
  grown (suc h) n = grown_linked n h (slice_get p.classes n) refl (grown_inherited h (inherits_in (slice_get p.classes n)) (λ k. grown h k))

-- no upward type of the program has more own methods than the greatest number
none_bare : (f : ℕ → Tree) (ss : List ℕ) → bare (trees_by f ss) ≡ none ss
none_bare f [] = refl
none_bare f (s ∷ ss) = refl

count_up : (r : TypeRow) → cond r.marked (none r.supers) false ≡ true → length r.own ≤ upward_count r
count_up r e = rw e (le_refl (length r.own))

raised_at : (types : List TypeRow) (n : ℕ) → cond (marked_in (slice_get types n)) (none (supers_in (slice_get types n))) false ≡ true → length (own_in (slice_get types n)) ≤ raised types
raised_at [] n e = omega arith
raised_at (r ∷ rest) zero e = let k : length r.own ≤ upward_count r = count_up r e in omega arith
raised_at (r ∷ rest) (suc n) e = let k : length (own_in (slice_get rest n)) ≤ raised rest = raised_at rest n e in omega arith

up_raised : (types : List TypeRow) → Ordered types → (n : ℕ) → is_up (tree_of types n) ≡ true → length (own_of (tree_of types n)) ≤ raised types
up_raised types o n e =
    let q : tree_of types n ≡ Node n (marked_in (slice_get types n)) (own_in (slice_get types n)) (trees_by (tree_of types) (supers_in (slice_get types n))) = tree_is (graph_of types) (λ k. k) o n in
    let u : cond (marked_in (slice_get types n)) (none (supers_in (slice_get types n))) false ≡ true =
    ap (λ b. cond (marked_in (slice_get types n)) b false) (sym (none_bare (tree_of types) (supers_in (slice_get types n)))) ∙ (sym (ap is_up q) ∙ e) in
    let l : length (own_of (tree_of types n)) ≡ length (own_in (slice_get types n)) = ap (λ x. length (own_of x)) q in
    let k : length (own_in (slice_get types n)) ≤ raised types = raised_at types n u in omega arith

pub seen_placed : (types : List TypeRow) → Ordered types → (chain : List Link) → Planted types chain → (t : Tree) (w : ℕ) → SeenBy chain t w → t ≡ tree_of types (name_of t)
seen_placed types o [] a t w h = absurd h
seen_placed types o (c ∷ rest) a t w (inl h) = seen_tree (graph_of types) (λ n. n) o a.0.0 a.0.0 t h.0 (le_refl a.0.0) (subst (λ x. Seen x t h.0) a.0.1 h.2)
seen_placed types o (c ∷ rest) a t w (inr h) = seen_placed types o rest a.1 t w h

pub raised_by : (types : List TypeRow) → Ordered types → (chain : List Link) → Planted types chain → Raised (raised types) chain
raised_by types o chain a t w h u = let q : t ≡ tree_of types (name_of t) = seen_placed types o chain a t w h in
    let k : length (own_of (tree_of types (name_of t))) ≤ raised types = up_raised types o (name_of t) (sym (ap is_up q) ∙ u) in
    let l : length (own_of t) ≡ length (own_of (tree_of types (name_of t))) = ap (λ x. length (own_of x)) q in omega arith

-- an item of a list stands below its length
pub got_within : (l : List ℕ) (i m : ℕ) → slice_get l i ≡ Some m → i < length l
got_within [] i m e = absurd (cc)
got_within (x ∷ xs) zero m e = omega arith
got_within (x ∷ xs) (suc i) m e = let k : i < length xs = got_within xs i m e in omega arith

pub got_is : (l : List ℕ) (i m : ℕ) → slice_get l i ≡ Some m → m ≡ get_or l i 0
got_is [] i m e = absurd (cc)
got_is (x ∷ xs) zero m e = cc
got_is (x ∷ xs) (suc i) m e = got_is xs i m e

abbrev own_slot : (p : Program) → Sound p → (c w : ℕ) (o : Place) (m t : ℕ) → OwnSlot p c w o m t → TypeSlot (chain_of p c) w o m
own_slot p s c w o m t a = record {
  tree = tree_of p.types t;
  index = a.index;
  seen = shown_at p s c t w a.seen;
  within = got_within (own_of (tree_of p.types t)) a.index m a.method;
  there = a.there;
  method = got_is (own_of (tree_of p.types t)) a.index m a.method;
}

abbrev hidden_slot : (p : Program) (c w : ℕ) (o : Place) (m : ℕ) → HiddenAt p c w o m → HiddenSlot (raised p.types) (chain_of p c) w o m
hidden_slot p c w o m a = record {
  index = a.index;
  anchor = a.anchor;
  within = got_within (hidden (chain_of p c)) a.index m a.method;
  there = a.there;
  method = got_is (hidden (chain_of p c)) a.index m a.method;
}

some_one : (l : List ℕ) (i j m n : ℕ) → i ≡ j → slice_get l i ≡ Some m → slice_get l j ≡ Some n → m ≡ n
some_one l i j m n e a b = got_is l i m a ∙ ap (λ k. get_or l k 0) e ∙ sym (got_is l j n b)

own_one : (p : Program) → Sound p → (c w : ℕ) (o : Place) (m n t s : ℕ) → OwnSlot p c w o m t → OwnSlot p c w o n s → (m ≡ n) × (t ≡ s)
own_one p g c w o m n t s a b =
    let k : Same (tree_of p.types t) (tree_of p.types s) a.index b.index =
    apart_types (chain_of p c) w o m n (grown p g.extended c c) (own_slot p g c w o m t a) (own_slot p g c w o n s b) in (
      some_one (own_of (tree_of p.types s)) a.index b.index m n k.index (subst (λ x. slice_get (own_of x) a.index ≡ Some m) k.tree a.method) b.method,
      sym (name_tree p.types t) ∙ ap name_of k.tree ∙ name_tree p.types s,
    )

pub all_v5 : (p : Program) → Sound p → V5 p
all_v5 p g = record {
  own = λ c w o m n t s a b. own_one p g c w o m n t s a b;
  hidden = λ c w o m n a b. some_one (hidden (chain_of p c)) a.index b.index m n
      (hidden_same (raised p.types) (chain_of p c) w o m n (hidden_slot p c w o m a) (hidden_slot p c w o n b)) a.method b.method;
  apart = λ c w o m n t a b. apart_hidden (raised p.types) (chain_of p c) w o m n (raised_by p.types g.types (chain_of p c) (planted p c c)) (own_slot p g c w o m t a) (hidden_slot p c w o n b);
  within = λ c t w h. seen_by_below (chain_of p c) (tree_of p.types t) w (grown p g.extended c c) (shown_at p g c t w h);
  field_in = λ c d i k h. let q : (d < length (chain_of p c)) × (1 ≤ k) × (k ≤ filled (chain_of p c)) = field_in (chain_of p c) d i k h in (q.1, q.2);
  field_one = λ c d i e j k a b. field_same (chain_of p c) d i e j k a b;
}

among_got : (l : List ℕ) (i m : ℕ) → slice_get l i ≡ Some m → among l m ≡ true
among_got [] i m e = absurd (cc)
among_got (x ∷ xs) zero m e = or_true (nat_eq x m) (among xs m) (eq-eqb x m (cc))
among_got (x ∷ xs) (suc i) m e = true_cond (nat_eq x m) (among xs m) (among_got xs i m e)

pub all_v3 : (p : Program) → Sound p → V3 p
all_v3 p g c w o m t s a = v3 (chain_of p c) (tree_of p.types t) w m s (shown_at p g c t w a.seen) (among_got (own_of (tree_of p.types t)) a.index m a.method)

pub all_counted : (p : Program) → Counted p
all_counted p = record { span = λ t. span_sum (tree_of p.types t); words = λ c. words_less (chain_of p c); depth = λ t. depth_plain (tree_of p.types t) }
