-- Laws of a class's header words, slots and fields.
use Rattle.std.proofs.Common.{◌≡◌, ℕ, ◌+◌, ◌<◌, ◌≤◌, List, [], ◌∷◌, length, true, false, sym, ◌∙◌, subst, ◌⊎◌, inl, inr, arith, le_refl}
use Rattle.std.proofs.lemmas.Bool.{cases_Bool, cases_lt}
use Rattle.th_views.specs.Tree.{Tree, Node, base, End, Also, name_of, own_of, is_up, reaches, cast, span, Seen, On, Place, Above, Below}
use Rattle.th_views.specs.Chain.{Link, low_span, start, words, SeenBy, Grown, filled, FieldAt, TypeSlot, HiddenSlot, Raised}
use Rattle.th_views.proofs.Views.{Sees, cast_seen, seen_on, seen_self, seen_below, span_some, Alike, alike, Same, apart_by, place_up, place_down}

pub on_span : (x t : Tree) → On x t → span t ≤ span x
on_span (Node n f own ss) t (inl h) = subst (λ y. span y ≤ span (Node n f own ss)) (sym h) (le_refl (span (Node n f own ss)))
on_span (Node n f own End) t (inr h) = absurd h
on_span (Node n f own (Also s rest)) t (inr h) = let k : span t ≤ span s = on_span s t h in omega arith

pub on_seen : (x t s : Tree) (w : ℕ) → On x t → Seen t s w → Seen x s w
on_seen (Node n f own ss) t s w (inl h) g = subst (λ y. Seen y s w) h g
on_seen (Node n f own End) t s w (inr h) g = absurd h
on_seen (Node n f own (Also x rest)) t s w (inr h) g = inr (inl (w, omega arith, on_seen x t s w h g))

pub record SeesBy (chain : List Link) (u w : ℕ) : Type 0 where
  pub tree : Tree
  pub named : name_of tree ≡ u
  pub seen : SeenBy chain tree w

pub seen_by_on : (chain : List Link) (t s : Tree) (w v : ℕ) → SeenBy chain t w → Seen t s v → SeenBy chain s (w + v)
seen_by_on [] t s w v h g = absurd h
seen_by_on (c ∷ rest) t s w v (inl h) g = inl (h.0 + v, omega arith, seen_on c.of t s h.0 v h.2 g)
seen_by_on (c ∷ rest) t s w v (inr h) g = inr (seen_by_on rest t s w v h g)

-- V1
pub v1_class : (chain : List Link) (t : Tree) (w u : ℕ) → SeenBy chain t w → reaches t u ≡ true → SeesBy chain u (w + cast t u)
v1_class chain t w u h r = let k : Sees t u (cast t u) = cast_seen t u r in
    record { tree = k.tree; named = k.named; seen = seen_by_on chain t k.tree w (cast t u) h k.seen }

-- V2
pub v2_here : (c : Link) (rest : List Link) → SeenBy (c ∷ rest) c.of (start (c ∷ rest))
v2_here c rest = inl (0, omega arith, seen_self c.of)

below_grown : (c : Link) (rest : List Link) (w : ℕ) → Grown (c ∷ rest) → w < words rest → w < words (c ∷ rest)
below_grown c [] w g h = omega arith
below_grown c (d ∷ rest) w g h = by (cases_Bool c.extends)
  where
    by : (c.extends ≡ true) ⊎ (c.extends ≡ false) → w < words (c ∷ d ∷ rest)
    by (inl e) = let k : span d.of ≤ span c.of = on_span c.of d.of (g.0 e) in rw e (omega arith)
    by (inr e) = let k : 1 ≤ span c.of = span_some c.of in rw e (omega arith)

pub seen_by_below : (chain : List Link) (t : Tree) (w : ℕ) → Grown chain → SeenBy chain t w → w < words chain
seen_by_below [] t w g h = absurd h
seen_by_below (c ∷ rest) t w g (inl h) = let k : h.0 < span c.of = seen_below c.of t h.0 h.2 in omega arith
seen_by_below (c ∷ rest) t w g (inr h) = below_grown c rest w g (seen_by_below rest t w g.1 h)

-- what is seen in the lowest group is seen from the class's own type
abbrev pub Low : List Link → Tree → ℕ → Type 0
Low [] t w = ⊥
Low (c ∷ rest) t w = (v : ℕ) × (w ≡ start (c ∷ rest) + v) × Seen c.of t v

low_up : (c : Link) (rest : List Link) (t : Tree) (w : ℕ) → Grown (c ∷ rest) → c.extends ≡ true → Low rest t w → Low (c ∷ rest) t w
low_up c [] t w g e h = absurd h
low_up c (d ∷ rest) t w g e h = (h.0, rw e h.1, on_seen c.of d.of t h.0 (g.0 e) h.2)

pub lowest : (chain : List Link) (t : Tree) (w : ℕ) → Grown chain → SeenBy chain t w → start chain ≤ w → Low chain t w
lowest [] t w g h l = absurd h
lowest (c ∷ rest) t w g (inl h) l = h
lowest (c ∷ rest) t w g (inr h) l = by (cases_Bool c.extends) (λ k. lowest rest t w g.1 h k)
  where
    by : (c.extends ≡ true) ⊎ (c.extends ≡ false) → (start rest ≤ w → Low rest t w) → Low (c ∷ rest) t w
    by (inl e) k = low_up c rest t w g e (k (rw e at l))
    by (inr e) k = let b : w < words rest = seen_by_below rest t w g.1 h in let m : start rest + low_span rest ≤ w = (rw e at l) in absurd (omega arith)

low_alike : (chain : List Link) (t s : Tree) (w : ℕ) → Low chain t w → Low chain s w → Alike t s
low_alike [] t s w h g = absurd h
low_alike (c ∷ rest) t s w h g = alike c.of t s h.0 h.2 (let q : g.0 ≡ h.0 = omega arith in subst (λ k. Seen c.of s k) q g.2)

pub higher : (c : Link) (rest : List Link) (t : Tree) (w : ℕ) → w < start (c ∷ rest) → SeenBy (c ∷ rest) t w → SeenBy rest t w
higher c rest t w l (inl h) = absurd (omega arith)
higher c rest t w l (inr h) = h

pub alike_by : (chain : List Link) (t s : Tree) (w : ℕ) → Grown chain → SeenBy chain t w → SeenBy chain s w → Alike t s
alike_by [] t s w g h k = absurd h
alike_by (c ∷ rest) t s w g h k = by (cases_lt w (start (c ∷ rest))) (λ a b. alike_by rest t s w g.1 a b)
  where
    by : (w < start (c ∷ rest)) ⊎ (start (c ∷ rest) ≤ w) → (SeenBy rest t w → SeenBy rest s w → Alike t s) → Alike t s
    by (inl l) again = again (higher c rest t w l h) (higher c rest s w l k)
    by (inr l) again = low_alike (c ∷ rest) t s w (lowest (c ∷ rest) t w g h l) (lowest (c ∷ rest) s w g k l)

-- V5: two slots of types at one place are one
pub apart_types : (chain : List Link) (w : ℕ) (p : Place) (m n : ℕ) → Grown chain
    → (a : TypeSlot chain w p m) → (b : TypeSlot chain w p n) → Same a.tree b.tree a.index b.index
apart_types chain w p m n g a b = apart_by a.tree b.tree a.index b.index a.within b.within (alike_by chain a.tree b.tree w g a.seen b.seen)
    (sym a.there ∙ b.there) (cases_Bool (is_up a.tree)) (cases_Bool (is_up b.tree))

-- a hidden slot is no type's
pub apart_hidden : (raised : ℕ) (chain : List Link) (w : ℕ) (p : Place) (m n : ℕ) → Raised raised chain
    → TypeSlot chain w p m → HiddenSlot raised chain w p n → ⊥
apart_hidden raised chain w p m n r a b = by (cases_Bool (is_up a.tree))
  where
    by : (is_up a.tree ≡ true) ⊎ (is_up a.tree ≡ false) → ⊥
    by (inl u) = let e : Above a.index ≡ Above (raised + b.index) = sym (place_up a.tree a.index u) ∙ sym a.there ∙ b.there in
        let q : a.index ≡ raised + b.index = cc in let k : length (own_of a.tree) ≤ raised = r a.tree w a.seen u in omega arith
    by (inr u) = let e : Below (base a.tree + a.index) ≡ Above (raised + b.index) = sym (place_down a.tree a.index u) ∙ sym a.there ∙ b.there in cc

pub hidden_same : (raised : ℕ) (chain : List Link) (w : ℕ) (p : Place) (m n : ℕ)
    → (a : HiddenSlot raised chain w p m) → (b : HiddenSlot raised chain w p n) → a.index ≡ b.index
hidden_same raised chain w p m n a b = let e : Above (raised + a.index) ≡ Above (raised + b.index) = sym a.there ∙ b.there in
    let q : raised + a.index ≡ raised + b.index = cc in omega arith

-- fields lie above the anchor and don't overlap
pub field_in : (chain : List Link) (d i k : ℕ) → FieldAt chain d i k → (d < length chain) × (1 ≤ k) × (k ≤ filled chain)
field_in [] d i k h = absurd h
field_in (c ∷ rest) d i k (inl h) = (omega arith, omega arith, omega arith)
field_in (c ∷ rest) d i k (inr h) = by (field_in rest d i k h)
  where
    by : (d < length rest) × (1 ≤ k) × (k ≤ filled rest) → (d < length (c ∷ rest)) × (1 ≤ k) × (k ≤ filled (c ∷ rest))
    by q = (omega arith, q.1, omega arith)

pub field_same : (chain : List Link) (d i e j k : ℕ) → FieldAt chain d i k → FieldAt chain e j k → (d ≡ e) × (i ≡ j)
field_same [] d i e j k h g = absurd h
field_same (c ∷ rest) d i e j k (inl h) (inl g) = (omega arith, omega arith)
field_same (c ∷ rest) d i e j k (inl h) (inr g) = absurd (by (field_in rest e j k g))
  where
    by : (e < length rest) × (1 ≤ k) × (k ≤ filled rest) → ⊥
    by q = omega arith
field_same (c ∷ rest) d i e j k (inr h) (inl g) = absurd (by (field_in rest d i k h))
  where
    by : (d < length rest) × (1 ≤ k) × (k ≤ filled rest) → ⊥
    by q = omega arith
field_same (c ∷ rest) d i e j k (inr h) (inr g) = field_same rest d i e j k h g
