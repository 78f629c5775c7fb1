-- Laws of one type's header words.
use Rattle.std.proofs.Common.{◌≡◌, ℕ, ◌+◌, ◌<◌, ◌≤◌, List, length, Bool, true, false, nat_eq, cond, refl, sym, ap, ◌∙◌, subst, ◌⊎◌, inl, inr, arith, le_refl}
use Rattle.std.proofs.lemmas.Bool.{cases_Bool, eqb-true}
use Rattle.th_views.specs.Tree.{Tree, Node, Trees, End, Also, name_of, own_of, bare, is_up, next, merged_at, topped, topped_in, room, at, span, span_in, Seen, SeenIn, reaches, reaches_in, cast, cast_in, depth, base, Below, Above, place, On}
use Rattle.th_views.specs.declared.Turn.{Turn}
use Rattle.th_views.specs.declared.Turn.TheVariants.{First, Second, Later}

-- what is seen from something seen is seen, at the sum
mutual
  pub seen_on : (x t s : Tree) (w v : ℕ) → Seen x t w → Seen t s v → Seen x s (w + v)
  seen_on (Node n f own ss) t s w v (inl h) g = subst (λ y. Seen y s (w + v)) h.0 (subst (λ k. Seen t s k) (omega arith) g)
  seen_on (Node n f own ss) t s w v (inr h) g = inr (seen_on_in First 0 ss t s w v h g)

  pub seen_on_in : (p : Turn) (b : ℕ) (ss : Trees) (t s : Tree) (w v : ℕ) → SeenIn p b ss t w → Seen t s v → SeenIn p b ss s (w + v)
  seen_on_in p b End t s w v h g = absurd h
  seen_on_in p b (Also x rest) t s w v (inl h) g = inl (h.0 + v, omega arith, seen_on x t s h.0 v h.2 g)
  seen_on_in p b (Also x rest) t s w v (inr h) g = inr (seen_on_in (next p (topped x)) (b + room (merged_at p (is_up x)) (span x)) rest t s w v h g)

pub seen_self : (x : Tree) → Seen x x 0
seen_self (Node n f own ss) = inl (refl, refl)

-- u is seen at the cast's distance
pub record Sees (x : Tree) (u w : ℕ) : Type 0 where
  pub tree : Tree
  pub named : name_of tree ≡ u
  pub seen : Seen x tree w

pub record SeesIn (p : Turn) (b : ℕ) (ss : Trees) (u w : ℕ) : Type 0 where
  pub tree : Tree
  pub named : name_of tree ≡ u
  pub seen : SeenIn p b ss tree w

cast_self : (n : ℕ) (f : Bool) (own : List ℕ) (ss : Trees) (u : ℕ) → reaches (Node n f own ss) u ≡ true
    → (nat_eq n u ≡ true) ⊎ (nat_eq n u ≡ false)
    → (reaches_in ss u ≡ true → SeesIn First 0 ss u (cast_in First 0 ss u)) → Sees (Node n f own ss) u (cast (Node n f own ss) u)
cast_self n f own ss u r (inl e) h = rw e (record { tree = Node n f own ss; named = eqb-true n u e; seen = inl (refl, refl) })
cast_self n f own ss u r (inr e) h = let k : SeesIn First 0 ss u (cast_in First 0 ss u) = h (rw e at r) in
    rw e (record { tree = k.tree; named = k.named; seen = inr k.seen })

cast_first : (p : Turn) (b : ℕ) (x : Tree) (rest : Trees) (u : ℕ) → reaches_in (Also x rest) u ≡ true
    → (reaches x u ≡ true) ⊎ (reaches x u ≡ false)
    → (reaches x u ≡ true → Sees x u (cast x u))
    → (reaches_in rest u ≡ true → SeesIn (next p (topped x)) (b + room (merged_at p (is_up x)) (span x)) rest u (cast_in (next p (topped x)) (b + room (merged_at p (is_up x)) (span x)) rest u))
    → SeesIn p b (Also x rest) u (cast_in p b (Also x rest) u)
cast_first p b x rest u r (inl e) h g = let k : Sees x u (cast x u) = h e in
    rw e (record { tree = k.tree; named = k.named; seen = inl (cast x u, refl, k.seen) })
cast_first p b x rest u r (inr e) h g =
    let k : SeesIn (next p (topped x)) (b + room (merged_at p (is_up x)) (span x)) rest u (cast_in (next p (topped x)) (b + room (merged_at p (is_up x)) (span x)) rest u) = g (rw e at r) in
    rw e (record { tree = k.tree; named = k.named; seen = inr k.seen })

mutual
  pub cast_seen : (x : Tree) (u : ℕ) → reaches x u ≡ true → Sees x u (cast x u)
  cast_seen (Node n f own ss) u r = cast_self n f own ss u r (cases_Bool (nat_eq n u)) (λ q. cast_seen_in First 0 ss u q)

  pub cast_seen_in : (p : Turn) (b : ℕ) (ss : Trees) (u : ℕ) → reaches_in ss u ≡ true → SeesIn p b ss u (cast_in p b ss u)
  cast_seen_in p b End u r = absurd (cc)
  cast_seen_in p b (Also x rest) u r = cast_first p b x rest u r (cases_Bool (reaches x u)) (λ q. cast_seen x u q)
      (λ q. cast_seen_in (next p (topped x)) (b + room (merged_at p (is_up x)) (span x)) rest u q)

-- V1 of a type: each supertype of a type seen at a word is seen at its cast distance
pub v1 : (x t : Tree) (w u : ℕ) → Seen x t w → reaches t u ≡ true → Sees x u (w + cast t u)
v1 x t w u h r = let k : Sees t u (cast t u) = cast_seen t u r in
    record { tree = k.tree; named = k.named; seen = seen_on x t k.tree w (cast t u) h k.seen }

-- upward types have nothing above them
pub up_alone : (x t : Tree) (w : ℕ) → is_up x ≡ true → Seen x t w → (t ≡ x) × (w ≡ 0)
up_alone (Node n f own End) t w e (inl h) = h
up_alone (Node n f own End) t w e (inr h) = absurd h
up_alone (Node n true own (Also s rest)) t w e h = absurd (cc)
up_alone (Node n false own (Also s rest)) t w e h = absurd (cc)

pub up_on : (x t : Tree) → is_up x ≡ true → On x t → t ≡ x
up_on (Node n f own End) t e (inl h) = h
up_on (Node n f own End) t e (inr h) = absurd h
up_on (Node n true own (Also s rest)) t e h = absurd (cc)
up_on (Node n false own (Also s rest)) t e h = absurd (cc)

pub span_some : (x : Tree) → 1 ≤ span x
span_some (Node n f own End) = omega arith
span_some (Node n f own (Also s rest)) = let h : 1 ≤ span s = span_some s in omega arith

span_some0 : (x : Tree) → 1 ≤ 0 + span x
span_some0 x = let h : 1 ≤ span x = span_some x in omega arith

-- the words before a place of the list
abbrev pub Fine : Turn → ℕ → Type 0
Fine First b = b ≡ 0
Fine (Second q) b = 1 ≤ b
Fine Later b = 1 ≤ b

pub fine_next : (p : Turn) (b : ℕ) (x : Tree) → Fine p b → Fine (next p (topped x)) (b + room (merged_at p (is_up x)) (span x))
fine_next First b x h = let k : 1 ≤ span x = span_some x in omega arith
fine_next (Second q) b x h = omega arith
fine_next Later b x h = omega arith

pub merged_up : (p : Turn) (u : Bool) → merged_at p u ≡ true → u ≡ true
merged_up First u e = absurd (cc)
merged_up (Second true) u e = absurd (cc)
merged_up (Second false) u e = e
merged_up Later u e = absurd (cc)

merged_second : (p : Turn) (u : Bool) → merged_at p u ≡ true → p ≡ Second false
merged_second First u e = absurd (cc)
merged_second (Second true) u e = absurd (cc)
merged_second (Second false) u e = refl
merged_second Later u e = absurd (cc)

pub merged_fine : (p : Turn) (u : Bool) (b : ℕ) → merged_at p u ≡ true → Fine p b → 1 ≤ b
merged_fine First u b e h = absurd (cc)
merged_fine (Second q) u b e h = h
merged_fine Later u b e h = h

below_here : (p : Turn) (b : ℕ) (s : Tree) (r w v : ℕ) (m : Bool) → merged_at p (is_up s) ≡ m → w ≡ at m b + v
    → v < span s → (is_up s ≡ true → v ≡ 0) → Fine p b → w < b + (room m (span s) + r)
below_here p b s r w v true e h lt z g = let k : 1 ≤ b = merged_fine p (is_up s) b e g in
    let l : v ≡ 0 = z (merged_up p (is_up s) e) in omega arith
below_here p b s r w v false e h lt z g = omega arith

mutual
  pub seen_below : (x t : Tree) (w : ℕ) → Seen x t w → w < span x
  seen_below (Node n f own ss) t w (inl h) = let k : 1 ≤ span (Node n f own ss) = span_some (Node n f own ss) in omega arith
  seen_below (Node n f own End) t w (inr h) = absurd h
  seen_below (Node n f own (Also s rest)) t w (inr h) = let k : w < 0 + span_in First (Also s rest) = below_in First 0 (Also s rest) t w refl h in omega arith

  pub below_in : (p : Turn) (b : ℕ) (ss : Trees) (t : Tree) (w : ℕ) → Fine p b → SeenIn p b ss t w → w < b + span_in p ss
  below_in p b End t w g h = absurd h
  below_in p b (Also s rest) t w g (inl h) =
      below_here p b s (span_in (next p (topped s)) rest) w h.0 (merged_at p (is_up s)) refl h.1 (seen_below s t h.0 h.2)
      (λ u. (up_alone s t h.0 u h.2).1) g
  below_in p b (Also s rest) t w g (inr h) =
      let k : w < b + room (merged_at p (is_up s)) (span s) + span_in (next p (topped s)) rest =
      below_in (next p (topped s)) (b + room (merged_at p (is_up s)) (span s)) rest t w (fine_next p b s g) h in omega arith

-- where a supertype of the list's rest is seen: behind the earlier ones, or merged
pub record Merged (p : Turn) (t : Tree) (w : ℕ) : Type 0 where
  pub none : w ≡ 0
  pub upward : is_up t ≡ true
  pub second : p ≡ Second false

bound_here : (p : Turn) (b : ℕ) (s t : Tree) (w v : ℕ) (m : Bool) → merged_at p (is_up s) ≡ m → w ≡ at m b + v → Seen s t v
    → (b ≤ w) ⊎ Merged p t w
bound_here p b s t w v false e h g = inl (omega arith)
bound_here p b s t w v true e h g = let u : is_up s ≡ true = merged_up p (is_up s) e in
    let k : (t ≡ s) × (v ≡ 0) = up_alone s t v u g in
    inr (record { none = omega arith; upward = ap is_up k.0 ∙ u; second = merged_second p (is_up s) e })

bound_later : (p : Turn) (b c : ℕ) (q : Bool) (t : Tree) (w : ℕ) → Fine p b → (b + c ≤ w) ⊎ Merged (next p q) t w → (b ≤ w) ⊎ Merged p t w
bound_later p b c q t w g (inl h) = inl (omega arith)
bound_later First b c q t w g (inr h) = inl (omega arith)
bound_later (Second r) b c q t w g (inr h) = let e : Later ≡ Second false = h.second in absurd (cc)
bound_later Later b c q t w g (inr h) = let e : Later ≡ Second false = h.second in absurd (cc)

pub bound_in : (p : Turn) (b : ℕ) (ss : Trees) (t : Tree) (w : ℕ) → Fine p b → SeenIn p b ss t w → (b ≤ w) ⊎ Merged p t w
bound_in p b End t w g h = absurd h
bound_in p b (Also s rest) t w g (inl h) = bound_here p b s t w h.0 (merged_at p (is_up s)) refl h.1 h.2
bound_in p b (Also s rest) t w g (inr h) = bound_later p b (room (merged_at p (is_up s)) (span s)) (topped s) t w g
    (bound_in (next p (topped s)) (b + room (merged_at p (is_up s)) (span s)) rest t w (fine_next p b s g) h)

pub not_both : (b : Bool) → b ≡ true → b ≡ false → ⊥
not_both b h g = cc

-- at the type's own view the types that aren't upward are on its first chain
pub zero_on : (x t : Tree) → Seen x t 0 → is_up t ≡ false → On x t
zero_on (Node n f own ss) t (inl h) d = inl h.0
zero_on (Node n f own End) t (inr h) d = absurd h
zero_on (Node n f own (Also s rest)) t (inr (inl h)) d =
    inr (zero_on s t (let e : h.0 ≡ 0 = omega arith in subst (λ k. Seen s t k) e h.2) d)
zero_on (Node n f own (Also s rest)) t (inr (inr h)) d =
    absurd (zero_late s t d (bound_in (Second (topped s)) (0 + span s) rest t 0 (span_some0 s) h))
  where
    zero_late : (s t : Tree) → is_up t ≡ false → (0 + span s ≤ 0) ⊎ Merged (Second (topped s)) t 0 → ⊥
    zero_late s t d (inl h) = let k : 1 ≤ span s = span_some s in omega arith
    zero_late s t d (inr h) = not_both (is_up t) h.upward d

top_here : (q : Bool) (b : ℕ) (s : Tree) (r : Bool) (v : ℕ) (m : Bool) → merged_at (Second q) (is_up s) ≡ m → 0 ≡ at m b + v → 1 ≤ b
    → cond (is_up s) true r ≡ true
top_here q b s r v false e h g = absurd (omega arith)
top_here q b s r v true e h g = rw (merged_up (Second q) (is_up s) e) refl

top_second : (q : Bool) (b : ℕ) (rest : Trees) (t : Tree) → 1 ≤ b → SeenIn (Second q) b rest t 0 → topped_in (Second q) rest ≡ true
top_second q b End t g h = absurd h
top_second q b (Also s rest) t g (inl h) = top_here q b s (topped_in Later rest) h.0 (merged_at (Second q) (is_up s)) refl h.1 g
top_second q b (Also s rest) t g (inr h) = absurd (top_late b (room (merged_at (Second q) (is_up s)) (span s)) t (bound_in Later (b + room (merged_at (Second q) (is_up s)) (span s)) rest t 0 (omega arith) h) g)
  where
    top_late : (b c : ℕ) (t : Tree) → (b + c ≤ 0) ⊎ Merged Later t 0 → 1 ≤ b → ⊥
    top_late b c t (inl h) g = omega arith
    top_late b c t (inr h) g = let e : Later ≡ Second false = h.second in cc

cond_true : (a b : Bool) → b ≡ true → cond a true b ≡ true
cond_true true b h = refl
cond_true false b h = h

-- an upward type at the type's own view makes it topped
pub up_topped : (x t : Tree) → Seen x t 0 → is_up t ≡ true → topped x ≡ true
up_topped (Node n f own ss) t (inl h) u = let e : cond f (bare ss) false ≡ true = sym (ap is_up h.0) ∙ u in rw e refl
up_topped (Node n f own End) t (inr h) u = absurd h
up_topped (Node n f own (Also s rest)) t (inr (inl h)) u =
    let e : h.0 ≡ 0 = omega arith in
    let k : topped s ≡ true = up_topped s t (subst (λ k. Seen s t k) e h.2) u in
    cond_true (cond f false false) (cond (topped s) true (topped_in (Second (topped s)) rest)) (rw k refl)
up_topped (Node n f own (Also s rest)) t (inr (inr h)) u =
    cond_true (cond f false false) (cond (topped s) true (topped_in (Second (topped s)) rest))
    (cond_true (topped s) (topped_in (Second (topped s)) rest) (top_second (topped s) (0 + span s) rest t (span_some0 s) h))

-- of two types seen at one word
pub record Alike (t s : Tree) : Type 0 where
  pub downs : is_up t ≡ false → is_up s ≡ false → On t s ⊎ On s t
  pub ups : is_up t ≡ true → is_up s ≡ true → t ≡ s

flipped : (A B : Type 0) → A ⊎ B → B ⊎ A
flipped A B (inl a) = inr a
flipped A B (inr b) = inl b

pub alike_back : (t s : Tree) → Alike t s → Alike s t
alike_back t s h = record { downs = λ a b. flipped (On t s) (On s t) (h.downs b a); ups = λ a b. sym (h.ups b a) }

on_self : (t : Tree) → On t t
on_self (Node n f own ss) = inl refl

alike_self : (t s : Tree) → s ≡ t → Alike t s
alike_self t s e = record { downs = λ a b. inl (subst (On t) (sym e) (on_self t)); ups = λ a b. sym e }

-- with the type itself
alike_top : (x t : Tree) → Seen x t 0 → Alike x t
alike_top x t h = record { downs = λ a b. inl (zero_on x t h b); ups = λ a b. sym (up_alone x t 0 a h).0 }

mixed : (t s : Tree) → is_up t ≡ false → is_up s ≡ true → Alike t s
mixed t s d u = record { downs = λ a b. absurd (not_both (is_up s) u b); ups = λ a b. absurd (not_both (is_up t) a d) }

-- a supertype's view against that of a later one
ahead : (p : Turn) (b : ℕ) (x t s : Tree) (w v : ℕ) (m : Bool) → merged_at p (is_up x) ≡ m → Fine p b → w ≡ at m b + v → Seen x t v → v < span x
    → (b + room m (span x) ≤ w) ⊎ Merged (next p (topped x)) s w → Alike t s
ahead p b x t s w v true e g h y lt (inl k) = let l : 1 ≤ b = merged_fine p (is_up x) b e g in
    let z : v ≡ 0 = (up_alone x t v (merged_up p (is_up x) e) y).1 in absurd (omega arith)
ahead p b x t s w v false e g h y lt (inl k) = absurd (omega arith)
ahead First b x t s w v m e g h y lt (inr k) = ahead_merged x t s v y (first_place m b w v e g h k.none) (k.upward) (k.second) (cases_Bool (is_up t))
  where
    first_place : (m : Bool) (b w v : ℕ) → false ≡ m → b ≡ 0 → w ≡ at m b + v → w ≡ 0 → v ≡ 0
    first_place true b w v e g h z = absurd (cc)
    first_place false b w v e g h z = omega arith

    second_topped : (q : Bool) → Second q ≡ Second false → q ≡ true → ⊥
    second_topped q e u = cc

    ahead_merged : (x t s : Tree) (v : ℕ) → Seen x t v → v ≡ 0 → is_up s ≡ true → Second (topped x) ≡ Second false → (is_up t ≡ true) ⊎ (is_up t ≡ false) → Alike t s
    ahead_merged x t s v y z u e (inl a) = absurd (second_topped (topped x) e (up_topped x t (subst (λ k. Seen x t k) z y) a))
    ahead_merged x t s v y z u e (inr d) = mixed t s d u
ahead (Second q) b x t s w v m e g h y lt (inr k) = let l : Later ≡ Second false = k.second in absurd (cc)
ahead Later b x t s w v m e g h y lt (inr k) = let l : Later ≡ Second false = k.second in absurd (cc)

mutual
  pub alike : (x t s : Tree) (w : ℕ) → Seen x t w → Seen x s w → Alike t s
  alike (Node n f own ss) t s w (inl h) (inl g) = alike_self t s (g.0 ∙ sym h.0)
  alike (Node n f own ss) t s w (inl h) (inr g) =
      subst (λ y. Alike y s) (sym h.0) (alike_top (Node n f own ss) s (subst (λ k. Seen (Node n f own ss) s k) h.1 (inr g)))
  alike (Node n f own ss) t s w (inr h) (inl g) =
      alike_back s t (subst (λ y. Alike y t) (sym g.0) (alike_top (Node n f own ss) t (subst (λ k. Seen (Node n f own ss) t k) g.1 (inr h))))
  alike (Node n f own ss) t s w (inr h) (inr g) = alike_in First 0 ss t s w refl h g

  pub alike_in : (p : Turn) (b : ℕ) (ss : Trees) (t s : Tree) (w : ℕ) → Fine p b → SeenIn p b ss t w → SeenIn p b ss s w → Alike t s
  alike_in p b End t s w e h g = absurd h
  alike_in p b (Also x rest) t s w e (inl h) (inl g) = alike x t s h.0 h.2 (let q : g.0 ≡ h.0 = omega arith in subst (λ k. Seen x s k) q g.2)
  alike_in p b (Also x rest) t s w e (inl h) (inr g) =
      ahead p b x t s w h.0 (merged_at p (is_up x)) refl e h.1 h.2 (seen_below x t h.0 h.2)
      (bound_in (next p (topped x)) (b + room (merged_at p (is_up x)) (span x)) rest s w (fine_next p b x e) g)
  alike_in p b (Also x rest) t s w e (inr h) (inl g) = alike_back s t
      (ahead p b x s t w g.0 (merged_at p (is_up x)) refl e g.1 g.2 (seen_below x s g.0 g.2)
      (bound_in (next p (topped x)) (b + room (merged_at p (is_up x)) (span x)) rest t w (fine_next p b x e) h))
  alike_in p b (Also x rest) t s w e (inr h) (inr g) =
      alike_in (next p (topped x)) (b + room (merged_at p (is_up x)) (span x)) rest t s w (fine_next p b x e) h g

-- slots downward grow along the first chain
mutual
  pub deep : (x t : Tree) → On x t → depth t ≤ depth x
  deep (Node n f own ss) t (inl h) = subst (λ y. depth y ≤ depth (Node n f own ss)) (sym h) (le_refl (depth (Node n f own ss)))
  deep (Node n f own End) t (inr h) = absurd h
  deep (Node n true own (Also s rest)) t (inr h) = let k : depth t ≤ depth s = deep s t h in omega arith
  deep (Node n false own (Also s rest)) t (inr h) = let k : depth t ≤ depth s = deep s t h in omega arith

  pub deep_none : (ss : Trees) → Unit {0}
  deep_none End = tt
  deep_none (Also s rest) = tt

-- t is x, or all its slots downward come before x's own
above_base : (x t : Tree) → On x t → (t ≡ x) ⊎ (depth t ≤ base x)
above_base (Node n f own ss) t (inl h) = inl h
above_base (Node n f own End) t (inr h) = absurd h
above_base (Node n f own (Also s rest)) t (inr h) = inr (deep s t h)

pub depth_down : (t : Tree) → is_up t ≡ false → depth t ≡ base t + length (own_of t)
depth_down (Node n f own ss) d = rw d refl

pub place_up : (t : Tree) (i : ℕ) → is_up t ≡ true → place t i ≡ Above i
place_up t i u = rw u refl

pub place_down : (t : Tree) (i : ℕ) → is_up t ≡ false → place t i ≡ Below (base t + i)
place_down t i u = rw u refl

-- V5 in a table, for types: no two methods share a slot
pub record Same (t s : Tree) (i j : ℕ) : Type 0 where
  pub tree : t ≡ s
  pub index : i ≡ j

below_same : (t s : Tree) (i j : ℕ) → i < length (own_of t) → j < length (own_of s) → is_up t ≡ false → is_up s ≡ false
    → base t + i ≡ base s + j → (s ≡ t) ⊎ (depth s ≤ base t) → Same t s i j
below_same t s i j a b d e q (inl h) = let k : base s ≡ base t = ap base h in record { tree = sym h; index = omega arith }
below_same t s i j a b d e q (inr h) = let k : depth s ≡ base s + length (own_of s) = depth_down s e in absurd (omega arith)

same_back : (t s : Tree) (i j : ℕ) → Same s t j i → Same t s i j
same_back t s i j h = record { tree = sym h.tree; index = sym h.index }

pub apart_by : (t s : Tree) (i j : ℕ) → i < length (own_of t) → j < length (own_of s) → Alike t s → place t i ≡ place s j
    → (is_up t ≡ true) ⊎ (is_up t ≡ false) → (is_up s ≡ true) ⊎ (is_up s ≡ false) → Same t s i j
apart_by t s i j a b h q (inl u) (inl v) = let e : Above i ≡ Above j = sym (place_up t i u) ∙ q ∙ place_up s j v in
    record { tree = h.ups u v; index = cc }
apart_by t s i j a b h q (inl u) (inr v) = let e : Above i ≡ Below (base s + j) = sym (place_up t i u) ∙ q ∙ place_down s j v in absurd (cc)
apart_by t s i j a b h q (inr u) (inl v) = let e : Below (base t + i) ≡ Above j = sym (place_down t i u) ∙ q ∙ place_up s j v in absurd (cc)
apart_by t s i j a b h q (inr u) (inr v) = let e : Below (base t + i) ≡ Below (base s + j) = sym (place_down t i u) ∙ q ∙ place_down s j v in
    let k : base t + i ≡ base s + j = cc in down_cases t s i j a b u v k (h.downs u v)
  where
    down_cases : (t s : Tree) (i j : ℕ) → i < length (own_of t) → j < length (own_of s) → is_up t ≡ false → is_up s ≡ false
        → base t + i ≡ base s + j → On t s ⊎ On s t → Same t s i j
    down_cases t s i j a b u v k (inl o) = below_same t s i j a b u v k (above_base t s o)
    down_cases t s i j a b u v k (inr o) = same_back t s i j (below_same s t j i b a v u (sym k) (above_base s t o))

pub apart : (x t s : Tree) (w i j : ℕ) → Seen x t w → Seen x s w → i < length (own_of t) → j < length (own_of s) → place t i ≡ place s j → Same t s i j
apart x t s w i j h g a b q = apart_by t s i j a b (alike x t s w h g) q (cases_Bool (is_up t)) (cases_Bool (is_up s))
