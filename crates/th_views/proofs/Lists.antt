-- The list of views has the types seen and no others, and its first view of a type is at the cast distance.
use Rattle.std.proofs.Common.{◌≡◌, ℕ, ◌+◌, List, [], ◌∷◌, ◌++◌, Bool, true, false, nat_eq, cond, refl, sym, ap, ◌∙◌, subst, ◌⊎◌, inl, inr, arith, Option, Some, None}
use Rattle.th_views.specs.Tree.{Tree, Node, Trees, End, Also, name_of, is_up, next, merged_at, topped, room, at, span, reaches, reaches_in, cast, cast_in, Seen, SeenIn}
use Rattle.th_views.specs.declared.Turn.{Turn}
use Rattle.th_views.specs.declared.Turn.TheVariants.{First}
use Rattle.th_views.specs.declared.Spot.{Spot}
use Rattle.th_views.specs.Listed.{lowered, spots, spots_in, first_of, HasSpot}

pub has_left : (a b : List Spot) (n w : ℕ) → HasSpot a n w → HasSpot (a ++ b) n w
has_left [] b n w h = absurd h
has_left (s ∷ ss) b n w (inl h) = inl h
has_left (s ∷ ss) b n w (inr h) = inr (has_left ss b n w h)

pub has_right : (a b : List Spot) (n w : ℕ) → HasSpot b n w → HasSpot (a ++ b) n w
has_right [] b n w h = h
has_right (s ∷ ss) b n w h = inr (has_right ss b n w h)

pub has_either : (a b : List Spot) (n w : ℕ) → HasSpot (a ++ b) n w → HasSpot a n w ⊎ HasSpot b n w
has_either [] b n w h = inr h
has_either (s ∷ ss) b n w (inl h) = inl (inl h)
has_either (s ∷ ss) b n w (inr h) = by (has_either ss b n w h)
  where
    by : HasSpot ss n w ⊎ HasSpot b n w → HasSpot (s ∷ ss) n w ⊎ HasSpot b n w
    by (inl k) = inl (inr k)
    by (inr k) = inr k

pub has_lowered : (k : ℕ) (ss : List Spot) (n v : ℕ) → HasSpot ss n v → HasSpot (lowered k ss) n (k + v)
has_lowered k [] n v h = absurd h
has_lowered k (s ∷ ss) n v (inl h) = inl (h.0, omega arith)
has_lowered k (s ∷ ss) n v (inr h) = inr (has_lowered k ss n v h)

pub lowered_has : (k : ℕ) (ss : List Spot) (n w : ℕ) → HasSpot (lowered k ss) n w → (v : ℕ) × (w ≡ k + v) × HasSpot ss n v
lowered_has k [] n w h = absurd h
lowered_has k (s ∷ ss) n w (inl h) = (s.word, h.1, inl (h.0, refl))
lowered_has k (s ∷ ss) n w (inr h) = by (lowered_has k ss n w h)
  where
    by : ((v : ℕ) × (w ≡ k + v) × HasSpot ss n v) → (v : ℕ) × (w ≡ k + v) × HasSpot (s ∷ ss) n v
    by q = (q.0, q.1, inr q.2)

mutual
  pub seen_spot : (x t : Tree) (w : ℕ) → Seen x t w → HasSpot (spots x) (name_of t) w
  seen_spot (Node n f own ss) t w (inl h) = inl (ap name_of h.0, h.1)
  seen_spot (Node n f own ss) t w (inr h) = inr (seen_spot_in First 0 ss t w h)

  pub seen_spot_in : (p : Turn) (b : ℕ) (ss : Trees) (t : Tree) (w : ℕ) → SeenIn p b ss t w → HasSpot (spots_in p b ss) (name_of t) w
  seen_spot_in p b End t w h = absurd h
  seen_spot_in p b (Also s rest) t w (inl h) =
      has_left (lowered (at (merged_at p (is_up s)) b) (spots s)) (spots_in (next p (topped s)) (b + room (merged_at p (is_up s)) (span s)) rest) (name_of t) w
      (subst (λ k. HasSpot (lowered (at (merged_at p (is_up s)) b) (spots s)) (name_of t) k) (sym h.1)
      (has_lowered (at (merged_at p (is_up s)) b) (spots s) (name_of t) h.0 (seen_spot s t h.0 h.2)))
  seen_spot_in p b (Also s rest) t w (inr h) =
      has_right (lowered (at (merged_at p (is_up s)) b) (spots s)) (spots_in (next p (topped s)) (b + room (merged_at p (is_up s)) (span s)) rest) (name_of t) w
      (seen_spot_in (next p (topped s)) (b + room (merged_at p (is_up s)) (span s)) rest t w h)

pub record Shown (x : Tree) (n w : ℕ) : Type 0 where
  pub tree : Tree
  pub named : name_of tree ≡ n
  pub seen : Seen x tree w

pub record ShownIn (p : Turn) (b : ℕ) (ss : Trees) (n w : ℕ) : Type 0 where
  pub tree : Tree
  pub named : name_of tree ≡ n
  pub seen : SeenIn p b ss tree w

shown_here : (p : Turn) (b : ℕ) (s : Tree) (rest : Trees) (n w : ℕ)
    → (HasSpot (lowered (at (merged_at p (is_up s)) b) (spots s)) n w) ⊎ (HasSpot (spots_in (next p (topped s)) (b + room (merged_at p (is_up s)) (span s)) rest) n w)
    → ((v : ℕ) → HasSpot (spots s) n v → Shown s n v)
    → (HasSpot (spots_in (next p (topped s)) (b + room (merged_at p (is_up s)) (span s)) rest) n w → ShownIn (next p (topped s)) (b + room (merged_at p (is_up s)) (span s)) rest n w)
    → ShownIn p b (Also s rest) n w
shown_here p b s rest n w (inl h) f e = by (lowered_has (at (merged_at p (is_up s)) b) (spots s) n w h)
  where
    by : ((v : ℕ) × (w ≡ at (merged_at p (is_up s)) b + v) × HasSpot (spots s) n v) → ShownIn p b (Also s rest) n w
    by q = let k : Shown s n q.0 = f q.0 q.2 in record { tree = k.tree; named = k.named; seen = inl (q.0, q.1, k.seen) }
shown_here p b s rest n w (inr h) f e = let k : ShownIn (next p (topped s)) (b + room (merged_at p (is_up s)) (span s)) rest n w = e h in
    record { tree = k.tree; named = k.named; seen = inr k.seen }

mutual
  pub shown : (x : Tree) (n w : ℕ) → HasSpot (spots x) n w → Shown x n w
  shown (Node m f own ss) n w (inl h) = record { tree = Node m f own ss; named = sym h.0; seen = inl (refl, h.1) }
  shown (Node m f own ss) n w (inr h) = let k : ShownIn First 0 ss n w = shown_in First 0 ss n w h in
      record { tree = k.tree; named = k.named; seen = inr k.seen }

  pub shown_in : (p : Turn) (b : ℕ) (ss : Trees) (n w : ℕ) → HasSpot (spots_in p b ss) n w → ShownIn p b ss n w
  shown_in p b End n w h = absurd h
  shown_in p b (Also s rest) n w h = shown_here p b s rest n w
      (has_either (lowered (at (merged_at p (is_up s)) b) (spots s)) (spots_in (next p (topped s)) (b + room (merged_at p (is_up s)) (span s)) rest) n w h)
      (λ v k. shown s n v k) (λ k. shown_in (next p (topped s)) (b + room (merged_at p (is_up s)) (span s)) rest n w k)

-- the cast distance, or None where u isn't reached
abbrev pub option_if : Bool → ℕ → Option ℕ
option_if true w = Some w
option_if false w = None

abbrev pub plus_some : ℕ → Option ℕ → Option ℕ
plus_some k None = None
plus_some k (Some w) = Some (k + w)

abbrev pub or_else : Option ℕ → Option ℕ → Option ℕ
or_else (Some w) o = Some w
or_else None o = o

first_lowered : (k u : ℕ) (ss : List Spot) → first_of u (lowered k ss) ≡ plus_some k (first_of u ss)
first_lowered k u [] = refl
first_lowered k u (s ∷ ss) = by (nat_eq s.name u) (first_lowered k u ss)
  where
    by : (b : Bool) → first_of u (lowered k ss) ≡ plus_some k (first_of u ss)
        → cond b (Some (k + s.word)) (first_of u (lowered k ss)) ≡ plus_some k (cond b (Some s.word) (first_of u ss))
    by true e = refl
    by false e = e

first_append : (u : ℕ) (a b : List Spot) → first_of u (a ++ b) ≡ or_else (first_of u a) (first_of u b)
first_append u [] b = refl
first_append u (s ∷ ss) b = by (nat_eq s.name u) (first_append u ss b)
  where
    by : (c : Bool) → first_of u (ss ++ b) ≡ or_else (first_of u ss) (first_of u b)
        → cond c (Some s.word) (first_of u (ss ++ b)) ≡ or_else (cond c (Some s.word) (first_of u ss)) (first_of u b)
    by true e = refl
    by false e = e

-- by cases on one test
either_first : (c d : Bool) (k v z : ℕ) → or_else (plus_some k (option_if c v)) (option_if d z) ≡ option_if (cond c true d) (cond c (k + v) z)
either_first true d k v z = refl
either_first false d k v z = refl

self_first : (c d : Bool) (z : ℕ) → cond c (Some 0) (option_if d z) ≡ option_if (cond c true d) (cond c 0 z)
self_first true d z = refl
self_first false d z = refl

mutual
  pub first_cast : (x : Tree) (u : ℕ) → first_of u (spots x) ≡ option_if (reaches x u) (cast x u)
  first_cast (Node n f own ss) u = ap (λ o. cond (nat_eq n u) (Some 0) o) (first_cast_in First 0 ss u) ∙ self_first (nat_eq n u) (reaches_in ss u) (cast_in First 0 ss u)

  pub first_cast_in : (p : Turn) (b : ℕ) (ss : Trees) (u : ℕ) → first_of u (spots_in p b ss) ≡ option_if (reaches_in ss u) (cast_in p b ss u)
  first_cast_in p b End u = refl
  first_cast_in p b (Also s rest) u =
      first_append u (lowered (at (merged_at p (is_up s)) b) (spots s)) (spots_in (next p (topped s)) (b + room (merged_at p (is_up s)) (span s)) rest)
      ∙ ap (λ o. or_else o (first_of u (spots_in (next p (topped s)) (b + room (merged_at p (is_up s)) (span s)) rest)))
      (first_lowered (at (merged_at p (is_up s)) b) u (spots s) ∙ ap (plus_some (at (merged_at p (is_up s)) b)) (first_cast s u))
      ∙ ap (or_else (plus_some (at (merged_at p (is_up s)) b) (option_if (reaches s u) (cast s u))))
      (first_cast_in (next p (topped s)) (b + room (merged_at p (is_up s)) (span s)) rest u)
      ∙ either_first (reaches s u) (reaches_in rest u) (at (merged_at p (is_up s)) b) (cast s u) (cast_in (next p (topped s)) (b + room (merged_at p (is_up s)) (span s)) rest u)
