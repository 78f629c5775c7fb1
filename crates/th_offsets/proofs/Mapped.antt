-- First places, and the first own slot of a method among the types seen.
use Rattle.std.proofs.Common.{◌≡◌, ℕ, zero, suc, ◌+◌, ◌<◌, ◌≤◌, List, [], ◌∷◌, ◌++◌, length, drop, Bool, true, false, nat_eq, cond, refl, sym, ap, ◌∙◌, arith, le_refl, Option, Some, None}
use Rattle.std.specs.Prelude.{option_map, option_and_then, slice_get}
use Rattle.th_views.specs.declared.TypeRow.{TypeRow}
use Rattle.th_views.specs.declared.Spot.{Spot}
use Rattle.th_views.specs.declared.Turn.{Turn}
use Rattle.th_views.specs.declared.Turn.TheVariants.{First}
use Rattle.th_views.specs.Tree.{Tree, Node, Trees, End, Also, is_up, next, merged_at, topped, room, at, span, Place, place}
use Rattle.th_views.specs.Graph.{grow, trees_by, EachLower}
use Rattle.th_views.specs.Rows.{graph_of, tree_of, supers_in, Ordered}
use Rattle.th_views.specs.Listed.{spots, spots_in, lowered}
use Rattle.th_views.specs.Chain.{among}
use Rattle.th_views.specs.Home.{offers, offers_in, home, home_in}
use Rattle.th_views.specs.Lookups.{index_of, after, offset, own_place, method_place}
use Rattle.th_views.proofs.Grown.{same}
use Rattle.th_offsets.specs.Maps.{or_else, index_from, offset_in}
use Rattle.th_offsets.proofs.Walked.{drop_past}

after_map : (k : ℕ) (o : Option ℕ) → option_map (λ i. k + 1 + i) o ≡ option_map (λ i. k + i) (after o)
after_map k None = refl
after_map k (Some i) = let e : k + 1 + i ≡ k + (i + 1) = omega arith in ap Some e

pub from_is : (k : ℕ) (l : List ℕ) (q : ℕ) → index_from k l q ≡ option_map (λ i. k + i) (index_of q l)
from_is k [] q = refl
from_is k (x ∷ xs) q = by (nat_eq x q) (from_is (k + 1) xs q ∙ after_map k (index_of q xs))
  where
    by : (b : Bool) → index_from (k + 1) xs q ≡ option_map (λ i. k + i) (after (index_of q xs))
        → cond b (Some k) (index_from (k + 1) xs q) ≡ option_map (λ i. k + i) (cond b (Some 0) (after (index_of q xs)))
    by true e = let z : k ≡ k + 0 = omega arith in ap Some z
    by false e = e

zero_map : (o : Option ℕ) → option_map (λ i. 0 + i) o ≡ o
zero_map None = refl
zero_map (Some i) = let e : 0 + i ≡ i = omega arith in ap Some e

or_none : {A : Type 0} (o : Option A) → or_else o None ≡ o
or_none None = refl
or_none (Some x) = refl

pub index_end : (o : Option ℕ) (k : ℕ) (l : List ℕ) (q : ℕ) → or_else o (index_from k (drop k l) q) ≡ index_from 0 l q → length l ≤ k → o ≡ index_of q l
index_end o k l q e h = sym (or_none o) ∙ ap (λ x. or_else o (index_from k x q)) (sym (drop_past l k h)) ∙ e ∙ from_is 0 l q ∙ zero_map (index_of q l)

-- a tree whose parts are the trees of their names
abbrev mutual
  pub Rooted : (ℕ → Tree) → Tree → Type 0
  Rooted f (Node n g own ss) = (Node n g own ss ≡ f n) × RootedIn f ss

  pub RootedIn : (ℕ → Tree) → Trees → Type 0
  RootedIn f End = Unit
  RootedIn f (Also s rest) = Rooted f s × RootedIn f rest

-- the place of a method where the first type seen owns it
abbrev pub owned_in : (ℕ → Tree) → ℕ → List Spot → Option Place
owned_in f m [] = None
owned_in f m (s ∷ ss) = or_else (own_place m (f s.name)) (owned_in f m ss)

pub owned_append : (f : ℕ → Tree) (m : ℕ) (a b : List Spot) → owned_in f m (a ++ b) ≡ or_else (owned_in f m a) (owned_in f m b)
owned_append f m [] b = refl
owned_append f m (s ∷ ss) b = ap (or_else (own_place m (f s.name))) (owned_append f m ss b) ∙ again (own_place m (f s.name)) (owned_in f m ss) (owned_in f m b)
  where
    again : (x y z : Option Place) → or_else x (or_else y z) ≡ or_else (or_else x y) z
    again None y z = refl
    again (Some x) y z = refl

pub owned_lowered : (f : ℕ → Tree) (m k : ℕ) (l : List Spot) → owned_in f m (lowered k l) ≡ owned_in f m l
owned_lowered f m k [] = refl
owned_lowered f m k (s ∷ ss) = ap (or_else (own_place m (f s.name))) (owned_lowered f m k ss)

abbrev mutual
  pub first_place : Tree → ℕ → Option Place
  first_place (Node n g own ss) m = or_else (own_place m (Node n g own ss)) (first_place_in ss m)

  pub first_place_in : Trees → ℕ → Option Place
  first_place_in End m = None
  first_place_in (Also s rest) m = or_else (first_place s m) (first_place_in rest m)

mutual
  pub owned_spots : (f : ℕ → Tree) (m : ℕ) (x : Tree) → Rooted f x → owned_in f m (spots x) ≡ first_place x m
  owned_spots f m (Node n g own ss) r = ap (λ y. or_else (own_place m y) (owned_in f m (spots_in First 0 ss))) (sym r.0)
      ∙ ap (or_else (own_place m (Node n g own ss))) (owned_spots_in f m First 0 ss r.1)

  owned_spots_in : (f : ℕ → Tree) (m : ℕ) (p : Turn) (b : ℕ) (ss : Trees) → RootedIn f ss → owned_in f m (spots_in p b ss) ≡ first_place_in ss m
  owned_spots_in f m p b End r = refl
  owned_spots_in f m p b (Also s rest) r =
      owned_append f m (lowered (at (merged_at p (is_up s)) b) (spots s)) (spots_in (next p (topped s)) (b + room (merged_at p (is_up s)) (span s)) rest)
      ∙ ap (λ y. or_else y (owned_in f m (spots_in (next p (topped s)) (b + room (merged_at p (is_up s)) (span s)) rest))) (owned_lowered f m (at (merged_at p (is_up s)) b) (spots s) ∙ owned_spots f m s r.0)
      ∙ ap (or_else (first_place s m)) (owned_spots_in f m (next p (topped s)) (b + room (merged_at p (is_up s)) (span s)) rest r.1)

-- whether there is an answer
abbrev pub Answers : Bool → Option Place → Type 0
Answers true o = (p : Place) × (o ≡ Some p)
Answers false o = o ≡ None

pub answer_or : (a b : Bool) (x y : Option Place) → Answers a x → Answers b y → Answers (cond a true b) (or_else x y)
answer_or true b x y h g = (h.0, ap (λ z. or_else z y) h.1)
answer_or false true x y h g = (g.0, ap (λ z. or_else z y) h ∙ g.1)
answer_or false false x y h g = ap (λ z. or_else z y) h ∙ g

own_answer : (n : ℕ) (g : Bool) (l own : List ℕ) (ss : Trees) (m : ℕ) → Answers (among l m) (option_map (place (Node n g own ss)) (index_of m l))
own_answer n g [] own ss m = refl
own_answer n g (x ∷ xs) own ss m = by (nat_eq x m) (own_answer n g xs own ss m)
  where
    next_answer : (b : Bool) (o : Option ℕ) → Answers b (option_map (place (Node n g own ss)) o) → Answers b (option_map (place (Node n g own ss)) (after o))
    next_answer true None h = absurd (cc)
    next_answer true (Some i) h = (place (Node n g own ss) (i + 1), refl)
    next_answer false None h = refl
    next_answer false (Some i) h = absurd (cc)

    by : (b : Bool) → Answers (among xs m) (option_map (place (Node n g own ss)) (index_of m xs)) → Answers (cond b true (among xs m)) (option_map (place (Node n g own ss)) (cond b (Some 0) (after (index_of m xs))))
    by true h = (place (Node n g own ss) 0, refl)
    by false h = next_answer (among xs m) (index_of m xs) h

mutual
  pub offers_answer : (x : Tree) (m : ℕ) → Answers (offers x m) (first_place x m)
  offers_answer (Node n g own ss) m = answer_or (among own m) (offers_in ss m) (own_place m (Node n g own ss)) (first_place_in ss m) (own_answer n g own own ss m) (offers_answer_in ss m)

  offers_answer_in : (ss : Trees) (m : ℕ) → Answers (offers_in ss m) (first_place_in ss m)
  offers_answer_in End m = refl
  offers_answer_in (Also s rest) m = answer_or (offers s m) (offers_in rest m) (first_place s m) (first_place_in rest m) (offers_answer s m) (offers_answer_in rest m)

or_pick : (a : Bool) (m : ℕ) (x y : Option Place) (s t : Option Tree) → Answers a x → option_and_then (own_place m) s ≡ x → option_and_then (own_place m) t ≡ y
    → option_and_then (own_place m) (cond a s t) ≡ or_else x y
or_pick true m x y s t h e f = e ∙ h.1 ∙ sym (ap (λ z. or_else z y) h.1)
or_pick false m x y s t h e f = f ∙ sym (ap (λ z. or_else z y) h)

mutual
  pub home_first : (x : Tree) (m : ℕ) → method_place x m ≡ first_place x m
  home_first (Node n g own ss) m = or_pick (among own m) m (own_place m (Node n g own ss)) (first_place_in ss m) (Some (Node n g own ss)) (home_in ss m) (own_answer n g own own ss m) refl (home_first_in ss m)

  home_first_in : (ss : Trees) (m : ℕ) → option_and_then (own_place m) (home_in ss m) ≡ first_place_in ss m
  home_first_in End m = refl
  home_first_in (Also s rest) m = or_pick (offers s m) m (first_place s m) (first_place_in rest m) (home s m) (home_in rest m) (offers_answer s m) (home_first s m) (home_first_in rest m)

-- everything in the tree of a type is the tree of its name
rooted_in : (rows : List TypeRow) (h k : ℕ) (ss : List ℕ) → EachLower (λ n. n) k ss → k ≤ suc h → ((s : ℕ) → s ≤ h → Rooted (tree_of rows) (grow (graph_of rows) h s)) → RootedIn (tree_of rows) (trees_by (grow (graph_of rows) h) ss)
rooted_in rows h k [] e l again = tt
rooted_in rows h k (s ∷ ss) e l again = (again s (omega arith), rooted_in rows h k ss e.1 l again)

pub rooted : (rows : List TypeRow) → Ordered rows → (h n : ℕ) → n ≤ h → Rooted (tree_of rows) (grow (graph_of rows) h n)
rooted rows o zero n l = (same (graph_of rows) (λ k. k) o zero n n l (le_refl n), tt)
rooted rows o (suc h) n l = (same (graph_of rows) (λ k. k) o (suc h) n n l (le_refl n), rooted_in rows h n (supers_in (slice_get rows n)) (o n) l (λ s a. rooted rows o h s a))

pub offset_owned : (rows : List TypeRow) (l : List Spot) (q : ℕ) → offset_in rows l q ≡ option_map offset (owned_in (tree_of rows) q l)
offset_owned rows [] q = refl
offset_owned rows (s ∷ ss) q = ap (or_else (option_map offset (own_place q (tree_of rows s.name)))) (offset_owned rows ss q) ∙ over (own_place q (tree_of rows s.name)) (owned_in (tree_of rows) q ss)
  where
    over : (x y : Option Place) → or_else (option_map offset x) (option_map offset y) ≡ option_map offset (or_else x y)
    over None y = refl
    over (Some x) y = refl

-- the first type seen that owns a method is its home
pub offset_is : (rows : List TypeRow) → Ordered rows → (n q : ℕ) → offset_in rows (spots (tree_of rows n)) q ≡ option_map offset (method_place (tree_of rows n) q)
offset_is rows o n q = offset_owned rows (spots (tree_of rows n)) q
    ∙ ap (option_map offset) (owned_spots (tree_of rows) q (tree_of rows n) (rooted rows o n n (le_refl n)) ∙ sym (home_first (tree_of rows n) q))
