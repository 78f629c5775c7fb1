-- The laws over lists of numbers, from those of trees.
use Rattle.std.proofs.Common.{◌≡◌, ℕ, zero, suc, ◌+◌, List, [], ◌∷◌, get_or, Bool, true, false, cond, refl, sym, ap, ◌∙◌, subst, inl, inr, Some, le_refl}
use Rattle.th_views.specs.declared.TypeRow.{TypeRow}
use Rattle.th_views.specs.declared.Turn.{Turn}
use Rattle.th_views.specs.declared.Turn.TheVariants.{First}
use Rattle.th_views.specs.Tree.{Tree, Node, Trees, End, Also, name_of, own_of, is_up, next, merged_at, topped, room, span, reaches, cast, Seen, SeenIn, Place}
use Rattle.th_views.specs.Listed.{spots, HasSpot}
use Rattle.th_views.specs.Chain.{Link, among, lookup, SeenBy, Grown, Raised, hidden}
use Rattle.th_views.specs.Rows.{tree_of, graph_of, Ordered}
use Rattle.th_views.specs.Home.{offers, offers_in}
use Rattle.th_views.specs.Laws.{TypeCasts, TypeSlotsApart, Served}
use Rattle.th_views.proofs.Views.{Sees, v1, apart, Same}
use Rattle.th_views.proofs.Chains.{apart_types, apart_hidden, hidden_same}
use Rattle.th_views.proofs.Grown.{seen_tree}
use Rattle.th_views.proofs.Lists.{seen_spot, shown, Shown, first_cast, option_if}

-- a view of a type by its number is one of its tree
pub here : (rows : List TypeRow) → Ordered rows → (x t w : ℕ) → HasSpot (spots (tree_of rows x)) t w → Seen (tree_of rows x) (tree_of rows t) w
here rows o x t w h = let k : Shown (tree_of rows x) t w = shown (tree_of rows x) t w h in
    subst (λ y. Seen (tree_of rows x) y w) (seen_tree (graph_of rows) (λ n. n) o x x k.tree w (le_refl x) k.seen ∙ ap (tree_of rows) k.named) k.seen

pub cast_found : (x : Tree) (u d : ℕ) (b : Bool) → option_if b (cast x u) ≡ Some d → (b ≡ true) × (cast x u ≡ d)
cast_found x u d true e = (refl, cc)
cast_found x u d false e = absurd (cc)

pub all_v1 : (rows : List TypeRow) → Ordered rows → TypeCasts rows
all_v1 rows o x t w u d h e =
    let r : (reaches (tree_of rows t) u ≡ true) × (cast (tree_of rows t) u ≡ d) = cast_found (tree_of rows t) u d (reaches (tree_of rows t) u) (sym (first_cast (tree_of rows t) u) ∙ e) in
    let k : Sees (tree_of rows x) u (w + cast (tree_of rows t) u) = v1 (tree_of rows x) (tree_of rows t) w u (here rows o x t w h) r.0 in
    let g : HasSpot (spots (tree_of rows x)) (name_of k.tree) (w + cast (tree_of rows t) u) = seen_spot (tree_of rows x) k.tree (w + cast (tree_of rows t) u) k.seen in
    subst (λ n. HasSpot (spots (tree_of rows x)) n (w + d)) k.named (subst (λ c. HasSpot (spots (tree_of rows x)) (name_of k.tree) (w + c)) r.1 g)

pub name_tree : (rows : List TypeRow) (n : ℕ) → name_of (tree_of rows n) ≡ n
name_tree rows zero = refl
name_tree rows (suc n) = refl

pub all_v5 : (rows : List TypeRow) → Ordered rows → TypeSlotsApart rows
all_v5 rows o x t s w i j h g a b p =
    let k : Same (tree_of rows t) (tree_of rows s) i j = apart (tree_of rows x) (tree_of rows t) (tree_of rows s) w i j (here rows o x t w h) (here rows o x s w g) a b p in
    (sym (name_tree rows t) ∙ ap name_of k.tree ∙ name_tree rows s, k.index)

pub true_cond : (a b : Bool) → b ≡ true → cond a true b ≡ true
true_cond true b h = refl
true_cond false b h = h

pub or_true : (a b : Bool) → a ≡ true → cond a true b ≡ true
or_true true b h = refl
or_true false b h = absurd (cc)

mutual
  pub own_offered : (x t : Tree) (w m : ℕ) → Seen x t w → among (own_of t) m ≡ true → offers x m ≡ true
  own_offered (Node n f own ss) t w m (inl h) a = or_true (among own m) (offers_in ss m) (ap (λ y. among (own_of y) m) (sym h.0) ∙ a)
  own_offered (Node n f own ss) t w m (inr h) a = true_cond (among own m) (offers_in ss m) (own_offered_in First 0 ss t w m h a)

  pub own_offered_in : (p : Turn) (b : ℕ) (ss : Trees) (t : Tree) (w m : ℕ) → SeenIn p b ss t w → among (own_of t) m ≡ true → offers_in ss m ≡ true
  own_offered_in p b End t w m h a = absurd h
  own_offered_in p b (Also s rest) t w m (inl h) a = or_true (offers s m) (offers_in rest m) (own_offered s t h.0 m h.2 a)
  own_offered_in p b (Also s rest) t w m (inr h) a = true_cond (offers s m) (offers_in rest m)
      (own_offered_in (next p (topped s)) (b + room (merged_at p (is_up s)) (span s)) rest t w m h a)

lookup_up : (c : Link) (rest : List Link) (m b : ℕ) → lookup rest m ≡ Some b → (a : ℕ) × (lookup (c ∷ rest) m ≡ Some a)
lookup_up c rest m b e = by (among c.bodies m)
  where
    by : (t : Bool) → (a : ℕ) × (cond t (Some c.class) (lookup rest m) ≡ Some a)
    by true = (c.class, refl)
    by false = (b, e)

-- V3: the walk finds a unit for each slot of a type
pub v3 : (chain : List Link) (t : Tree) (w m : ℕ) → Served chain → SeenBy chain t w → among (own_of t) m ≡ true → (b : ℕ) × (lookup chain m ≡ Some b)
v3 [] t w m s h a = absurd h
v3 (c ∷ rest) t w m s (inl h) a = s.0 m (own_offered c.of t h.0 m h.2 a)
v3 (c ∷ rest) t w m s (inr h) a = by (v3 rest t w m s.1 h a)
  where
    by : ((b : ℕ) × (lookup rest m ≡ Some b)) → (b : ℕ) × (lookup (c ∷ rest) m ≡ Some b)
    by q = lookup_up c rest m q.0 q.1
