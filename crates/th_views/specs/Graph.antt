-- A hierarchy as plain data, and the tree of each type.
use Rattle.std.specs.Prelude.{ℕ, zero, suc, ◌<◌, List, [], ◌∷◌, Bool}
use Rattle.th_views.specs.Tree.{Tree, Node, Trees, End, Also}

pub record Graph : Type 0 where
  pub supers : ℕ → List ℕ
  pub marked : ℕ → Bool
  pub own : ℕ → List ℕ

abbrev pub trees_by : (ℕ → Tree) → List ℕ → Trees
trees_by f [] = End
trees_by f (s ∷ ss) = Also (f s) (trees_by f ss)

-- the type n with so many levels above it
abbrev pub grow : Graph → ℕ → ℕ → Tree
grow g zero n = Node n (g.marked n) (g.own n) End
grow g (suc h) n = Node n (g.marked n) (g.own n) (trees_by (grow g h) (g.supers n))

abbrev pub EachLower : (ℕ → ℕ) → ℕ → List ℕ → Type 0
EachLower rank k [] = Unit
EachLower rank k (s ∷ ss) = (rank s < k) × EachLower rank k ss

-- each declared supertype has a lower rank
abbrev pub Ranked : Graph → (ℕ → ℕ) → Type 0
Ranked g rank = (n : ℕ) → EachLower rank (rank n) (g.supers n)
