-- The methods of a type, and the home of each: the type itself where the method is its own, else the home in the first declared supertype that has it.
use Rattle.std.specs.Prelude.{ℕ, Bool, true, false, cond, Option, Some, None}
use Rattle.th_views.specs.Tree.{Tree, Node, Trees, End, Also}
use Rattle.th_views.specs.Chain.{among}

-- whether m is a method of the type
abbrev mutual
  pub offers : Tree → ℕ → Bool
  offers (Node n f own ss) m = cond (among own m) true (offers_in ss m)

  pub offers_in : Trees → ℕ → Bool
  offers_in End m = false
  offers_in (Also s rest) m = cond (offers s m) true (offers_in rest m)

abbrev mutual
  pub home : Tree → ℕ → Option Tree
  home (Node n f own ss) m = cond (among own m) (Some (Node n f own ss)) (home_in ss m)

  pub home_in : Trees → ℕ → Option Tree
  home_in End m = None
  home_in (Also s rest) m = cond (offers s m) (home s m) (home_in rest m)
