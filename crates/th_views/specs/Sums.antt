-- The counts that the limits judge: every supertype counts, and every own method has a slot downward.
use Rattle.std.specs.Prelude.{ℕ, ◌+◌, List, [], ◌∷◌, length, max, cond}
use Rattle.th_views.specs.Tree.{Tree, Node, Trees, End, Also, bare}
use Rattle.th_views.specs.Chain.{Link, hidden}

abbrev mutual
  pub sum : Tree → ℕ
  sum (Node n f own ss) = cond (bare ss) 1 (sum_in ss)

  pub sum_in : Trees → ℕ
  sum_in End = 0
  sum_in (Also s rest) = sum s + sum_in rest

-- slots downward of the table at a type's own view
abbrev mutual
  pub plain_depth : Tree → ℕ
  plain_depth (Node n f own ss) = plain_base ss + length own

  pub plain_base : Trees → ℕ
  plain_base End = 0
  plain_base (Also s rest) = plain_depth s

-- the most slots downward of a table of the type or of one above it
abbrev mutual
  pub greatest : Tree → ℕ
  greatest (Node n f own ss) = max (plain_depth (Node n f own ss)) (greatest_in ss)

  pub greatest_in : Trees → ℕ
  greatest_in End = 0
  greatest_in (Also s rest) = max (greatest s) (greatest_in rest)

-- header words of a class by the sum
abbrev pub low_sum : List Link → ℕ
low_sum [] = 0
low_sum (c ∷ rest) = sum c.of

abbrev pub sum_start : List Link → ℕ
sum_start [] = 0
sum_start (c ∷ rest) = cond c.extends (sum_start rest) (sum_start rest + low_sum rest)

abbrev pub sum_words : List Link → ℕ
sum_words chain = sum_start chain + low_sum chain

-- the most slots downward of a table of a class
abbrev pub most_down : List Link → ℕ
most_down [] = 0
most_down (c ∷ rest) = max (greatest c.of) (most_down rest)

-- the most slots of a table of a class, each way
abbrev pub class_slots : List Link → ℕ
class_slots chain = max (most_down chain) (length (hidden chain))
