-- The layouts of small programs, computed from the definitions.
use Rattle.std.proofs.Common.{◌≡◌, ℕ, List, [], ◌∷◌, true, false, refl, Some, None}
use Rattle.std.specs.Prelude.{pos, negsuc}
use Rattle.th_views.specs.declared.TypeRow.{TypeRow}
use Rattle.th_views.specs.declared.ClassRow.{ClassRow}
use Rattle.th_views.specs.Rows.{Program, chain_of}
use Rattle.th_views.specs.Objects.{object_spots}
use Rattle.th_views.specs.Lookups.{words_of, sum_of, slot_of, cast_of, field_of, size_of, narrowed_of}
use Rattle.th_views.specs.Contents.{slot_at}

abbrev root : ℕ → List ℕ → TypeRow
root n own = record { name = n; supers = []; marked = false; own = own; gives = [] }

abbrev second : ℕ → List ℕ → TypeRow
second n own = record { name = n; supers = []; marked = true; own = own; gives = [] }

abbrev below : ℕ → List ℕ → List ℕ → TypeRow
below n supers own = record { name = n; supers = supers; marked = false; own = own; gives = [] }

-- type A (m1), B (n1), T < A, B (t1), and a class for T with hidden h and two fields
abbrev shared : Program
shared = record {
  types = root 10 (1 ∷ []) ∷ second 11 (2 ∷ []) ∷ below 12 (0 ∷ 1 ∷ []) (3 ∷ []) ∷ [];
  classes = record { name = 13; of = 2; inherits = None; extends = false; hidden = 4 ∷ []; bodies = 1 ∷ 2 ∷ 3 ∷ 4 ∷ []; wheres = 0; fields = 2; gives = []; arrives = [] } ∷ [];
}

one_word : words_of shared 13 ≡ Some 1
one_word = refl

two_by_sum : sum_of shared 13 ≡ Some 2
two_by_sum = refl

twelve_bytes : size_of shared 13 ≡ Some 12
twelve_bytes = refl

t1_down : slot_of shared 12 3 ≡ Some (negsuc 7)
t1_down = refl

m1_down : slot_of shared 12 1 ≡ Some (negsuc 3)
m1_down = refl

n1_up : slot_of shared 12 2 ≡ Some (pos 4)
n1_up = refl

h_above : slot_of shared 13 4 ≡ Some (pos 8)
h_above = refl

no_distance : cast_of shared 12 11 ≡ Some 0
no_distance = refl

first_field : field_of shared 13 0 ≡ Some 4
first_field = refl

no_third : field_of shared 13 2 ≡ None
no_third = refl

-- R, A < R, B < R, T < A, B: R is first in its lists, so nothing is merged
abbrev diamond : Program
diamond = record {
  types = root 10 (1 ∷ []) ∷ below 11 (0 ∷ []) (2 ∷ []) ∷ below 12 (0 ∷ []) (3 ∷ []) ∷ below 13 (1 ∷ 2 ∷ []) [] ∷ [];
  classes = record { name = 14; of = 3; inherits = None; extends = false; hidden = []; bodies = 1 ∷ 2 ∷ 3 ∷ []; wheres = 0; fields = 0; gives = []; arrives = [] } ∷ [];
}

two_words : words_of diamond 14 ≡ Some 2
two_words = refl

eight_bytes : size_of diamond 14 ≡ Some 8
eight_bytes = refl

views : object_spots (chain_of diamond 0) ≡ record { name = 3; word = 0 } ∷ record { name = 1; word = 0 } ∷ record { name = 0; word = 0 } ∷ record { name = 2; word = 1 } ∷ record { name = 0; word = 1 } ∷ []
views = refl

to_b : cast_of diamond 13 12 ≡ Some 4
to_b = refl

to_r : cast_of diamond 13 10 ≡ Some 0
to_r = refl

b1_down : slot_of diamond 12 3 ≡ Some (negsuc 7)
b1_down = refl

-- S (s1), U (u1), T < S, U; P for S with hidden p; Q for T inherits P
abbrev opposed : Program
opposed = record {
  types = root 10 (1 ∷ []) ∷ second 11 (2 ∷ []) ∷ below 12 (0 ∷ 1 ∷ []) [] ∷ [];
  classes = record { name = 13; of = 0; inherits = None; extends = false; hidden = 3 ∷ []; bodies = 1 ∷ 3 ∷ []; wheres = 0; fields = 0; gives = []; arrives = [] }
      ∷ record { name = 14; of = 2; inherits = Some 0; extends = true; hidden = []; bodies = 2 ∷ []; wheres = 0; fields = 0; gives = []; arrives = [] } ∷ [];
}

q_words : words_of opposed 14 ≡ Some 1
q_words = refl

p_above : slot_of opposed 14 3 ≡ Some (pos 8)
p_above = refl

u_up : slot_of opposed 12 2 ≡ Some (pos 4)
u_up = refl

-- a class for an unrelated type U that inherits the first program's class
abbrev unrelated : Program
unrelated = record {
  types = root 10 (1 ∷ []) ∷ second 11 (2 ∷ []) ∷ below 12 (0 ∷ 1 ∷ []) (3 ∷ []) ∷ root 20 (5 ∷ []) ∷ [];
  classes = record { name = 13; of = 2; inherits = None; extends = false; hidden = 4 ∷ []; bodies = 1 ∷ 2 ∷ 3 ∷ 4 ∷ []; wheres = 0; fields = 2; gives = []; arrives = [] }
      ∷ record { name = 21; of = 3; inherits = Some 0; extends = false; hidden = []; bodies = 5 ∷ 1 ∷ []; wheres = 0; fields = 0; gives = []; arrives = [] } ∷ [];
}

d_words : words_of unrelated 21 ≡ Some 2
d_words = refl

d_size : size_of unrelated 21 ≡ Some 16
d_size = refl

d_group : cast_of unrelated 21 20 ≡ Some 4
d_group = refl

-- Q (q1), P (p1) as in Q's list second but first in X's, PQ < Q, P; mk has make with a P, mk2 < mk has make with a PQ: make is mk2's own too, and its slot at -4 leads through a bridge
abbrev narrowing : Program
narrowing = record {
  types = root 10 (1 ∷ []) ∷ root 11 (2 ∷ []) ∷ below 12 (1 ∷ 0 ∷ []) []
      ∷ record { name = 13; supers = []; marked = false; own = 3 ∷ []; gives = record { method = 3; of = 0 } ∷ [] }
      ∷ record { name = 14; supers = 3 ∷ []; marked = false; own = 3 ∷ []; gives = record { method = 3; of = 2 } ∷ [] } ∷ [];
  classes = record { name = 15; of = 4; inherits = None; extends = false; hidden = []; bodies = 3 ∷ []; wheres = 0; fields = 0; gives = record { method = 3; of = 2 } ∷ []; arrives = record { method = 3; of = 2 } ∷ [] } ∷ [];
}

make_again : slot_of narrowing 14 3 ≡ Some (negsuc 7)
make_again = refl

make_first : slot_of narrowing 13 3 ≡ Some (negsuc 3)
make_first = refl

by_four : narrowed_of narrowing 15 3 13 ≡ Some 4
by_four = refl

not_narrowed : narrowed_of narrowing 15 3 14 ≡ Some 0
not_narrowed = refl

bridged : slot_at narrowing 0 0 (negsuc 3) ≡ Some (record { offset = negsuc 3; method = 3; body = 15; bridge = 4 })
bridged = refl

plain : slot_at narrowing 0 0 (negsuc 7) ≡ Some (record { offset = negsuc 7; method = 3; body = 15; bridge = 0 })
plain = refl
