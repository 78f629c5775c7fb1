-- What is counted against the limits, and the least number of a type or class whose count is above one.
use Rattle.std.specs.Prelude.{◌≡◌, ℕ, ◌+◌, List, [], ◌∷◌, ◌++◌, length, get_or, min, max, nat_lt, cond, Option, Some, None}
use Rattle.th_offsets.specs.declared.counts.Tally.{Tally}
use Rattle.th_views.specs.declared.ClassRow.{ClassRow}
use Rattle.th_views.specs.Chain.{Link, hidden, filled}
use Rattle.th_views.specs.Lookups.{type_numbers, class_numbers}
use Rattle.th_views.specs.Rows.{Program, tree_of, chain_of}
use Rattle.th_views.specs.Sums.{sum, plain_depth, sum_start, sum_words, most_down, class_slots}

pub record Count : Type 0 where
  pub name : ℕ
  pub count : ℕ

-- each number with the count of its place
abbrev pub counted : (ℕ → ℕ) → ℕ → List ℕ → List Count
counted f k [] = []
counted f k (n ∷ ns) = record { name = n; count = f k } ∷ counted f (k + 1) ns

-- header words of types and classes, as the limits count them
abbrev pub word_counts : Program → List Count
word_counts p = counted (λ t. sum (tree_of p.types t)) 0 (type_numbers p.types) ++ counted (λ c. sum_words (chain_of p c)) 0 (class_numbers p.classes)

-- slots of one table, each way
abbrev pub slot_counts : Program → List Count
slot_counts p = counted (λ t. plain_depth (tree_of p.types t)) 0 (type_numbers p.types) ++ counted (λ c. class_slots (chain_of p c)) 0 (class_numbers p.classes)

-- fields and where-words of classes, with inherited ones
abbrev pub field_counts : Program → List Count
field_counts p = counted (λ c. filled (chain_of p c)) 0 (class_numbers p.classes)

abbrev pub lesser : Option ℕ → Option ℕ → Option ℕ
lesser None b = b
lesser (Some m) None = Some m
lesser (Some m) (Some n) = Some (min m n)

-- the least number whose count is above the limit
abbrev pub least_above : ℕ → List Count → Option ℕ
least_above limit [] = None
least_above limit (c ∷ cs) = lesser (cond (nat_lt limit c.count) (Some c.name) None) (least_above limit cs)

-- numbers and counts side by side
abbrev pub paired : List ℕ → List ℕ → List Count
paired [] cs = []
paired (n ∷ ns) [] = []
paired (n ∷ ns) (c ∷ cs) = record { name = n; count = c } ∷ paired ns cs

-- the counts of a class, from those of the class that it inherits; each stops one above the greatest limit
abbrev pub tally_on : ClassRow → Tally → ℕ → ℕ → Tally
tally_on c up s g = record {
  sum_start = cond c.extends up.sum_start up.sum;
  sum = min 65 (cond c.extends up.sum_start up.sum + s);
  down = max g up.down;
  hidden = min 251 (up.hidden + length c.hidden);
  filled = min 401 (up.filled + (c.wheres + c.fields));
}

pub record IsTally (t : Tally) (chain : List Link) : Type 0 where
  pub sum_start : t.sum_start ≡ min 65 (sum_start chain)
  pub sum : t.sum ≡ min 65 (sum_words chain)
  pub down : t.down ≡ min 251 (most_down chain)
  pub hidden : t.hidden ≡ min 251 (length (hidden chain))
  pub filled : t.filled ≡ min 401 (filled chain)

-- what a list has at the place that stands first in another
abbrev pub at_first : List ℕ → List ℕ → ℕ
at_first [] done = 0
at_first (s ∷ ss) done = get_or done s 0
