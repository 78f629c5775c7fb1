-- What the limits count is no less than what the layout uses, and no word is empty.
use Rattle.std.proofs.Common.{◌≡◌, ℕ, ◌+◌, ◌-◌, ◌<◌, ◌≤◌, List, [], ◌∷◌, length, Bool, true, false, cond, refl, ◌⊎◌, inl, inr, arith}
use Rattle.std.proofs.lemmas.Bool.{cases_lt}
use Rattle.th_views.specs.declared.Turn.{Turn}
use Rattle.th_views.specs.declared.Turn.TheVariants.{First}
use Rattle.th_views.specs.Tree.{Tree, Node, Trees, End, Also, bare, is_up, next, merged_at, topped, room, at, span, span_in, Seen, SeenIn, depth, base_in}
use Rattle.th_views.specs.Chain.{Link, low_span, start, words}
use Rattle.th_views.specs.Sums.{sum, sum_in, plain_depth, plain_base, low_sum, sum_start, sum_words}

room_less : (m : Bool) (n : ℕ) → room m n ≤ n
room_less true n = omega arith
room_less false n = omega arith

mutual
  pub span_sum : (x : Tree) → span x ≤ sum x
  span_sum (Node n f own End) = omega arith
  span_sum (Node n f own (Also s rest)) = span_sum_in First (Also s rest)

  pub span_sum_in : (p : Turn) (ss : Trees) → span_in p ss ≤ sum_in ss
  span_sum_in p End = omega arith
  span_sum_in p (Also s rest) = let a : span s ≤ sum s = span_sum s in let b : span_in (next p (topped s)) rest ≤ sum_in rest = span_sum_in (next p (topped s)) rest in
      let c : room (merged_at p (is_up s)) (span s) ≤ span s = room_less (merged_at p (is_up s)) (span s) in omega arith

up_less : (b : Bool) (m n : ℕ) → m ≤ n → cond b 0 m ≤ n
up_less true m n h = omega arith
up_less false m n h = h

mutual
  pub depth_plain : (x : Tree) → depth x ≤ plain_depth x
  depth_plain (Node n f own ss) = let a : base_in ss ≤ plain_base ss = base_plain ss in
      up_less (cond f (bare ss) false) (base_in ss + length own) (plain_base ss + length own) (omega arith)

  pub base_plain : (ss : Trees) → base_in ss ≤ plain_base ss
  base_plain End = omega arith
  base_plain (Also s rest) = depth_plain s

cond_less : (e : Bool) (a b c d : ℕ) → a ≤ b → c ≤ d → cond e a (a + c) ≤ cond e b (b + d)
cond_less true a b c d h g = h
cond_less false a b c d h g = omega arith

low_less : (chain : List Link) → low_span chain ≤ low_sum chain
low_less [] = omega arith
low_less (c ∷ rest) = span_sum c.of

start_less : (chain : List Link) → start chain ≤ sum_start chain
start_less [] = omega arith
start_less (c ∷ rest) = cond_less c.extends (start rest) (sum_start rest) (low_span rest) (low_sum rest) (start_less rest) (low_less rest)

pub words_less : (chain : List Link) → words chain ≤ sum_words chain
words_less chain = let a : start chain ≤ sum_start chain = start_less chain in let b : low_span chain ≤ low_sum chain = low_less chain in omega arith

-- at each header word something is seen
pub record Some_at (x : Tree) (w : ℕ) : Type 0 where
  pub tree : Tree
  pub seen : Seen x tree w

pub record Some_in (p : Turn) (b : ℕ) (ss : Trees) (w : ℕ) : Type 0 where
  pub tree : Tree
  pub seen : SeenIn p b ss tree w

full_here : (p : Turn) (b : ℕ) (s : Tree) (rest : Trees) (w : ℕ) (m : Bool) → merged_at p (is_up s) ≡ m → b ≤ w → w < b + (room m (span s) + span_in (next p (topped s)) rest)
    → ((v : ℕ) → v < span s → Some_at s v)
    → (b + room m (span s) ≤ w → w < b + room m (span s) + span_in (next p (topped s)) rest → Some_in (next p (topped s)) (b + room m (span s)) rest w)
    → ((v : ℕ) × (w ≡ at m b + v) × Some_at s v) ⊎ Some_in (next p (topped s)) (b + room m (span s)) rest w
full_here p b s rest w true e l u f g = inr (g (omega arith) (omega arith))
full_here p b s rest w false e l u f g = by (cases_lt w (b + span s))
  where
    by : (w < b + span s) ⊎ (b + span s ≤ w) → ((v : ℕ) × (w ≡ b + v) × Some_at s v) ⊎ Some_in (next p (topped s)) (b + span s) rest w
    by (inl k) = inl (w - b, omega arith, f (w - b) (omega arith))
    by (inr k) = inr (g k (omega arith))

full_pack : (p : Turn) (b : ℕ) (s : Tree) (rest : Trees) (w : ℕ)
    → ((v : ℕ) × (w ≡ at (merged_at p (is_up s)) b + v) × Some_at s v) ⊎ Some_in (next p (topped s)) (b + room (merged_at p (is_up s)) (span s)) rest w
    → Some_in p b (Also s rest) w
full_pack p b s rest w (inl h) = let k : Some_at s h.0 = h.2 in record { tree = k.tree; seen = inl (h.0, h.1, k.seen) }
full_pack p b s rest w (inr h) = record { tree = h.tree; seen = inr h.seen }

mutual
  pub full : (x : Tree) (w : ℕ) → w < span x → Some_at x w
  full (Node n f own End) w h = record { tree = Node n f own End; seen = inl (refl, omega arith) }
  full (Node n f own (Also s rest)) w h = let k : Some_in First 0 (Also s rest) w = full_in First 0 (Also s rest) w (omega arith) (omega arith) in
      record { tree = k.tree; seen = inr k.seen }

  pub full_in : (p : Turn) (b : ℕ) (ss : Trees) (w : ℕ) → b ≤ w → w < b + span_in p ss → Some_in p b ss w
  full_in p b End w l h = absurd (omega arith)
  full_in p b (Also s rest) w l h = full_pack p b s rest w
      (full_here p b s rest w (merged_at p (is_up s)) refl l h (λ v k. full s v k)
      (λ a c. full_in (next p (topped s)) (b + room (merged_at p (is_up s)) (span s)) rest w a c))
