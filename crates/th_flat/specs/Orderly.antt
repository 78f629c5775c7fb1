-- Orderly units of levels 1 and 2, and what is told of a unit's labels besides.
use Rattle.std.specs.Prelude.{◌≡◌, ◌≢◌, ℕ, ◌+◌, ◌-◌, ◌<◌, ◌≤◌, ◌⊎◌, Bool, true, false, ◌&&◌, IsTrue, List, length, slice_get, Option, Some, None, nat_eq, nat_lt, if◌then◌else◌}
use Rattle.std.specs.List.{list_all}
use Rattle.th_flat.specs.declared.op.FlatOp.{FlatOp}
use Rattle.th_flat.specs.declared.op.FlatOp.TheVariants.{OpLocal, OpSet, OpIs, OpCaught, OpLeave, OpBody, OpYield, OpStop, OpStopped, OpBlock, OpHandle, OpOver, OpNext, OpResume}
use Rattle.th_flat.specs.declared.module.FlatUnit.{FlatUnit}
use Rattle.th_flat.specs.Effects.{shape_of}
use Rattle.th_flat.specs.WellFormed.{in_range}
use Rattle.th_flat.specs.Configs.{handler, is_call, is_iterator, words_of}

-- whether an operation stands on level 1, in a unit of so many operations: neither a test of the status, nor an operation of loop
-- bodies that are units; and each failure's label is the count of operations
abbrev pub is_of_level_1 : (count : ℕ) → FlatOp → Bool
is_of_level_1 count (OpIs name l) = false
is_of_level_1 count (OpCaught f) = false
is_of_level_1 count OpLeave = false
is_of_level_1 count (OpBody unit) = false
is_of_level_1 count (OpYield l) = false
is_of_level_1 count OpStop = false
is_of_level_1 count (OpStopped l) = false
is_of_level_1 count (OpHandle name f l) = true
is_of_level_1 count op = fails_out (shape_of op).failure
  where
    fails_out : Option ℕ → Bool
    fails_out None = true
    fails_out (Some l) = nat_eq l count

-- whether an operation stands on level 2: neither blocks and handlers, nor an operation of loop bodies that are units
abbrev pub is_of_level_2 : FlatOp → Bool
is_of_level_2 (OpBody unit) = false
is_of_level_2 (OpYield l) = false
is_of_level_2 OpStop = false
is_of_level_2 (OpStopped l) = false
is_of_level_2 (OpBlock h e) = false
is_of_level_2 (OpHandle name f l) = false
is_of_level_2 other = true

-- whether all operations of a unit stand on level 1, or all on level 2
abbrev pub is_on : (level : ℕ) → FlatUnit → Bool
is_on level u = if nat_eq level 1 then list_all (is_of_level_1 (length u.ops)) u.ops else nat_eq level 2 && list_all is_of_level_2 u.ops

-- operation q is an `over` whose loop ends with operation e
abbrev pub IsOver : FlatUnit → (q e : ℕ) → Type 0
IsOver u q e = slice_get u.ops q ≡ Some (OpOver e)

-- operation p is the call of an iterator, whose loop ends with operation e
abbrev pub IsLoopCall : FlatUnit → (p e : ℕ) → Type 0
IsLoopCall u p e = (q : ℕ) × (p ≡ q + 1) × IsOver u q e

-- operation i is in the loop body, taken with its `next`, of the `over` at q whose loop ends with e
abbrev pub IsInLoop : (q e i : ℕ) → Type 0
IsInLoop q e i = (q + 2 ≤ i) × (i ≤ e)

-- operation p with h words on the stack leads, without an exception, to operation q with k words: to the next one or to its label;
-- an iterator's call to the loop body, where the value stands alone, and to what stands after the loop
pub data Goes (u : FlatUnit) (p h : ℕ) (op : FlatOp) : ℕ → ℕ → Type 0 where
  on_next : ((e : ℕ) → IsLoopCall u p e → ⊥) → IsTrue (shape_of op).next → Goes u p h op (p + 1) (h - (shape_of op).takes + (shape_of op).gives)
  on_way : (l : ℕ) → (shape_of op).way ≡ Some l → Goes u p h op l (h - (shape_of op).takes)
  into_body : (e : ℕ) → IsLoopCall u p e → Goes u p h op (p + 1) 1
  after_loop : (e : ℕ) → IsLoopCall u p e → Goes u p h op (e + 1) (h - (shape_of op).takes)

-- an exception at operation p goes to operation q
abbrev pub Throws : FlatUnit → (p : ℕ) → FlatOp → (q : ℕ) → Type 0
Throws u p op q = (l : ℕ) × ((shape_of op).failure ≡ Some l) × (handler u p l ≡ Some q)

-- some way from the start of the unit comes to operation p with h words on the stack
pub data Comes (u : FlatUnit) : ℕ → ℕ → Type 0 where
  at_start : Comes u 0 0
  by_way : (p h q k : ℕ) (op : FlatOp) → Comes u p h → slice_get u.ops p ≡ Some op → (shape_of op).takes ≤ h → Goes u p h op q k → Comes u q k
  by_exception : (p h q : ℕ) (op : FlatOp) → Comes u p h → slice_get u.ops p ≡ Some op → (shape_of op).takes ≤ h → Throws u p op q → Comes u q 0

-- each operation has one height of the stack over all ways, at most the unit's depth, and no way but that of an exception goes past the
-- last operation
pub record HasOneHeight (u : FlatUnit) : Type 0 where
  pub inside : (p h : ℕ) → Comes u p h → p < length u.ops
  pub deep : (p h : ℕ) → Comes u p h → h ≤ u.depth
  pub enough : (p h : ℕ) (op : FlatOp) → Comes u p h → slice_get u.ops p ≡ Some op → (shape_of op).takes ≤ h
  pub one : (p h k : ℕ) → Comes u p h → Comes u p k → h ≡ k

-- the operations from `first` up to before `last` are covered by a block at operation p, or are the loop body of an `over` there
pub data Spans (u : FlatUnit) (p : ℕ) : (first last : ℕ) → Type 0 where
  by_block : (h e : ℕ) → slice_get u.ops p ≡ Some (OpBlock h e) → Spans u p (p + 1) e
  by_loop : (e : ℕ) → IsOver u p e → Spans u p (p + 2) (e + 1)

-- one of two stretches lies within the other, or they lie apart
abbrev pub AreNested : (first last first' last' : ℕ) → Type 0
AreNested a b c d = (a ≤ c) × (d ≤ b) ⊎ (c ≤ a) × (b ≤ d) ⊎ (b ≤ c) ⊎ (d ≤ a)

-- whether an operation names none of the last two of a unit's local words
abbrev pub spares_last : (words : ℕ) → FlatOp → Bool
spares_last words (OpLocal k) = nat_lt (k + 2) words
spares_last words (OpSet k) = nat_lt (k + 2) words
spares_last words other = true

-- operation p is a handler
abbrev pub IsHandler : FlatUnit → ℕ → Type 0
IsHandler u p = (name : List ℕ) × (f : ℕ) × (l : ℕ) × (slice_get u.ops p ≡ Some (OpHandle name f l))

-- an orderly unit of level 1 or 2; `calls_iterator` tells which of its operations call an iterator
pub record IsOrderly (level : ℕ) (calls_iterator : FlatOp → Bool) (u : FlatUnit) : Type 0 where
  pub on_level : IsTrue (is_on level u)
  pub kind : u.kind ≢ 5
  pub ranges : IsTrue (list_all (in_range (words_of u) (length u.ops)) u.ops)
  pub heights : HasOneHeight u
  -- each `over` stands directly before the call of an iterator, and each such call directly after an `over`
  pub before_call : (q e : ℕ) → IsOver u q e → (op : FlatOp) × (slice_get u.ops (q + 1) ≡ Some op) × IsTrue (is_call (Some op) && calls_iterator op)
  pub after_over : (p : ℕ) (op : FlatOp) → slice_get u.ops p ≡ Some op → IsTrue (is_call (Some op) && calls_iterator op) → (e : ℕ) × IsLoopCall u p e
  -- each loop ends with a `next` behind its call, and each `next` is that of exactly one `over`
  pub has_next : (q e : ℕ) → IsOver u q e → (q + 2 ≤ e) × (slice_get u.ops e ≡ Some OpNext)
  pub has_over : (e : ℕ) → slice_get u.ops e ≡ Some OpNext → (q : ℕ) × IsOver u q e
  pub one_over : (q q' e : ℕ) → IsOver u q e → IsOver u q' e → q ≡ q'
  -- a `yield` stands in iterators alone
  pub yields : (p : ℕ) → slice_get u.ops p ≡ Some OpResume → IsTrue (is_iterator u)
  -- blocks and loop bodies lie one within another or apart
  pub nested : (p q a b c d : ℕ) → Spans u p a b → Spans u q c d → AreNested a b c d
  -- at an `over` the stack holds the operands of the call alone
  pub alone : (q e h : ℕ) (op : FlatOp) → IsOver u q e → Comes u q h → slice_get u.ops (q + 1) ≡ Some op → h ≡ (shape_of op).takes
  -- what goes from a loop body to an operation outside it does so with an empty stack, and a loop body is reached from outside by a
  -- yield alone
  pub exits : (q e p h r k : ℕ) (op : FlatOp) → IsOver u q e → IsInLoop q e p → Comes u p h → slice_get u.ops p ≡ Some op → Goes u p h op r k → IsInLoop q e r ⊎ (k ≡ 0)
  pub entries : (q e p h r k : ℕ) (op : FlatOp) → IsOver u q e → IsInLoop q e r → slice_get u.ops p ≡ Some op → Goes u p h op r k → IsInLoop q e p ⊎ (p ≡ q + 1)
  pub no_throw_in : (q e p r : ℕ) (op : FlatOp) → IsOver u q e → IsInLoop q e r → slice_get u.ops p ≡ Some op → Throws u p op r → IsInLoop q e p
  -- a unit with a loop has two local words after its operands, which no operation names
  pub words : (q e : ℕ) → IsOver u q e → 2 ≤ u.locals
  pub spared : (q e : ℕ) → IsOver u q e → IsTrue (list_all (spares_last (words_of u)) u.ops)
  -- handlers are where blocks and other handlers say, and are reached by exceptions alone
  pub block_handler : (p h e : ℕ) → slice_get u.ops p ≡ Some (OpBlock h e) → IsHandler u h
  pub next_handler : (p f l : ℕ) (name : List ℕ) → slice_get u.ops p ≡ Some (OpHandle name f l) → (l ≡ length u.ops) ⊎ IsHandler u l
  pub thrown_to : (p h q k : ℕ) (op : FlatOp) → slice_get u.ops p ≡ Some op → Goes u p h op q k → IsHandler u q → ⊥
  pub handler_thrown : (p q : ℕ) (op : FlatOp) → slice_get u.ops p ≡ Some op → Throws u p op q → IsTrue (is_on 1 u) → IsHandler u q
