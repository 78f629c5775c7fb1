-- Tokens in order stand within their bounds.
use Rattle.std.proofs.Common.{◌≡◌, ℕ, zero, suc, ◌≤◌, ◌<◌, List, [], ◌∷◌, length, slice_get, slice_index_or, Some, arith}
use Rattle.th_tree.specs.declared.tokens.Token.{Token}
use Rattle.th_tree.specs.Spans.{InOrder}

pub order_le : (from to : ℕ) (ts : List Token) → InOrder from to ts → from ≤ to
order_le from to [] h = h
order_le from to (t ∷ ts) h = let i : t.end ≤ to = order_le t.end to ts h.2 in omega (arith, h.0, h.1)

-- a token within its bounds
pub record Within (from to : ℕ) (t : Token) : Type 0 where
  pub starts : from ≤ t.start
  pub some : t.start < t.end
  pub ends : t.end ≤ to

pub within : (from to : ℕ) (ts : List Token) (d : Token) (k : ℕ) → InOrder from to ts → k < length ts → Within from to (slice_index_or ts k d)
within from to [] d k h l = absurd (omega arith)
within from to (t ∷ ts) d zero h l = record { starts = h.0; some = h.1; ends = order_le t.end to ts h.2 }
within from to (t ∷ ts) d (suc k) h l = let w = within t.end to ts d k h.2 (omega arith) in record { starts = omega (arith, w.starts, h.0, h.1); some = w.some; ends = w.ends }

-- the token at a place, by both readings
pub get_index : (ts : List Token) (d t : Token) (k : ℕ) → slice_get ts k ≡ Some t → slice_index_or ts k d ≡ t
get_index [] d t k e = absurd (cc)
get_index (u ∷ ts) d t zero e = cc
get_index (u ∷ ts) d t (suc k) e = get_index ts d t k e
