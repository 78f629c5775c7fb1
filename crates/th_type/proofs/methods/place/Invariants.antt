use Rattle.std.proofs.Common.{◌≡◌, ◌≤◌, ◌<◌, ◌-◌, ℕ, Some, length, map, slice_get}
use Rattle.th_type.specs.Signatures.{Signature, sig_of}
use Rattle.th_type.proofs.methods.place.Given as goal

abbrev pub invariant-loop-low : goal.invariant-loop-low
invariant-loop-low l = record {
  ordered : l.low ≤ l.high;
  within : l.high ≤ length l.sigs;
  lower : (j : ℕ) (s : Signature) → j < l.low → slice_get (map sig_of l.sigs) j ≡ Some s → s.method < l.method;
  higher : (j : ℕ) (s : Signature) → l.high ≤ j → slice_get (map sig_of l.sigs) j ≡ Some s → l.method < s.method;
}

abbrev pub decreases-loop-low : goal.decreases-loop-low
decreases-loop-low l = l.high - l.low
