-- Numbers, each once, are the same numbers.
use Rattle.std.proofs.Common.{ℕ, List, sym, ◌∙◌}
use Rattle.th_type.specs.Judged.{SameNumbers}
use Rattle.th_hier.specs.Naming.{different}
use Rattle.th_scope.proofs.Different.{has_different}
pub use Rattle.th_scope.proofs.Different.{has_in, has_push}

pub different_same : (ns : List ℕ) → SameNumbers (different ns) ns
different_same ns n = sym (has_in (different ns) n) ∙ has_different ns n
