-- Numbers in lists.
use Rattle.std.proofs.Common.{◌≡◌, ℕ, nat_eq, ◌||◌, List, [], ◌∷◌, refl, ap}
use Rattle.th_type.specs.Lists.{is_in}
use Rattle.th_hier.specs.Naming.{has}

pub has_in : (ns : List ℕ) (n : ℕ) → has ns n ≡ is_in n ns
has_in [] n = refl
has_in (m ∷ ns) n = ap (λ b. nat_eq n m || b) (has_in ns n)
