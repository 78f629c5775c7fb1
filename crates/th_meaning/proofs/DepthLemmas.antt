-- Operands whose place is at the greatest count.
use Rattle.std.proofs.Common.{◌≡◌, ℕ, zero, suc, ◌+◌, ◌-◌, ◌^◌, min, max, refl, ap, sym, ◌∙◌, arith}
use Rattle.th_meaning.specs.Trees.{ExprTree, ExprTrees, no_expr, more_exprs}
use Rattle.th_meaning.specs.Counts.{expr_depth, exprs_depth}

abbrev most : ℕ
most = 2 ^ 64 - 1

-- from a place beyond the greatest count on, the depth is as from that count on
capped_from : (k : ℕ) (es : ExprTrees) → min (exprs_depth (min k most) es) most ≡ min (exprs_depth k es) most
capped_from k no_expr = refl
capped_from k (more_exprs e es) =
    let places : min (suc (min k most)) most ≡ min (suc k) most = omega arith in
    let same : min (exprs_depth (suc (min k most)) es) most ≡ min (exprs_depth (suc k) es) most =
    sym (capped_from (suc (min k most)) es) ∙ ap (λ place. min (exprs_depth place es) most) places ∙ capped_from (suc k) es in
    omega (arith, same)

-- the next place
pub capped_next : (k : ℕ) (es : ExprTrees) → min (exprs_depth (min (k + 1) most) es) most ≡ min (exprs_depth (suc k) es) most
capped_next k es = let next : k + 1 ≡ suc k = omega arith in ap (λ place. min (exprs_depth (min place most) es) most) next ∙ capped_from (suc k) es
