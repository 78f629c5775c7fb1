use Rattle.std.proofs.Common.{[], ◌∷◌, map, refl}
use Rattle.th_tree.specs.DeclView.{clause_of}
use Rattle.th_module_rules.specs.Limits.{clauses_counts}
use Rattle.th_limits.proofs.Counting.{next_counts}
use Rattle.th_limits.proofs.heads.measure_clauses.Goals as goal

pub loop-clause-preserved : goal.loop-clause-preserved
loop-clause-preserved c =
    next_counts (λ x. clauses_counts c.args.text (clause_of x ∷ [])) (λ xs. clauses_counts c.args.text (map clause_of xs)) c.args.clauses.now c.loop-clause.clause-index c.clause-item.result c.loop-clause.first c.measure_clause.new.first _
    (λ y ys. refl) c.loop-clause-test.true c.clause-item.is c.measure_clause.ensures c.loop-clause.invariant
