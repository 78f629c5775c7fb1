use Rattle.std.proofs.Common.{map, refl}
use Rattle.th_tree.specs.DeclView.{clause_of}
use Rattle.th_hier.specs.Heads.{clause_fails, clauses_fail}
use Rattle.th_hier.proofs.Failing.{next_fails}
use Rattle.th_hier.proofs.heads.walk_clauses.Goals as goal

pub loop-clause-preserved : goal.loop-clause-preserved
loop-clause-preserved c =
    next_fails (λ x. clause_fails c.args.index.now c.args.sight.now c.args.text (clause_of x)) (λ xs. clauses_fail c.args.index.now c.args.sight.now c.args.text (map clause_of xs))
    c.args.clauses.now c.loop-clause.clause-index c.clause-item.result c.loop-clause.least c.walk_clause.new.least _
    (λ y ys. refl) c.loop-clause-test.true c.clause-item.is c.in_ok-walk_clause.ensures.least c.loop-clause.invariant
