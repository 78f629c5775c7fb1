use Rattle.std.proofs.Common.{map, refl}
use Rattle.th_tree.specs.DeclView.{clause_of as clause_tree_of}
use Rattle.th_type.specs.Signatures.{clause_of}
use Rattle.th_hier.specs.Heads.{clause_fails, clauses_fail}
use Rattle.th_heads.specs.Clauses.{clause_seen, clauses_seen}
use Rattle.th_hier.proofs.Failing.{next_fails, next_list}
use Rattle.th_heads.proofs.signature.walk_clauses.Goals as goal

pub loop-clause-preserved : goal.loop-clause-preserved
loop-clause-preserved c = (
  next_list (λ x. clause_seen c.args.found.now c.args.sight.now (clause_tree_of x)) (λ xs. clauses_seen c.args.found.now c.args.sight.now (map clause_tree_of xs)) c.args.clauses.now c.loop-clause.clause-index c.clause-item.result (map clause_of c.loop-clause.done.items) _ _
      (λ y ys. refl) c.loop-clause-test.true c.clause-item.is
      c.in_ok-add_clause.ensures.means c.loop-clause.invariant.0,
  next_fails (λ x. clause_fails c.args.found.now c.args.sight.now c.args.text (clause_tree_of x)) (λ xs. clauses_fail c.args.found.now c.args.sight.now c.args.text (map clause_tree_of xs)) c.args.clauses.now c.loop-clause.clause-index c.clause-item.result c.loop-clause.least c.add_clause.new.least _
      (λ y ys. refl) c.loop-clause-test.true c.clause-item.is c.in_ok-add_clause.ensures.least c.loop-clause.invariant.1,
)
