use Rattle.std.proofs.Common.{map, refl, ap, ◌∙◌}
use Rattle.th_tree.specs.DeclView.{field_assign_of}
use Rattle.th_meaning.specs.Trees as core
use Rattle.th_meaning.specs.Trees.{StmtTree}
use Rattle.std.specs.Prelude.{Option}
use Rattle.th_hier.proofs.Failing.{next_fails}
use Rattle.th_rules.specs.Cores.{name_at}
use Rattle.th_rules.specs.Raising.{raises}
use Rattle.th_stmt_rules.specs.Bodies.{both_parts}
use Rattle.th_stmt_forms.specs.View.{body_opt}
use Rattle.th_scope.specs.View.{context_of, locals_of}
use Rattle.th_module_rules.specs.Initializers.{assign_fails, assign_stmt, assigns_core, assigns_fail, assigns_raise}
use Rattle.th_inits.proofs.Onto.{next_core}
use Rattle.th_inits.proofs.assign.walk_assigns.Goals as goal

pub loop-assign-preserved : goal.loop-assign-preserved
loop-assign-preserved c = record {
  core = next_core (λ x. assign_stmt (context_of c.args.env.now) (locals_of c.args.env.now.locals) (name_at c.args.env.now.names.now c.args.class) (locals_of c.args.fields.now) (field_assign_of x))
      (λ xs. assigns_core (context_of c.args.env.now) (locals_of c.args.env.now.locals) (name_at c.args.env.now.names.now c.args.class) (locals_of c.args.fields.now) (map field_assign_of xs))
      c.args.tree.now c.loop-assign.assign-index c.assign-item.result (body_opt c.loop-assign.done) _ _
      (λ y ys. refl) c.loop-assign-test.true c.assign-item.is
      (c.in_ok-done.ensures ∙ ap (λ (s : Option StmtTree). both_parts core.more_stmts s (body_opt c.loop-assign.done)) c.in_ok-stmt.ensures.core) c.loop-assign.invariant.core;
  least = next_fails (λ x. assign_fails (context_of c.args.env.now) (locals_of c.args.env.now.locals) (locals_of c.args.fields.now) (field_assign_of x))
      (λ xs. assigns_fail (context_of c.args.env.now) (locals_of c.args.env.now.locals) (locals_of c.args.fields.now) (map field_assign_of xs))
      c.args.tree.now c.loop-assign.assign-index c.assign-item.result c.loop-assign.least c.walk_assign.new.least _
      (λ y ys. refl) c.loop-assign-test.true c.assign-item.is c.in_ok-stmt.ensures.least c.loop-assign.invariant.least;
  raised = next_fails (λ x. raises (context_of c.args.env.now) (locals_of c.args.env.now.locals) (context_of c.args.env.now).sig.signals (field_assign_of x).value)
      (λ xs. assigns_raise (context_of c.args.env.now) (locals_of c.args.env.now.locals) (map field_assign_of xs))
      c.args.tree.now c.loop-assign.assign-index c.assign-item.result c.loop-assign.raised c.walk_assign.new.raised _
      (λ y ys. refl) c.loop-assign-test.true c.assign-item.is c.in_ok-stmt.ensures.raised c.loop-assign.invariant.raised;
}
