use Rattle.std.proofs.Common.{◌≡◌, map, drop}
use Rattle.th_tree.specs.DeclView.{field_assign_of}
use Rattle.th_type.specs.Failures.{lowest}
use Rattle.th_meaning.specs.Onto.{stmts_onto}
use Rattle.th_rules.specs.Cores.{name_at}
use Rattle.th_stmt_rules.specs.Bodies.{both_parts}
use Rattle.th_stmt_forms.specs.View.{body_opt}
use Rattle.th_scope.specs.View.{context_of, locals_of}
use Rattle.th_module_rules.specs.Initializers.{assigns_core, assigns_fail, assigns_raise}
use Rattle.th_inits.proofs.assign.walk_assigns.Given as goal

-- what was judged of the assignments so far, and what is left of them
abbrev pub invariant-loop-assign : goal.invariant-loop-assign
invariant-loop-assign l = record {
  core : both_parts stmts_onto (body_opt l.done) (assigns_core (context_of l.env) (locals_of l.env.locals) (name_at l.env.names.now l.class) (locals_of l.fields) (map field_assign_of (drop l.assign-index l.tree)))
      ≡ both_parts stmts_onto (body_opt l.fn.before) (assigns_core (context_of l.env) (locals_of l.env.locals) (name_at l.env.names.now l.class) (locals_of l.fields) (map field_assign_of l.tree));
  least : lowest l.least (assigns_fail (context_of l.env) (locals_of l.env.locals) (locals_of l.fields) (map field_assign_of (drop l.assign-index l.tree)))
      ≡ lowest l.fn.least (assigns_fail (context_of l.env) (locals_of l.env.locals) (locals_of l.fields) (map field_assign_of l.tree));
  raised : lowest l.raised (assigns_raise (context_of l.env) (locals_of l.env.locals) (map field_assign_of (drop l.assign-index l.tree)))
      ≡ lowest l.fn.raised (assigns_raise (context_of l.env) (locals_of l.env.locals) (map field_assign_of l.tree));
}
