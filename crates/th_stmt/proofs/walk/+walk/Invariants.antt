use Rattle.std.proofs.Common.{◌≡◌, ◌+◌, ◌≤◌, [], Some, drop}
use Rattle.th_tree.specs.View.{body_of, else_of, whens_of}
use Rattle.th_tree.specs.declared.tree.Body.{size-Body}
use Rattle.th_tree.specs.declared.tree.ElseTree.{size-ElseTree}
use Rattle.th_tree.specs.declared.tree.WhenList.{size-WhenList}
use Rattle.th_meaning.specs.Trees as core
use Rattle.th_scope.specs.View.{context_of, handled_of, locals_of}
use Rattle.th_stmt_rules.specs.Scopes.{body_locals, else_locals, whens_locals}
use Rattle.th_stmt_forms.specs.View.{body_opt, else_opt, whens_opt}
use Rattle.th_stmt.proofs.Walking.{body_along, fails_along, raises_along, else_along, else_fails_along, else_raises_along, whens_along, whens_fail_along, whens_raise_along}
use Rattle.th_stmt.proofs.walk.+walk.Given as goal

-- what was judged of a body so far, and what is left of it
abbrev pub invariant-walk_body-loop-rest : goal.invariant-walk_body-loop-rest
invariant-walk_body-loop-rest l = record {
  shorter : size-Body l.rest ≤ size-Body l.fn.tree;
  scope : drop l.entered (locals_of l.locals) ≡ locals_of l.fn.locals;
  next : l.next + body_locals (body_of l.rest) ≡ l.fn.next + body_locals (body_of l.fn.tree);
  core : body_along (context_of l.env) (locals_of l.locals) l.looping l.next (body_of l.rest) (body_opt l.done)
      ≡ body_along (context_of l.env) (locals_of l.fn.locals) l.looping l.fn.next (body_of l.fn.tree) (Some core.no_stmt);
  least : fails_along (context_of l.env) (locals_of l.locals) l.looping l.next (body_of l.rest) l.least
      ≡ fails_along (context_of l.env) (locals_of l.fn.locals) l.looping l.fn.next (body_of l.fn.tree) l.fn.least;
  raised : raises_along (context_of l.env) (locals_of l.locals) (handled_of l.handled) l.next (body_of l.rest) l.raised
      ≡ raises_along (context_of l.env) (locals_of l.fn.locals) (handled_of l.handled) l.fn.next (body_of l.fn.tree) l.fn.raised;
}

-- the same of what follows a `then`
abbrev pub invariant-walk_else-loop-rest : goal.invariant-walk_else-loop-rest
invariant-walk_else-loop-rest l = record {
  shorter : size-ElseTree l.rest ≤ size-ElseTree l.fn.tree;
  scope : locals_of l.locals ≡ locals_of l.fn.locals;
  next : l.next + else_locals (else_of l.rest) ≡ l.fn.next + else_locals (else_of l.fn.tree);
  core : else_along (context_of l.env) (locals_of l.fn.locals) l.looping l.next (else_of l.rest) (else_opt l.done)
      ≡ else_along (context_of l.env) (locals_of l.fn.locals) l.looping l.fn.next (else_of l.fn.tree) (Some core.no_else);
  least : else_fails_along (context_of l.env) (locals_of l.fn.locals) l.looping l.next (else_of l.rest) l.least
      ≡ else_fails_along (context_of l.env) (locals_of l.fn.locals) l.looping l.fn.next (else_of l.fn.tree) l.fn.least;
  raised : else_raises_along (context_of l.env) (locals_of l.fn.locals) (handled_of l.handled) l.next (else_of l.rest) l.raised
      ≡ else_raises_along (context_of l.env) (locals_of l.fn.locals) (handled_of l.handled) l.fn.next (else_of l.fn.tree) l.fn.raised;
}

-- the same of handlers
abbrev pub invariant-walk_whens-loop-rest : goal.invariant-walk_whens-loop-rest
invariant-walk_whens-loop-rest l = record {
  shorter : size-WhenList l.rest ≤ size-WhenList l.fn.tree;
  scope : locals_of l.locals ≡ locals_of l.fn.locals;
  next : l.next + whens_locals (whens_of l.rest) ≡ l.fn.next + whens_locals (whens_of l.fn.tree);
  core : whens_along (context_of l.env) (locals_of l.fn.locals) l.looping l.seen.keys l.next (whens_of l.rest) (whens_opt l.done)
      ≡ whens_along (context_of l.env) (locals_of l.fn.locals) l.looping [] l.fn.next (whens_of l.fn.tree) (Some core.no_when);
  least : whens_fail_along (context_of l.env) (locals_of l.fn.locals) l.looping l.seen.keys l.next (whens_of l.rest) l.least
      ≡ whens_fail_along (context_of l.env) (locals_of l.fn.locals) l.looping [] l.fn.next (whens_of l.fn.tree) l.fn.least;
  raised : whens_raise_along (context_of l.env) (locals_of l.fn.locals) (handled_of l.handled) l.next (whens_of l.rest) l.raised
      ≡ whens_raise_along (context_of l.env) (locals_of l.fn.locals) (handled_of l.handled) l.fn.next (whens_of l.fn.tree) l.fn.raised;
}
