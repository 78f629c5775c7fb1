-- The failures of the rule on exceptions: what a statement may raise is handled around it or listed by the unit.
use Rattle.std.specs.Prelude.{ℕ, ◌+◌, Bool, List, [], ◌∷◌, ◌++◌, Option, Some, None}
use Rattle.th_tree.specs.declared.tree.ExcTree.{ExcTree}
use Rattle.th_tree.specs.Trees.{FormalSyn, ExprSyn, StmtSyn, var_stmt, assign_stmt, plain_stmt, if_stmt, while_stmt, for_stmt, break_stmt, return_stmt, return_value_stmt, yield_stmt, raise_stmt, raise_value_stmt, begin_stmt, put_byte_stmt, put_int_stmt, put_text_stmt, BodySyn, no_stmt, more_stmts, ElseSyn, no_else, else_do, elseif_then, WhenSyns, no_when, more_whens}
use Rattle.th_type.specs.declared.place.Failure.{Failure}
use Rattle.th_type.specs.Failures.{place}
use Rattle.th_rules.specs.Failing.{start}
use Rattle.th_rules.specs.Context.{Binding, Context}
use Rattle.th_rules.specs.Raising.{unhandled, call_raises, raises}
use Rattle.th_stmt_rules.specs.Exceptions.{exception_of, exception_number, handled_by}
use Rattle.th_stmt_rules.specs.Scopes.{bound, after, variable_count, in_handler, body_locals, stmt_locals}

abbrev mutual
  -- the failures in a statement in a context where these locals are in scope and these exceptions are handled or listed,
  -- where the next local has the number n
  pub stmt_raises : Context → List Binding → List ℕ → ℕ → StmtSyn → List Failure
  stmt_raises C ls h n (var_stmt at f e) = raises C ls h e
  stmt_raises C ls h n (assign_stmt at t e) = raises C ls h t ++ raises C ls h e
  stmt_raises C ls h n (plain_stmt at e) = call_raises C ls h (place C.text (start e)) e
  stmt_raises C ls h n (if_stmt at e b r) = raises C ls h e ++ body_raises C ls h n b ++ else_raises C ls h (n + body_locals b) r
  stmt_raises C ls h n (while_stmt at e b) = raises C ls h e ++ body_raises C ls h n b
  stmt_raises C ls h n (for_stmt at f e b) =
      call_raises C ls h (place C.text at) e ++ body_raises C (bound C ls n f ∷ ls) h (n + 1) b
  stmt_raises C ls h n (break_stmt at) = []
  stmt_raises C ls h n (return_stmt at) = []
  stmt_raises C ls h n (return_value_stmt at e) = raises C ls h e
  stmt_raises C ls h n (yield_stmt at e) = raises C ls h e
  stmt_raises C ls h n (raise_stmt at x) = unhandled h (place C.text at) (exception_number (exception_of C ls x))
  stmt_raises C ls h n (raise_value_stmt at x e) = unhandled h (place C.text at) (exception_number (exception_of C ls x)) ++ raises C ls h e
  stmt_raises C ls h n (begin_stmt at b ws) = body_raises C ls (handled_by C ls ws ++ h) n b ++ whens_raise C ls h (n + body_locals b) ws
  stmt_raises C ls h n (put_byte_stmt at e) = raises C ls h e
  stmt_raises C ls h n (put_int_stmt at e) = raises C ls h e
  stmt_raises C ls h n (put_text_stmt at e) = raises C ls h e

  -- the failures in statements
  pub body_raises : Context → List Binding → List ℕ → ℕ → BodySyn → List Failure
  body_raises C ls h n no_stmt = []
  body_raises C ls h n (more_stmts s b) = stmt_raises C ls h n s ++ body_raises C (after C ls n s) h (n + stmt_locals s) b

  -- the failures in what follows the statements after a `then`
  pub else_raises : Context → List Binding → List ℕ → ℕ → ElseSyn → List Failure
  else_raises C ls h n no_else = []
  else_raises C ls h n (else_do b) = body_raises C ls h n b
  else_raises C ls h n (elseif_then at e b r) = raises C ls h e ++ body_raises C ls h n b ++ else_raises C ls h (n + body_locals b) r

  -- the failures in the bodies of handlers, which their own block does not cover
  pub whens_raise : Context → List Binding → List ℕ → ℕ → WhenSyns → List Failure
  whens_raise C ls h n no_when = []
  whens_raise C ls h n (more_whens at x v b ws) =
      body_raises C (in_handler C ls n v) h (n + variable_count v) b ++ whens_raise C ls h (n + variable_count v + body_locals b) ws
