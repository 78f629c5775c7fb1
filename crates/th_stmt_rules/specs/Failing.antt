-- The failures of rules in a statement, but for those on exceptions that nothing handles.
use Rattle.std.specs.Prelude.{ℕ, ◌+◌, Bool, true, false, not, List, [], ◌∷◌, ◌++◌, Option, Some, None, is_some}
use Rattle.th_tree.specs.declared.tree.ExcTree.{ExcTree}
use Rattle.th_tree.specs.Trees.{FormalSyn, ExprSyn, StmtSyn, var_stmt, assign_stmt, plain_stmt, if_stmt, while_stmt, for_stmt, break_stmt, return_stmt, return_value_stmt, yield_stmt, raise_stmt, raise_value_stmt, begin_stmt, put_byte_stmt, put_int_stmt, put_text_stmt, BodySyn, no_stmt, more_stmts, ElseSyn, no_else, else_do, elseif_then, WhenSyns, no_when, more_whens}
use Rattle.th_type.specs.declared.place.Failure.{Failure}
use Rattle.th_type.specs.Failures.{place, unless}
use Rattle.th_type.specs.Types.{TypeExpr}
use Rattle.th_rules.specs.Context.{Binding, Context}
use Rattle.th_rules.specs.Resolving.{resolved_type, type_fails}
use Rattle.th_rules.specs.Callees.{Checked, fits, given_opt, as_procedure, as_iterator, wished}
use Rattle.th_rules.specs.Typing.{is_int, is_bool, is_text, typed, typed_call}
use Rattle.th_rules.specs.Failing.{start, ok_one, fails, call_fails}
use Rattle.th_stmt_rules.specs.declared.key.Key.{Key}
use Rattle.th_stmt_rules.specs.Exceptions.{Exception, exception_of, exception_fails, is_bare, has_argument, argument_of, seen_with, is_new}
use Rattle.th_stmt_rules.specs.Scopes.{bound, is_fresh, after, variable_count, in_handler, body_locals, stmt_locals}
use Rattle.th_stmt_rules.specs.Bodies.{type_of, is_target, loop_cast, result_of, yielded_of, given_result, agree}

-- the failures of a declaration: of its type, and of its name, which is that of no local in scope
abbrev pub formal_fails : Context → List Binding → FormalSyn → List Failure
formal_fails C ls f = unless (is_fresh ls f) 19 (place C.text f.name.at) ++ type_fails C ls f.of

-- the failures of an expression whose type is to be one of those that a test lets through
abbrev pub tested_fails : Context → List Binding → (TypeExpr → Bool) → ExprSyn → List Failure
tested_fails C ls p e = fails C ls e ++ unless (ok_one p (typed C ls e)) 21 (place C.text (start e))

-- the failures of a value that is given to what may have a type
abbrev pub value_fails : Context → List Binding → Option TypeExpr → ExprSyn → List Failure
value_fails C ls t e = fails C ls e ++ unless (fits (given_opt C t (typed C ls e))) 23 (place C.text (start e))

-- a handler has a variable exactly where its exception has an argument, where this resolves
abbrev pub handler_fits : Option Exception → Option FormalSyn → Bool
handler_fits x None = is_bare x
handler_fits x (Some f) = has_argument x

-- the failures of the variable of a handler at a byte: of its declaration, and its type is the exception's
abbrev pub handler_variable_fails : Context → List Binding → ℕ → Option Exception → Option FormalSyn → List Failure
handler_variable_fails C ls at x None = []
handler_variable_fails C ls at x (Some f) = formal_fails C ls f ++ unless (agree (argument_of x) (resolved_type C ls f.of)) 9 (place C.text at)

-- the failures of a handler, but for its statements
abbrev pub handler_fails : Context → List Binding → List Key → ℕ → ExcTree → Option FormalSyn → List Failure
handler_fails C ls seen at x v =
    exception_fails C ls x ++ unless (is_new seen (exception_of C ls x)) 9 (place C.text at)
    ++ unless (handler_fits (exception_of C ls x) v) 9 (place C.text at) ++ handler_variable_fails C ls at (exception_of C ls x) v

abbrev mutual
  -- the failures in a statement in a context where these locals are in scope, inside a loop or not, where the next local has
  -- the number n
  pub stmt_fails : Context → List Binding → Bool → ℕ → StmtSyn → List Failure
  stmt_fails C ls looping n (var_stmt at f e) = formal_fails C ls f ++ value_fails C ls (resolved_type C ls f.of) e
  stmt_fails C ls looping n (assign_stmt at t e) =
      fails C ls t ++ unless (is_target C ls t) 23 (place C.text (start t)) ++ value_fails C ls (type_of (typed C ls t)) e
  stmt_fails C ls looping n (plain_stmt at e) = call_fails C ls as_procedure (place C.text at) e
  stmt_fails C ls looping n (if_stmt at e b r) =
      tested_fails C ls is_bool e ++ body_fails C ls looping n b ++ else_fails C ls looping (n + body_locals b) r
  stmt_fails C ls looping n (while_stmt at e b) = tested_fails C ls is_bool e ++ body_fails C ls true n b
  stmt_fails C ls looping n (for_stmt at f e b) =
      formal_fails C ls f ++ call_fails C ls as_iterator (place C.text (start e)) e
      ++ unless (fits (loop_cast C (wished as_iterator (typed_call C ls e)) (resolved_type C ls f.of))) 26 (place C.text (start e))
      ++ body_fails C (bound C ls n f ∷ ls) true (n + 1) b
  stmt_fails C ls looping n (break_stmt at) = unless looping 27 (place C.text at)
  stmt_fails C ls looping n (return_stmt at) = unless (not (is_some (result_of C.sig))) 27 (place C.text at)
  stmt_fails C ls looping n (return_value_stmt at e) =
      unless (is_some (result_of C.sig)) 27 (place C.text at) ++ fails C ls e
      ++ unless (fits (given_result C (result_of C.sig) (typed C ls e))) 23 (place C.text (start e))
  stmt_fails C ls looping n (yield_stmt at e) = unless (is_some (yielded_of C.sig)) 27 (place C.text at) ++ value_fails C ls (yielded_of C.sig) e
  stmt_fails C ls looping n (raise_stmt at x) = exception_fails C ls x ++ unless (is_bare (exception_of C ls x)) 9 (place C.text at)
  stmt_fails C ls looping n (raise_value_stmt at x e) =
      exception_fails C ls x ++ unless (has_argument (exception_of C ls x)) 9 (place C.text at) ++ value_fails C ls (argument_of (exception_of C ls x)) e
  stmt_fails C ls looping n (begin_stmt at b ws) = body_fails C ls looping n b ++ whens_fail C ls looping [] (n + body_locals b) ws
  stmt_fails C ls looping n (put_byte_stmt at e) = tested_fails C ls is_int e
  stmt_fails C ls looping n (put_int_stmt at e) = tested_fails C ls is_int e
  stmt_fails C ls looping n (put_text_stmt at e) = tested_fails C ls is_text e

  -- the failures in statements
  pub body_fails : Context → List Binding → Bool → ℕ → BodySyn → List Failure
  body_fails C ls looping n no_stmt = []
  body_fails C ls looping n (more_stmts s b) = stmt_fails C ls looping n s ++ body_fails C (after C ls n s) looping (n + stmt_locals s) b

  -- the failures in what follows the statements after a `then`
  pub else_fails : Context → List Binding → Bool → ℕ → ElseSyn → List Failure
  else_fails C ls looping n no_else = []
  else_fails C ls looping n (else_do b) = body_fails C ls looping n b
  else_fails C ls looping n (elseif_then at e b r) =
      tested_fails C ls is_bool e ++ body_fails C ls looping n b ++ else_fails C ls looping (n + body_locals b) r

  -- the failures in handlers, of which the earlier ones of the block name these exceptions
  pub whens_fail : Context → List Binding → Bool → List Key → ℕ → WhenSyns → List Failure
  whens_fail C ls looping seen n no_when = []
  whens_fail C ls looping seen n (more_whens at x v b ws) =
      handler_fails C ls seen at x v ++ body_fails C (in_handler C ls n v) looping (n + variable_count v) b
      ++ whens_fail C ls looping (seen_with (exception_of C ls x) seen) (n + variable_count v + body_locals b) ws
