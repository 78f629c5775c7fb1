-- Bodies whose end is never reached: what returns a value has one.
use Rattle.std.specs.Prelude.{Bool, true, false, ◌&&◌}
use Rattle.th_tree.specs.Trees.{ExprSyn, StmtSyn, var_stmt, assign_stmt, plain_stmt, if_stmt, while_stmt, for_stmt, break_stmt, return_stmt, return_value_stmt, yield_stmt, raise_stmt, raise_value_stmt, begin_stmt, put_byte_stmt, put_int_stmt, put_text_stmt, BodySyn, no_stmt, more_stmts, ElseSyn, no_else, else_do, elseif_then, WhenSyns, no_when, more_whens}

-- of the first statement where no other follows, else of the others
abbrev pub last_or : Bool → BodySyn → Bool → Bool
last_or first no_stmt others = first
last_or first (more_stmts s b) others = others

abbrev mutual
  -- a statement ends a body: a `return`, a `raise`, an `if` with `else` all of whose bodies end so, or a block all of whose
  -- bodies end so
  pub stmt_ends : StmtSyn → Bool
  stmt_ends (var_stmt at f e) = false
  stmt_ends (assign_stmt at t e) = false
  stmt_ends (plain_stmt at e) = false
  stmt_ends (if_stmt at e b r) = body_ends b && else_ends r
  stmt_ends (while_stmt at e b) = false
  stmt_ends (for_stmt at f e b) = false
  stmt_ends (break_stmt at) = false
  stmt_ends (return_stmt at) = true
  stmt_ends (return_value_stmt at e) = true
  stmt_ends (yield_stmt at e) = false
  stmt_ends (raise_stmt at x) = true
  stmt_ends (raise_value_stmt at x e) = true
  stmt_ends (begin_stmt at b ws) = body_ends b && whens_end ws
  stmt_ends (put_byte_stmt at e) = false
  stmt_ends (put_int_stmt at e) = false
  stmt_ends (put_text_stmt at e) = false

  -- the last statement ends the body
  pub body_ends : BodySyn → Bool
  body_ends no_stmt = false
  body_ends (more_stmts s b) = last_or (stmt_ends s) b (body_ends b)

  pub else_ends : ElseSyn → Bool
  else_ends no_else = false
  else_ends (else_do b) = body_ends b
  else_ends (elseif_then at e b r) = body_ends b && else_ends r

  pub whens_end : WhenSyns → Bool
  whens_end no_when = true
  whens_end (more_whens at x v b ws) = body_ends b && whens_end ws
