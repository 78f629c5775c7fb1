-- The locals of a body: which are in scope, and their numbers.
use Rattle.std.specs.Prelude.{ℕ, ◌+◌, Bool, not, List, [], ◌∷◌, Option, Some, None, is_some}
use Rattle.th_tree.specs.Trees.{FormalSyn, ExprSyn, StmtSyn, var_stmt, assign_stmt, plain_stmt, if_stmt, while_stmt, for_stmt, break_stmt, return_stmt, return_value_stmt, yield_stmt, raise_stmt, raise_value_stmt, begin_stmt, put_byte_stmt, put_int_stmt, put_text_stmt, BodySyn, no_stmt, more_stmts, ElseSyn, no_else, else_do, elseif_then, WhenSyns, no_when, more_whens}
use Rattle.th_rules.specs.Context.{Binding, Context, find_binding}
use Rattle.th_rules.specs.Resolving.{resolved_type}

-- the local that a statement or a handler declares, with its number in the unit
abbrev pub bound : Context → List Binding → ℕ → FormalSyn → Binding
bound C ls n f = record { name = f.name.name; of = resolved_type C ls f.of; index = n }

-- whether no local in scope has the name
abbrev pub is_fresh : List Binding → FormalSyn → Bool
is_fresh ls f = not (is_some (find_binding ls f.name.name))

-- the locals in scope after a statement of which the first local has the number n
abbrev pub after : Context → List Binding → ℕ → StmtSyn → List Binding
after C ls n (var_stmt at f e) = bound C ls n f ∷ ls
after C ls n _ = ls

-- how many locals a statement leaves in scope
abbrev pub declares : StmtSyn → ℕ
declares (var_stmt at f e) = 1
declares _ = 0

-- how many locals there are where one may be
abbrev pub variable_count : Option FormalSyn → ℕ
variable_count None = 0
variable_count (Some f) = 1

-- the locals in scope in the body of a handler, of which the variable has the number n
abbrev pub in_handler : Context → List Binding → ℕ → Option FormalSyn → List Binding
in_handler C ls n None = ls
in_handler C ls n (Some f) = bound C ls n f ∷ ls

abbrev mutual
  -- how many locals a statement declares
  pub stmt_locals : StmtSyn → ℕ
  stmt_locals (var_stmt at f e) = 1
  stmt_locals (assign_stmt at t e) = 0
  stmt_locals (plain_stmt at e) = 0
  stmt_locals (if_stmt at e b r) = body_locals b + else_locals r
  stmt_locals (while_stmt at e b) = body_locals b
  stmt_locals (for_stmt at f e b) = 1 + body_locals b
  stmt_locals (break_stmt at) = 0
  stmt_locals (return_stmt at) = 0
  stmt_locals (return_value_stmt at e) = 0
  stmt_locals (yield_stmt at e) = 0
  stmt_locals (raise_stmt at x) = 0
  stmt_locals (raise_value_stmt at x e) = 0
  stmt_locals (begin_stmt at b ws) = body_locals b + whens_locals ws
  stmt_locals (put_byte_stmt at e) = 0
  stmt_locals (put_int_stmt at e) = 0
  stmt_locals (put_text_stmt at e) = 0

  -- how many locals statements declare
  pub body_locals : BodySyn → ℕ
  body_locals no_stmt = 0
  body_locals (more_stmts s b) = stmt_locals s + body_locals b

  pub else_locals : ElseSyn → ℕ
  else_locals no_else = 0
  else_locals (else_do b) = body_locals b
  else_locals (elseif_then at e b r) = body_locals b + else_locals r

  pub whens_locals : WhenSyns → ℕ
  whens_locals no_when = 0
  whens_locals (more_whens at x v b ws) = variable_count v + body_locals b + whens_locals ws
