-- How many operations each form has.
use Rattle.std.specs.Prelude.{ℕ, suc, ◌+◌, List, [], ◌∷◌, length, Option, Some, None}
use Rattle.th_meaning.specs.Trees.{CastTree, ExprTree, number_expr, truth_expr, literal_expr, self_expr, local_expr, field_expr, negative_expr, arith_expr, compare_expr, same_expr, not_expr, and_expr, or_expr, join_expr, letter_expr, extent_expr, element_expr, length_expr, cast_expr, call_expr, new_expr, new_array_expr, get_byte_expr, ExprTrees, no_expr, more_exprs, CallTree, routine_call, method_call, hidden_call, super_call, where_call, init_call, StmtTree, var_stmt, set_local_stmt, set_field_stmt, set_element_stmt, call_stmt, drop_stmt, if_stmt, while_stmt, for_stmt, break_stmt, return_stmt, return_value_stmt, yield_stmt, raise_stmt, raise_value_stmt, begin_stmt, put_byte_stmt, put_int_stmt, put_text_stmt, BodyTree, no_stmt, more_stmts, ElseTree, no_else, else_do, elseif_then, WhenTrees, no_when, more_whens}
use Rattle.th_meaning.specs.Program.{name_of_type}
use Rattle.th_meaning.specs.Counts.{variable_nodes}

-- a cast has one operation where both its types are declared ones; no other type has a supertype
abbrev pub between_size : Option (List ℕ) → Option (List ℕ) → ℕ
between_size None to = 0
between_size (Some from) None = 0
between_size (Some from) (Some to) = 1

abbrev pub cast_size : CastTree → ℕ
cast_size c = between_size (name_of_type c.from) (name_of_type c.to)

-- a cast that there may be
abbrev pub may_cast_size : Option CastTree → ℕ
may_cast_size None = 0
may_cast_size (Some c) = cast_size c

-- how many expressions there are
abbrev pub count : ExprTrees → ℕ
count no_expr = 0
count (more_exprs e es) = suc (count es)

abbrev mutual
  -- an expression
  pub expr_size : ExprTree → ℕ
  expr_size (number_expr n) = 1
  expr_size (truth_expr b) = 1
  expr_size (literal_expr bytes) = 1
  expr_size self_expr = 1
  expr_size (local_expr k) = 1
  expr_size (field_expr c f) = 1
  expr_size (negative_expr a) = expr_size a + 1
  expr_size (arith_expr op a b) = expr_size a + expr_size b + 1
  expr_size (compare_expr op a b) = expr_size a + expr_size b + 1
  expr_size (same_expr a b) = expr_size a + expr_size b + 1
  expr_size (not_expr a) = expr_size a + 4
  expr_size (and_expr a b) = expr_size a + expr_size b + 3
  expr_size (or_expr a b) = expr_size a + expr_size b + 3
  expr_size (join_expr a b) = expr_size a + expr_size b + 1
  expr_size (letter_expr a b) = expr_size a + expr_size b + 1
  expr_size (extent_expr a) = expr_size a + 1
  expr_size (element_expr a b) = expr_size a + expr_size b + 1
  expr_size (length_expr a) = expr_size a + 1
  expr_size (cast_expr c a) = expr_size a + cast_size c
  expr_size (call_expr c) = operands_size c + 1
  expr_size (new_expr c ts ss es) = length ss + exprs_size es + 2
  expr_size (new_array_expr t a b) = expr_size a + expr_size b + 1
  expr_size get_byte_expr = 1

  -- expressions, one after another
  pub exprs_size : ExprTrees → ℕ
  exprs_size no_expr = 0
  exprs_size (more_exprs e es) = expr_size e + exprs_size es

  -- the operands of a call, and where it is the super call of an initializer, its turn
  pub operands_size : CallTree → ℕ
  operands_size (routine_call f ts ss es) = length ss + exprs_size es
  operands_size (method_call t m e es) = expr_size e + exprs_size es + 1
  operands_size (hidden_call c m es) = exprs_size es + 1
  operands_size (super_call c m es) = exprs_size es + 1
  operands_size (where_call k m e es) = expr_size e + exprs_size es + 1
  operands_size (init_call c ts ss es) = length ss + exprs_size es + 2

-- an initializer always gives the object, which a statement drops
abbrev pub dropped : CallTree → ℕ
dropped (routine_call f ts ss es) = 0
dropped (method_call t m e es) = 0
dropped (hidden_call c m es) = 0
dropped (super_call c m es) = 0
dropped (where_call k m e es) = 0
dropped (init_call c ts ss es) = 1

-- one jump stands before what follows the statements after a `then`, where something follows
abbrev pub else_jump : ElseTree → ℕ
else_jump no_else = 0
else_jump (else_do b) = 1
else_jump (elseif_then e b r) = 1

-- one `block` stands before what handlers cover, where there are handlers
abbrev pub block_size : WhenTrees → ℕ
block_size no_when = 0
block_size (more_whens x v b ws) = 1

abbrev mutual
  -- a statement
  pub stmt_size : StmtTree → ℕ
  stmt_size (var_stmt v e) = expr_size e + 1
  stmt_size (set_local_stmt k e) = expr_size e + 1
  stmt_size (set_field_stmt c f e) = expr_size e + 1
  stmt_size (set_element_stmt a i e) = expr_size a + expr_size i + expr_size e + 1
  stmt_size (call_stmt c) = operands_size c + dropped c + 1
  stmt_size (drop_stmt c) = operands_size c + 2
  stmt_size (if_stmt e b r) = expr_size e + body_size b + else_size r + 1
  stmt_size (while_stmt e b) = body_size b + expr_size e + 4
  stmt_size (for_stmt v k c b) = operands_size c + may_cast_size k + body_size b + 4
  stmt_size break_stmt = 1
  stmt_size return_stmt = 1
  stmt_size (return_value_stmt e) = expr_size e + 1
  stmt_size (yield_stmt e) = expr_size e + 1
  stmt_size (raise_stmt x) = 1
  stmt_size (raise_value_stmt x e) = expr_size e + 1
  stmt_size (begin_stmt b ws) = body_size b + whens_size ws + block_size ws
  stmt_size (put_byte_stmt e) = expr_size e + 1
  stmt_size (put_int_stmt e) = expr_size e + 1
  stmt_size (put_text_stmt e) = expr_size e + 1

  -- statements, one after another
  pub body_size : BodyTree → ℕ
  body_size no_stmt = 0
  body_size (more_stmts s b) = stmt_size s + body_size b

  -- what follows the statements after a `then`
  pub else_size : ElseTree → ℕ
  else_size no_else = 0
  else_size (else_do b) = body_size b + 1
  else_size (elseif_then e b r) = expr_size e + body_size b + else_size r + 2

  -- handlers
  pub whens_size : WhenTrees → ℕ
  whens_size no_when = 0
  whens_size (more_whens x v b ws) = variable_nodes v + body_size b + whens_size ws + 2
