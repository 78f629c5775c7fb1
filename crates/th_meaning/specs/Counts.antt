-- How large a unit is: its nodes, its locals, the depth of its expressions, and the room of an open call of it.
use Rattle.std.specs.Prelude.{ℕ, suc, ◌+◌, ◌*◌, max, sum_by, List, length, Option, Some, None, Bool, true, false, ◌||◌, if◌then◌else◌}
use Rattle.th_meaning.specs.Trees.{SupplyTree, ExprTree, number_expr, truth_expr, literal_expr, self_expr, local_expr, field_expr, negative_expr, arith_expr, compare_expr, same_expr, not_expr, and_expr, or_expr, join_expr, letter_expr, extent_expr, element_expr, length_expr, cast_expr, call_expr, new_expr, new_array_expr, get_byte_expr, ExprTrees, no_expr, more_exprs, CallTree, routine_call, method_call, hidden_call, super_call, where_call, init_call, Variable, StmtTree, var_stmt, set_local_stmt, set_field_stmt, set_element_stmt, call_stmt, drop_stmt, if_stmt, while_stmt, for_stmt, break_stmt, return_stmt, return_value_stmt, yield_stmt, raise_stmt, raise_value_stmt, begin_stmt, put_byte_stmt, put_int_stmt, put_text_stmt, BodyTree, no_stmt, more_stmts, ElseTree, no_else, else_do, elseif_then, WhenTrees, no_when, more_whens}
use Rattle.th_meaning.specs.Program.{ProgramUnit, ProgramClass, ProgramModule, Program}

-- four nodes for each where-method of what is called, since each may need a stub
abbrev pub supply_nodes : List SupplyTree → ℕ
supply_nodes supplies = 4 * length supplies

abbrev mutual
  -- one node for each expression, and those of its parts; a cast is none
  pub expr_nodes : ExprTree → ℕ
  expr_nodes (number_expr n) = 1
  expr_nodes (truth_expr b) = 1
  expr_nodes (literal_expr bytes) = 1
  expr_nodes self_expr = 1
  expr_nodes (local_expr k) = 1
  expr_nodes (field_expr c f) = 1
  expr_nodes (negative_expr a) = 1 + expr_nodes a
  expr_nodes (arith_expr op a b) = 1 + expr_nodes a + expr_nodes b
  expr_nodes (compare_expr op a b) = 1 + expr_nodes a + expr_nodes b
  expr_nodes (same_expr a b) = 1 + expr_nodes a + expr_nodes b
  expr_nodes (not_expr a) = 1 + expr_nodes a
  expr_nodes (and_expr a b) = 1 + expr_nodes a + expr_nodes b
  expr_nodes (or_expr a b) = 1 + expr_nodes a + expr_nodes b
  expr_nodes (join_expr a b) = 1 + expr_nodes a + expr_nodes b
  expr_nodes (letter_expr a b) = 1 + expr_nodes a + expr_nodes b
  expr_nodes (extent_expr a) = 1 + expr_nodes a
  expr_nodes (element_expr a b) = 1 + expr_nodes a + expr_nodes b
  expr_nodes (length_expr a) = 1 + expr_nodes a
  expr_nodes (cast_expr c a) = expr_nodes a
  expr_nodes (call_expr c) = call_nodes c
  expr_nodes (new_expr c ts ss es) = 1 + supply_nodes ss + exprs_nodes es
  expr_nodes (new_array_expr t a b) = 1 + expr_nodes a + expr_nodes b
  expr_nodes get_byte_expr = 1

  -- the nodes of expressions
  pub exprs_nodes : ExprTrees → ℕ
  exprs_nodes no_expr = 0
  exprs_nodes (more_exprs e es) = expr_nodes e + exprs_nodes es

  -- the nodes of a call: one for itself, those of its receiver where one is written, and those of its arguments; the
  -- super call of an initializer is a statement alone
  pub call_nodes : CallTree → ℕ
  call_nodes (routine_call f ts ss es) = 1 + supply_nodes ss + exprs_nodes es
  call_nodes (method_call t m e es) = 1 + expr_nodes e + exprs_nodes es
  call_nodes (hidden_call c m es) = 2 + exprs_nodes es
  call_nodes (super_call c m es) = 1 + exprs_nodes es
  call_nodes (where_call k m e es) = 1 + expr_nodes e + exprs_nodes es
  call_nodes (init_call c ts ss es) = supply_nodes ss + exprs_nodes es

-- one node for a variable where there is one
abbrev pub variable_nodes : Option Variable → ℕ
variable_nodes None = 0
variable_nodes (Some v) = 1

abbrev mutual
  -- one node for each statement, for each variable that it declares and for the target of an assignment, and the nodes
  -- of its parts
  pub stmt_nodes : StmtTree → ℕ
  stmt_nodes (var_stmt v e) = 2 + expr_nodes e
  stmt_nodes (set_local_stmt k e) = 2 + expr_nodes e
  stmt_nodes (set_field_stmt c f e) = 2 + expr_nodes e
  stmt_nodes (set_element_stmt a i e) = 2 + expr_nodes a + expr_nodes i + expr_nodes e
  stmt_nodes (call_stmt c) = 1 + call_nodes c
  stmt_nodes (drop_stmt c) = 1 + call_nodes c
  stmt_nodes (if_stmt e b r) = 1 + expr_nodes e + body_nodes b + else_nodes r
  stmt_nodes (while_stmt e b) = 1 + expr_nodes e + body_nodes b
  stmt_nodes (for_stmt v k c b) = 2 + call_nodes c + body_nodes b
  stmt_nodes break_stmt = 1
  stmt_nodes return_stmt = 1
  stmt_nodes (return_value_stmt e) = 1 + expr_nodes e
  stmt_nodes (yield_stmt e) = 1 + expr_nodes e
  stmt_nodes (raise_stmt x) = 1
  stmt_nodes (raise_value_stmt x e) = 1 + expr_nodes e
  stmt_nodes (begin_stmt b ws) = 1 + body_nodes b + whens_nodes ws
  stmt_nodes (put_byte_stmt e) = 1 + expr_nodes e
  stmt_nodes (put_int_stmt e) = 1 + expr_nodes e
  stmt_nodes (put_text_stmt e) = 1 + expr_nodes e

  -- the nodes of statements
  pub body_nodes : BodyTree → ℕ
  body_nodes no_stmt = 0
  body_nodes (more_stmts s b) = stmt_nodes s + body_nodes b

  -- one node for each `elseif`, and those of its parts
  pub else_nodes : ElseTree → ℕ
  else_nodes no_else = 0
  else_nodes (else_do b) = body_nodes b
  else_nodes (elseif_then e b r) = 1 + expr_nodes e + body_nodes b + else_nodes r

  -- one node for each `when` and each of their variables, and those of their statements
  pub whens_nodes : WhenTrees → ℕ
  whens_nodes no_when = 0
  whens_nodes (more_whens x v b ws) = 1 + variable_nodes v + body_nodes b + whens_nodes ws

-- the nodes of a unit: one for itself, one for each formal, and those of its statements
abbrev pub unit_nodes : ProgramUnit → ℕ
unit_nodes u = 1 + length u.sig.formals + body_nodes u.body

-- the nodes of a class: 17, and its where-methods
abbrev pub class_nodes : ProgramClass → ℕ
class_nodes c = 17 + length c.head.clauses

-- the nodes of a module: those of its units and of its classes
abbrev pub module_nodes : ProgramModule → ℕ
module_nodes m = sum_by unit_nodes m.units + sum_by class_nodes m.classes

-- the nodes of a program: those of its modules
abbrev pub program_nodes : Program → ℕ
program_nodes p = sum_by module_nodes p

abbrev mutual
  -- how many locals a statement declares: `var`s, loop variables and the variables of handlers
  pub stmt_locals : StmtTree → ℕ
  stmt_locals (var_stmt v e) = 1
  stmt_locals (set_local_stmt k e) = 0
  stmt_locals (set_field_stmt c f e) = 0
  stmt_locals (set_element_stmt a i e) = 0
  stmt_locals (call_stmt c) = 0
  stmt_locals (drop_stmt c) = 0
  stmt_locals (if_stmt e b r) = body_locals b + else_locals r
  stmt_locals (while_stmt e b) = body_locals b
  stmt_locals (for_stmt v k c b) = 1 + body_locals b
  stmt_locals break_stmt = 0
  stmt_locals return_stmt = 0
  stmt_locals (return_value_stmt e) = 0
  stmt_locals (yield_stmt e) = 0
  stmt_locals (raise_stmt x) = 0
  stmt_locals (raise_value_stmt x e) = 0
  stmt_locals (begin_stmt b ws) = body_locals b + whens_locals ws
  stmt_locals (put_byte_stmt e) = 0
  stmt_locals (put_int_stmt e) = 0
  stmt_locals (put_text_stmt e) = 0

  -- how many locals statements declare
  pub body_locals : BodyTree → ℕ
  body_locals no_stmt = 0
  body_locals (more_stmts s b) = stmt_locals s + body_locals b

  pub else_locals : ElseTree → ℕ
  else_locals no_else = 0
  else_locals (else_do b) = body_locals b
  else_locals (elseif_then e b r) = body_locals b + else_locals r

  pub whens_locals : WhenTrees → ℕ
  whens_locals no_when = 0
  whens_locals (more_whens x v b ws) = variable_nodes v + body_locals b + whens_locals ws

abbrev mutual
  -- whether a `for` is in a statement
  pub stmt_has_for : StmtTree → Bool
  stmt_has_for (var_stmt v e) = false
  stmt_has_for (set_local_stmt k e) = false
  stmt_has_for (set_field_stmt c f e) = false
  stmt_has_for (set_element_stmt a i e) = false
  stmt_has_for (call_stmt c) = false
  stmt_has_for (drop_stmt c) = false
  stmt_has_for (if_stmt e b r) = body_has_for b || else_has_for r
  stmt_has_for (while_stmt e b) = body_has_for b
  stmt_has_for (for_stmt v k c b) = true
  stmt_has_for break_stmt = false
  stmt_has_for return_stmt = false
  stmt_has_for (return_value_stmt e) = false
  stmt_has_for (yield_stmt e) = false
  stmt_has_for (raise_stmt x) = false
  stmt_has_for (raise_value_stmt x e) = false
  stmt_has_for (begin_stmt b ws) = body_has_for b || whens_have_for ws
  stmt_has_for (put_byte_stmt e) = false
  stmt_has_for (put_int_stmt e) = false
  stmt_has_for (put_text_stmt e) = false

  -- whether a `for` is among statements
  pub body_has_for : BodyTree → Bool
  body_has_for no_stmt = false
  body_has_for (more_stmts s b) = stmt_has_for s || body_has_for b

  pub else_has_for : ElseTree → Bool
  else_has_for no_else = false
  else_has_for (else_do b) = body_has_for b
  else_has_for (elseif_then e b r) = body_has_for b || else_has_for r

  pub whens_have_for : WhenTrees → Bool
  whens_have_for no_when = false
  whens_have_for (more_whens x v b ws) = body_has_for b || whens_have_for ws

-- the locals of a unit: its formals, those that its statements declare, and two more where it has a `for`
abbrev pub unit_locals : ProgramUnit → ℕ
unit_locals u = length u.sig.formals + body_locals u.body + (if body_has_for u.body then 2 else 0)

abbrev mutual
  -- how many words an expression's evaluation holds at once: 1 without operands, else the greatest of i + d for the
  -- operand i, from 0, of depth d
  pub expr_depth : ExprTree → ℕ
  expr_depth (number_expr n) = 1
  expr_depth (truth_expr b) = 1
  expr_depth (literal_expr bytes) = 1
  expr_depth self_expr = 1
  expr_depth (local_expr k) = 1
  expr_depth (field_expr c f) = 1
  expr_depth (negative_expr a) = expr_depth a
  expr_depth (arith_expr op a b) = max (expr_depth a) (1 + expr_depth b)
  expr_depth (compare_expr op a b) = max (expr_depth a) (1 + expr_depth b)
  expr_depth (same_expr a b) = max (expr_depth a) (1 + expr_depth b)
  expr_depth (not_expr a) = expr_depth a
  expr_depth (and_expr a b) = max (expr_depth a) (1 + expr_depth b)
  expr_depth (or_expr a b) = max (expr_depth a) (1 + expr_depth b)
  expr_depth (join_expr a b) = max (expr_depth a) (1 + expr_depth b)
  expr_depth (letter_expr a b) = max (expr_depth a) (1 + expr_depth b)
  expr_depth (extent_expr a) = expr_depth a
  expr_depth (element_expr a b) = max (expr_depth a) (1 + expr_depth b)
  expr_depth (length_expr a) = expr_depth a
  expr_depth (cast_expr c a) = expr_depth a
  expr_depth (call_expr c) = call_depth c
  expr_depth (new_expr c ts ss es) = max (1 + length ss) (exprs_depth (1 + length ss) es)
  expr_depth (new_array_expr t a b) = max (expr_depth a) (1 + expr_depth b)
  expr_depth get_byte_expr = 1

  -- the greatest of i + d of operands from the operand i on, 0 where there is none
  pub exprs_depth : ℕ → ExprTrees → ℕ
  exprs_depth i no_expr = 0
  exprs_depth i (more_exprs e es) = max (i + expr_depth e) (exprs_depth (suc i) es)

  -- the operands of a call are, in this order, the word of the where-method that is called, the receiver, a word for each
  -- where-method of what is called, and the arguments; each word has depth 1
  pub call_depth : CallTree → ℕ
  call_depth (routine_call f ts ss es) = max (max 1 (length ss)) (exprs_depth (length ss) es)
  call_depth (method_call t m e es) = max (expr_depth e) (exprs_depth 1 es)
  call_depth (hidden_call c m es) = max 1 (exprs_depth 1 es)
  call_depth (super_call c m es) = max 1 (exprs_depth 1 es)
  call_depth (where_call k m e es) = max (1 + expr_depth e) (exprs_depth 2 es)
  call_depth (init_call c ts ss es) = max (1 + length ss) (exprs_depth (1 + length ss) es)

abbrev mutual
  -- the greatest depth of a statement's expressions, 0 where there is none; an assignment to an element counts as an
  -- expression with the operands array, index and value
  pub stmt_depth : StmtTree → ℕ
  stmt_depth (var_stmt v e) = expr_depth e
  stmt_depth (set_local_stmt k e) = expr_depth e
  stmt_depth (set_field_stmt c f e) = expr_depth e
  stmt_depth (set_element_stmt a i e) = max (expr_depth a) (max (1 + expr_depth i) (2 + expr_depth e))
  stmt_depth (call_stmt c) = call_depth c
  stmt_depth (drop_stmt c) = call_depth c
  stmt_depth (if_stmt e b r) = max (expr_depth e) (max (body_depth b) (else_depth r))
  stmt_depth (while_stmt e b) = max (expr_depth e) (body_depth b)
  stmt_depth (for_stmt v k c b) = max (call_depth c) (body_depth b)
  stmt_depth break_stmt = 0
  stmt_depth return_stmt = 0
  stmt_depth (return_value_stmt e) = expr_depth e
  stmt_depth (yield_stmt e) = expr_depth e
  stmt_depth (raise_stmt x) = 0
  stmt_depth (raise_value_stmt x e) = expr_depth e
  stmt_depth (begin_stmt b ws) = max (body_depth b) (whens_depth ws)
  stmt_depth (put_byte_stmt e) = expr_depth e
  stmt_depth (put_int_stmt e) = expr_depth e
  stmt_depth (put_text_stmt e) = expr_depth e

  -- the greatest depth of the expressions of statements, 0 where there is none
  pub body_depth : BodyTree → ℕ
  body_depth no_stmt = 0
  body_depth (more_stmts s b) = max (stmt_depth s) (body_depth b)

  pub else_depth : ElseTree → ℕ
  else_depth no_else = 0
  else_depth (else_do b) = body_depth b
  else_depth (elseif_then e b r) = max (expr_depth e) (max (body_depth b) (else_depth r))

  pub whens_depth : WhenTrees → ℕ
  whens_depth no_when = 0
  whens_depth (more_whens x v b ws) = max (body_depth b) (whens_depth ws)

-- the depth of a unit: the greatest of its expressions, 1 where there is none
abbrev pub unit_depth : ProgramUnit → ℕ
unit_depth u = max 1 (body_depth u.body)

-- the weight of an open call of a unit: the bytes of room that it takes
abbrev pub call_weight : ProgramUnit → ℕ
call_weight u = 256 + 4 * (unit_locals u + unit_depth u)
