-- The code's trees, without where they lie in memory.
use Rattle.std.specs.Prelude.{ℕ, List, Option, Some, None, map}
use Rattle.th_tree.specs.declared.tree.TypeTree.{TypeTree}
use Rattle.th_tree.specs.declared.tree.TypeTree.TheVariants.{Int, Bool as BoolType, Text as TextType, Array', Named'}
use Rattle.th_tree.specs.declared.tree.TypeList.{TypeList}
use Rattle.th_tree.specs.declared.tree.TypeList.TheVariants.{NoType, MoreType'}
use Rattle.th_tree.specs.declared.tree.NamedTree.{NamedTree}
use Rattle.th_tree.specs.declared.tree.Expr.{Expr}
use Rattle.th_tree.specs.declared.tree.Expr.TheVariants.{Number, Text, True, False, PartSelf, Super', Item, Call', New', NewArray', GetByte, Field', Method', Length', Element', Not', Negative', Binary'}
use Rattle.th_tree.specs.declared.tree.ExprList.{ExprList}
use Rattle.th_tree.specs.declared.tree.ExprList.TheVariants.{NoExpr, MoreExpr'}
use Rattle.th_tree.specs.declared.tree.Formal.{Formal}
use Rattle.th_tree.specs.declared.tree.Stmt.{Stmt}
use Rattle.th_tree.specs.declared.tree.Stmt.TheVariants.{Var, Assign, Plain, If', While', For', Break, Return, ReturnValue, Yield, Raise, RaiseValue, Begin', PutByte, PutInt, PutString}
use Rattle.th_tree.specs.declared.tree.Body.{Body}
use Rattle.th_tree.specs.declared.tree.Body.TheVariants.{NoStmt, MoreStmt'}
use Rattle.th_tree.specs.declared.tree.ElseTree.{ElseTree}
use Rattle.th_tree.specs.declared.tree.ElseTree.TheVariants.{NoElse, Else', Elseif'}
use Rattle.th_tree.specs.declared.tree.WhenList.{WhenList}
use Rattle.th_tree.specs.declared.tree.WhenList.TheVariants.{NoWhen, MoreWhen'}
use Rattle.th_tree.specs.Trees.{TypeSyn, int_type, bool_type, text_type, array_type, named_type, TypeSyns, no_type, more_types, NamedSyn, ExprSyn, number_expr, text_expr, true_expr, false_expr, self_expr, super_expr, item_expr, call_expr, new_expr, new_array_expr, get_byte_expr, field_expr, method_expr, length_expr, element_expr, not_expr, negative_expr, binary_expr, ExprSyns, no_expr, more_exprs, FormalSyn, StmtSyn, var_stmt, assign_stmt, plain_stmt, if_stmt, while_stmt, for_stmt, break_stmt, return_stmt, return_value_stmt, yield_stmt, raise_stmt, raise_value_stmt, begin_stmt, put_byte_stmt, put_int_stmt, put_text_stmt, BodySyn, no_stmt, more_stmts, ElseSyn, no_else, else_do, elseif_then, WhenSyns, no_when, more_whens}

abbrev mutual
  -- a type
  pub type_of : TypeTree → TypeSyn
  type_of (Int at) = int_type at
  type_of (BoolType at) = bool_type at
  type_of (TextType at) = text_type at
  type_of (Array' at i t) = array_type at (type_of t)
  type_of (Named' item i ts) = named_type item (types_of ts)

  -- types
  pub types_of : TypeList → TypeSyns
  types_of NoType = no_type
  types_of (MoreType' t i ts) = more_types (type_of t) (types_of ts)

-- a named type with its arguments
abbrev pub named_of : NamedTree → NamedSyn
named_of n = record { item = n.item; args = types_of n.args.value }

abbrev mutual
  -- an expression
  pub expr_of : Expr → ExprSyn
  expr_of (Number at n) = number_expr at n
  expr_of (Text at n) = text_expr at n
  expr_of (True at) = true_expr at
  expr_of (False at) = false_expr at
  expr_of (PartSelf at) = self_expr at
  expr_of (Super' at m i es) = super_expr at m (exprs_of es)
  expr_of (Item at r ts) = item_expr at r (types_of ts.value)
  expr_of (Call' at r ts i es) = call_expr at r (types_of ts.value) (exprs_of es)
  expr_of (New' at n i es) = new_expr at (named_of n) (exprs_of es)
  expr_of (NewArray' at t i e j f) = new_array_expr at (type_of t) (expr_of e) (expr_of f)
  expr_of (GetByte at) = get_byte_expr at
  expr_of (Field' at i e n) = field_expr at (expr_of e) n
  expr_of (Method' at i e n j es) = method_expr at (expr_of e) n (exprs_of es)
  expr_of (Length' at i e) = length_expr at (expr_of e)
  expr_of (Element' at i e j f) = element_expr at (expr_of e) (expr_of f)
  expr_of (Not' at i e) = not_expr at (expr_of e)
  expr_of (Negative' at i e) = negative_expr at (expr_of e)
  expr_of (Binary' at o i e j f) = binary_expr at o (expr_of e) (expr_of f)

  -- expressions
  pub exprs_of : ExprList → ExprSyns
  exprs_of NoExpr = no_expr
  exprs_of (MoreExpr' e i es) = more_exprs (expr_of e) (exprs_of es)

-- a name with its type
abbrev pub formal_of : Formal → FormalSyn
formal_of f = record { name = f.name; of = type_of f.of }

-- what there may be
abbrev pub option_of : {A B : Type 0} → (A → B) → Option A → Option B
option_of f None = None
option_of f (Some a) = Some (f a)

abbrev mutual
  -- a statement
  pub stmt_of : Stmt → StmtSyn
  stmt_of (Var at f e) = var_stmt at (formal_of f) (expr_of e)
  stmt_of (Assign at e f) = assign_stmt at (expr_of e) (expr_of f)
  stmt_of (Plain at e) = plain_stmt at (expr_of e)
  stmt_of (If' at e i b j r) = if_stmt at (expr_of e) (body_of b) (else_of r)
  stmt_of (While' at e i b) = while_stmt at (expr_of e) (body_of b)
  stmt_of (For' at f e i b) = for_stmt at (formal_of f) (expr_of e) (body_of b)
  stmt_of (Break at) = break_stmt at
  stmt_of (Return at) = return_stmt at
  stmt_of (ReturnValue at e) = return_value_stmt at (expr_of e)
  stmt_of (Yield at e) = yield_stmt at (expr_of e)
  stmt_of (Raise at x) = raise_stmt at x
  stmt_of (RaiseValue at x e) = raise_value_stmt at x (expr_of e)
  stmt_of (Begin' at i b j ws) = begin_stmt at (body_of b) (whens_of ws)
  stmt_of (PutByte at e) = put_byte_stmt at (expr_of e)
  stmt_of (PutInt at e) = put_int_stmt at (expr_of e)
  stmt_of (PutString at e) = put_text_stmt at (expr_of e)

  -- statements
  pub body_of : Body → BodySyn
  body_of NoStmt = no_stmt
  body_of (MoreStmt' s i b) = more_stmts (stmt_of s) (body_of b)

  -- what follows the statements after a `then`
  pub else_of : ElseTree → ElseSyn
  else_of NoElse = no_else
  else_of (Else' i b) = else_do (body_of b)
  else_of (Elseif' at e i b j r) = elseif_then at (expr_of e) (body_of b) (else_of r)

  -- handlers
  pub whens_of : WhenList → WhenSyns
  whens_of NoWhen = no_when
  whens_of (MoreWhen' at x v i b j ws) = more_whens at x (option_of formal_of v) (body_of b) (whens_of ws)
