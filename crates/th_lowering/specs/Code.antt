-- The operations of each form: one row for each. A label is the place of an operation in the unit. The label of each failure is the
-- count of operations.
use Rattle.std.specs.Prelude.{ℕ, zero, suc, ◌+◌, Bool, true, false, List, [], ◌∷◌, ◌++◌, length, Option, Some, None}
use Rattle.th_meaning.specs.declared.expr.ArithOp.{ArithOp}
use Rattle.th_meaning.specs.declared.expr.ArithOp.TheVariants.{Plus, Minus, Times, Divide, Remainder}
use Rattle.th_meaning.specs.declared.expr.CompareOp.{CompareOp}
use Rattle.th_meaning.specs.declared.expr.CompareOp.TheVariants.{Equal, NotEqual, Less, LessEqual, Greater, GreaterEqual}
use Rattle.th_meaning.specs.Trees.{Variable, CastTree, ExprTree, number_expr, truth_expr, literal_expr, self_expr, local_expr, field_expr, negative_expr, arith_expr, compare_expr, same_expr, not_expr, and_expr, or_expr, join_expr, letter_expr, extent_expr, element_expr, length_expr, cast_expr, call_expr, new_expr, new_array_expr, get_byte_expr, ExprTrees, no_expr, more_exprs, CallTree, routine_call, method_call, hidden_call, super_call, where_call, init_call, StmtTree, var_stmt, set_local_stmt, set_field_stmt, set_element_stmt, call_stmt, drop_stmt, if_stmt, while_stmt, for_stmt, break_stmt, return_stmt, return_value_stmt, yield_stmt, raise_stmt, raise_value_stmt, begin_stmt, put_byte_stmt, put_int_stmt, put_text_stmt, BodyTree, no_stmt, more_stmts, ElseTree, no_else, else_do, elseif_then, WhenTrees, no_when, more_whens}
use Rattle.th_meaning.specs.Program.{method_name, init_name}
use Rattle.th_meaning.specs.Counts.{variable_nodes}
use Rattle.th_flat.specs.declared.op.FlatOp.{FlatOp}
use Rattle.th_flat.specs.declared.op.FlatOp.TheVariants.{OpWord, OpLocal, OpSet, OpDrop, OpArith, OpCompare, OpSame, OpGo, OpUnless, OpCast, OpOwn, OpField, OpSetfield, OpCall, OpDispatch, OpHidden, OpSupply, OpNew, OpArray, OpAt, OpSetat, OpLength, OpPutbyte, OpPutint, OpGet, OpRaise, OpReturn, OpTurn, OpText, OpAppend, OpLetter, OpExtent, OpPuttext, OpBlock, OpHandle, OpOver, OpNext, OpResume}
use Rattle.th_lowering.specs.Homes.{home}
use Rattle.th_lowering.specs.Sizes.{count, expr_size, exprs_size, operands_size, else_jump, block_size, stmt_size, body_size, else_size, whens_size, may_cast_size}
use Rattle.th_lowering.specs.Site.{Site, class_around, word_of, where_op, cast_code, may_cast_code, supplies_code}

-- the operator of a sum, and so on
abbrev pub arith_number : ArithOp → ℕ
arith_number Plus = 0
arith_number Minus = 1
arith_number Times = 2
arith_number Divide = 3
arith_number Remainder = 4

abbrev pub compare_number : CompareOp → ℕ
compare_number Equal = 0
compare_number NotEqual = 1
compare_number Less = 2
compare_number LessEqual = 3
compare_number Greater = 4
compare_number GreaterEqual = 5

-- a truth value as a number
abbrev pub truth_number : Bool → ℕ
truth_number false = 0
truth_number true = 1

-- the call of what a call names, whose value is given where f is 1; n is the count of the unit's operations
abbrev pub call_op : Site → CallTree → (f : ℕ) → FlatOp
call_op s (routine_call unit ts ss es) f = OpCall unit (length ss + count es) f s.count
call_op s (method_call of m e es) f = OpDispatch (home s.known of m) m (count es + 1) f s.count
call_op s (hidden_call c m es) f = OpHidden c m (count es + 1) f s.count
call_op s (super_call c m es) f = OpCall (method_name c m) (count es + 1) f s.count
call_op s (where_call k m e es) f = OpSupply (count es + 1) f s.count
call_op s (init_call c ts ss es) f = OpCall (init_name c) (length ss + count es + 1) 1 s.count

-- the object that an initializer gives is dropped by a statement
abbrev pub drop_code : CallTree → List FlatOp
drop_code (routine_call f ts ss es) = []
drop_code (method_call t m e es) = []
drop_code (hidden_call c m es) = []
drop_code (super_call c m es) = []
drop_code (where_call k m e es) = []
drop_code (init_call c ts ss es) = OpDrop ∷ []

-- the operations up to e are covered by the handlers at h, where there are some
abbrev pub block_code : WhenTrees → (h e : ℕ) → List FlatOp
block_code no_when h e = []
block_code (more_whens x v b ws) h e = OpBlock h e ∷ []

module _ (s : Site) where
  abbrev mutual
    -- an expression, from the place b on: the word of its value is pushed
    pub expr_code : ExprTree → (b : ℕ) → List FlatOp
    expr_code (number_expr n) b = OpWord n ∷ []
    expr_code (truth_expr x) b = OpWord (truth_number x) ∷ []
    expr_code (literal_expr bytes) b = OpText bytes ∷ []
    expr_code self_expr b = OpOwn (class_around s.sort) ∷ []
    expr_code (local_expr k) b = OpLocal (word_of s k) ∷ []
    expr_code (field_expr c f) b = OpField c (s.clauses + f) ∷ []
    expr_code (negative_expr a) b = expr_code a b ++ OpArith 5 s.count ∷ []
    expr_code (arith_expr op x y) b = expr_code x b ++ (expr_code y (b + expr_size x) ++ OpArith (arith_number op) s.count ∷ [])
    expr_code (compare_expr op x y) b = expr_code x b ++ (expr_code y (b + expr_size x) ++ OpCompare (compare_number op) ∷ [])
    expr_code (same_expr x y) b = expr_code x b ++ (expr_code y (b + expr_size x) ++ OpSame ∷ [])
    expr_code (not_expr a) b = expr_code a b ++ OpUnless (b + expr_size a + 3) ∷ OpWord 0 ∷ OpGo (b + expr_size a + 4) ∷ OpWord 1 ∷ []
    expr_code (and_expr x y) b = expr_code x b ++ OpUnless (b + expr_size x + 1 + expr_size y + 1)
        ∷ (expr_code y (b + expr_size x + 1) ++ OpGo (b + expr_size x + 1 + expr_size y + 2) ∷ OpWord 0 ∷ [])
    expr_code (or_expr x y) b = expr_code x b ++ OpUnless (b + expr_size x + 3) ∷ OpWord 1 ∷ OpGo (b + expr_size x + 3 + expr_size y)
        ∷ expr_code y (b + expr_size x + 3)
    expr_code (join_expr x y) b = expr_code x b ++ (expr_code y (b + expr_size x) ++ OpAppend s.count ∷ [])
    expr_code (letter_expr x y) b = expr_code x b ++ (expr_code y (b + expr_size x) ++ OpLetter s.count ∷ [])
    expr_code (extent_expr a) b = expr_code a b ++ OpExtent ∷ []
    expr_code (element_expr x y) b = expr_code x b ++ (expr_code y (b + expr_size x) ++ OpAt s.count ∷ [])
    expr_code (length_expr a) b = expr_code a b ++ OpLength ∷ []
    expr_code (cast_expr c a) b = expr_code a b ++ cast_code c
    expr_code (call_expr c) b = operands_code c b ++ call_op s c 1 ∷ []
    expr_code (new_expr c ts ss es) b = OpNew c ∷ (supplies_code s ss (b + 1) ++ (exprs_code es (b + 1 + length ss)
        ++ OpCall (init_name c) (length ss + count es + 1) 1 s.count ∷ []))
    expr_code (new_array_expr t x y) b = expr_code x b ++ (expr_code y (b + expr_size x) ++ OpArray s.count ∷ [])
    expr_code get_byte_expr b = OpGet s.count ∷ []

    -- expressions, one after another
    pub exprs_code : ExprTrees → (b : ℕ) → List FlatOp
    exprs_code no_expr b = []
    exprs_code (more_exprs e es) b = expr_code e b ++ exprs_code es (b + expr_size e)

    -- the operands of a call: the word of the where-method that is called, the receiver, a word for each where-method of what is
    -- called, and the arguments; an initializer that isn't entered by a `new` takes its turn before the call
    pub operands_code : CallTree → (b : ℕ) → List FlatOp
    operands_code (routine_call f ts ss es) b = supplies_code s ss b ++ exprs_code es (b + length ss)
    operands_code (method_call of m e es) b = expr_code e b ++ OpCast of (home s.known of m) ∷ exprs_code es (b + expr_size e + 1)
    operands_code (hidden_call c m es) b = OpLocal 0 ∷ exprs_code es (b + 1)
    operands_code (super_call c m es) b = OpLocal 0 ∷ exprs_code es (b + 1)
    operands_code (where_call k m e es) b = where_op s.sort k ∷ (expr_code e (b + 1) ++ exprs_code es (b + 1 + expr_size e))
    operands_code (init_call c ts ss es) b = OpLocal 0 ∷ (supplies_code s ss (b + 1) ++ (exprs_code es (b + 1 + length ss) ++ OpTurn ∷ []))

  -- the word of a handler's variable is set, where it has one
  abbrev pub bind_code : Option Variable → List FlatOp
  bind_code None = []
  bind_code (Some v) = OpSet (word_of s v.local) ∷ []

  -- where an exception goes that a handler isn't for: to the next one, else out of the block
  abbrev pub next_handler : WhenTrees → (place : ℕ) → ℕ
  next_handler no_when b = s.count
  next_handler (more_whens x v body ws) b = b + 1

  abbrev mutual
    -- a statement, from the place b on; x is where a `break` goes
    pub stmt_code : StmtTree → (b x : ℕ) → List FlatOp
    stmt_code (var_stmt v e) b x = expr_code e b ++ OpSet (word_of s v.local) ∷ []
    stmt_code (set_local_stmt k e) b x = expr_code e b ++ OpSet (word_of s k) ∷ []
    stmt_code (set_field_stmt c f e) b x = expr_code e b ++ OpSetfield c (s.clauses + f) ∷ []
    stmt_code (set_element_stmt a i e) b x = expr_code a b ++ (expr_code i (b + expr_size a) ++ (expr_code e (b + expr_size a + expr_size i) ++ OpSetat s.count ∷ []))
    stmt_code (call_stmt c) b x = operands_code c b ++ call_op s c 0 ∷ drop_code c
    stmt_code (drop_stmt c) b x = operands_code c b ++ call_op s c 1 ∷ OpDrop ∷ []
    stmt_code (if_stmt e body r) b x = expr_code e b ++ OpUnless (b + expr_size e + 1 + body_size body + else_jump r)
        ∷ (body_code body (b + expr_size e + 1) x ++ else_code r (b + expr_size e + 1 + body_size body) x)
    -- the test stands at the end, so that the way back goes to the turn
    stmt_code (while_stmt e body) b x = OpGo (b + 2 + body_size body) ∷ OpTurn
        ∷ (body_code body (b + 2) (b + 2 + body_size body + expr_size e + 2) ++ (expr_code e (b + 2 + body_size body)
        ++ OpUnless (b + 2 + body_size body + expr_size e + 2) ∷ OpGo (b + 1) ∷ []))
    stmt_code (for_stmt v k c body) b x = operands_code c b ++ OpOver (b + operands_size c + 2 + may_cast_size k + 1 + body_size body) ∷ call_op s c 0
        ∷ (may_cast_code k ++ OpSet (word_of s v.local)
        ∷ (body_code body (b + operands_size c + 2 + may_cast_size k + 1) (b + operands_size c + 2 + may_cast_size k + 1 + body_size body + 1) ++ OpNext ∷ []))
    stmt_code break_stmt b x = OpGo x ∷ []
    stmt_code return_stmt b x = OpReturn 0 ∷ []
    stmt_code (return_value_stmt e) b x = expr_code e b ++ OpReturn 1 ∷ []
    stmt_code (yield_stmt e) b x = expr_code e b ++ OpResume ∷ []
    stmt_code (raise_stmt y) b x = OpRaise y 0 s.count ∷ []
    stmt_code (raise_value_stmt y e) b x = expr_code e b ++ OpRaise y 1 s.count ∷ []
    stmt_code (begin_stmt body ws) b x =
        block_code ws (b + block_size ws + body_size body + 1) (b + block_size ws + body_size body)
        ++ (body_code body (b + block_size ws) x ++ whens_code ws (b + block_size ws + body_size body) x)
    stmt_code (put_byte_stmt e) b x = expr_code e b ++ OpPutbyte s.count ∷ []
    stmt_code (put_int_stmt e) b x = expr_code e b ++ OpPutint ∷ []
    stmt_code (put_text_stmt e) b x = expr_code e b ++ OpPuttext ∷ []

    -- statements, one after another
    pub body_code : BodyTree → (b x : ℕ) → List FlatOp
    body_code no_stmt b x = []
    body_code (more_stmts first rest) b x = stmt_code first b x ++ body_code rest (b + stmt_size first) x

    -- what follows the statements after a `then`: first a jump past it
    pub else_code : ElseTree → (b x : ℕ) → List FlatOp
    else_code no_else b x = []
    else_code (else_do body) b x = OpGo (b + else_size (else_do body)) ∷ body_code body (b + 1) x
    else_code (elseif_then e body r) b x = OpGo (b + else_size (elseif_then e body r))
        ∷ (expr_code e (b + 1) ++ OpUnless (b + 1 + expr_size e + 1 + body_size body + else_jump r)
        ∷ (body_code body (b + 1 + expr_size e + 1) x ++ else_code r (b + 1 + expr_size e + 1 + body_size body) x))

    -- handlers: before each a jump past them all
    pub whens_code : WhenTrees → (b x : ℕ) → List FlatOp
    whens_code no_when b x = []
    whens_code (more_whens y v body ws) b x = OpGo (b + whens_size (more_whens y v body ws))
        ∷ OpHandle y (variable_nodes v) (next_handler ws (b + 1 + 1 + variable_nodes v + body_size body))
        ∷ (bind_code v ++ (body_code body (b + 1 + 1 + variable_nodes v) x ++ whens_code ws (b + 1 + 1 + variable_nodes v + body_size body) x))
