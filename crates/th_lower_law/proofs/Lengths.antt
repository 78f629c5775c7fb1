-- Each form has as many operations as its size says.
use Rattle.std.proofs.Common.{◌≡◌, ℕ, zero, suc, ◌+◌, List, [], ◌∷◌, ◌++◌, length, Option, Some, None, refl, ap, arith, length-append}
use Rattle.th_meaning.specs.Trees.{SupplyTree, Variable, CastTree, ExprTree, number_expr, truth_expr, literal_expr, self_expr, local_expr, field_expr, negative_expr, arith_expr, compare_expr, same_expr, not_expr, and_expr, or_expr, join_expr, letter_expr, extent_expr, element_expr, length_expr, cast_expr, call_expr, new_expr, new_array_expr, get_byte_expr, ExprTrees, no_expr, more_exprs, CallTree, routine_call, method_call, hidden_call, super_call, where_call, init_call, StmtTree, var_stmt, set_local_stmt, set_field_stmt, set_element_stmt, call_stmt, drop_stmt, if_stmt, while_stmt, for_stmt, break_stmt, return_stmt, return_value_stmt, yield_stmt, raise_stmt, raise_value_stmt, begin_stmt, put_byte_stmt, put_int_stmt, put_text_stmt, BodyTree, no_stmt, more_stmts, ElseTree, no_else, else_do, elseif_then, WhenTrees, no_when, more_whens}
use Rattle.th_meaning.specs.Program.{UnitSort, of_routine, of_method, of_init, ProgramUnit, TypeDecl, name_of_type}
use Rattle.th_meaning.specs.Counts.{variable_nodes}
use Rattle.th_flat.specs.declared.op.FlatOp.{FlatOp}
use Rattle.th_flat.specs.declared.op.FlatOp.TheVariants.{OpWord, OpGo, OpUnless, OpCast, OpCall, OpTurn, OpDrop, OpHandle, OpOver, OpNext, OpSet}
use Rattle.th_lowering.specs.Sizes.{between_size, cast_size, may_cast_size, expr_size, exprs_size, operands_size, dropped, else_jump, block_size, stmt_size, body_size, else_size, whens_size}
use Rattle.th_lowering.specs.Site.{Site, cast_between, cast_code, may_cast_code, supplies_code}
use Rattle.th_lowering.specs.Code.{call_op, drop_code, block_code, expr_code, exprs_code, operands_code, bind_code, stmt_code, body_code, else_code, whens_code}
use Rattle.th_lowering.specs.Units.{keep_code, start_code, start_size, end_code, end_size, unit_size, unit_code, site_of, body_start, body_end}

-- one list behind another
pub added : (xs ys : List FlatOp) (m n k : ℕ) → length xs ≡ m → length ys ≡ n → m + n ≡ k → length (xs ++ ys) ≡ k
added xs ys m n k a b e = omega (arith, length-append xs ys, a, b, e)

-- one operation before a list
pub before : (m n k : ℕ) → m ≡ n → n + 1 ≡ k → suc m ≡ k
before m n k a e = omega (arith, a, e)

pub cast_length : (c : CastTree) → length (cast_code c) ≡ cast_size c
cast_length c = go (name_of_type c.from) (name_of_type c.to)
  where
    go : (from to : Option (List ℕ)) → length (cast_between from to) ≡ between_size from to
    go None to = refl
    go (Some f) None = refl
    go (Some f) (Some t) = refl

pub may_cast_length : (c : Option CastTree) → length (may_cast_code c) ≡ may_cast_size c
may_cast_length None = refl
may_cast_length (Some c) = cast_length c

pub drop_length : (c : CallTree) → length (drop_code c) ≡ dropped c
drop_length (routine_call f ts ss es) = refl
drop_length (method_call t m e es) = refl
drop_length (hidden_call c m es) = refl
drop_length (super_call c m es) = refl
drop_length (where_call k m e es) = refl
drop_length (init_call c ts ss es) = refl

pub block_length : (ws : WhenTrees) (h e : ℕ) → length (block_code ws h e) ≡ block_size ws
block_length no_when h e = refl
block_length (more_whens x v b ws) h e = refl

module _ (s : Site) where
  pub supplies_length : (ss : List SupplyTree) (b : ℕ) → length (supplies_code s ss b) ≡ length ss
  supplies_length [] b = refl
  supplies_length (x ∷ xs) b = ap suc (supplies_length xs (b + 1))

  pub bind_length : (v : Option Variable) → length (bind_code s v) ≡ variable_nodes v
  bind_length None = refl
  bind_length (Some v) = refl

  mutual
    pub expr_length : (e : ExprTree) (b : ℕ) → length (expr_code s e b) ≡ expr_size e
    expr_length (number_expr n) b = refl
    expr_length (truth_expr x) b = refl
    expr_length (literal_expr bytes) b = refl
    expr_length self_expr b = refl
    expr_length (local_expr k) b = refl
    expr_length (field_expr c f) b = refl
    expr_length (negative_expr a) b = added _ _ (expr_size a) 1 _ (expr_length a b) refl refl
    expr_length (arith_expr op x y) b = added _ _ (expr_size x) (expr_size y + 1) _ (expr_length x b) (added _ _ (expr_size y) 1 _ (expr_length y (b + expr_size x)) refl refl) (omega arith)
    expr_length (compare_expr op x y) b = added _ _ (expr_size x) (expr_size y + 1) _ (expr_length x b) (added _ _ (expr_size y) 1 _ (expr_length y (b + expr_size x)) refl refl) (omega arith)
    expr_length (same_expr x y) b = added _ _ (expr_size x) (expr_size y + 1) _ (expr_length x b) (added _ _ (expr_size y) 1 _ (expr_length y (b + expr_size x)) refl refl) (omega arith)
    expr_length (not_expr a) b = added _ _ (expr_size a) 4 _ (expr_length a b) refl refl
    expr_length (and_expr x y) b = added _ _ (expr_size x) (expr_size y + 3) _ (expr_length x b)
        (before _ (expr_size y + 2) _ (added _ _ (expr_size y) 2 _ (expr_length y (b + expr_size x + 1)) refl refl) (omega arith)) (omega arith)
    expr_length (or_expr x y) b = added _ _ (expr_size x) (expr_size y + 3) _ (expr_length x b)
        (before _ (expr_size y + 2) _ (before _ (expr_size y + 1) _ (before _ (expr_size y) _ (expr_length y (b + expr_size x + 3)) refl) (omega arith)) (omega arith)) (omega arith)
    expr_length (join_expr x y) b = added _ _ (expr_size x) (expr_size y + 1) _ (expr_length x b) (added _ _ (expr_size y) 1 _ (expr_length y (b + expr_size x)) refl refl) (omega arith)
    expr_length (letter_expr x y) b = added _ _ (expr_size x) (expr_size y + 1) _ (expr_length x b) (added _ _ (expr_size y) 1 _ (expr_length y (b + expr_size x)) refl refl) (omega arith)
    expr_length (extent_expr a) b = added _ _ (expr_size a) 1 _ (expr_length a b) refl refl
    expr_length (element_expr x y) b = added _ _ (expr_size x) (expr_size y + 1) _ (expr_length x b) (added _ _ (expr_size y) 1 _ (expr_length y (b + expr_size x)) refl refl) (omega arith)
    expr_length (length_expr a) b = added _ _ (expr_size a) 1 _ (expr_length a b) refl refl
    expr_length (cast_expr c a) b = added _ _ (expr_size a) (cast_size c) _ (expr_length a b) (cast_length c) refl
    expr_length (call_expr c) b = added _ _ (operands_size c) 1 _ (operands_length c b) refl refl
    expr_length (new_expr c ts ss es) b = before _ (length ss + (exprs_size es + 1)) _
        (added _ _ (length ss) (exprs_size es + 1) _ (supplies_length ss (b + 1)) (added _ _ (exprs_size es) 1 _ (exprs_length es (b + 1 + length ss)) refl refl) refl) (omega arith)
    expr_length (new_array_expr t x y) b = added _ _ (expr_size x) (expr_size y + 1) _ (expr_length x b) (added _ _ (expr_size y) 1 _ (expr_length y (b + expr_size x)) refl refl) (omega arith)
    expr_length get_byte_expr b = refl

    pub exprs_length : (es : ExprTrees) (b : ℕ) → length (exprs_code s es b) ≡ exprs_size es
    exprs_length no_expr b = refl
    exprs_length (more_exprs e es) b = added _ _ (expr_size e) (exprs_size es) _ (expr_length e b) (exprs_length es (b + expr_size e)) refl

    pub operands_length : (c : CallTree) (b : ℕ) → length (operands_code s c b) ≡ operands_size c
    operands_length (routine_call f ts ss es) b = added _ _ (length ss) (exprs_size es) _ (supplies_length ss b) (exprs_length es (b + length ss)) refl
    operands_length (method_call t m e es) b = added _ _ (expr_size e) (exprs_size es + 1) _ (expr_length e b) (before _ (exprs_size es) _ (exprs_length es (b + expr_size e + 1)) refl) (omega arith)
    operands_length (hidden_call c m es) b = before _ (exprs_size es) _ (exprs_length es (b + 1)) refl
    operands_length (super_call c m es) b = before _ (exprs_size es) _ (exprs_length es (b + 1)) refl
    operands_length (where_call k m e es) b = before _ (expr_size e + exprs_size es) _ (added _ _ (expr_size e) (exprs_size es) _ (expr_length e (b + 1)) (exprs_length es (b + 1 + expr_size e)) refl) refl
    operands_length (init_call c ts ss es) b = before _ (length ss + (exprs_size es + 1)) _
        (added _ _ (length ss) (exprs_size es + 1) _ (supplies_length ss (b + 1)) (added _ _ (exprs_size es) 1 _ (exprs_length es (b + 1 + length ss)) refl refl) refl) (omega arith)

  mutual
    pub stmt_length : (t : StmtTree) (b x : ℕ) → length (stmt_code s t b x) ≡ stmt_size t
    stmt_length (var_stmt v e) b x = added _ _ (expr_size e) 1 _ (expr_length e b) refl refl
    stmt_length (set_local_stmt k e) b x = added _ _ (expr_size e) 1 _ (expr_length e b) refl refl
    stmt_length (set_field_stmt c f e) b x = added _ _ (expr_size e) 1 _ (expr_length e b) refl refl
    stmt_length (set_element_stmt a i e) b x = added _ _ (expr_size a) (expr_size i + (expr_size e + 1)) _ (expr_length a b)
        (added _ _ (expr_size i) (expr_size e + 1) _ (expr_length i (b + expr_size a)) (added _ _ (expr_size e) 1 _ (expr_length e (b + expr_size a + expr_size i)) refl refl) refl) (omega arith)
    stmt_length (call_stmt c) b x = added _ _ (operands_size c) (dropped c + 1) _ (operands_length c b) (before _ (dropped c) _ (drop_length c) refl) (omega arith)
    stmt_length (drop_stmt c) b x = added _ _ (operands_size c) 2 _ (operands_length c b) refl refl
    stmt_length (if_stmt e body r) b x = added _ _ (expr_size e) (body_size body + else_size r + 1) _ (expr_length e b)
        (before _ (body_size body + else_size r) _ (added _ _ (body_size body) (else_size r) _ (body_length body (b + expr_size e + 1) x) (else_length r (b + expr_size e + 1 + body_size body) x) refl) refl) (omega arith)
    stmt_length (while_stmt e body) b x = before _ (body_size body + (expr_size e + 2) + 1) _ (before _ (body_size body + (expr_size e + 2)) _
        (added _ _ (body_size body) (expr_size e + 2) _ (body_length body (b + 2) (b + 2 + body_size body + expr_size e + 2)) (added _ _ (expr_size e) 2 _ (expr_length e (b + 2 + body_size body)) refl refl) refl) refl) (omega arith)
    stmt_length (for_stmt v k c body) b x = added _ _ (operands_size c) (may_cast_size k + (body_size body + 2) + 2) _ (operands_length c b)
        (before _ (may_cast_size k + (body_size body + 2) + 1) _ (before _ (may_cast_size k + (body_size body + 2)) _
        (added _ _ (may_cast_size k) (body_size body + 2) _ (may_cast_length k) (before _ (body_size body + 1) _
        (added _ _ (body_size body) 1 _ (body_length body (b + operands_size c + 2 + may_cast_size k + 1) (b + operands_size c + 2 + may_cast_size k + 1 + body_size body + 1)) refl refl) (omega arith)) refl) refl) (omega arith)) (omega arith)
    stmt_length break_stmt b x = refl
    stmt_length return_stmt b x = refl
    stmt_length (return_value_stmt e) b x = added _ _ (expr_size e) 1 _ (expr_length e b) refl refl
    stmt_length (yield_stmt e) b x = added _ _ (expr_size e) 1 _ (expr_length e b) refl refl
    stmt_length (raise_stmt y) b x = refl
    stmt_length (raise_value_stmt y e) b x = added _ _ (expr_size e) 1 _ (expr_length e b) refl refl
    stmt_length (begin_stmt body ws) b x = added _ _ (block_size ws) (body_size body + whens_size ws) _
        (block_length ws (b + block_size ws + body_size body + 1) (b + block_size ws + body_size body))
        (added _ _ (body_size body) (whens_size ws) _ (body_length body (b + block_size ws) x) (whens_length ws (b + block_size ws + body_size body) x) refl) (omega arith)
    stmt_length (put_byte_stmt e) b x = added _ _ (expr_size e) 1 _ (expr_length e b) refl refl
    stmt_length (put_int_stmt e) b x = added _ _ (expr_size e) 1 _ (expr_length e b) refl refl
    stmt_length (put_text_stmt e) b x = added _ _ (expr_size e) 1 _ (expr_length e b) refl refl

    pub body_length : (t : BodyTree) (b x : ℕ) → length (body_code s t b x) ≡ body_size t
    body_length no_stmt b x = refl
    body_length (more_stmts first rest) b x = added _ _ (stmt_size first) (body_size rest) _ (stmt_length first b x) (body_length rest (b + stmt_size first) x) refl

    pub else_length : (r : ElseTree) (b x : ℕ) → length (else_code s r b x) ≡ else_size r
    else_length no_else b x = refl
    else_length (else_do body) b x = before _ (body_size body) _ (body_length body (b + 1) x) refl
    else_length (elseif_then e body r) b x = before _ (expr_size e + (body_size body + else_size r + 1)) _
        (added _ _ (expr_size e) (body_size body + else_size r + 1) _ (expr_length e (b + 1)) (before _ (body_size body + else_size r) _
        (added _ _ (body_size body) (else_size r) _ (body_length body (b + 1 + expr_size e + 1) x) (else_length r (b + 1 + expr_size e + 1 + body_size body) x) refl) refl) refl) (omega arith)

    pub whens_length : (ws : WhenTrees) (b x : ℕ) → length (whens_code s ws b x) ≡ whens_size ws
    whens_length no_when b x = refl
    whens_length (more_whens y v body ws) b x = before _ (variable_nodes v + (body_size body + whens_size ws) + 1) _ (before _ (variable_nodes v + (body_size body + whens_size ws)) _
        (added _ _ (variable_nodes v) (body_size body + whens_size ws) _ (bind_length v)
        (added _ _ (body_size body) (whens_size ws) _ (body_length body (b + 1 + 1 + variable_nodes v) x) (whens_length ws (b + 1 + 1 + variable_nodes v + body_size body) x) refl) refl) refl) (omega arith)

keep_length : (c : List ℕ) (k n : ℕ) → length (keep_code c k n) ≡ n + n
keep_length c k zero = refl
keep_length c k (suc n) = omega (arith, keep_length c (k + 1) n)

pub start_length : (sort : UnitSort) (n : ℕ) → length (start_code sort n) ≡ start_size sort n
start_length of_routine n = refl
start_length (of_method c m) n = refl
start_length (of_init c) n = keep_length c 0 n

pub end_length : (sort : UnitSort) → length (end_code sort) ≡ end_size sort
end_length of_routine = refl
end_length (of_method c m) = refl
end_length (of_init c) = refl

-- a unit has as many operations as its size says
pub unit_length : (name : List ℕ) (known : List TypeDecl) (before : ℕ) (u : ProgramUnit) → length (unit_code name known before u) ≡ unit_size u
unit_length name known b u = added _ _ (start_size u.sort (length u.clauses)) (body_size u.body + end_size u.sort) _ (start_length u.sort (length u.clauses))
    (added _ _ (body_size u.body) (end_size u.sort) _ (body_length (site_of name known b u) u.body (body_start u) (body_end u)) (end_length u.sort) refl) (omega arith)
