-- The code of each form is of level 1.
use Rattle.std.proofs.Common.{◌≡◌, ℕ, zero, suc, ◌+◌, Bool, true, false, List, [], ◌∷◌, ◌++◌, length, Option, Some, None, refl, ap, ◌∙◌}
use Rattle.std.specs.Prelude.{◌&&◌, nat_eq}
use Rattle.std.specs.List.{list_all}
use Rattle.std.proofs.lemmas.Bool.{eq-eqb}
use Rattle.th_meaning.specs.Trees.{SupplyTree, by_primitive, by_method, passed, Variable, CastTree, ExprTree, number_expr, truth_expr, literal_expr, self_expr, local_expr, field_expr, negative_expr, arith_expr, compare_expr, same_expr, not_expr, and_expr, or_expr, join_expr, letter_expr, extent_expr, element_expr, length_expr, cast_expr, call_expr, new_expr, new_array_expr, get_byte_expr, ExprTrees, no_expr, more_exprs, CallTree, routine_call, method_call, hidden_call, super_call, where_call, init_call, StmtTree, var_stmt, set_local_stmt, set_field_stmt, set_element_stmt, call_stmt, drop_stmt, if_stmt, while_stmt, for_stmt, break_stmt, return_stmt, return_value_stmt, yield_stmt, raise_stmt, raise_value_stmt, begin_stmt, put_byte_stmt, put_int_stmt, put_text_stmt, BodyTree, no_stmt, more_stmts, ElseTree, no_else, else_do, elseif_then, WhenTrees, no_when, more_whens}
use Rattle.th_meaning.specs.Counts.{variable_nodes}
use Rattle.th_meaning.specs.Program.{UnitSort, of_routine, of_method, of_init, ProgramUnit, TypeDecl, name_of_type, init_name}
use Rattle.th_flat.specs.declared.op.FlatOp.{FlatOp}
use Rattle.th_flat.specs.Orderly.{is_of_level_1}
use Rattle.th_lowering.specs.Homes.{home}
use Rattle.th_lowering.specs.Sizes.{expr_size, exprs_size, operands_size, stmt_size, body_size, else_size, whens_size, block_size, may_cast_size}
use Rattle.th_lowering.specs.Site.{Site, cast_between, cast_code, may_cast_code, supply_op, supplies_code, where_op}
use Rattle.th_lowering.specs.Code.{call_op, drop_code, block_code, expr_code, exprs_code, operands_code, bind_code, stmt_code, body_code, else_code, whens_code}
use Rattle.th_lowering.specs.Units.{keep_code, start_code, end_code, unit_code, site_of, body_start, body_end, unit_size}

-- all operations are of level 1, in a unit of so many
pub record Plain (n : ℕ) (ops : List FlatOp) : Type 0 where
  pub plain : list_all (is_of_level_1 n) ops ≡ true

-- operations that are seen to be so
pub plain_by : (n : ℕ) (ops : List FlatOp) → list_all (is_of_level_1 n) ops ≡ true → Plain n ops
plain_by n ops h = record { plain = h }

-- one list behind another
pub plain_both : (n : ℕ) (xs ys : List FlatOp) → Plain n xs → Plain n ys → Plain n (xs ++ ys)
plain_both n [] ys h k = k
plain_both n (op ∷ xs) ys h k = record { plain = go (is_of_level_1 n op) (list_all (is_of_level_1 n) xs) h.plain (λ e. (plain_both n xs ys (record { plain = e }) k).plain) }
  where
    go : (a b : Bool) → (a && b) ≡ true → (b ≡ true → list_all (is_of_level_1 n) (xs ++ ys) ≡ true) → (a && list_all (is_of_level_1 n) (xs ++ ys)) ≡ true
    go true b e f = f e
    go false b e f = e

-- one operation before others
pub plain_one : (n : ℕ) (op : FlatOp) (ops : List FlatOp) → is_of_level_1 n op ≡ true → Plain n ops → Plain n (op ∷ ops)
plain_one n op ops h k = record { plain = ap (λ x. x && list_all (is_of_level_1 n) ops) h ∙ k.plain }

pub plain_same : (n : ℕ) → nat_eq n n ≡ true
plain_same n = eq-eqb n n refl

cast_plain : (n : ℕ) (c : CastTree) → Plain n (cast_code c)
cast_plain n c = go (name_of_type c.from) (name_of_type c.to)
  where
    go : (from to : Option (List ℕ)) → Plain n (cast_between from to)
    go None to = plain_by _ _ refl
    go (Some f) None = plain_by _ _ refl
    go (Some f) (Some t) = plain_by _ _ refl

may_cast_plain : (n : ℕ) (c : Option CastTree) → Plain n (may_cast_code c)
may_cast_plain n None = plain_by _ _ refl
may_cast_plain n (Some c) = cast_plain n c

drop_plain : (n : ℕ) (c : CallTree) → Plain n (drop_code c)
drop_plain n (routine_call f ts ss es) = plain_by _ _ refl
drop_plain n (method_call t m e es) = plain_by _ _ refl
drop_plain n (hidden_call c m es) = plain_by _ _ refl
drop_plain n (super_call c m es) = plain_by _ _ refl
drop_plain n (where_call k m e es) = plain_by _ _ refl
drop_plain n (init_call c ts ss es) = plain_by _ _ refl

block_plain : (n : ℕ) (ws : WhenTrees) (h e : ℕ) → Plain n (block_code ws h e)
block_plain n no_when h e = plain_by _ _ refl
block_plain n (more_whens x v b ws) h e = plain_by _ _ refl

where_plain : (n : ℕ) (sort : UnitSort) (k : ℕ) → is_of_level_1 n (where_op sort k) ≡ true
where_plain n of_routine k = refl
where_plain n (of_method c m) k = refl
where_plain n (of_init c) k = refl

module _ (s : Site) where
  supply_plain : (x : SupplyTree) (b : ℕ) → is_of_level_1 s.count (supply_op s x b) ≡ true
  supply_plain (by_primitive p) b = refl
  supply_plain (by_method t m) b = refl
  supply_plain (passed k) b = where_plain s.count s.sort k

  supplies_plain : (ss : List SupplyTree) (b : ℕ) → Plain s.count (supplies_code s ss b)
  supplies_plain [] b = plain_by _ _ refl
  supplies_plain (x ∷ xs) b = plain_one s.count (supply_op s x b) (supplies_code s xs (b + 1)) (supply_plain x b) (supplies_plain xs (b + 1))

  bind_plain : (v : Option Variable) → Plain s.count (bind_code s v)
  bind_plain None = plain_by _ _ refl
  bind_plain (Some v) = plain_by _ _ refl

  call_plain : (c : CallTree) (f : ℕ) → is_of_level_1 s.count (call_op s c f) ≡ true
  call_plain (routine_call g ts ss es) f = plain_same s.count
  call_plain (method_call t m e es) f = plain_same s.count
  call_plain (hidden_call c m es) f = plain_same s.count
  call_plain (super_call c m es) f = plain_same s.count
  call_plain (where_call k m e es) f = plain_same s.count
  call_plain (init_call c ts ss es) f = plain_same s.count

  -- an operation that is of level 1 by itself, behind a form
  behind : (xs : List FlatOp) (op : FlatOp) → Plain s.count xs → is_of_level_1 s.count op ≡ true → Plain s.count (xs ++ op ∷ [])
  behind xs op h k = plain_both s.count xs (op ∷ []) h (plain_one s.count op [] k (plain_by _ _ refl))

  behind_two : (xs ys : List FlatOp) (op : FlatOp) → Plain s.count xs → Plain s.count ys → is_of_level_1 s.count op ≡ true → Plain s.count (xs ++ (ys ++ op ∷ []))
  behind_two xs ys op h g k = plain_both s.count xs (ys ++ op ∷ []) h (behind ys op g k)

  mutual
    expr_plain : (e : ExprTree) (b : ℕ) → Plain s.count (expr_code s e b)
    expr_plain (number_expr n) b = plain_by _ _ refl
    expr_plain (truth_expr x) b = plain_by _ _ refl
    expr_plain (literal_expr bytes) b = plain_by _ _ refl
    expr_plain self_expr b = plain_by _ _ refl
    expr_plain (local_expr k) b = plain_by _ _ refl
    expr_plain (field_expr c f) b = plain_by _ _ refl
    expr_plain (negative_expr a) b = behind _ _ (expr_plain a b) (plain_same s.count)
    expr_plain (arith_expr op x y) b = behind_two _ _ _ (expr_plain x b) (expr_plain y (b + expr_size x)) (plain_same s.count)
    expr_plain (compare_expr op x y) b = behind_two _ _ _ (expr_plain x b) (expr_plain y (b + expr_size x)) refl
    expr_plain (same_expr x y) b = behind_two _ _ _ (expr_plain x b) (expr_plain y (b + expr_size x)) refl
    expr_plain (not_expr a) b = plain_both s.count _ _ (expr_plain a b) (plain_by _ _ refl)
    expr_plain (and_expr x y) b = plain_both s.count _ _ (expr_plain x b) (plain_one s.count _ _ refl (plain_both s.count _ _ (expr_plain y (b + expr_size x + 1)) (plain_by _ _ refl)))
    expr_plain (or_expr x y) b = plain_both s.count _ _ (expr_plain x b) (plain_one s.count _ _ refl (plain_one s.count _ _ refl (plain_one s.count _ _ refl (expr_plain y (b + expr_size x + 3)))))
    expr_plain (join_expr x y) b = behind_two _ _ _ (expr_plain x b) (expr_plain y (b + expr_size x)) (plain_same s.count)
    expr_plain (letter_expr x y) b = behind_two _ _ _ (expr_plain x b) (expr_plain y (b + expr_size x)) (plain_same s.count)
    expr_plain (extent_expr a) b = behind _ _ (expr_plain a b) refl
    expr_plain (element_expr x y) b = behind_two _ _ _ (expr_plain x b) (expr_plain y (b + expr_size x)) (plain_same s.count)
    expr_plain (length_expr a) b = behind _ _ (expr_plain a b) refl
    expr_plain (cast_expr c a) b = plain_both s.count _ _ (expr_plain a b) (cast_plain s.count c)
    expr_plain (call_expr c) b = behind _ _ (operands_plain c b) (call_plain c 1)
    expr_plain (new_expr c ts ss es) b = plain_one s.count _ _ refl (plain_both s.count _ _ (supplies_plain ss (b + 1)) (behind _ _ (exprs_plain es (b + 1 + length ss)) (plain_same s.count)))
    expr_plain (new_array_expr t x y) b = behind_two _ _ _ (expr_plain x b) (expr_plain y (b + expr_size x)) (plain_same s.count)
    expr_plain get_byte_expr b = plain_one s.count _ [] (plain_same s.count) (plain_by _ _ refl)

    exprs_plain : (es : ExprTrees) (b : ℕ) → Plain s.count (exprs_code s es b)
    exprs_plain no_expr b = plain_by _ _ refl
    exprs_plain (more_exprs e es) b = plain_both s.count _ _ (expr_plain e b) (exprs_plain es (b + expr_size e))

    operands_plain : (c : CallTree) (b : ℕ) → Plain s.count (operands_code s c b)
    operands_plain (routine_call f ts ss es) b = plain_both s.count _ _ (supplies_plain ss b) (exprs_plain es (b + length ss))
    operands_plain (method_call t m e es) b = plain_both s.count _ _ (expr_plain e b) (plain_one s.count _ _ refl (exprs_plain es (b + expr_size e + 1)))
    operands_plain (hidden_call c m es) b = plain_one s.count _ _ refl (exprs_plain es (b + 1))
    operands_plain (super_call c m es) b = plain_one s.count _ _ refl (exprs_plain es (b + 1))
    operands_plain (where_call k m e es) b = plain_one s.count _ _ (where_plain s.count s.sort k) (plain_both s.count _ _ (expr_plain e (b + 1)) (exprs_plain es (b + 1 + expr_size e)))
    operands_plain (init_call c ts ss es) b = plain_one s.count _ _ refl (plain_both s.count _ _ (supplies_plain ss (b + 1)) (behind _ _ (exprs_plain es (b + 1 + length ss)) refl))

  -- an expression, and an operation behind it
  with_expr : (e : ExprTree) (b : ℕ) (op : FlatOp) → is_of_level_1 s.count op ≡ true → Plain s.count (expr_code s e b ++ op ∷ [])
  with_expr e b op h = behind (expr_code s e b) op (expr_plain e b) h

  mutual
    stmt_plain : (t : StmtTree) (b x : ℕ) → Plain s.count (stmt_code s t b x)
    stmt_plain (var_stmt v e) b x = with_expr e b _ refl
    stmt_plain (set_local_stmt k e) b x = with_expr e b _ refl
    stmt_plain (set_field_stmt c f e) b x = with_expr e b _ refl
    stmt_plain (set_element_stmt a i e) b x = plain_both s.count _ _ (expr_plain a b) (behind_two _ _ _ (expr_plain i (b + expr_size a)) (expr_plain e (b + expr_size a + expr_size i)) (plain_same s.count))
    stmt_plain (call_stmt c) b x = plain_both s.count _ _ (operands_plain c b) (plain_one s.count _ _ (call_plain c 0) (drop_plain s.count c))
    stmt_plain (drop_stmt c) b x = plain_both s.count _ _ (operands_plain c b) (plain_one s.count _ _ (call_plain c 1) (plain_by _ _ refl))
    stmt_plain (if_stmt e body r) b x = plain_both s.count _ _ (expr_plain e b) (plain_one s.count _ _ refl
        (plain_both s.count _ _ (body_plain body (b + expr_size e + 1) x) (else_plain r (b + expr_size e + 1 + body_size body) x)))
    stmt_plain (while_stmt e body) b x = plain_one s.count _ _ refl (plain_one s.count _ _ refl (plain_both s.count _ _ (body_plain body (b + 2) (b + 2 + body_size body + expr_size e + 2))
        (plain_both s.count _ _ (expr_plain e (b + 2 + body_size body)) (plain_by _ _ refl))))
    stmt_plain (for_stmt v k c body) b x = plain_both s.count _ _ (operands_plain c b) (plain_one s.count _ _ refl (plain_one s.count _ _ (call_plain c 0)
        (plain_both s.count _ _ (may_cast_plain s.count k) (plain_one s.count _ _ refl
        (behind _ _ (body_plain body (b + operands_size c + 2 + may_cast_size k + 1) (b + operands_size c + 2 + may_cast_size k + 1 + body_size body + 1)) refl)))))
    stmt_plain break_stmt b x = plain_by _ _ refl
    stmt_plain return_stmt b x = plain_by _ _ refl
    stmt_plain (return_value_stmt e) b x = with_expr e b _ refl
    stmt_plain (yield_stmt e) b x = with_expr e b _ refl
    stmt_plain (raise_stmt y) b x = plain_one s.count _ [] (plain_same s.count) (plain_by _ _ refl)
    stmt_plain (raise_value_stmt y e) b x = with_expr e b _ (plain_same s.count)
    stmt_plain (begin_stmt body ws) b x = plain_both s.count _ _ (block_plain s.count ws (b + block_size ws + body_size body + 1) (b + block_size ws + body_size body))
        (plain_both s.count _ _ (body_plain body (b + block_size ws) x) (whens_plain ws (b + block_size ws + body_size body) x))
    stmt_plain (put_byte_stmt e) b x = with_expr e b _ (plain_same s.count)
    stmt_plain (put_int_stmt e) b x = with_expr e b _ refl
    stmt_plain (put_text_stmt e) b x = with_expr e b _ refl

    body_plain : (t : BodyTree) (b x : ℕ) → Plain s.count (body_code s t b x)
    body_plain no_stmt b x = plain_by _ _ refl
    body_plain (more_stmts first rest) b x = plain_both s.count _ _ (stmt_plain first b x) (body_plain rest (b + stmt_size first) x)

    else_plain : (r : ElseTree) (b x : ℕ) → Plain s.count (else_code s r b x)
    else_plain no_else b x = plain_by _ _ refl
    else_plain (else_do body) b x = plain_one s.count _ _ refl (body_plain body (b + 1) x)
    else_plain (elseif_then e body r) b x = plain_one s.count _ _ refl (plain_both s.count _ _ (expr_plain e (b + 1)) (plain_one s.count _ _ refl
        (plain_both s.count _ _ (body_plain body (b + 1 + expr_size e + 1) x) (else_plain r (b + 1 + expr_size e + 1 + body_size body) x))))

    whens_plain : (ws : WhenTrees) (b x : ℕ) → Plain s.count (whens_code s ws b x)
    whens_plain no_when b x = plain_by _ _ refl
    whens_plain (more_whens y v body ws) b x = plain_one s.count _ _ refl (plain_one s.count _ _ refl (plain_both s.count _ _ (bind_plain v)
        (plain_both s.count _ _ (body_plain body (b + 1 + 1 + variable_nodes v) x) (whens_plain ws (b + 1 + 1 + variable_nodes v + body_size body) x))))

keep_plain : (n : ℕ) (c : List ℕ) (k m : ℕ) → Plain n (keep_code c k m)
keep_plain n c k zero = plain_by _ _ refl
keep_plain n c k (suc m) = plain_one n _ _ refl (plain_one n _ _ refl (keep_plain n c (k + 1) m))

start_plain : (n : ℕ) (sort : UnitSort) (m : ℕ) → Plain n (start_code sort m)
start_plain n of_routine m = plain_by _ _ refl
start_plain n (of_method c x) m = plain_by _ _ refl
start_plain n (of_init c) m = keep_plain n c 0 m

end_plain : (n : ℕ) (sort : UnitSort) → Plain n (end_code sort)
end_plain n of_routine = plain_by _ _ refl
end_plain n (of_method c m) = plain_by _ _ refl
end_plain n (of_init c) = plain_by _ _ refl

-- a unit's operations are of level 1
pub unit_plain : (name : List ℕ) (known : List TypeDecl) (before : ℕ) (u : ProgramUnit) → Plain (unit_size u) (unit_code name known before u)
unit_plain name known b u = plain_both (unit_size u) _ _ (start_plain (unit_size u) u.sort (length u.clauses))
    (plain_both (unit_size u) _ _ (body_plain (site_of name known b u) u.body (body_start u) (body_end u)) (end_plain (unit_size u) u.sort))
