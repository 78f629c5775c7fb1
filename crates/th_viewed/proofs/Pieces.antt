-- What a module's units come from becomes its units.
use Rattle.std.proofs.Common.{◌≡◌, ℕ, ◌+◌, List, [], ◌∷◌, ◌++◌, length, refl, ap, ◌∙◌}
use Rattle.std.specs.Prelude.{map}
use Rattle.th_meaning.specs.Trees.{SupplyTree, by_primitive, by_method, passed, ExprTree, number_expr, truth_expr, literal_expr, self_expr, local_expr, field_expr, negative_expr, arith_expr, compare_expr, same_expr, not_expr, and_expr, or_expr, join_expr, letter_expr, extent_expr, element_expr, length_expr, cast_expr, call_expr, new_expr, new_array_expr, get_byte_expr, ExprTrees, no_expr, more_exprs, CallTree, routine_call, method_call, hidden_call, super_call, where_call, init_call, StmtTree, var_stmt, set_local_stmt, set_field_stmt, set_element_stmt, call_stmt, drop_stmt, if_stmt, while_stmt, for_stmt, break_stmt, return_stmt, return_value_stmt, yield_stmt, raise_stmt, raise_value_stmt, begin_stmt, put_byte_stmt, put_int_stmt, put_text_stmt, BodyTree, no_stmt, more_stmts, ElseTree, no_else, else_do, elseif_then, WhenTrees, no_when, more_whens}
use Rattle.th_meaning.specs.Program.{TypeDecl, ProgramUnit, ProgramModule}
use Rattle.th_meaning.specs.Counts.{variable_nodes}
use Rattle.th_flat.specs.declared.module.FlatUnit.{FlatUnit}
use Rattle.th_lowering.specs.Sizes.{expr_size, block_size, stmt_size, body_size, operands_size, may_cast_size}
use Rattle.th_lowering.specs.Site.{Site}
use Rattle.th_lowering.specs.Stubs.{supply_stubs, supplies_stubs, expr_stubs, exprs_stubs, operands_stubs, stmt_stubs, body_stubs, else_stubs, whens_stubs}
use Rattle.th_lowering.specs.Units.{unit_size, body_start, site_of, lowered_unit, with_stubs, lowered_units}
use Rattle.th_lowering.specs.Module.{module_units}
use Rattle.th_lowering.specs.Homes.{types_known}
use Rattle.th_viewed.specs.Sources.{Source, from_unit, flat_of}
use Rattle.th_viewed.specs.Modules.{supply_sources, supplies_sources, expr_sources, exprs_sources, operands_sources, stmt_sources, body_sources, else_sources, whens_sources, unit_sources, module_sources}

map_both : (xs ys : List Source) → map flat_of (xs ++ ys) ≡ map flat_of xs ++ map flat_of ys
map_both [] ys = refl
map_both (x ∷ xs) ys = ap (λ zs. flat_of x ∷ zs) (map_both xs ys)

both : (xs ys : List Source) (us vs : List FlatUnit) → map flat_of xs ≡ us → map flat_of ys ≡ vs → map flat_of (xs ++ ys) ≡ us ++ vs
both xs ys us vs a b = map_both xs ys ∙ ap (λ zs. zs ++ map flat_of ys) a ∙ ap (λ zs. us ++ zs) b

module _ (s : Site) where
  supply_same : (x : SupplyTree) (b : ℕ) → map flat_of (supply_sources s x b) ≡ supply_stubs s x b
  supply_same (by_primitive p) b = refl
  supply_same (by_method of m) b = refl
  supply_same (passed k) b = refl

  supplies_same : (xs : List SupplyTree) (b : ℕ) → map flat_of (supplies_sources s xs b) ≡ supplies_stubs s xs b
  supplies_same [] b = refl
  supplies_same (x ∷ xs) b = both _ _ _ _ (supply_same x b) (supplies_same xs (b + 1))

  mutual
    pub expr_same : (t : ExprTree) (b : ℕ) → map flat_of (expr_sources s t b) ≡ expr_stubs s t b
    expr_same (number_expr n) b = refl
    expr_same (truth_expr x) b = refl
    expr_same (literal_expr bytes) b = refl
    expr_same self_expr b = refl
    expr_same (local_expr k) b = refl
    expr_same (field_expr c f) b = refl
    expr_same (negative_expr a) b = expr_same a b
    expr_same (arith_expr op x y) b = both _ _ _ _ (expr_same x b) (expr_same y (b + expr_size x))
    expr_same (compare_expr op x y) b = both _ _ _ _ (expr_same x b) (expr_same y (b + expr_size x))
    expr_same (same_expr x y) b = both _ _ _ _ (expr_same x b) (expr_same y (b + expr_size x))
    expr_same (not_expr a) b = expr_same a b
    expr_same (and_expr x y) b = both _ _ _ _ (expr_same x b) (expr_same y (b + expr_size x + 1))
    expr_same (or_expr x y) b = both _ _ _ _ (expr_same x b) (expr_same y (b + expr_size x + 3))
    expr_same (join_expr x y) b = both _ _ _ _ (expr_same x b) (expr_same y (b + expr_size x))
    expr_same (letter_expr x y) b = both _ _ _ _ (expr_same x b) (expr_same y (b + expr_size x))
    expr_same (extent_expr a) b = expr_same a b
    expr_same (element_expr x y) b = both _ _ _ _ (expr_same x b) (expr_same y (b + expr_size x))
    expr_same (length_expr a) b = expr_same a b
    expr_same (cast_expr c a) b = expr_same a b
    expr_same (call_expr c) b = operands_same c b
    expr_same (new_expr c ts ss es) b = both _ _ _ _ (supplies_same ss (b + 1)) (exprs_same es (b + 1 + length ss))
    expr_same (new_array_expr t x y) b = both _ _ _ _ (expr_same x b) (expr_same y (b + expr_size x))
    expr_same get_byte_expr b = refl

    pub exprs_same : (t : ExprTrees) (b : ℕ) → map flat_of (exprs_sources s t b) ≡ exprs_stubs s t b
    exprs_same no_expr b = refl
    exprs_same (more_exprs e es) b = both _ _ _ _ (expr_same e b) (exprs_same es (b + expr_size e))

    pub operands_same : (t : CallTree) (b : ℕ) → map flat_of (operands_sources s t b) ≡ operands_stubs s t b
    operands_same (routine_call f ts ss es) b = both _ _ _ _ (supplies_same ss b) (exprs_same es (b + length ss))
    operands_same (method_call of m e es) b = both _ _ _ _ (expr_same e b) (exprs_same es (b + expr_size e + 1))
    operands_same (hidden_call c m es) b = exprs_same es (b + 1)
    operands_same (super_call c m es) b = exprs_same es (b + 1)
    operands_same (where_call k m e es) b = both _ _ _ _ (expr_same e (b + 1)) (exprs_same es (b + 1 + expr_size e))
    operands_same (init_call c ts ss es) b = both _ _ _ _ (supplies_same ss (b + 1)) (exprs_same es (b + 1 + length ss))

  mutual
    pub stmt_same : (t : StmtTree) (b : ℕ) → map flat_of (stmt_sources s t b) ≡ stmt_stubs s t b
    stmt_same (var_stmt v e) b = expr_same e b
    stmt_same (set_local_stmt k e) b = expr_same e b
    stmt_same (set_field_stmt c f e) b = expr_same e b
    stmt_same (set_element_stmt a i e) b = both _ _ _ _ (expr_same a b) (both _ _ _ _ (expr_same i (b + expr_size a)) (expr_same e (b + expr_size a + expr_size i)))
    stmt_same (call_stmt c) b = operands_same c b
    stmt_same (drop_stmt c) b = operands_same c b
    stmt_same (if_stmt e body r) b = both _ _ _ _ (expr_same e b) (both _ _ _ _ (body_same body (b + expr_size e + 1)) (else_same r (b + expr_size e + 1 + body_size body)))
    stmt_same (while_stmt e body) b = both _ _ _ _ (body_same body (b + 2)) (expr_same e (b + 2 + body_size body))
    stmt_same (for_stmt v k c body) b = both _ _ _ _ (operands_same c b) (body_same body (b + operands_size c + 2 + may_cast_size k + 1))
    stmt_same break_stmt b = refl
    stmt_same return_stmt b = refl
    stmt_same (return_value_stmt e) b = expr_same e b
    stmt_same (yield_stmt e) b = expr_same e b
    stmt_same (raise_stmt y) b = refl
    stmt_same (raise_value_stmt y e) b = expr_same e b
    stmt_same (begin_stmt body ws) b = both _ _ _ _ (body_same body (b + block_size ws)) (whens_same ws (b + block_size ws + body_size body))
    stmt_same (put_byte_stmt e) b = expr_same e b
    stmt_same (put_int_stmt e) b = expr_same e b
    stmt_same (put_text_stmt e) b = expr_same e b

    pub body_same : (t : BodyTree) (b : ℕ) → map flat_of (body_sources s t b) ≡ body_stubs s t b
    body_same no_stmt b = refl
    body_same (more_stmts first rest) b = both _ _ _ _ (stmt_same first b) (body_same rest (b + stmt_size first))

    pub else_same : (t : ElseTree) (b : ℕ) → map flat_of (else_sources s t b) ≡ else_stubs s t b
    else_same no_else b = refl
    else_same (else_do body) b = body_same body (b + 1)
    else_same (elseif_then e body r) b = both _ _ _ _ (expr_same e (b + 1)) (both _ _ _ _ (body_same body (b + 1 + expr_size e + 1)) (else_same r (b + 1 + expr_size e + 1 + body_size body)))

    pub whens_same : (t : WhenTrees) (b : ℕ) → map flat_of (whens_sources s t b) ≡ whens_stubs s t b
    whens_same no_when b = refl
    whens_same (more_whens y v body ws) b = both _ _ _ _ (body_same body (b + 1 + 1 + variable_nodes v)) (whens_same ws (b + 1 + 1 + variable_nodes v + body_size body))

units_same : (name : List ℕ) (known : List TypeDecl) (before : ℕ) (us : List ProgramUnit) → map flat_of (unit_sources name known before us) ≡ lowered_units name known before us
units_same name known before [] = refl
units_same name known before (u ∷ us) =
    let s = site_of name known before u in
    both (from_unit name known before u ∷ body_sources s u.body (body_start u)) (unit_sources name known (before + unit_size u) us) (with_stubs name known before u) (lowered_units name known (before + unit_size u) us)
    (ap (λ zs. lowered_unit name known before u ∷ zs) (body_same s u.body (body_start u))) (units_same name known (before + unit_size u) us)

pub module_same : (m : ProgramModule) → map flat_of (module_sources m) ≡ module_units m
module_same m = units_same m.name (types_known m) 0 m.units
