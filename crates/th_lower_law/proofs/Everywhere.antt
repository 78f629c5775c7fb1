-- What holds of each unit and of each stub holds of all units of a lowered module.
use Rattle.std.proofs.Common.{◌≡◌, ℕ, zero, suc, ◌+◌, List, [], ◌∷◌, ◌++◌, length, map}
use Rattle.std.specs.List.{All}
use Rattle.std.proofs.lemmas.List.Elements.{All-nil, All-cons, All-append}
use Rattle.std.proofs.lemmas.List.Sorted.{All-permutation}
use Rattle.th_meaning.specs.declared.types.Primitive.{Primitive}
use Rattle.th_meaning.specs.Trees.{SupplyTree, by_primitive, by_method, passed, Variable, CastTree, ExprTree, number_expr, truth_expr, literal_expr, self_expr, local_expr, field_expr, negative_expr, arith_expr, compare_expr, same_expr, not_expr, and_expr, or_expr, join_expr, letter_expr, extent_expr, element_expr, length_expr, cast_expr, call_expr, new_expr, new_array_expr, get_byte_expr, ExprTrees, no_expr, more_exprs, CallTree, routine_call, method_call, hidden_call, super_call, where_call, init_call, StmtTree, var_stmt, set_local_stmt, set_field_stmt, set_element_stmt, call_stmt, drop_stmt, if_stmt, while_stmt, for_stmt, break_stmt, return_stmt, return_value_stmt, yield_stmt, raise_stmt, raise_value_stmt, begin_stmt, put_byte_stmt, put_int_stmt, put_text_stmt, BodyTree, no_stmt, more_stmts, ElseTree, no_else, else_do, elseif_then, WhenTrees, no_when, more_whens}
use Rattle.th_meaning.specs.Program.{TypeDecl, ProgramUnit, ProgramModule}
use Rattle.th_meaning.specs.Counts.{variable_nodes}
use Rattle.th_flat.specs.declared.module.FlatUnit.{FlatUnit}
use Rattle.th_flat.specs.declared.module.FlatModule.{FlatModule}
use Rattle.th_lowering.specs.Homes.{MethodShape, types_known}
use Rattle.th_lowering.specs.Sizes.{expr_size, exprs_size, operands_size, stmt_size, body_size, else_size, whens_size, block_size, may_cast_size}
use Rattle.th_lowering.specs.Site.{Site}
use Rattle.th_lowering.specs.Stubs.{primitive_stub, method_stub, supply_stubs, supplies_stubs, expr_stubs, exprs_stubs, operands_stubs, stmt_stubs, body_stubs, else_stubs, whens_stubs}
use Rattle.th_lowering.specs.Units.{lowered_unit, with_stubs, lowered_units, site_of, body_start, unit_size}
use Rattle.th_lowering.specs.Module.{module_units, IsLowered}

module _ (P : FlatUnit → Type 0) (primitive : (name : List ℕ) (p : Primitive) → P (primitive_stub name p)) (method : (name of h m : List ℕ) (x : MethodShape) → P (method_stub name of h m x)) where
  none : All P []
  none = All-nil P

  both : (xs ys : List FlatUnit) → All P xs → All P ys → All P (xs ++ ys)
  both xs ys h k = All-append P xs ys h k

  module _ (s : Site) where
    supply_all : (x : SupplyTree) (b : ℕ) → All P (supply_stubs s x b)
    supply_all (by_primitive p) b = All-cons P _ [] (primitive _ p) none
    supply_all (by_method t m) b = All-cons P _ [] (method _ t _ m _) none
    supply_all (passed k) b = none

    supplies_all : (xs : List SupplyTree) (b : ℕ) → All P (supplies_stubs s xs b)
    supplies_all [] b = none
    supplies_all (x ∷ xs) b = both _ _ (supply_all x b) (supplies_all xs (b + 1))

    mutual
      expr_all : (e : ExprTree) (b : ℕ) → All P (expr_stubs s e b)
      expr_all (number_expr n) b = none
      expr_all (truth_expr x) b = none
      expr_all (literal_expr bytes) b = none
      expr_all self_expr b = none
      expr_all (local_expr k) b = none
      expr_all (field_expr c f) b = none
      expr_all (negative_expr a) b = expr_all a b
      expr_all (arith_expr op x y) b = both _ _ (expr_all x b) (expr_all y (b + expr_size x))
      expr_all (compare_expr op x y) b = both _ _ (expr_all x b) (expr_all y (b + expr_size x))
      expr_all (same_expr x y) b = both _ _ (expr_all x b) (expr_all y (b + expr_size x))
      expr_all (not_expr a) b = expr_all a b
      expr_all (and_expr x y) b = both _ _ (expr_all x b) (expr_all y (b + expr_size x + 1))
      expr_all (or_expr x y) b = both _ _ (expr_all x b) (expr_all y (b + expr_size x + 3))
      expr_all (join_expr x y) b = both _ _ (expr_all x b) (expr_all y (b + expr_size x))
      expr_all (letter_expr x y) b = both _ _ (expr_all x b) (expr_all y (b + expr_size x))
      expr_all (extent_expr a) b = expr_all a b
      expr_all (element_expr x y) b = both _ _ (expr_all x b) (expr_all y (b + expr_size x))
      expr_all (length_expr a) b = expr_all a b
      expr_all (cast_expr c a) b = expr_all a b
      expr_all (call_expr c) b = operands_all c b
      expr_all (new_expr c ts ss es) b = both _ _ (supplies_all ss (b + 1)) (exprs_all es (b + 1 + length ss))
      expr_all (new_array_expr t x y) b = both _ _ (expr_all x b) (expr_all y (b + expr_size x))
      expr_all get_byte_expr b = none

      exprs_all : (es : ExprTrees) (b : ℕ) → All P (exprs_stubs s es b)
      exprs_all no_expr b = none
      exprs_all (more_exprs e es) b = both _ _ (expr_all e b) (exprs_all es (b + expr_size e))

      operands_all : (c : CallTree) (b : ℕ) → All P (operands_stubs s c b)
      operands_all (routine_call f ts ss es) b = both _ _ (supplies_all ss b) (exprs_all es (b + length ss))
      operands_all (method_call t m e es) b = both _ _ (expr_all e b) (exprs_all es (b + expr_size e + 1))
      operands_all (hidden_call c m es) b = exprs_all es (b + 1)
      operands_all (super_call c m es) b = exprs_all es (b + 1)
      operands_all (where_call k m e es) b = both _ _ (expr_all e (b + 1)) (exprs_all es (b + 1 + expr_size e))
      operands_all (init_call c ts ss es) b = both _ _ (supplies_all ss (b + 1)) (exprs_all es (b + 1 + length ss))

    mutual
      stmt_all : (t : StmtTree) (b : ℕ) → All P (stmt_stubs s t b)
      stmt_all (var_stmt v e) b = expr_all e b
      stmt_all (set_local_stmt k e) b = expr_all e b
      stmt_all (set_field_stmt c f e) b = expr_all e b
      stmt_all (set_element_stmt a i e) b = both _ _ (expr_all a b) (both _ _ (expr_all i (b + expr_size a)) (expr_all e (b + expr_size a + expr_size i)))
      stmt_all (call_stmt c) b = operands_all c b
      stmt_all (drop_stmt c) b = operands_all c b
      stmt_all (if_stmt e body r) b = both _ _ (expr_all e b) (both _ _ (body_all body (b + expr_size e + 1)) (else_all r (b + expr_size e + 1 + body_size body)))
      stmt_all (while_stmt e body) b = both _ _ (body_all body (b + 2)) (expr_all e (b + 2 + body_size body))
      stmt_all (for_stmt v k c body) b = both _ _ (operands_all c b) (body_all body (b + operands_size c + 2 + may_cast_size k + 1))
      stmt_all break_stmt b = none
      stmt_all return_stmt b = none
      stmt_all (return_value_stmt e) b = expr_all e b
      stmt_all (yield_stmt e) b = expr_all e b
      stmt_all (raise_stmt y) b = none
      stmt_all (raise_value_stmt y e) b = expr_all e b
      stmt_all (begin_stmt body ws) b = both _ _ (body_all body (b + block_size ws)) (whens_all ws (b + block_size ws + body_size body))
      stmt_all (put_byte_stmt e) b = expr_all e b
      stmt_all (put_int_stmt e) b = expr_all e b
      stmt_all (put_text_stmt e) b = expr_all e b

      body_all : (t : BodyTree) (b : ℕ) → All P (body_stubs s t b)
      body_all no_stmt b = none
      body_all (more_stmts first rest) b = both _ _ (stmt_all first b) (body_all rest (b + stmt_size first))

      else_all : (r : ElseTree) (b : ℕ) → All P (else_stubs s r b)
      else_all no_else b = none
      else_all (else_do body) b = body_all body (b + 1)
      else_all (elseif_then e body r) b = both _ _ (expr_all e (b + 1)) (both _ _ (body_all body (b + 1 + expr_size e + 1)) (else_all r (b + 1 + expr_size e + 1 + body_size body)))

      whens_all : (ws : WhenTrees) (b : ℕ) → All P (whens_stubs s ws b)
      whens_all no_when b = none
      whens_all (more_whens y v body ws) b = both _ _ (body_all body (b + 1 + 1 + variable_nodes v)) (whens_all ws (b + 1 + 1 + variable_nodes v + body_size body))

  module _ (unit : (name : List ℕ) (known : List TypeDecl) (before : ℕ) (u : ProgramUnit) → P (lowered_unit name known before u)) where
    units_all : (name : List ℕ) (known : List TypeDecl) (before : ℕ) (us : List ProgramUnit) → All P (lowered_units name known before us)
    units_all name known b [] = none
    units_all name known b (u ∷ us) = both (with_stubs name known b u) _
        (All-cons P _ _ (unit name known b u) (body_all (site_of name known b u) u.body (body_start u))) (units_all name known (b + unit_size u) us)

    -- all units of a lowered module, in whatever order
    pub everywhere : (m : ProgramModule) (f : FlatModule) → IsLowered m f → All P f.units
    everywhere m f h = All-permutation P (module_units m) f.units h.units (units_all m.name (types_known m) 0 m.units)
