-- Stubs: what stands for a where-method is a unit that computes a primitive, or that calls a method of a declared type.
use Rattle.std.specs.Prelude.{ℕ, zero, suc, ◌+◌, max, Bool, true, false, List, [], ◌∷◌, ◌++◌, length, map, Option, Some, None}
use Rattle.th_meaning.specs.declared.types.Primitive.{Primitive}
use Rattle.th_meaning.specs.declared.types.Primitive.TheVariants.{IntEqual, IntLess, BoolEqual}
use Rattle.th_meaning.specs.Trees.{TypeTree, named_type, no_type, SupplyTree, by_primitive, by_method, passed, CastTree, ExprTree, number_expr, truth_expr, literal_expr, self_expr, local_expr, field_expr, negative_expr, arith_expr, compare_expr, same_expr, not_expr, and_expr, or_expr, join_expr, letter_expr, extent_expr, element_expr, length_expr, cast_expr, call_expr, new_expr, new_array_expr, get_byte_expr, ExprTrees, no_expr, more_exprs, CallTree, routine_call, method_call, hidden_call, super_call, where_call, init_call, StmtTree, var_stmt, set_local_stmt, set_field_stmt, set_element_stmt, call_stmt, drop_stmt, if_stmt, while_stmt, for_stmt, break_stmt, return_stmt, return_value_stmt, yield_stmt, raise_stmt, raise_value_stmt, begin_stmt, put_byte_stmt, put_int_stmt, put_text_stmt, BodyTree, no_stmt, more_stmts, ElseTree, no_else, else_do, elseif_then, WhenTrees, no_when, more_whens}
use Rattle.th_meaning.specs.Counts.{variable_nodes}
use Rattle.th_flat.specs.declared.op.FlatOp.{FlatOp}
use Rattle.th_flat.specs.declared.op.FlatOp.TheVariants.{OpLocal, OpCompare, OpCast, OpDispatch, OpReturn, OpTurn}
use Rattle.th_flat.specs.declared.module.FlatUnit.{FlatUnit}
use Rattle.th_lowering.specs.Homes.{MethodShape, method_shape, home}
use Rattle.th_lowering.specs.Sizes.{expr_size, exprs_size, else_jump, block_size, stmt_size, body_size, else_size, operands_size, may_cast_size}
use Rattle.th_lowering.specs.Site.{Site, stub_name}

-- the comparison of a primitive; truth values are the numbers 1 and 0
abbrev pub primitive_number : Primitive → ℕ
primitive_number IntEqual = 0
primitive_number IntLess = 2
primitive_number BoolEqual = 0

-- the stub of a primitive
abbrev pub primitive_stub : (name : List ℕ) → Primitive → FlatUnit
primitive_stub name p = record { name = name; kind = 6; args = 2; locals = 0; depth = 2; ops = OpTurn ∷ OpLocal 0 ∷ OpLocal 1 ∷ OpCompare (primitive_number p) ∷ OpReturn 1 ∷ [] }

-- the local words k, k + 1 and so on, so many of them
abbrev pub locals_code : (k count : ℕ) → List FlatOp
locals_code k zero = []
locals_code k (suc n) = OpLocal k ∷ locals_code (k + 1) n

-- 1 where there is a value
abbrev pub flag : {A : Type 0} → Option A → ℕ
flag None = 0
flag (Some a) = 1

-- what a method takes and gives that may not be there
abbrev pub shape_or_none : Option MethodShape → MethodShape
shape_or_none None = record { formals = 0; gives = None }
shape_or_none (Some s) = s

-- the stub of a method of a declared type of this shape: the receiver is seen at the method's home, and the call's value is returned
abbrev pub method_stub : (name : List ℕ) → (of home method : List ℕ) → MethodShape → FlatUnit
method_stub name of h m s = record {
  name = name;
  kind = 6;
  args = s.formals + 1;
  locals = 0;
  depth = s.formals + 1;
  ops = OpLocal 0 ∷ OpCast of h ∷ (locals_code 1 s.formals ++ OpDispatch h m (s.formals + 1) (flag s.gives) (s.formals + 4) ∷ OpReturn (flag s.gives) ∷ []);
}

-- a declared type without arguments: how many formals its methods have, and whether they give a value, is the same with all of them
abbrev pub bare_type : List ℕ → TypeTree
bare_type of = named_type of no_type

module _ (s : Site) where
  abbrev pub name_at : (place : ℕ) → List ℕ
  name_at b = stub_name s.module_name (s.before + b)

  -- the stub of what stands for a where-method, by an operation at this place; what the unit was given itself has none
  abbrev pub supply_stubs : SupplyTree → (place : ℕ) → List FlatUnit
  supply_stubs (by_primitive p) b = primitive_stub (name_at b) p ∷ []
  supply_stubs (by_method of m) b = method_stub (name_at b) of (home s.known of m) m (shape_or_none (method_shape s.known (bare_type of) m)) ∷ []
  supply_stubs (passed k) b = []

  abbrev pub supplies_stubs : List SupplyTree → (place : ℕ) → List FlatUnit
  supplies_stubs [] b = []
  supplies_stubs (x ∷ xs) b = supply_stubs x b ++ supplies_stubs xs (b + 1)

  abbrev mutual
    -- the stubs of an expression, from the place b on
    pub expr_stubs : ExprTree → (b : ℕ) → List FlatUnit
    expr_stubs (number_expr n) b = []
    expr_stubs (truth_expr x) b = []
    expr_stubs (literal_expr bytes) b = []
    expr_stubs self_expr b = []
    expr_stubs (local_expr k) b = []
    expr_stubs (field_expr c f) b = []
    expr_stubs (negative_expr a) b = expr_stubs a b
    expr_stubs (arith_expr op x y) b = expr_stubs x b ++ expr_stubs y (b + expr_size x)
    expr_stubs (compare_expr op x y) b = expr_stubs x b ++ expr_stubs y (b + expr_size x)
    expr_stubs (same_expr x y) b = expr_stubs x b ++ expr_stubs y (b + expr_size x)
    expr_stubs (not_expr a) b = expr_stubs a b
    expr_stubs (and_expr x y) b = expr_stubs x b ++ expr_stubs y (b + expr_size x + 1)
    expr_stubs (or_expr x y) b = expr_stubs x b ++ expr_stubs y (b + expr_size x + 3)
    expr_stubs (join_expr x y) b = expr_stubs x b ++ expr_stubs y (b + expr_size x)
    expr_stubs (letter_expr x y) b = expr_stubs x b ++ expr_stubs y (b + expr_size x)
    expr_stubs (extent_expr a) b = expr_stubs a b
    expr_stubs (element_expr x y) b = expr_stubs x b ++ expr_stubs y (b + expr_size x)
    expr_stubs (length_expr a) b = expr_stubs a b
    expr_stubs (cast_expr c a) b = expr_stubs a b
    expr_stubs (call_expr c) b = operands_stubs c b
    expr_stubs (new_expr c ts ss es) b = supplies_stubs ss (b + 1) ++ exprs_stubs es (b + 1 + length ss)
    expr_stubs (new_array_expr t x y) b = expr_stubs x b ++ expr_stubs y (b + expr_size x)
    expr_stubs get_byte_expr b = []

    -- the stubs of expressions
    pub exprs_stubs : ExprTrees → (b : ℕ) → List FlatUnit
    exprs_stubs no_expr b = []
    exprs_stubs (more_exprs e es) b = expr_stubs e b ++ exprs_stubs es (b + expr_size e)

    -- the stubs of the operands of a call
    pub operands_stubs : CallTree → (b : ℕ) → List FlatUnit
    operands_stubs (routine_call f ts ss es) b = supplies_stubs ss b ++ exprs_stubs es (b + length ss)
    operands_stubs (method_call of m e es) b = expr_stubs e b ++ exprs_stubs es (b + expr_size e + 1)
    operands_stubs (hidden_call c m es) b = exprs_stubs es (b + 1)
    operands_stubs (super_call c m es) b = exprs_stubs es (b + 1)
    operands_stubs (where_call k m e es) b = expr_stubs e (b + 1) ++ exprs_stubs es (b + 1 + expr_size e)
    operands_stubs (init_call c ts ss es) b = supplies_stubs ss (b + 1) ++ exprs_stubs es (b + 1 + length ss)

  abbrev mutual
    -- the stubs of a statement
    pub stmt_stubs : StmtTree → (b : ℕ) → List FlatUnit
    stmt_stubs (var_stmt v e) b = expr_stubs e b
    stmt_stubs (set_local_stmt k e) b = expr_stubs e b
    stmt_stubs (set_field_stmt c f e) b = expr_stubs e b
    stmt_stubs (set_element_stmt a i e) b = expr_stubs a b ++ (expr_stubs i (b + expr_size a) ++ expr_stubs e (b + expr_size a + expr_size i))
    stmt_stubs (call_stmt c) b = operands_stubs c b
    stmt_stubs (drop_stmt c) b = operands_stubs c b
    stmt_stubs (if_stmt e body r) b = expr_stubs e b ++ (body_stubs body (b + expr_size e + 1) ++ else_stubs r (b + expr_size e + 1 + body_size body))
    stmt_stubs (while_stmt e body) b = body_stubs body (b + 2) ++ expr_stubs e (b + 2 + body_size body)
    stmt_stubs (for_stmt v k c body) b = operands_stubs c b ++ body_stubs body (b + operands_size c + 2 + may_cast_size k + 1)
    stmt_stubs break_stmt b = []
    stmt_stubs return_stmt b = []
    stmt_stubs (return_value_stmt e) b = expr_stubs e b
    stmt_stubs (yield_stmt e) b = expr_stubs e b
    stmt_stubs (raise_stmt y) b = []
    stmt_stubs (raise_value_stmt y e) b = expr_stubs e b
    stmt_stubs (begin_stmt body ws) b = body_stubs body (b + block_size ws) ++ whens_stubs ws (b + block_size ws + body_size body)
    stmt_stubs (put_byte_stmt e) b = expr_stubs e b
    stmt_stubs (put_int_stmt e) b = expr_stubs e b
    stmt_stubs (put_text_stmt e) b = expr_stubs e b

    -- the stubs of statements
    pub body_stubs : BodyTree → (b : ℕ) → List FlatUnit
    body_stubs no_stmt b = []
    body_stubs (more_stmts first rest) b = stmt_stubs first b ++ body_stubs rest (b + stmt_size first)

    -- the stubs of what follows the statements after a `then`
    pub else_stubs : ElseTree → (b : ℕ) → List FlatUnit
    else_stubs no_else b = []
    else_stubs (else_do body) b = body_stubs body (b + 1)
    else_stubs (elseif_then e body r) b = expr_stubs e (b + 1) ++ (body_stubs body (b + 1 + expr_size e + 1) ++ else_stubs r (b + 1 + expr_size e + 1 + body_size body))

    -- the stubs of handlers
    pub whens_stubs : WhenTrees → (b : ℕ) → List FlatUnit
    whens_stubs no_when b = []
    whens_stubs (more_whens y v body ws) b = body_stubs body (b + 1 + 1 + variable_nodes v) ++ whens_stubs ws (b + 1 + 1 + variable_nodes v + body_size body)
