-- What the units of a module come from, with the stubs of its where-methods; and the words of lowered modules.
use Rattle.std.specs.Prelude.{◌≡◌, ℕ, ◌+◌, Bool, ◌&&◌, List, [], ◌∷◌, ◌++◌, length, Option, Some, flat_map, find, filter, map, slice_get, bytes_eq, codes, IsPermutation}
use Rattle.std.specs.List.{list_any}
use Rattle.th_meaning.specs.Trees.{SupplyTree, by_primitive, by_method, passed, ExprTree, number_expr, truth_expr, literal_expr, self_expr, local_expr, field_expr, negative_expr, arith_expr, compare_expr, same_expr, not_expr, and_expr, or_expr, join_expr, letter_expr, extent_expr, element_expr, length_expr, cast_expr, call_expr, new_expr, new_array_expr, get_byte_expr, ExprTrees, no_expr, more_exprs, CallTree, routine_call, method_call, hidden_call, super_call, where_call, init_call, StmtTree, var_stmt, set_local_stmt, set_field_stmt, set_element_stmt, call_stmt, drop_stmt, if_stmt, while_stmt, for_stmt, break_stmt, return_stmt, return_value_stmt, yield_stmt, raise_stmt, raise_value_stmt, begin_stmt, put_byte_stmt, put_int_stmt, put_text_stmt, BodyTree, no_stmt, more_stmts, ElseTree, no_else, else_do, elseif_then, WhenTrees, no_when, more_whens}
use Rattle.th_meaning.specs.Program.{TypeDecl, ProgramUnit, ProgramModule}
use Rattle.th_meaning.specs.Counts.{variable_nodes}
use Rattle.th_flat.specs.declared.module.FlatModule.{FlatModule}
use Rattle.th_flat.specs.Program.{Declared, before_dot, after_dot, or_else, and_if, given_that, has_name, chain, walk, inherits_class, program_of}
use Rattle.th_lowering.specs.Homes.{method_shape, home, types_known}
use Rattle.th_lowering.specs.Sizes.{expr_size, block_size, stmt_size, body_size, operands_size, may_cast_size}
use Rattle.th_lowering.specs.Site.{Site, stub_name}
use Rattle.th_lowering.specs.Stubs.{shape_or_none, bare_type}
use Rattle.th_lowering.specs.Units.{unit_size, body_start, site_of}
use Rattle.th_lowering.specs.Module.{IsLowered}
use Rattle.th_viewed.specs.Sources.{Source, from_unit, from_primitive, from_method, flat_of, WordProgram}

module _ (s : Site) where
  abbrev pub name_at : (place : ℕ) → List ℕ
  name_at b = stub_name s.module_name (s.before + b)

  -- the stub of what stands for a where-method, by an operation at this place; what the unit was given itself has none
  abbrev pub supply_sources : SupplyTree → (place : ℕ) → List Source
  supply_sources (by_primitive p) b = from_primitive (name_at b) p ∷ []
  supply_sources (by_method of m) b = from_method (name_at b) of (home s.known of m) m (shape_or_none (method_shape s.known (bare_type of) m)) ∷ []
  supply_sources (passed k) b = []

  abbrev pub supplies_sources : List SupplyTree → (place : ℕ) → List Source
  supplies_sources [] b = []
  supplies_sources (x ∷ xs) b = supply_sources x b ++ supplies_sources xs (b + 1)

  abbrev mutual
    -- what the stubs come from, of an expression, from the place b on
    pub expr_sources : ExprTree → (b : ℕ) → List Source
    expr_sources (number_expr n) b = []
    expr_sources (truth_expr x) b = []
    expr_sources (literal_expr bytes) b = []
    expr_sources self_expr b = []
    expr_sources (local_expr k) b = []
    expr_sources (field_expr c f) b = []
    expr_sources (negative_expr a) b = expr_sources a b
    expr_sources (arith_expr op x y) b = expr_sources x b ++ expr_sources y (b + expr_size x)
    expr_sources (compare_expr op x y) b = expr_sources x b ++ expr_sources y (b + expr_size x)
    expr_sources (same_expr x y) b = expr_sources x b ++ expr_sources y (b + expr_size x)
    expr_sources (not_expr a) b = expr_sources a b
    expr_sources (and_expr x y) b = expr_sources x b ++ expr_sources y (b + expr_size x + 1)
    expr_sources (or_expr x y) b = expr_sources x b ++ expr_sources y (b + expr_size x + 3)
    expr_sources (join_expr x y) b = expr_sources x b ++ expr_sources y (b + expr_size x)
    expr_sources (letter_expr x y) b = expr_sources x b ++ expr_sources y (b + expr_size x)
    expr_sources (extent_expr a) b = expr_sources a b
    expr_sources (element_expr x y) b = expr_sources x b ++ expr_sources y (b + expr_size x)
    expr_sources (length_expr a) b = expr_sources a b
    expr_sources (cast_expr c a) b = expr_sources a b
    expr_sources (call_expr c) b = operands_sources c b
    expr_sources (new_expr c ts ss es) b = supplies_sources ss (b + 1) ++ exprs_sources es (b + 1 + length ss)
    expr_sources (new_array_expr t x y) b = expr_sources x b ++ expr_sources y (b + expr_size x)
    expr_sources get_byte_expr b = []

    -- what the stubs come from, of expressions
    pub exprs_sources : ExprTrees → (b : ℕ) → List Source
    exprs_sources no_expr b = []
    exprs_sources (more_exprs e es) b = expr_sources e b ++ exprs_sources es (b + expr_size e)

    -- what the stubs come from, of the operands of a call
    pub operands_sources : CallTree → (b : ℕ) → List Source
    operands_sources (routine_call f ts ss es) b = supplies_sources ss b ++ exprs_sources es (b + length ss)
    operands_sources (method_call of m e es) b = expr_sources e b ++ exprs_sources es (b + expr_size e + 1)
    operands_sources (hidden_call c m es) b = exprs_sources es (b + 1)
    operands_sources (super_call c m es) b = exprs_sources es (b + 1)
    operands_sources (where_call k m e es) b = expr_sources e (b + 1) ++ exprs_sources es (b + 1 + expr_size e)
    operands_sources (init_call c ts ss es) b = supplies_sources ss (b + 1) ++ exprs_sources es (b + 1 + length ss)

  abbrev mutual
    -- what the stubs come from, of a statement
    pub stmt_sources : StmtTree → (b : ℕ) → List Source
    stmt_sources (var_stmt v e) b = expr_sources e b
    stmt_sources (set_local_stmt k e) b = expr_sources e b
    stmt_sources (set_field_stmt c f e) b = expr_sources e b
    stmt_sources (set_element_stmt a i e) b = expr_sources a b ++ (expr_sources i (b + expr_size a) ++ expr_sources e (b + expr_size a + expr_size i))
    stmt_sources (call_stmt c) b = operands_sources c b
    stmt_sources (drop_stmt c) b = operands_sources c b
    stmt_sources (if_stmt e body r) b = expr_sources e b ++ (body_sources body (b + expr_size e + 1) ++ else_sources r (b + expr_size e + 1 + body_size body))
    stmt_sources (while_stmt e body) b = body_sources body (b + 2) ++ expr_sources e (b + 2 + body_size body)
    stmt_sources (for_stmt v k c body) b = operands_sources c b ++ body_sources body (b + operands_size c + 2 + may_cast_size k + 1)
    stmt_sources break_stmt b = []
    stmt_sources return_stmt b = []
    stmt_sources (return_value_stmt e) b = expr_sources e b
    stmt_sources (yield_stmt e) b = expr_sources e b
    stmt_sources (raise_stmt y) b = []
    stmt_sources (raise_value_stmt y e) b = expr_sources e b
    stmt_sources (begin_stmt body ws) b = body_sources body (b + block_size ws) ++ whens_sources ws (b + block_size ws + body_size body)
    stmt_sources (put_byte_stmt e) b = expr_sources e b
    stmt_sources (put_int_stmt e) b = expr_sources e b
    stmt_sources (put_text_stmt e) b = expr_sources e b

    -- what the stubs come from, of statements
    pub body_sources : BodyTree → (b : ℕ) → List Source
    body_sources no_stmt b = []
    body_sources (more_stmts first rest) b = stmt_sources first b ++ body_sources rest (b + stmt_size first)

    -- what the stubs come from, of what follows the statements after a `then`
    pub else_sources : ElseTree → (b : ℕ) → List Source
    else_sources no_else b = []
    else_sources (else_do body) b = body_sources body (b + 1)
    else_sources (elseif_then e body r) b = expr_sources e (b + 1) ++ (body_sources body (b + 1 + expr_size e + 1) ++ else_sources r (b + 1 + expr_size e + 1 + body_size body))

    -- what the stubs come from, of handlers
    pub whens_sources : WhenTrees → (b : ℕ) → List Source
    whens_sources no_when b = []
    whens_sources (more_whens y v body ws) b = body_sources body (b + 1 + 1 + variable_nodes v) ++ whens_sources ws (b + 1 + 1 + variable_nodes v + body_size body)

module _ (module_name : List ℕ) (known : List TypeDecl) where
  -- what units and their stubs come from, one unit after another
  abbrev pub unit_sources : (before : ℕ) → List ProgramUnit → List Source
  unit_sources before [] = []
  unit_sources before (u ∷ us) = (from_unit module_name known before u ∷ body_sources (site_of module_name known before u) u.body (body_start u)) ++ unit_sources (before + unit_size u) us

-- what the units of a module come from
abbrev pub module_sources : ProgramModule → List Source
module_sources m = unit_sources m.name (types_known m) 0 m.units

-- whether something becomes the unit of a name
abbrev pub is_named : List ℕ → Source → Bool
is_named name g = bytes_eq (flat_of g).name name

-- a module of Flat code: its name, and what its units come from, in their order
pub record Origin : Type 0 where
  pub name : List ℕ
  pub units : List Source

module _ (d : Declared) (flats : List FlatModule) (origins : List Origin) where
  abbrev pub source_named : List ℕ → Option Source
  source_named name = find (is_named name) (flat_map (λ o. o.units) origins)

  -- what the operations of modules can name, and what it comes from
  abbrev pub words_of : WordProgram
  words_of = record {
    flat = program_of d flats;
    main = slice_get (flat_map (λ o. filter (is_named (o.name ++ codes "/main")) o.units) origins) 0;
    unit = source_named;
    called = λ name. and_if (or_else (walk d flats (before_dot name) (after_dot name)) (Some name)) source_named;
    dispatched = λ head method class. given_that (d.is_home head method) (and_if (walk d flats class method) source_named);
    hidden = λ class method of. given_that (list_any (λ c. has_name method c.hidden) (chain d flats class) && inherits_class d flats of class) (and_if (walk d flats of method) source_named);
  }

-- modules of Flat code that modules become, one for each
abbrev pub AreLowered : List ProgramModule → List FlatModule → Type 0
AreLowered [] [] = Unit {0}
AreLowered [] (f ∷ fs) = ⊥
AreLowered (m ∷ ms) [] = ⊥
AreLowered (m ∷ ms) (f ∷ fs) = IsLowered m f × AreLowered ms fs

-- the units of a module of Flat code come from those of a module, and from its stubs, in another order
pub record ComesFrom (m : ProgramModule) (f : FlatModule) (o : Origin) : Type 0 where
  pub name : o.name ≡ m.name
  pub order : IsPermutation (module_sources m) o.units
  pub units : f.units ≡ map flat_of o.units

abbrev pub ComeFrom : List ProgramModule → List FlatModule → List Origin → Type 0
ComeFrom [] [] [] = Unit {0}
ComeFrom (m ∷ ms) (f ∷ fs) (o ∷ os) = ComesFrom m f o × ComeFrom ms fs os
ComeFrom _ _ _ = ⊥
