-- Checked programs as trees without pointers. Names are lists of bytes in ASCII.
use Rattle.std.specs.Prelude.{ℕ, Bool, List, Option}
use Rattle.th_meaning.specs.declared.types.Primitive.{Primitive}
use Rattle.th_meaning.specs.declared.expr.ArithOp.{ArithOp}
use Rattle.th_meaning.specs.declared.expr.CompareOp.{CompareOp}

mutual
  -- a type: a declared one has its full name and its arguments, a parameter its place
  pub data TypeTree : Type 0 where
    int_type : TypeTree
    bool_type : TypeTree
    text_type : TypeTree
    array_type : (of : TypeTree) → TypeTree
    named_type : (name : List ℕ) → (args : TypeTrees) → TypeTree
    param_type : (place : ℕ) → TypeTree

  -- types, in order
  pub data TypeTrees : Type 0 where
    no_type : TypeTrees
    more_types : (first : TypeTree) → (rest : TypeTrees) → TypeTrees

-- a signature
pub record Signature : Type 0 where
  pub iterator : Bool
  pub formals : List TypeTree
  pub gives : Option TypeTree
  pub signals : List (List ℕ)

-- a method's name and signature
pub record MethodTree : Type 0 where
  pub name : List ℕ
  pub sig : Signature

-- a where-clause: the place of the type parameter, and the method that it has
pub record ClauseTree : Type 0 where
  pub param : ℕ
  pub method : MethodTree

-- what stands for a where-method: a primitive, a method of a declared type, or a where-method of the item itself
pub data SupplyTree : Type 0 where
  by_primitive : (primitive : Primitive) → SupplyTree
  by_method : (of : List ℕ) → (method : List ℕ) → SupplyTree
  passed : (clause : ℕ) → SupplyTree

-- a cast from a type to another
pub record CastTree : Type 0 where
  pub from : TypeTree
  pub to : TypeTree

mutual
  -- an expression
  pub data ExprTree : Type 0 where
    number_expr : (value : ℕ) → ExprTree
    truth_expr : (value : Bool) → ExprTree
    literal_expr : (bytes : List ℕ) → ExprTree
    self_expr : ExprTree
    local_expr : (local : ℕ) → ExprTree
    field_expr : (class : List ℕ) → (field : ℕ) → ExprTree
    negative_expr : (operand : ExprTree) → ExprTree
    arith_expr : (op : ArithOp) → (left right : ExprTree) → ExprTree
    compare_expr : (op : CompareOp) → (left right : ExprTree) → ExprTree
    same_expr : (left right : ExprTree) → ExprTree
    not_expr : (operand : ExprTree) → ExprTree
    and_expr : (left right : ExprTree) → ExprTree
    or_expr : (left right : ExprTree) → ExprTree
    join_expr : (left right : ExprTree) → ExprTree
    letter_expr : (text index : ExprTree) → ExprTree
    extent_expr : (text : ExprTree) → ExprTree
    element_expr : (array index : ExprTree) → ExprTree
    length_expr : (array : ExprTree) → ExprTree
    cast_expr : (cast : CastTree) → (value : ExprTree) → ExprTree
    call_expr : (call : CallTree) → ExprTree
    new_expr : (class : List ℕ) → (types : TypeTrees) → (supplies : List SupplyTree) → (args : ExprTrees) → ExprTree
    new_array_expr : (of : TypeTree) → (count fill : ExprTree) → ExprTree
    get_byte_expr : ExprTree

  -- expressions, in order
  pub data ExprTrees : Type 0 where
    no_expr : ExprTrees
    more_exprs : (first : ExprTree) → (rest : ExprTrees) → ExprTrees

  -- a call of a unit: of a routine or an iterator; of a method of a declared type; of a hidden method of `self` in the
  -- body of a class; of a method of the inherited class; of a where-method; of the inherited class's initializer
  pub data CallTree : Type 0 where
    routine_call : (unit : List ℕ) → (types : TypeTrees) → (supplies : List SupplyTree) → (args : ExprTrees) → CallTree
    method_call : (of : List ℕ) → (method : List ℕ) → (receiver : ExprTree) → (args : ExprTrees) → CallTree
    hidden_call : (class : List ℕ) → (method : List ℕ) → (args : ExprTrees) → CallTree
    super_call : (class : List ℕ) → (method : List ℕ) → (args : ExprTrees) → CallTree
    where_call : (clause : ℕ) → (method : List ℕ) → (receiver : ExprTree) → (args : ExprTrees) → CallTree
    init_call : (class : List ℕ) → (types : TypeTrees) → (supplies : List SupplyTree) → (args : ExprTrees) → CallTree

-- a local that a statement declares
pub record Variable : Type 0 where
  pub local : ℕ
  pub of : TypeTree

mutual
  -- a statement
  pub data StmtTree : Type 0 where
    var_stmt : (variable : Variable) → (value : ExprTree) → StmtTree
    set_local_stmt : (local : ℕ) → (value : ExprTree) → StmtTree
    set_field_stmt : (class : List ℕ) → (field : ℕ) → (value : ExprTree) → StmtTree
    set_element_stmt : (array index value : ExprTree) → StmtTree
    call_stmt : (call : CallTree) → StmtTree
    drop_stmt : (call : CallTree) → StmtTree
    if_stmt : (test : ExprTree) → (body : BodyTree) → (rest : ElseTree) → StmtTree
    while_stmt : (test : ExprTree) → (body : BodyTree) → StmtTree
    for_stmt : (variable : Variable) → (cast : Option CastTree) → (call : CallTree) → (body : BodyTree) → StmtTree
    break_stmt : StmtTree
    return_stmt : StmtTree
    return_value_stmt : (value : ExprTree) → StmtTree
    yield_stmt : (value : ExprTree) → StmtTree
    raise_stmt : (exception : List ℕ) → StmtTree
    raise_value_stmt : (exception : List ℕ) → (value : ExprTree) → StmtTree
    begin_stmt : (body : BodyTree) → (whens : WhenTrees) → StmtTree
    put_byte_stmt : (value : ExprTree) → StmtTree
    put_int_stmt : (value : ExprTree) → StmtTree
    put_text_stmt : (value : ExprTree) → StmtTree

  -- statements, in order
  pub data BodyTree : Type 0 where
    no_stmt : BodyTree
    more_stmts : (first : StmtTree) → (rest : BodyTree) → BodyTree

  -- what follows the statements after a `then`: nothing, the statements after `else`, or an `elseif`
  pub data ElseTree : Type 0 where
    no_else : ElseTree
    else_do : (body : BodyTree) → ElseTree
    elseif_then : (test : ExprTree) → (body : BodyTree) → (rest : ElseTree) → ElseTree

  -- handlers, in order: of each the exception, the variable where it has one, and the statements
  pub data WhenTrees : Type 0 where
    no_when : WhenTrees
    more_whens : (exception : List ℕ) → (variable : Option Variable) → (body : BodyTree) → (rest : WhenTrees) → WhenTrees
