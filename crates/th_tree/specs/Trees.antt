-- Trees, without where they lie in memory. A place `at` is the byte where a tree starts.
use Rattle.std.specs.Prelude.{ℕ, ◌+◌, max, Bool, List, Option}
use Rattle.th_tree.specs.declared.tree.Ident.{Ident}
use Rattle.th_tree.specs.declared.tree.RefTree.{RefTree}
use Rattle.th_tree.specs.declared.tree.BinaryOp.{BinaryOp}
use Rattle.th_tree.specs.declared.tree.ExcTree.{ExcTree}

mutual
  -- a type
  pub data TypeSyn : Type 0 where
    int_type : (at : ℕ) → TypeSyn
    bool_type : (at : ℕ) → TypeSyn
    text_type : (at : ℕ) → TypeSyn
    array_type : (at : ℕ) → (of : TypeSyn) → TypeSyn
    named_type : (item : RefTree) → (args : TypeSyns) → TypeSyn

  -- types, in order
  pub data TypeSyns : Type 0 where
    no_type : TypeSyns
    more_types : (first : TypeSyn) → (rest : TypeSyns) → TypeSyns

abbrev mutual
  -- the height of a type: 1 without parts, else 1 more than the greatest height of its parts
  pub type_height : TypeSyn → ℕ
  type_height (int_type at) = 1
  type_height (bool_type at) = 1
  type_height (text_type at) = 1
  type_height (array_type at t) = 1 + type_height t
  type_height (named_type item ts) = 1 + types_height ts

  -- the greatest height of the types, 0 where there is none
  pub types_height : TypeSyns → ℕ
  types_height no_type = 0
  types_height (more_types t ts) = max (type_height t) (types_height ts)

-- a named type or class with its arguments
pub record NamedSyn : Type 0 where
  pub item : RefTree
  pub args : TypeSyns

mutual
  -- an expression
  pub data ExprSyn : Type 0 where
    number_expr : (at value : ℕ) → ExprSyn
    text_expr : (at value : ℕ) → ExprSyn
    true_expr : (at : ℕ) → ExprSyn
    false_expr : (at : ℕ) → ExprSyn
    self_expr : (at : ℕ) → ExprSyn
    super_expr : (at : ℕ) → (method : Ident) → (args : ExprSyns) → ExprSyn
    item_expr : (at : ℕ) → (named : RefTree) → (types : TypeSyns) → ExprSyn
    call_expr : (at : ℕ) → (named : RefTree) → (types : TypeSyns) → (args : ExprSyns) → ExprSyn
    new_expr : (at : ℕ) → (class : NamedSyn) → (args : ExprSyns) → ExprSyn
    new_array_expr : (at : ℕ) → (of : TypeSyn) → (length fill : ExprSyn) → ExprSyn
    get_byte_expr : (at : ℕ) → ExprSyn
    field_expr : (at : ℕ) → (of : ExprSyn) → (name : Ident) → ExprSyn
    method_expr : (at : ℕ) → (of : ExprSyn) → (name : Ident) → (args : ExprSyns) → ExprSyn
    length_expr : (at : ℕ) → (of : ExprSyn) → ExprSyn
    element_expr : (at : ℕ) → (of place : ExprSyn) → ExprSyn
    not_expr : (at : ℕ) → (of : ExprSyn) → ExprSyn
    negative_expr : (at : ℕ) → (of : ExprSyn) → ExprSyn
    binary_expr : (at : ℕ) → (op : BinaryOp) → (left right : ExprSyn) → ExprSyn

  -- expressions, in order
  pub data ExprSyns : Type 0 where
    no_expr : ExprSyns
    more_exprs : (first : ExprSyn) → (rest : ExprSyns) → ExprSyns

-- a name with its type
pub record FormalSyn : Type 0 where
  pub name : Ident
  pub of : TypeSyn

mutual
  -- a statement
  pub data StmtSyn : Type 0 where
    var_stmt : (at : ℕ) → (of : FormalSyn) → (value : ExprSyn) → StmtSyn
    assign_stmt : (at : ℕ) → (target value : ExprSyn) → StmtSyn
    plain_stmt : (at : ℕ) → (of : ExprSyn) → StmtSyn
    if_stmt : (at : ℕ) → (test : ExprSyn) → (body : BodySyn) → (rest : ElseSyn) → StmtSyn
    while_stmt : (at : ℕ) → (test : ExprSyn) → (body : BodySyn) → StmtSyn
    for_stmt : (at : ℕ) → (of : FormalSyn) → (calls : ExprSyn) → (body : BodySyn) → StmtSyn
    break_stmt : (at : ℕ) → StmtSyn
    return_stmt : (at : ℕ) → StmtSyn
    return_value_stmt : (at : ℕ) → (value : ExprSyn) → StmtSyn
    yield_stmt : (at : ℕ) → (value : ExprSyn) → StmtSyn
    raise_stmt : (at : ℕ) → (exc : ExcTree) → StmtSyn
    raise_value_stmt : (at : ℕ) → (exc : ExcTree) → (value : ExprSyn) → StmtSyn
    begin_stmt : (at : ℕ) → (body : BodySyn) → (handlers : WhenSyns) → StmtSyn
    put_byte_stmt : (at : ℕ) → (value : ExprSyn) → StmtSyn
    put_int_stmt : (at : ℕ) → (value : ExprSyn) → StmtSyn
    put_text_stmt : (at : ℕ) → (value : ExprSyn) → StmtSyn

  -- statements, in order
  pub data BodySyn : Type 0 where
    no_stmt : BodySyn
    more_stmts : (first : StmtSyn) → (rest : BodySyn) → BodySyn

  -- what follows the statements after a `then`
  pub data ElseSyn : Type 0 where
    no_else : ElseSyn
    else_do : (body : BodySyn) → ElseSyn
    elseif_then : (at : ℕ) → (test : ExprSyn) → (body : BodySyn) → (rest : ElseSyn) → ElseSyn

  -- handlers, in order
  pub data WhenSyns : Type 0 where
    no_when : WhenSyns
    more_whens : (at : ℕ) → (exc : ExcTree) → (variable : Option FormalSyn) → (body : BodySyn) → (rest : WhenSyns) → WhenSyns

-- a method's signature
pub record SigSyn : Type 0 where
  pub at : ℕ
  pub iterator : Bool
  pub name : Ident
  pub formals : List FormalSyn
  pub gives : Option TypeSyn
  pub signals : List RefTree

-- a clause after `where`
pub record ClauseSyn : Type 0 where
  pub param : Ident
  pub method : Ident
  pub formals : TypeSyns
  pub gives : Option TypeSyn
  pub signals : List RefTree

-- the head of a routine or an iterator
pub record RoutineHeadSyn : Type 0 where
  pub at : ℕ
  pub iterator : Bool
  pub name : Ident
  pub params : List Ident
  pub formals : List FormalSyn
  pub gives : Option TypeSyn
  pub signals : List RefTree
  pub clauses : List ClauseSyn

-- a routine or an iterator
pub record RoutineSyn : Type 0 where
  pub head : RoutineHeadSyn
  pub body : BodySyn

-- the head of a class
pub record ClassHeadSyn : Type 0 where
  pub at : ℕ
  pub name : Ident
  pub params : List Ident
  pub of : NamedSyn
  pub inherits : Option NamedSyn
  pub clauses : List ClauseSyn

-- the head of an initializer
pub record InitHeadSyn : Type 0 where
  pub at : ℕ
  pub formals : List FormalSyn
  pub signals : List RefTree

-- a class of an interface
pub record InterfaceClassSyn : Type 0 where
  pub head : ClassHeadSyn
  pub hidden : List SigSyn
  pub init : InitHeadSyn

-- the super call of an initializer
pub record SuperCallSyn : Type 0 where
  pub at : ℕ
  pub args : ExprSyns

-- an assignment of an initializer
pub record FieldAssignSyn : Type 0 where
  pub field : Ident
  pub value : ExprSyn

-- an initializer
pub record InitSyn : Type 0 where
  pub head : InitHeadSyn
  pub super_call : Option SuperCallSyn
  pub assigns : List FieldAssignSyn

-- a method of a class
pub record MethodSyn : Type 0 where
  pub at : ℕ
  pub hidden : Bool
  pub sig : SigSyn
  pub body : BodySyn

-- a class of a module
pub record ClassSyn : Type 0 where
  pub head : ClassHeadSyn
  pub fields : List FormalSyn
  pub init : InitSyn
  pub methods : List MethodSyn

-- a type of an interface
pub record TypeDeclSyn : Type 0 where
  pub at : ℕ
  pub name : Ident
  pub params : List Ident
  pub supertypes : List NamedSyn
  pub methods : List SigSyn

-- an exception of an interface
pub record ExceptionSyn : Type 0 where
  pub at : ℕ
  pub name : Ident
  pub argument : Option TypeSyn

-- an item of an interface
pub data InterfaceItemSyn : Type 0 where
  exception_item : ExceptionSyn → InterfaceItemSyn
  type_item : TypeDeclSyn → InterfaceItemSyn
  class_item : InterfaceClassSyn → InterfaceItemSyn
  routine_item : RoutineHeadSyn → InterfaceItemSyn

-- an interface
pub record InterfaceSyn : Type 0 where
  pub at : ℕ
  pub name : Ident
  pub uses : List Ident
  pub items : List InterfaceItemSyn

-- an item of a module
pub data ModuleItemSyn : Type 0 where
  module_class : ClassSyn → ModuleItemSyn
  module_routine : RoutineSyn → ModuleItemSyn

-- a module
pub record ModuleSyn : Type 0 where
  pub at : ℕ
  pub name : Ident
  pub implements : Option Ident
  pub uses : List Ident
  pub items : List ModuleItemSyn
