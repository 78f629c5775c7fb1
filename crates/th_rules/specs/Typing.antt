-- The checked tree and the type of an expression: none where a rule that is judged at it or within it fails.
use Rattle.std.specs.Prelude.{ℕ, Bool, true, false, not, ◌&&◌, ◌||◌, List, [], ◌∷◌, Option, Some, None, if◌then◌else◌}
use Rattle.th_tree.specs.declared.tree.BinaryOp.{BinaryOp}
use Rattle.th_tree.specs.declared.tree.BinaryOp.TheVariants as ops
use Rattle.th_tree.specs.Trees.{TypeSyns, no_type, more_types, NamedSyn, ExprSyn, number_expr, text_expr, true_expr, false_expr, self_expr, super_expr, item_expr, call_expr, new_expr, new_array_expr, get_byte_expr, field_expr, method_expr, length_expr, element_expr, not_expr, negative_expr, binary_expr, ExprSyns, no_expr, more_exprs}
use Rattle.th_type.specs.Types.{TypeExpr, int_ty, bool_ty, text_ty, array_ty, named_ty, param_ty, TypeExprs, no_ty, more_ty, list_of, subst_ty, subst_tys, same_ty}
use Rattle.th_type.specs.Subtypes.{head_of}
use Rattle.th_meaning.specs.declared.expr.ArithOp.TheVariants as arith
use Rattle.th_meaning.specs.declared.expr.CompareOp.TheVariants as compare
use Rattle.th_meaning.specs.Trees as core
use Rattle.th_meaning.specs.Trees.{SupplyTree, ExprTree, ExprTrees}
use Rattle.th_rules.specs.Context.{Binding, ClassInfo, Context, Meaning, no_meaning, local_meaning, param_meaning, item_meaning, meaning}
use Rattle.th_rules.specs.Resolving.{ClassUse, resolved_type, resolved_class}
use Rattle.th_rules.specs.Cores.{name_at, core_type, core_types}
use Rattle.th_rules.specs.Classes.{own_class, own_name, field_in}
use Rattle.th_rules.specs.Callees.{Checked, checked, checked_opt, Given, untyped, misfit, fitting, given, given_opt, given_all, Callee, Called, call_with, value_of, instance, instance_callee, receiver_callee, super_callee, class_supplies}

abbrev pub is_int : TypeExpr → Bool
is_int int_ty = true
is_int _ = false

abbrev pub is_bool : TypeExpr → Bool
is_bool bool_ty = true
is_bool _ = false

abbrev pub is_text : TypeExpr → Bool
is_text text_ty = true
is_text _ = false

abbrev pub is_array : TypeExpr → Bool
is_array (array_ty t) = true
is_array _ = false

abbrev pub is_declared : TypeExpr → Bool
is_declared (named_ty n ts) = true
is_declared _ = false

-- two numbers
abbrev pub ints : TypeExpr → TypeExpr → Bool
ints t u = is_int t && is_int u

-- two truth values
abbrev pub bools : TypeExpr → TypeExpr → Bool
bools t u = is_bool t && is_bool u

-- two texts
abbrev pub texts : TypeExpr → TypeExpr → Bool
texts t u = is_text t && is_text u

-- two numbers or two truth values
abbrev pub comparable : TypeExpr → TypeExpr → Bool
comparable t u = ints t u || bools t u

-- two values of declared types, or two of one array type
abbrev pub objects : TypeExpr → TypeExpr → Bool
objects t u = (is_declared t && is_declared u) || (is_array t && same_ty t u)

-- the operands that an operator takes
abbrev pub takes : BinaryOp → TypeExpr → TypeExpr → Bool
takes ops.Or t u = bools t u
takes ops.And t u = bools t u
takes ops.Equal t u = comparable t u
takes ops.NotEqual t u = comparable t u
takes ops.Same t u = objects t u
takes ops.Less t u = ints t u
takes ops.LessEqual t u = ints t u
takes ops.Greater t u = ints t u
takes ops.GreaterEqual t u = ints t u
takes ops.Plus t u = ints t u
takes ops.Minus t u = ints t u
takes ops.Join t u = texts t u
takes ops.Times t u = ints t u
takes ops.Divide t u = ints t u
takes ops.Remainder t u = ints t u

-- the type of what an operator gives
abbrev pub result_type : BinaryOp → TypeExpr
result_type ops.Or = bool_ty
result_type ops.And = bool_ty
result_type ops.Equal = bool_ty
result_type ops.NotEqual = bool_ty
result_type ops.Same = bool_ty
result_type ops.Less = bool_ty
result_type ops.LessEqual = bool_ty
result_type ops.Greater = bool_ty
result_type ops.GreaterEqual = bool_ty
result_type ops.Plus = int_ty
result_type ops.Minus = int_ty
result_type ops.Join = text_ty
result_type ops.Times = int_ty
result_type ops.Divide = int_ty
result_type ops.Remainder = int_ty

-- an operator with its operands
abbrev pub binary_tree : BinaryOp → ExprTree → ExprTree → ExprTree
binary_tree ops.Or a b = core.or_expr a b
binary_tree ops.And a b = core.and_expr a b
binary_tree ops.Equal a b = core.compare_expr compare.Equal a b
binary_tree ops.NotEqual a b = core.compare_expr compare.NotEqual a b
binary_tree ops.Same a b = core.same_expr a b
binary_tree ops.Less a b = core.compare_expr compare.Less a b
binary_tree ops.LessEqual a b = core.compare_expr compare.LessEqual a b
binary_tree ops.Greater a b = core.compare_expr compare.Greater a b
binary_tree ops.GreaterEqual a b = core.compare_expr compare.GreaterEqual a b
binary_tree ops.Plus a b = core.arith_expr arith.Plus a b
binary_tree ops.Minus a b = core.arith_expr arith.Minus a b
binary_tree ops.Join a b = core.join_expr a b
binary_tree ops.Times a b = core.arith_expr arith.Times a b
binary_tree ops.Divide a b = core.arith_expr arith.Divide a b
binary_tree ops.Remainder a b = core.arith_expr arith.Remainder a b

-- a form with one operand, where its type is what the form takes
abbrev pub one : (TypeExpr → Bool) → (ExprTree → ExprTree) → TypeExpr → Option Checked → Option Checked
one p f t None = None
one p f t (Some a) = if p a.of then Some (checked (f a.tree) t) else None

-- an operator, where it takes the types of its operands
abbrev pub binary : BinaryOp → Option Checked → Option Checked → Option Checked
binary op None b = None
binary op (Some a) None = None
binary op (Some a) (Some b) = if takes op a.of b.of then Some (checked (binary_tree op a.tree b.tree) (result_type op)) else None

-- the element of an array, or the byte of a text, at an index
abbrev pub element_at : TypeExpr → ExprTree → ExprTree → Option Checked
element_at int_ty a i = None
element_at bool_ty a i = None
element_at text_ty a i = Some (checked (core.letter_expr a i) int_ty)
element_at (array_ty t) a i = Some (checked (core.element_expr a i) t)
element_at (named_ty n ts) a i = None
element_at (param_ty k) a i = None

-- `a[i]`
abbrev pub element : Option Checked → Option Checked → Option Checked
element None i = None
element (Some a) None = None
element (Some a) (Some i) = if is_int i.of then element_at a.of a.tree i.tree else None

-- the length of an array or of a text
abbrev pub length_at : TypeExpr → ExprTree → Option Checked
length_at int_ty a = None
length_at bool_ty a = None
length_at text_ty a = Some (checked (core.extent_expr a) int_ty)
length_at (array_ty t) a = Some (checked (core.length_expr a) int_ty)
length_at (named_ty n ts) a = None
length_at (param_ty k) a = None

-- `a.length`
abbrev pub length_of : Option Checked → Option Checked
length_of None = None
length_of (Some a) = length_at a.of a.tree

-- `new array[T](n, e)`, where there is the type, the length is a number and the value fits
abbrev pub filled : TypeExpr → Context → ExprTree → Given ExprTree → Option Checked
filled t C n untyped = None
filled t C n misfit = None
filled t C n (fitting e) = Some (checked (core.new_array_expr (core_type C.names t) n e) (array_ty t))

abbrev pub new_array : Context → Option TypeExpr → Option Checked → Given ExprTree → Option Checked
new_array C None n e = None
new_array C (Some t) None e = None
new_array C (Some t) (Some n) e = if is_int n.of then filled t C n.tree e else None

-- a local as an expression, where its declaration names a type
abbrev pub local_checked : Binding → Option Checked
local_checked b = checked_opt (core.local_expr b.index) b.of

-- a name without arguments: a local, where no braces follow
abbrev pub plain_name : Meaning → TypeSyns → Option Checked
plain_name no_meaning ts = None
plain_name (local_meaning b) no_type = local_checked b
plain_name (local_meaning b) (more_types t ts) = None
plain_name (param_meaning k) ts = None
plain_name (item_meaning i) ts = None

-- `self` in a class that there may be: of the type that the class is for
abbrev pub self_in : Option ClassInfo → Option Checked
self_in None = None
self_in (Some c) = Some (checked core.self_expr c.of)

-- whether the expression is `self`
abbrev pub is_self : ExprSyn → Bool
is_self (self_expr at) = true
is_self _ = false

-- a field of the class around
abbrev pub field_checked : List ℕ → Option Binding → Option Checked
field_checked class None = None
field_checked class (Some b) = checked_opt (core.field_expr class b.index) b.of

-- `self.f`: an own field of the class around
abbrev pub field_of : Context → Bool → ℕ → Option Checked
field_of C false f = None
field_of C true f = field_checked (name_at C.names (own_name C.class)) (field_in (own_class C) f)

-- a new object of a class, as one of the type that the class is for
abbrev pub made : Context → ClassUse → Option (List SupplyTree) → Given ExprTrees → Option Checked
made C u None es = None
made C u (Some ss) untyped = None
made C u (Some ss) misfit = None
made C u (Some ss) (fitting es) = Some (checked
    (core.cast_expr (record { from = core_type C.names (named_ty u.full u.args); to = core_type C.names (subst_ty (list_of u.args) u.class.of) })
    (core.new_expr (name_at C.names u.full) (core_types C.names u.args) ss es))
    (subst_ty (list_of u.args) u.class.of))

-- `new C(..)` with arguments, each with its type where it has one
abbrev pub new_object : Context → Option ClassUse → List (Option Checked) → Option Checked
new_object C None xs = None
new_object C (Some u) xs = made C u (class_supplies C u) (given_all C (subst_tys (list_of u.args) u.class.init.formals) xs)

abbrev mutual
  -- the checked tree and the type of an expression in a context where these locals are in scope, the nearest first
  pub typed : Context → List Binding → ExprSyn → Option Checked
  typed C ls (number_expr at n) = Some (checked (core.number_expr n) int_ty)
  typed C ls (text_expr at n) = Some (checked (core.literal_expr (name_at C.names n)) text_ty)
  typed C ls (true_expr at) = Some (checked (core.truth_expr true) bool_ty)
  typed C ls (false_expr at) = Some (checked (core.truth_expr false) bool_ty)
  typed C ls (self_expr at) = self_in (own_class C)
  typed C ls (super_expr at m es) = value_of (call_with C (super_callee C m.name) (typed_all C ls es))
  typed C ls (item_expr at r ts) = plain_name (meaning C ls r) ts
  typed C ls (call_expr at r ts es) = value_of (call_with C (instance_callee C (instance C ls r ts)) (typed_all C ls es))
  typed C ls (new_expr at c es) = new_object C (resolved_class C ls c) (typed_all C ls es)
  typed C ls (new_array_expr at t n e) = new_array C (resolved_type C ls t) (typed C ls n) (given_opt C (resolved_type C ls t) (typed C ls e))
  typed C ls (get_byte_expr at) = Some (checked core.get_byte_expr int_ty)
  typed C ls (field_expr at e f) = field_of C (is_self e) f.name
  typed C ls (method_expr at e m es) = value_of (call_with C (receiver_callee C (is_self e) (typed C ls e) m.name) (typed_all C ls es))
  typed C ls (length_expr at e) = length_of (typed C ls e)
  typed C ls (element_expr at e i) = element (typed C ls e) (typed C ls i)
  typed C ls (not_expr at e) = one is_bool core.not_expr bool_ty (typed C ls e)
  typed C ls (negative_expr at e) = one is_int core.negative_expr int_ty (typed C ls e)
  typed C ls (binary_expr at op e f) = binary op (typed C ls e) (typed C ls f)

  -- expressions, in order, each with its type where it has one
  pub typed_all : Context → List Binding → ExprSyns → List (Option Checked)
  typed_all C ls no_expr = []
  typed_all C ls (more_exprs e es) = typed C ls e ∷ typed_all C ls es

-- the checked call that an expression is, whatever it gives; none where it is no call
abbrev pub typed_call : Context → List Binding → ExprSyn → Option Called
typed_call C ls (super_expr at m es) = call_with C (super_callee C m.name) (typed_all C ls es)
typed_call C ls (call_expr at r ts es) = call_with C (instance_callee C (instance C ls r ts)) (typed_all C ls es)
typed_call C ls (method_expr at e m es) = call_with C (receiver_callee C (is_self e) (typed C ls e) m.name) (typed_all C ls es)
typed_call C ls _ = None
