-- What is called, and values that are given to what has a type.
use Rattle.std.specs.Prelude.{ℕ, Bool, true, false, nat_eq, not, ◌&&◌, List, [], ◌∷◌, ◌++◌, Option, Some, None, is_some, option_map, if◌then◌else◌}
use Rattle.th_tree.specs.declared.tree.RefTree.{RefTree}
use Rattle.th_tree.specs.Trees.{TypeSyns, no_type, more_types}
use Rattle.th_type.specs.declared.place.Place.{Place}
use Rattle.th_type.specs.declared.place.Failure.{Failure}
use Rattle.th_type.specs.Failures.{unless}
use Rattle.th_type.specs.Types.{TypeExpr, int_ty, bool_ty, text_ty, array_ty, named_ty, param_ty, TypeExprs, no_ty, more_ty, list_of, same_ty}
use Rattle.th_type.specs.Signatures.{Signature, subst_sig}
use Rattle.th_type.specs.Methods.{method_at}
use Rattle.th_type.specs.Subtypes.{head_of, args_of}
use Rattle.th_type.specs.Lists.{or_else}
use Rattle.th_hier.specs.Resolve.{count}
use Rattle.th_meaning.specs.Trees.{SupplyTree, CastTree, ExprTree, self_expr, cast_expr, call_expr, new_expr, ExprTrees, no_expr, more_exprs, CallTree, routine_call, method_call, hidden_call, super_call, where_call}
use Rattle.th_rules.specs.Context.{Binding, RoutineInfo, ClassInfo, Head, exception_head, type_head, class_head, routine_head, Item, Context, Meaning, no_meaning, local_meaning, param_meaning, item_meaning, meaning}
use Rattle.th_rules.specs.Resolving.{ClassUse, resolved_types, types_fails, ref_place}
use Rattle.th_rules.specs.Cores.{name_at, core_type, core_types}
use Rattle.th_rules.specs.Classes.{is_subtype, class_sig, super_sig, own_class, own_name}
use Rattle.th_rules.specs.Supplies.{ClauseUse, own_clause, supplies_of}

-- a checked expression and its type
pub record Checked : Type 0 where
  pub tree : ExprTree
  pub of : TypeExpr

abbrev pub checked : ExprTree → TypeExpr → Checked
checked e t = record { tree = e; of = t }

-- a value that is given to what has a type: it has no type, it does not fit, or it fits
pub data Given (A : Type 0) : Type 0 where
  untyped : Given A
  misfit : Given A
  fitting : A → Given A

-- a value fits, unless it has a type and this does not fit
abbrev pub fits : {A : Type 0} → Given A → Bool
fits untyped = true
fits misfit = false
fits (fitting a) = true

-- what fits, if it does
abbrev pub fitted : {A : Type 0} → Given A → Option A
fitted untyped = None
fitted misfit = None
fitted (fitting a) = Some a

-- a value as one of the type: a cast where it has another
abbrev pub cast_to : Context → Checked → TypeExpr → Bool → ExprTree
cast_to C a u true = a.tree
cast_to C a u false = cast_expr (record { from = core_type C.names a.of; to = core_type C.names u }) a.tree

-- a value fits where its type is a subtype of the first one; it is then given as one of the second
abbrev pub given_as : Context → TypeExpr → TypeExpr → Option Checked → Given ExprTree
given_as C t u None = untyped
given_as C t u (Some a) = if is_subtype C.types a.of t then fitting (cast_to C a u (same_ty a.of u)) else misfit

-- a value that is given to what has this type
abbrev pub given : Context → TypeExpr → Option Checked → Given ExprTree
given C t x = given_as C t t x

-- a value that is given to what may have a type
abbrev pub given_opt : Context → Option TypeExpr → Option Checked → Given ExprTree
given_opt C None x = untyped
given_opt C (Some t) x = given C t x

-- an argument without a formal
abbrev pub surplus : Option Checked → Given ExprTree
surplus None = untyped
surplus (Some a) = misfit

-- a first argument and the others
abbrev pub joined : Given ExprTree → Given ExprTrees → Given ExprTrees
joined untyped others = untyped
joined misfit untyped = untyped
joined misfit misfit = misfit
joined misfit (fitting es) = misfit
joined (fitting e) untyped = untyped
joined (fitting e) misfit = misfit
joined (fitting e) (fitting es) = fitting (more_exprs e es)

-- arguments, each with its type where it has one, that are given to formals of these types, as one
abbrev pub given_all : Context → TypeExprs → List (Option Checked) → Given ExprTrees
given_all C no_ty [] = fitting no_expr
given_all C (more_ty t ts) [] = misfit
given_all C no_ty (x ∷ xs) = joined (surplus x) (given_all C no_ty xs)
given_all C (more_ty t ts) (x ∷ xs) = joined (given C t x) (given_all C ts xs)

-- what a call enters, but for the arguments: a routine or an iterator with type arguments and what stands for its
-- where-clauses; a method of a declared type; a method of the class around that is not one of its type; a method of the
-- inherited class; a where-method
pub data Target : Type 0 where
  routine_target : (full : ℕ) → (types : TypeExprs) → (supplies : List SupplyTree) → Target
  method_target : (of : ℕ) → (method : ℕ) → (receiver : ExprTree) → Target
  hidden_target : (class : ℕ) → (method : ℕ) → Target
  super_target : (class : ℕ) → (method : ℕ) → Target
  where_target : (clause : ℕ) → (method : ℕ) → (receiver : ExprTree) → Target

-- what is called: its signature with arguments substituted, and what is entered
pub record Callee : Type 0 where
  pub sig : Signature
  pub target : Target

abbrev pub callee : Signature → Target → Callee
callee s t = record { sig = s; target = t }

-- a checked call and the signature of what it calls
pub record Called : Type 0 where
  pub tree : CallTree
  pub sig : Signature

abbrev pub called : CallTree → Signature → Called
called c s = record { tree = c; sig = s }

-- the call of a target with arguments
abbrev pub call_tree : List (List ℕ) → Target → ExprTrees → CallTree
call_tree names (routine_target f ts ss) es = routine_call (name_at names f) (core_types names ts) ss es
call_tree names (method_target t m e) es = method_call (name_at names t) (name_at names m) e es
call_tree names (hidden_target c m) es = hidden_call (name_at names c) (name_at names m) es
call_tree names (super_target c m) es = super_call (name_at names c) (name_at names m) es
call_tree names (where_target k m e) es = where_call k (name_at names m) e es

-- the call, where the arguments fit
abbrev pub call_given : Context → Callee → Given ExprTrees → Option Called
call_given C c untyped = None
call_given C c misfit = None
call_given C c (fitting es) = Some (record { tree = call_tree C.names c.target es; sig = c.sig })

-- the call of what is called, with arguments, each with its type where it has one
abbrev pub call_with : Context → Option Callee → List (Option Checked) → Option Called
call_with C None xs = None
call_with C (Some c) xs = call_given C c (given_all C c.sig.formals xs)

-- what an expression of that type is, where there is a type
abbrev pub checked_opt : ExprTree → Option TypeExpr → Option Checked
checked_opt e None = None
checked_opt e (Some t) = Some (checked e t)

-- the value of a call: only of a procedure that has a result
abbrev pub value_of : Option Called → Option Checked
value_of None = None
value_of (Some c) = if c.sig.iterator then None else checked_opt (call_expr c.tree) c.sig.gives

-- what a call is there for: its value, what it does, the loop of a `for`, or any of them
pub data Wish : Type 0 where
  as_value : Wish
  as_procedure : Wish
  as_iterator : Wish
  as_call : Wish

-- whether a call of that signature is what is wished
abbrev pub meets : Wish → Signature → Bool
meets as_value s = not s.iterator && is_some s.gives
meets as_procedure s = not s.iterator
meets as_iterator s = s.iterator
meets as_call s = true

-- a call that is there for what is wished
abbrev pub wished : Wish → Option Called → Option Called
wished w None = None
wished w (Some c) = if meets w c.sig then Some c else None

-- whether a call is what is wished, where a callee that does not resolve is not judged
abbrev pub meets_opt : Wish → Option Signature → Bool
meets_opt w None = true
meets_opt w (Some s) = meets w s

-- the signature of what is called
abbrev pub callee_sig : Option Callee → Option Signature
callee_sig None = None
callee_sig (Some c) = Some c.sig

-- whether the arguments fit, where a callee that does not resolve is not judged
abbrev pub args_ok : Context → Option Signature → List (Option Checked) → Bool
args_ok C None xs = true
args_ok C (Some s) xs = fits (given_all C s.formals xs)

-- the exceptions that a call of that signature may raise
abbrev pub signals_of : Option Signature → List ℕ
signals_of None = []
signals_of (Some s) = s.signals

-- what a name is where a call needs a callee
pub data Named : Type 0 where
  no_callee : Named
  local_callee : Named
  routine_callee : (full : ℕ) → (routine : RoutineInfo) → Named

abbrev pub item_callee : ℕ → Head → Named
item_callee full (exception_head t) = no_callee
item_callee full (type_head k) = no_callee
item_callee full (class_head c) = no_callee
item_callee full (routine_head r) = routine_callee full r

-- a local, where no braces follow
abbrev pub local_named : TypeSyns → Named
local_named no_type = local_callee
local_named (more_types t ts) = no_callee

-- what a name with types in braces is
abbrev pub named : Meaning → TypeSyns → Named
named no_meaning ts = no_callee
named (local_meaning b) ts = local_named ts
named (param_meaning k) ts = no_callee
named (item_meaning i) ts = item_callee i.full i.head

-- a routine or an iterator with its type arguments
pub record Instance : Type 0 where
  pub full : ℕ
  pub routine : RoutineInfo
  pub args : TypeExprs

-- the routine with n type arguments, as many as it has parameters
abbrev pub instance_with : ℕ → RoutineInfo → ℕ → TypeExprs → Option Instance
instance_with full r n ts = if nat_eq n r.params then Some (record { full = full; routine = r; args = ts }) else None

-- the routine that a name is, with type arguments, where each of them is a type
abbrev pub instance_of : Named → ℕ → Option TypeExprs → Option Instance
instance_of c n None = None
instance_of no_callee n (Some ts) = None
instance_of local_callee n (Some ts) = None
instance_of (routine_callee f r) n (Some ts) = instance_with f r n ts

-- the routine that a reference with types in braces means
abbrev pub instance : Context → List Binding → RefTree → TypeSyns → Option Instance
instance C ls r ts = instance_of (named (meaning C ls r) ts) (count ts) (resolved_types C ls ts)

-- the signature of a routine, with arguments substituted
abbrev pub instance_sig : Option Instance → Option Signature
instance_sig None = None
instance_sig (Some i) = Some (subst_sig (list_of i.args) i.routine.sig)

-- what stands for the where-clauses of a routine
abbrev pub instance_supplies : Context → Instance → Option (List SupplyTree)
instance_supplies C i = supplies_of C (list_of i.args) i.routine.clauses

-- whether the where-clauses of a routine are satisfied, where one that does not resolve is not judged
abbrev pub is_supplied : Context → Option Instance → Bool
is_supplied C None = true
is_supplied C (Some i) = is_some (instance_supplies C i)

-- a routine with what stands for its where-clauses
abbrev pub supplied : Instance → Option (List SupplyTree) → Option Callee
supplied i None = None
supplied i (Some ss) = Some (callee (subst_sig (list_of i.args) i.routine.sig) (routine_target i.full i.args ss))

-- what is called as a routine
abbrev pub instance_callee : Context → Option Instance → Option Callee
instance_callee C None = None
instance_callee C (Some i) = supplied i (instance_supplies C i)

-- the signature of a routine by its name alone, whatever its type arguments are
abbrev pub named_sig : Named → Option Signature
named_sig no_callee = None
named_sig local_callee = None
named_sig (routine_callee f r) = Some r.sig

-- the method of a declared type, if it has it
abbrev pub method_callee : ℕ → ℕ → ExprTree → Option Signature → Option Callee
method_callee n m e None = None
method_callee n m e (Some s) = Some (callee s (method_target n m e))

-- the where-method of a type parameter, if there is a clause for it
abbrev pub where_callee : ℕ → ExprTree → Option ClauseUse → Option Callee
where_callee m e None = None
where_callee m e (Some c) = Some (callee c.sig (where_target c.place m e))

-- the method of a receiver of a type: of a declared type, or of a type parameter with a clause for it
abbrev pub typed_callee : Context → ℕ → ExprTree → TypeExpr → Option Callee
typed_callee C m e int_ty = None
typed_callee C m e bool_ty = None
typed_callee C m e text_ty = None
typed_callee C m e (array_ty t) = None
typed_callee C m e (named_ty n ts) = method_callee n m e (method_at C.types (named_ty n ts) m)
typed_callee C m e (param_ty k) = where_callee m e (own_clause C k m)

-- the method of the class around, if it has it
abbrev pub hidden_callee : ℕ → ℕ → Option Signature → Option Callee
hidden_callee c m None = None
hidden_callee c m (Some s) = Some (callee s (hidden_target c m))

-- the signature of a method of the class around
abbrev pub own_sig : Context → Option ClassInfo → ℕ → Option Signature
own_sig C None m = None
own_sig C (Some c) m = class_sig C c m

-- the method of `self` that is not one of the class's type
abbrev pub self_callee : Context → Bool → ℕ → Option Callee
self_callee C false m = None
self_callee C true m = hidden_callee (own_name C.class) m (own_sig C (own_class C) m)

-- what is called as a method of a receiver, which may be `self`
abbrev pub receiver_callee : Context → Bool → Option Checked → ℕ → Option Callee
receiver_callee C self None m = None
receiver_callee C self (Some a) m = or_else (typed_callee C m a.tree a.of) (self_callee C self m)

-- the receiver has the method, unless it has no type
abbrev pub has_method : Option Checked → Option Callee → Bool
has_method None c = true
has_method (Some a) c = is_some c

-- the number of the inherited class
abbrev pub inherited_name : Option TypeExpr → Option ℕ
inherited_name None = None
inherited_name (Some t) = head_of t

-- the method of the inherited class
abbrev pub inherited_callee : Option ℕ → ℕ → Option Signature → Option Callee
inherited_callee None m s = None
inherited_callee (Some n) m None = None
inherited_callee (Some n) m (Some s) = Some (callee s (super_target n m))

-- what `super.m` calls in a class that there may be
abbrev pub super_callee_in : Context → Option ClassInfo → ℕ → Option Callee
super_callee_in C None m = None
super_callee_in C (Some c) m = inherited_callee (inherited_name c.inherits) m (super_sig C c m)

-- what `super.m` calls
abbrev pub super_callee : Context → ℕ → Option Callee
super_callee C m = super_callee_in C (own_class C) m

-- the signature of the initializer of a class, with arguments substituted
abbrev pub init_sig : Option ClassUse → Option Signature
init_sig None = None
init_sig (Some u) = Some (subst_sig (list_of u.args) u.class.init)

-- what stands for the where-clauses of a class
abbrev pub class_supplies : Context → ClassUse → Option (List SupplyTree)
class_supplies C u = supplies_of C (list_of u.args) u.class.clauses

-- whether the where-clauses of a class are satisfied, where one that does not resolve is not judged
abbrev pub class_supplied : Context → Option ClassUse → Bool
class_supplied C None = true
class_supplied C (Some u) = is_some (class_supplies C u)
