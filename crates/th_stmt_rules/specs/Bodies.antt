-- The checked tree of a statement: none where a rule that is judged at it or within it fails.
use Rattle.std.specs.Prelude.{ℕ, ◌+◌, Bool, true, false, not, ◌&&◌, List, [], ◌∷◌, Option, Some, None, is_some, option_map, if◌then◌else◌}
use Rattle.th_tree.specs.declared.tree.ExcTree.{ExcTree}
use Rattle.th_tree.specs.Trees.{FormalSyn, TypeSyns, no_type, more_types, ExprSyn, self_expr, item_expr, field_expr, element_expr, StmtSyn, var_stmt, assign_stmt, plain_stmt, if_stmt, while_stmt, for_stmt, break_stmt, return_stmt, return_value_stmt, yield_stmt, raise_stmt, raise_value_stmt, begin_stmt, put_byte_stmt, put_int_stmt, put_text_stmt, BodySyn, no_stmt, more_stmts, ElseSyn, no_else, else_do, elseif_then, WhenSyns, no_when, more_whens}
use Rattle.th_type.specs.Types.{TypeExpr, same_ty}
use Rattle.th_type.specs.Signatures.{Signature}
use Rattle.th_meaning.specs.Trees as core
use Rattle.th_meaning.specs.Trees.{ExprTree, CastTree, Variable, CallTree, StmtTree, BodyTree, ElseTree, WhenTrees}
use Rattle.th_rules.specs.Context.{Binding, ClassInfo, Context, Meaning, no_meaning, local_meaning, param_meaning, item_meaning, meaning}
use Rattle.th_rules.specs.Resolving.{resolved_type}
use Rattle.th_rules.specs.Cores.{name_at, core_type}
use Rattle.th_rules.specs.Classes.{is_subtype, own_class, own_name, field_in}
use Rattle.th_rules.specs.Callees.{Checked, Given, untyped, misfit, fitting, fitted, given_as, given_opt, Called, Wish, as_procedure, as_iterator, wished, own_sig}
use Rattle.th_rules.specs.Typing.{is_int, is_bool, is_text, is_self, typed, typed_call}
use Rattle.th_stmt_rules.specs.declared.key.Key.{Key}
use Rattle.th_stmt_rules.specs.Exceptions.{Exception, exception_of, key_name, argument_of, seen_with, is_new}
use Rattle.th_stmt_rules.specs.Scopes.{bound, is_fresh, after, variable_count, in_handler, body_locals, else_locals, stmt_locals}

-- what there is, where a test holds
abbrev pub where_true : {A : Type 0} → Bool → Option A → Option A
where_true true o = o
where_true false o = None

-- a form with two parts, where both are there
abbrev pub both_parts : {A B R : Type 0} → (A → B → R) → Option A → Option B → Option R
both_parts f None b = None
both_parts f (Some a) None = None
both_parts f (Some a) (Some b) = Some (f a b)

-- a form with three parts, where all are there
abbrev pub three_parts : {A B D R : Type 0} → (A → B → D → R) → Option A → Option B → Option D → Option R
three_parts f None b d = None
three_parts f (Some a) b d = both_parts (f a) b d

-- a form with a value that fits
abbrev pub with_given : {R : Type 0} → (ExprTree → R) → Given ExprTree → Option R
with_given f untyped = None
with_given f misfit = None
with_given f (fitting e) = Some (f e)

-- an expression whose type is what a form takes
abbrev pub tested : (TypeExpr → Bool) → Option Checked → Option ExprTree
tested p None = None
tested p (Some a) = if p a.of then Some a.tree else None

-- a local of that number and type, where there is a type
abbrev pub variable_with : Context → ℕ → Option TypeExpr → Option Variable
variable_with C n None = None
variable_with C n (Some t) = Some (record { local = n; of = core_type C.names t })

-- a local that is declared, where its declaration names a type and no local in scope has its name
abbrev pub declared : Context → List Binding → ℕ → FormalSyn → Option Variable
declared C ls n f = where_true (is_fresh ls f) (variable_with C n (resolved_type C ls f.of))

-- the type of a checked expression
abbrev pub type_of : Option Checked → Option TypeExpr
type_of None = None
type_of (Some a) = Some a.of

-- a value that is assigned to what has been checked as a target
abbrev pub set_stmt : ExprTree → ExprTree → Option StmtTree
set_stmt (core.local_expr k) v = Some (core.set_local_stmt k v)
set_stmt (core.field_expr c f) v = Some (core.set_field_stmt c f v)
set_stmt (core.element_expr a i) v = Some (core.set_element_stmt a i v)
set_stmt _ v = None

-- an assignment, where the target has been checked and the value fits
abbrev pub assigned : Option Checked → Given ExprTree → Option StmtTree
assigned None v = None
assigned (Some t) untyped = None
assigned (Some t) misfit = None
assigned (Some t) (fitting v) = set_stmt t.tree v

-- the element of an array
abbrev pub is_element : ExprTree → Bool
is_element (core.element_expr a i) = true
is_element _ = false

-- the same, which is not judged where it has no type
abbrev pub element_target : Option Checked → Bool
element_target None = true
element_target (Some a) = is_element a.tree

-- a local, where no braces follow
abbrev pub is_local : Meaning → TypeSyns → Bool
is_local no_meaning ts = false
is_local (local_meaning b) no_type = true
is_local (local_meaning b) (more_types t ts) = false
is_local (param_meaning k) ts = false
is_local (item_meaning i) ts = false

-- a target: a local, `self.f` or an element of an array
abbrev pub is_target : Context → List Binding → ExprSyn → Bool
is_target C ls (item_expr at r ts) = is_local (meaning C ls r) ts
is_target C ls (field_expr at e f) = is_self e
is_target C ls (element_expr at e i) = element_target (typed C ls (element_expr at e i))
is_target C ls _ = false

-- a call whose value is dropped where it has one
abbrev pub call_stmt_of : CallTree → Option TypeExpr → StmtTree
call_stmt_of c None = core.call_stmt c
call_stmt_of c (Some t) = core.drop_stmt c

-- a call as a statement
abbrev pub done : Option Called → Option StmtTree
done None = None
done (Some c) = Some (call_stmt_of c.tree c.sig.gives)

-- a cast, where the types differ
abbrev pub cast_opt : Context → TypeExpr → TypeExpr → Bool → Option CastTree
cast_opt C t u true = None
cast_opt C t u false = Some (record { from = core_type C.names t; to = core_type C.names u })

-- the cast of what is yielded to the loop's variable, whose type it fits
abbrev pub yield_cast : Context → Option TypeExpr → TypeExpr → Given (Option CastTree)
yield_cast C None u = misfit
yield_cast C (Some t) u = if is_subtype C.types t u then fitting (cast_opt C t u (same_ty t u)) else misfit

-- the same, where the call and the variable have types
abbrev pub loop_cast : Context → Option Called → Option TypeExpr → Given (Option CastTree)
loop_cast C None u = untyped
loop_cast C (Some c) None = untyped
loop_cast C (Some c) (Some u) = yield_cast C c.sig.gives u

-- what a `for` has before its statements: the variable, the cast of what is yielded, and the call
pub record LoopHead : Type 0 where
  pub variable : Variable
  pub cast : Option CastTree
  pub call : CallTree

-- the head of a `for` over a call of an iterator, where the variable is lawful and what is yielded fits it
abbrev pub loop_head : Option Variable → Option Called → Given (Option CastTree) → Option LoopHead
loop_head None c k = None
loop_head (Some v) None k = None
loop_head (Some v) (Some c) untyped = None
loop_head (Some v) (Some c) misfit = None
loop_head (Some v) (Some c) (fitting k) = Some (record { variable = v; cast = k; call = c.tree })

-- a `for` with its statements
abbrev pub looped : LoopHead → BodyTree → StmtTree
looped h b = core.for_stmt h.variable h.cast h.call b

abbrev pub loop_over : Option Variable → Option Called → Given (Option CastTree) → Option BodyTree → Option StmtTree
loop_over v c k b = both_parts looped (loop_head v c k) b

-- what a unit of that signature returns: only a procedure may return something
abbrev pub result_of : Signature → Option TypeExpr
result_of s = if s.iterator then None else s.gives

-- what a unit of that signature yields
abbrev pub yielded_of : Signature → Option TypeExpr
yielded_of s = if s.iterator then s.gives else None

-- a type that there may be, else this one
abbrev pub type_or : TypeExpr → Option TypeExpr → TypeExpr
type_or t None = t
type_or t (Some u) = u

-- the result in that signature, else this type
abbrev pub result_or : TypeExpr → Option Signature → TypeExpr
result_or t None = t
result_or t (Some s) = type_or t s.gives

-- the type that a `return` casts to: in a method's body the result of the method of the class, else the unit's own
abbrev pub returned_as : Context → TypeExpr → TypeExpr
returned_as C t = result_or t (own_sig C (own_class C) C.sig.method)

-- a value that is given to the result
abbrev pub given_result : Context → Option TypeExpr → Option Checked → Given ExprTree
given_result C None x = untyped
given_result C (Some t) x = given_as C t (returned_as C t) x

-- an exception without an argument
abbrev pub raised : Context → Option Exception → Option StmtTree
raised C None = None
raised C (Some x) = where_true (not (is_some x.argument)) (Some (core.raise_stmt (key_name C.names x.key)))

-- the name of an exception that there may be
abbrev pub exception_name : Context → Option Exception → List ℕ
exception_name C None = []
exception_name C (Some x) = key_name C.names x.key

-- the types are equal, where both are there
abbrev pub agree : Option TypeExpr → Option TypeExpr → Bool
agree None u = true
agree (Some t) None = true
agree (Some t) (Some u) = same_ty t u

-- what a handler has before its statements: the exception's full name, and the variable where it has one
pub record Heading : Type 0 where
  pub name : List ℕ
  pub variable : Option Variable

-- a handler without a variable, where no earlier handler of the block is for its exception and this has no argument
abbrev pub bare_heading : Context → Bool → Option Exception → Option Heading
bare_heading C new None = None
bare_heading C new (Some x) = where_true (new && not (is_some x.argument)) (Some (record { name = key_name C.names x.key; variable = None }))

-- a handler with a variable whose declaration names the type t, where no earlier handler of the block is for its exception
-- and this has an argument of that type
abbrev pub bound_heading : Context → Bool → Option Exception → Option TypeExpr → Option Variable → Option Heading
bound_heading C new None t v = None
bound_heading C new (Some x) t None = None
bound_heading C new (Some x) t (Some v) =
    where_true ((new && is_some x.argument) && agree x.argument t) (Some (record { name = key_name C.names x.key; variable = Some v }))

-- the heading of a handler, where it is lawful; earlier handlers of the block are for the exceptions `seen`
abbrev pub heading : Context → List Binding → ℕ → List Key → Option Exception → Option FormalSyn → Option Heading
heading C ls n seen x None = bare_heading C (is_new seen x) x
heading C ls n seen x (Some f) = bound_heading C (is_new seen x) x (resolved_type C ls f.of) (declared C ls n f)

-- a handler before others
abbrev pub handler : Heading → BodyTree → WhenTrees → WhenTrees
handler h b ws = core.more_whens h.name h.variable b ws

abbrev mutual
  -- the checked tree of a statement in a context where these locals are in scope, inside a loop or not, where the next local
  -- has the number n
  pub stmt_core : Context → List Binding → Bool → ℕ → StmtSyn → Option StmtTree
  stmt_core C ls looping n (var_stmt at f e) =
      both_parts core.var_stmt (declared C ls n f) (fitted (given_opt C (resolved_type C ls f.of) (typed C ls e)))
  stmt_core C ls looping n (assign_stmt at t e) =
      where_true (is_target C ls t) (assigned (typed C ls t) (given_opt C (type_of (typed C ls t)) (typed C ls e)))
  stmt_core C ls looping n (plain_stmt at e) = done (wished as_procedure (typed_call C ls e))
  stmt_core C ls looping n (if_stmt at e b r) =
      three_parts core.if_stmt (tested is_bool (typed C ls e)) (body_core C ls looping n b) (else_core C ls looping (n + body_locals b) r)
  stmt_core C ls looping n (while_stmt at e b) = both_parts core.while_stmt (tested is_bool (typed C ls e)) (body_core C ls true n b)
  stmt_core C ls looping n (for_stmt at f e b) =
      loop_over (declared C ls n f) (wished as_iterator (typed_call C ls e)) (loop_cast C (wished as_iterator (typed_call C ls e)) (resolved_type C ls f.of))
      (body_core C (bound C ls n f ∷ ls) true (n + 1) b)
  stmt_core C ls looping n (break_stmt at) = where_true looping (Some core.break_stmt)
  stmt_core C ls looping n (return_stmt at) = where_true (not (is_some (result_of C.sig))) (Some core.return_stmt)
  stmt_core C ls looping n (return_value_stmt at e) = with_given core.return_value_stmt (given_result C (result_of C.sig) (typed C ls e))
  stmt_core C ls looping n (yield_stmt at e) = with_given core.yield_stmt (given_opt C (yielded_of C.sig) (typed C ls e))
  stmt_core C ls looping n (raise_stmt at x) = raised C (exception_of C ls x)
  stmt_core C ls looping n (raise_value_stmt at x e) =
      with_given (core.raise_value_stmt (exception_name C (exception_of C ls x))) (given_opt C (argument_of (exception_of C ls x)) (typed C ls e))
  stmt_core C ls looping n (begin_stmt at b ws) = both_parts core.begin_stmt (body_core C ls looping n b) (whens_core C ls looping [] (n + body_locals b) ws)
  stmt_core C ls looping n (put_byte_stmt at e) = option_map core.put_byte_stmt (tested is_int (typed C ls e))
  stmt_core C ls looping n (put_int_stmt at e) = option_map core.put_int_stmt (tested is_int (typed C ls e))
  stmt_core C ls looping n (put_text_stmt at e) = option_map core.put_text_stmt (tested is_text (typed C ls e))

  -- the checked trees of statements
  pub body_core : Context → List Binding → Bool → ℕ → BodySyn → Option BodyTree
  body_core C ls looping n no_stmt = Some core.no_stmt
  body_core C ls looping n (more_stmts s b) = both_parts core.more_stmts (stmt_core C ls looping n s) (body_core C (after C ls n s) looping (n + stmt_locals s) b)

  -- the checked tree of what follows the statements after a `then`
  pub else_core : Context → List Binding → Bool → ℕ → ElseSyn → Option ElseTree
  else_core C ls looping n no_else = Some core.no_else
  else_core C ls looping n (else_do b) = option_map core.else_do (body_core C ls looping n b)
  else_core C ls looping n (elseif_then at e b r) =
      three_parts core.elseif_then (tested is_bool (typed C ls e)) (body_core C ls looping n b) (else_core C ls looping (n + body_locals b) r)

  -- the checked trees of handlers, of which the earlier ones of the block name these exceptions
  pub whens_core : Context → List Binding → Bool → List Key → ℕ → WhenSyns → Option WhenTrees
  whens_core C ls looping seen n no_when = Some core.no_when
  whens_core C ls looping seen n (more_whens at x v b ws) =
      three_parts handler (heading C ls n seen (exception_of C ls x) v) (body_core C (in_handler C ls n v) looping (n + variable_count v) b)
      (whens_core C ls looping (seen_with (exception_of C ls x) seen) (n + variable_count v + body_locals b) ws)
