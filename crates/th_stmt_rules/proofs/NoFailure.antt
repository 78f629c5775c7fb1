-- A body has a checked tree exactly where it has no failure.
use Rattle.std.proofs.Common.{◌≡◌, ℕ, ◌+◌, Bool, true, false, ◌&&◌, not, List, [], ◌∷◌, ◌++◌, Option, Some, None, is_some, option_map, length, refl, sym, ap, true≢false, if◌then◌else◌, ◌∙◌}
use Rattle.th_tree.specs.declared.tree.ExcTree.{ExcTree}
use Rattle.th_tree.specs.declared.tree.ExcTree.TheVariants as exc
use Rattle.th_tree.specs.Trees.{FormalSyn, TypeSyns, no_type, more_types, ExprSyn, number_expr, text_expr, true_expr, false_expr, self_expr, super_expr, item_expr, call_expr, new_expr, new_array_expr, get_byte_expr, field_expr, method_expr, length_expr, element_expr, not_expr, negative_expr, binary_expr, StmtSyn, var_stmt, assign_stmt, plain_stmt, if_stmt, while_stmt, for_stmt, break_stmt, return_stmt, return_value_stmt, yield_stmt, raise_stmt, raise_value_stmt, begin_stmt, put_byte_stmt, put_int_stmt, put_text_stmt, BodySyn, no_stmt, more_stmts, ElseSyn, no_else, else_do, elseif_then, WhenSyns, no_when, more_whens}
use Rattle.th_type.specs.declared.place.Place.{Place}
use Rattle.th_type.specs.declared.place.Failure.{Failure}
use Rattle.th_type.specs.Failures.{place, unless, none_of}
use Rattle.th_type.specs.Types.{TypeExpr, same_ty}
use Rattle.th_meaning.specs.Trees as core
use Rattle.th_meaning.specs.Trees.{ExprTree, CastTree, Variable, CallTree, StmtTree, BodyTree, ElseTree, WhenTrees}
use Rattle.th_rules.specs.Context.{Binding, Head, exception_head, type_head, class_head, routine_head, Context, Meaning, no_meaning, local_meaning, param_meaning, item_meaning, meaning}
use Rattle.th_rules.specs.Resolving.{resolved_type, type_fails, ref_place}
use Rattle.th_rules.specs.Cores.{name_at}
use Rattle.th_rules.specs.Classes.{is_subtype, own_class, own_name, field_in}
use Rattle.th_rules.specs.Callees.{Checked, checked, checked_opt, Given, untyped, misfit, fitting, fits, fitted, given_as, given_opt, Called, as_procedure, as_iterator, wished}
use Rattle.th_rules.specs.Typing.{is_int, is_bool, is_text, is_self, field_of, field_checked, plain_name, typed, typed_call}
use Rattle.th_rules.specs.Failing.{start, ok_one, fails, call_fails}
use Rattle.th_rules.specs.AllTyped.{AllTyped}
use Rattle.th_rules.proofs.NoFailure.{none_append, none_unless, and_true, and_false, some_if, type_law, has_type, given_law, fits_law, law, call_law}
use Rattle.th_stmt_rules.specs.declared.key.Key.{Key}
use Rattle.th_stmt_rules.specs.Exceptions.{Exception, exception_of, exception_fails, meant_exception, item_exception, is_bare, has_argument, argument_of, key_name, seen_with, is_new}
use Rattle.th_stmt_rules.specs.Scopes.{bound, is_fresh, after, variable_count, in_handler, body_locals, else_locals, stmt_locals}
use Rattle.th_stmt_rules.specs.Bodies.{where_true, both_parts, three_parts, with_given, tested, variable_with, declared, type_of, set_stmt, assigned, is_element, element_target, is_local, is_target, done, yield_cast, loop_cast, loop_over, result_of, yielded_of, returned_as, given_result, raised, exception_name, agree, Heading, bare_heading, bound_heading, heading, handler, stmt_core, body_core, else_core, whens_core}
use Rattle.th_stmt_rules.specs.Raising.{body_raises}
use Rattle.th_stmt_rules.specs.Units.{unit_fails, unit_core}
use Rattle.th_stmt_rules.specs.Failing.{formal_fails, tested_fails, value_fails, handler_fits, handler_variable_fails, handler_fails, stmt_fails, body_fails, else_fails, whens_fail}

where_none : {A : Type 0} (b : Bool) → where_true {A = A} b None ≡ None
where_none true = refl
where_none false = refl

some_where : {A : Type 0} (b : Bool) (a : A) → is_some (where_true b (Some a)) ≡ b
some_where true a = refl
some_where false a = refl

both_some : {A B R : Type 0} (f : A → B → R) (a : Option A) (b : Option B) → is_some (both_parts f a b) ≡ is_some a && is_some b
both_some f None b = refl
both_some f (Some a) None = refl
both_some f (Some a) (Some b) = refl

three_some : {A B D R : Type 0} (f : A → B → D → R) (a : Option A) (b : Option B) (d : Option D) → is_some (three_parts f a b d) ≡ is_some a && (is_some b && is_some d)
three_some f None b d = refl
three_some f (Some a) b d = both_some (f a) b d

map_some : {A B : Type 0} (f : A → B) (a : Option A) → is_some (option_map f a) ≡ is_some a
map_some f None = refl
map_some f (Some a) = refl

given_some : {R : Type 0} (f : ExprTree → R) (g : Given ExprTree) → is_some (with_given f g) ≡ is_some (fitted g)
given_some f untyped = refl
given_some f misfit = refl
given_some f (fitting e) = refl

-- a declaration is lawful exactly where it has no failure
declared_for : (C : Context) (n : ℕ) (b : Bool) (u : Option TypeExpr) (p : Place) (fu : List Failure) → none_of fu ≡ is_some u → none_of (unless b 19 p ++ fu) ≡ is_some (where_true b (variable_with C n u))
declared_for C n true None p fu h = h
declared_for C n true (Some t) p fu h = h
declared_for C n false u p fu h = refl

formal_law : (C : Context) (ls : List Binding) (n : ℕ) (f : FormalSyn) → none_of (formal_fails C ls f) ≡ is_some (declared C ls n f)
formal_law C ls n f = declared_for C n (is_fresh ls f) (resolved_type C ls f.of) (place C.text f.name.at) (type_fails C ls f.of) (type_law C ls f.of)

-- what is declared has a type
typed_for : (C : Context) (n : ℕ) (b : Bool) (u : Option TypeExpr) → is_some (where_true b (variable_with C n u)) ≡ true → is_some u ≡ true
typed_for C n true None h = h
typed_for C n true (Some t) h = refl
typed_for C n false None h = h
typed_for C n false (Some t) h = refl

declared_typed : (C : Context) (ls : List Binding) (n : ℕ) (f : FormalSyn) → is_some (declared C ls n f) ≡ true → is_some (resolved_type C ls f.of) ≡ true
declared_typed C ls n f h = typed_for C n (is_fresh ls f) (resolved_type C ls f.of) h

-- a condition or an argument
tested_if : (p : TypeExpr → Bool) (x : Option Checked) (fe : List Failure) (q : Place) → none_of fe ≡ is_some x → none_of (fe ++ unless (ok_one p x) 21 q) ≡ is_some (tested p x)
tested_if p None fe q h = rw (none_append, h) refl
tested_if p (Some a) fe q h = rw (none_append, h) (none_unless (p a.of) 21 q ∙ sym (some_if (p a.of) a.tree))

tested_law : (C : Context) (ls : List Binding) (p : TypeExpr → Bool) (e : ExprSyn) → AllTyped ls → none_of (tested_fails C ls p e) ≡ is_some (tested p (typed C ls e))
tested_law C ls p e h = tested_if p (typed C ls e) (fails C ls e) (place C.text (start e)) (law C ls e h)

-- a value that is given to a type
value_for : (C : Context) (t u : TypeExpr) (x : Option Checked) (fe : List Failure) (q : Place) → none_of fe ≡ is_some x → none_of (fe ++ unless (fits (given_as C t u x)) 23 q) ≡ is_some (fitted (given_as C t u x))
value_for C t u x fe q h = rw (none_append, none_unless, h, given_law C t u x) (fits_law (given_as C t u x))

value_law : (C : Context) (ls : List Binding) (t : TypeExpr) (e : ExprSyn) → AllTyped ls → none_of (value_fails C ls (Some t) e) ≡ is_some (fitted (given_opt C (Some t) (typed C ls e)))
value_law C ls t e h = value_for C t t (typed C ls e) (fails C ls e) (place C.text (start e)) (law C ls e h)

var_if : (C : Context) (n : ℕ) (b : Bool) (u : Option TypeExpr) (x : Option Checked) (ff fv : List Failure) → none_of ff ≡ is_some (where_true b (variable_with C n u)) →
    ((t : TypeExpr) → u ≡ Some t → none_of fv ≡ is_some (fitted (given_opt C u x))) → none_of (ff ++ fv) ≡ is_some (both_parts core.var_stmt (where_true b (variable_with C n u)) (fitted (given_opt C u x)))
var_if C n b None x ff fv h k = rw (none_append, h, where_none b) refl
var_if C n b (Some t) x ff fv h k = rw (none_append, h, k t refl) (sym (both_some core.var_stmt (where_true b (variable_with C n (Some t))) (fitted (given_opt C (Some t) x))))

value_at : (C : Context) (ls : List Binding) (u : Option TypeExpr) (e : ExprSyn) (t : TypeExpr) → AllTyped ls → u ≡ Some t → none_of (value_fails C ls u e) ≡ is_some (fitted (given_opt C u (typed C ls e)))
value_at C ls None e t h k = absurd (cc)
value_at C ls (Some u) e t h k = value_law C ls u e h

-- a target that has been checked can be assigned
local_set : (k : ℕ) (o : Option TypeExpr) (v : ExprTree) → is_some (assigned (checked_opt (core.local_expr k) o) (fitting v)) ≡ is_some (checked_opt (core.local_expr k) o)
local_set k None v = refl
local_set k (Some t) v = refl

name_set : (m : Meaning) (ts : TypeSyns) (v : ExprTree) → is_local m ts ≡ true → is_some (assigned (plain_name m ts) (fitting v)) ≡ is_some (plain_name m ts)
name_set no_meaning ts v h = refl
name_set (local_meaning b) no_type v h = local_set b.index b.of v
name_set (local_meaning b) (more_types t ts) v h = refl
name_set (param_meaning k) ts v h = refl
name_set (item_meaning i) ts v h = refl

field_typed_set : (c : List ℕ) (k : ℕ) (o : Option TypeExpr) (v : ExprTree) → is_some (assigned (checked_opt (core.field_expr c k) o) (fitting v)) ≡ is_some (checked_opt (core.field_expr c k) o)
field_typed_set c k None v = refl
field_typed_set c k (Some t) v = refl

field_opt_set : (c : List ℕ) (o : Option Binding) (v : ExprTree) → is_some (assigned (field_checked c o) (fitting v)) ≡ is_some (field_checked c o)
field_opt_set c None v = refl
field_opt_set c (Some b) v = field_typed_set c b.index b.of v

field_set : (C : Context) (b : Bool) (f : ℕ) (v : ExprTree) → is_some (assigned (field_of C b f) (fitting v)) ≡ is_some (field_of C b f)
field_set C false f v = refl
field_set C true f v = field_opt_set (name_at C.names (own_name C.class)) (field_in (own_class C) f) v

tree_set : (t v : ExprTree) → is_element t ≡ true → is_some (set_stmt t v) ≡ true
tree_set (core.element_expr a i) v h = refl
tree_set _ v h = absurd (cc)

element_set : (o : Option Checked) (v : ExprTree) → element_target o ≡ true → is_some (assigned o (fitting v)) ≡ is_some o
element_set None v h = refl
element_set (Some a) v h = tree_set a.tree v h

target_set : (C : Context) (ls : List Binding) (t : ExprSyn) (v : ExprTree) → is_target C ls t ≡ true → is_some (assigned (typed C ls t) (fitting v)) ≡ is_some (typed C ls t)
target_set C ls (item_expr at r ts) v h = name_set (meaning C ls r) ts v h
target_set C ls (field_expr at e f) v h = field_set C (is_self e) f.name v
target_set C ls (element_expr at e i) v h = element_set (typed C ls (element_expr at e i)) v h
target_set C ls _ v h = absurd (cc)

assign_given : (t : Option Checked) (g : Given ExprTree) → ((v : ExprTree) → is_some (assigned t (fitting v)) ≡ is_some t) → is_some (assigned t g) ≡ is_some t && is_some (fitted g)
assign_given None g h = refl
assign_given (Some a) untyped h = refl
assign_given (Some a) misfit h = refl
assign_given (Some a) (fitting v) h = h v

assign_parts : (b : Bool) (p : Place) (ft fv : List Failure) → none_of (ft ++ unless b 23 p ++ fv) ≡ (none_of ft && b) && none_of fv
assign_parts b p ft fv = simp (none_append, none_unless) refl

assign_typed : (C : Context) (t x : Option Checked) (fv : List Failure) → ((u : TypeExpr) → type_of t ≡ Some u → none_of fv ≡ is_some (fitted (given_opt C (type_of t) x))) → is_some t && none_of fv ≡ is_some t && is_some (fitted (given_opt C (type_of t) x))
assign_typed C None x fv h = refl
assign_typed C (Some a) x fv h = h a.of refl

assign_law : (C : Context) (b : Bool) (p : Place) (t x : Option Checked) (ft fv : List Failure) → none_of ft ≡ is_some t →
    ((u : TypeExpr) → type_of t ≡ Some u → none_of fv ≡ is_some (fitted (given_opt C (type_of t) x))) → (b ≡ true → (v : ExprTree) → is_some (assigned t (fitting v)) ≡ is_some t) →
    none_of (ft ++ unless b 23 p ++ fv) ≡ is_some (where_true b (assigned t (given_opt C (type_of t) x)))
assign_law C false p t x ft fv h k l = rw (assign_parts false p ft fv, and_false (none_of ft)) refl
assign_law C true p t x ft fv h k l = rw (assign_parts true p ft fv, and_true (none_of ft), h) (assign_typed C t x fv k ∙ sym (assign_given t (given_opt C (type_of t) x) (l refl)))

done_law : (o : Option Called) → is_some o ≡ is_some (done o)
done_law None = refl
done_law (Some c) = refl

-- a `for`
yield_if : (b : Bool) (k : Option CastTree) → has_type (if b then fitting k else misfit) ≡ true
yield_if true k = refl
yield_if false k = refl

yield_typed : (C : Context) (o : Option TypeExpr) (u : TypeExpr) → has_type (yield_cast C o u) ≡ true
yield_typed C None u = refl
yield_typed C (Some t) u = yield_if (is_subtype C.types t u) _

over_law : (v : Variable) (c : Called) (k : Given (Option CastTree)) (b : Option BodyTree) → has_type k ≡ true → fits k && is_some b ≡ is_some (loop_over (Some v) (Some c) k b)
over_law v c untyped b h = absurd (cc)
over_law v c misfit b h = refl
over_law v c (fitting k) None h = refl
over_law v c (fitting k) (Some b) h = refl

for_parts : (ff fc fb : List Failure) (b : Bool) (p : Place) → none_of (ff ++ fc ++ unless b 26 p ++ fb) ≡ ((none_of ff && none_of fc) && b) && none_of fb
for_parts ff fc fb b p = simp (none_append, none_unless) refl

for_law : (C : Context) (n : ℕ) (b : Bool) (u : Option TypeExpr) (c : Option Called) (r : Option BodyTree) (ff fc fb : List Failure) (p : Place) →
    none_of ff ≡ is_some (where_true b (variable_with C n u)) → none_of fc ≡ is_some c → (is_some u ≡ true → none_of fb ≡ is_some r) →
    none_of (ff ++ fc ++ unless (fits (loop_cast C c u)) 26 p ++ fb) ≡ is_some (loop_over (where_true b (variable_with C n u)) c (loop_cast C c u) r)
for_law C n b None c r ff fc fb p h k l = rw (for_parts ff fc fb (fits (loop_cast C c None)) p, h, where_none b) refl
for_law C n false (Some u) c r ff fc fb p h k l = rw (for_parts ff fc fb (fits (loop_cast C c (Some u))) p, h) refl
for_law C n true (Some u) None r ff fc fb p h k l = rw (for_parts ff fc fb (fits (loop_cast C None (Some u))) p, h, k) refl
for_law C n true (Some u) (Some c) r ff fc fb p h k l =
    rw (for_parts ff fc fb (fits (yield_cast C c.sig.gives u)) p, h, k, l refl) (over_law _ c (yield_cast C c.sig.gives u) r (yield_typed C c.sig.gives u))

-- a result, an exception
result_law : (C : Context) (r : Option TypeExpr) (x : Option Checked) (fe : List Failure) (p q : Place) → none_of fe ≡ is_some x →
    none_of (unless (is_some r) 27 p ++ fe ++ unless (fits (given_result C r x)) 23 q) ≡ is_some (with_given core.return_value_stmt (given_result C r x))
result_law C None x fe p q h = refl
result_law C (Some t) x fe p q h = value_for C t (returned_as C t) x fe q h ∙ sym (given_some core.return_value_stmt (given_as C t (returned_as C t) x))

yield_law : (C : Context) (ls : List Binding) (r : Option TypeExpr) (e : ExprSyn) (p : Place) → AllTyped ls → none_of (unless (is_some r) 27 p ++ value_fails C ls r e) ≡ is_some (with_given core.yield_stmt (given_opt C r (typed C ls e)))
yield_law C ls None e p h = refl
yield_law C ls (Some t) e p h = value_law C ls t e h ∙ sym (given_some core.yield_stmt (given_opt C (Some t) (typed C ls e)))

exception_law : (C : Context) (ls : List Binding) (x : ExcTree) → none_of (exception_fails C ls x) ≡ is_some (exception_of C ls x)
exception_law C ls (exc.Declared r) = none_unless (is_some (meant_exception (meaning C ls r))) 4 (ref_place C r)
exception_law C ls (exc.Overflow at) = refl
exception_law C ls (exc.ZeroDivide at) = refl
exception_law C ls (exc.Bounds at) = refl
exception_law C ls (exc.EndOfInput at) = refl

raised_law : (C : Context) (x : Option Exception) (fx : List Failure) (p : Place) → none_of fx ≡ is_some x → none_of (fx ++ unless (is_bare x) 9 p) ≡ is_some (raised C x)
raised_law C None fx p h = rw (none_append, h) refl
raised_law C (Some x) fx p h = rw (none_append, none_unless, h) (sym (some_where (not (is_some x.argument)) (core.raise_stmt (key_name C.names x.key))))

raise_parts : (fx fv : List Failure) (b : Bool) (p : Place) → none_of (fx ++ unless b 9 p ++ fv) ≡ (none_of fx && b) && none_of fv
raise_parts fx fv b p = simp (none_append, none_unless) refl

argument_law : (C : Context) (ls : List Binding) (t : Option TypeExpr) (e : ExprSyn) (f : ExprTree → StmtTree) → AllTyped ls → is_some t && none_of (value_fails C ls t e) ≡ is_some (with_given f (given_opt C t (typed C ls e)))
argument_law C ls None e f h = refl
argument_law C ls (Some t) e f h = value_law C ls t e h ∙ sym (given_some f (given_opt C (Some t) (typed C ls e)))

raise_value_law : (C : Context) (ls : List Binding) (x : Option Exception) (e : ExprSyn) (fx : List Failure) (p : Place) (f : ExprTree → StmtTree) → AllTyped ls → none_of fx ≡ is_some x →
    none_of (fx ++ unless (has_argument x) 9 p ++ value_fails C ls (argument_of x) e) ≡ is_some (with_given f (given_opt C (argument_of x) (typed C ls e)))
raise_value_law C ls None e fx p f h k = rw (raise_parts fx (value_fails C ls None e) true p, k) refl
raise_value_law C ls (Some x) e fx p f h k = rw (raise_parts fx (value_fails C ls x.argument e) (is_some x.argument) p, k) (argument_law C ls x.argument e f h)

-- a handler
when_parts : (fx fv fb fw : List Failure) (b c : Bool) (p : Place) → none_of ((fx ++ unless b 9 p ++ unless c 9 p ++ fv) ++ fb ++ fw) ≡ ((((none_of fx && b) && c) && none_of fv) && none_of fb) && none_of fw
when_parts fx fv fb fw b c p = simp (none_append, none_unless) refl

and_assoc : (a b c : Bool) → (a && b) && c ≡ a && (b && c)
and_assoc true b c = refl
and_assoc false b c = refl

where_and : {A : Type 0} (b : Bool) (o : Option A) → is_some (where_true b o) ≡ b && is_some o
where_and true o = refl
where_and false o = refl

-- the variable of a lawful handler is lawful
bound_some : (C : Context) (new : Bool) (x : Option Exception) (t : Option TypeExpr) (v : Option Variable) → is_some (bound_heading C new x t v) ≡ true → is_some v ≡ true
bound_some C new None t v h = absurd (true≢false (sym h))
bound_some C new (Some x) t None h = absurd (true≢false (sym h))
bound_some C new (Some x) t (Some v) h = refl

handler_typed : (C : Context) (ls : List Binding) (n : ℕ) (seen : List Key) (x : Option Exception) (v : Option FormalSyn) → AllTyped ls → is_some (heading C ls n seen x v) ≡ true → AllTyped (in_handler C ls n v)
handler_typed C ls n seen x None h k = h
handler_typed C ls n seen x (Some f) h k = (declared_typed C ls n f (bound_some C (is_new seen x) x (resolved_type C ls f.of) (declared C ls n f) k), h)

bound_law : (C : Context) (new : Bool) (x : Exception) (t : Option TypeExpr) (v : Option Variable) → (new && is_some x.argument) && (is_some v && agree x.argument t) ≡ is_some (bound_heading C new (Some x) t v)
bound_law C new x t None = and_false (new && is_some x.argument)
bound_law C new x t (Some v) = sym (some_where ((new && is_some x.argument) && agree x.argument t) (record { name = key_name C.names x.key; variable = Some v }))

-- a handler is lawful before its statements exactly where nothing fails there
heading_law : (C : Context) (ls : List Binding) (n at : ℕ) (seen : List Key) (x : Option Exception) (v : Option FormalSyn) →
    ((is_some x && is_new seen x) && handler_fits x v) && none_of (handler_variable_fails C ls at x v) ≡ is_some (heading C ls n seen x v)
heading_law C ls n at seen None None = refl
heading_law C ls n at seen None (Some f) = refl
heading_law C ls n at seen (Some x) None =
    and_true (is_new seen (Some x) && not (is_some x.argument)) ∙ sym (some_where (is_new seen (Some x) && not (is_some x.argument)) (record { name = key_name C.names x.key; variable = None }))
heading_law C ls n at seen (Some x) (Some f) =
    rw (none_append (formal_fails C ls f), none_unless, formal_law C ls n f) (bound_law C (is_new seen (Some x)) x (resolved_type C ls f.of) (declared C ls n f))

last_and : (h fb b ws : Bool) → (h ≡ true → fb ≡ b) → (h && fb) && ws ≡ h && (b && ws)
last_and false fb b ws k = refl
last_and true fb b ws k = rw (k refl) refl

when_law : (C : Context) (ls : List Binding) (n at : ℕ) (seen : List Key) (x : Option Exception) (v : Option FormalSyn) (b : Option BodyTree) (ws : Option WhenTrees) (fx fb fw : List Failure) → AllTyped ls → none_of fx ≡ is_some x →
    (AllTyped (in_handler C ls n v) → none_of fb ≡ is_some b) → none_of fw ≡ is_some ws →
    none_of ((fx ++ unless (is_new seen x) 9 (place C.text at) ++ unless (handler_fits x v) 9 (place C.text at) ++ handler_variable_fails C ls at x v) ++ fb ++ fw) ≡ is_some (three_parts handler (heading C ls n seen x v) b ws)
when_law C ls n at seen x v b ws fx fb fw h k l m =
    rw (when_parts fx (handler_variable_fails C ls at x v) fb fw (is_new seen x) (handler_fits x v) (place C.text at), k, m, three_some handler (heading C ls n seen x v) b ws, heading_law C ls n at seen x v)
    (last_and (is_some (heading C ls n seen x v)) (none_of fb) (is_some b) (is_some ws) (λ s. l (handler_typed C ls n seen x v h s)))

and_swap : (a b : Bool) → a && b ≡ b && a
and_swap true b = sym (and_true b)
and_swap false b = sym (and_false b)

seq_law : (o : Option StmtTree) (os : Option BodyTree) (fs gs : List Failure) → none_of fs ≡ is_some o → (is_some o ≡ true → none_of gs ≡ is_some os) → none_of (fs ++ gs) ≡ is_some (both_parts core.more_stmts o os)
seq_law None os fs gs h k = rw (none_append, h) refl
seq_law (Some s) os fs gs h k = rw (none_append, h, k refl) (sym (both_some core.more_stmts (Some s) os))

both_law : {A B R : Type 0} (f : A → B → R) (a : Option A) (b : Option B) (fa fb : List Failure) → none_of fa ≡ is_some a → none_of fb ≡ is_some b → none_of (fa ++ fb) ≡ is_some (both_parts f a b)
both_law f a b fa fb h k = rw (none_append, h, k) (sym (both_some f a b))

three_law : {A B D R : Type 0} (f : A → B → D → R) (a : Option A) (b : Option B) (d : Option D) (fa fb fd : List Failure) → none_of fa ≡ is_some a → none_of fb ≡ is_some b → none_of fd ≡ is_some d → none_of (fa ++ fb ++ fd) ≡ is_some (three_parts f a b d)
three_law f a b d fa fb fd h k l = rw (none_append (fa ++ fb), none_append fa, h, k, l) (and_assoc (is_some a) (is_some b) (is_some d) ∙ sym (three_some f a b d))

first_some : {A B R : Type 0} (f : A → B → R) (a : Option A) (b : Option B) → is_some (both_parts f a b) ≡ true → is_some a ≡ true
first_some f None b h = h
first_some f (Some a) b h = refl

-- the locals in scope after a statement without failures have types
after_typed : (C : Context) (ls : List Binding) (looping : Bool) (n : ℕ) (s : StmtSyn) → AllTyped ls → is_some (stmt_core C ls looping n s) ≡ true → AllTyped (after C ls n s)
after_typed C ls looping n (var_stmt at f e) h k =
    (declared_typed C ls n f (first_some core.var_stmt (declared C ls n f) (fitted (given_opt C (resolved_type C ls f.of) (typed C ls e))) k), h)
after_typed C ls looping n _ h k = h

mutual
  pub stmt_law : (C : Context) (ls : List Binding) (looping : Bool) (n : ℕ) (s : StmtSyn) → AllTyped ls → none_of (stmt_fails C ls looping n s) ≡ is_some (stmt_core C ls looping n s)
  stmt_law C ls looping n (var_stmt at f e) h =
      var_if C n (is_fresh ls f) (resolved_type C ls f.of) (typed C ls e) (formal_fails C ls f) (value_fails C ls (resolved_type C ls f.of) e) (formal_law C ls n f) (λ t k. value_at C ls (resolved_type C ls f.of) e t h k)
  stmt_law C ls looping n (assign_stmt at t e) h =
      assign_law C (is_target C ls t) (place C.text (start t)) (typed C ls t) (typed C ls e) (fails C ls t) (value_fails C ls (type_of (typed C ls t)) e) (law C ls t h) (λ u k. value_at C ls (type_of (typed C ls t)) e u h k) (λ b v. target_set C ls t v b)
  stmt_law C ls looping n (plain_stmt at e) h = call_law C ls as_procedure (place C.text at) e h ∙ done_law (wished as_procedure (typed_call C ls e))
  stmt_law C ls looping n (if_stmt at e b r) h =
      three_law core.if_stmt (tested is_bool (typed C ls e)) (body_core C ls looping n b) (else_core C ls looping (n + body_locals b) r) (tested_fails C ls is_bool e) (body_fails C ls looping n b) (else_fails C ls looping (n + body_locals b) r)
      (tested_law C ls is_bool e h) (body_law C ls looping n b h) (else_law C ls looping (n + body_locals b) r h)
  stmt_law C ls looping n (while_stmt at e b) h =
      both_law core.while_stmt (tested is_bool (typed C ls e)) (body_core C ls true n b) (tested_fails C ls is_bool e) (body_fails C ls true n b) (tested_law C ls is_bool e h) (body_law C ls true n b h)
  stmt_law C ls looping n (for_stmt at f e b) h =
      for_law C n (is_fresh ls f) (resolved_type C ls f.of) (wished as_iterator (typed_call C ls e)) (body_core C (bound C ls n f ∷ ls) true (n + 1) b) (formal_fails C ls f) (call_fails C ls as_iterator (place C.text (start e)) e)
      (body_fails C (bound C ls n f ∷ ls) true (n + 1) b) (place C.text (start e)) (formal_law C ls n f) (call_law C ls as_iterator (place C.text (start e)) e h) (λ k. body_law C (bound C ls n f ∷ ls) true (n + 1) b (k, h))
  stmt_law C ls looping n (break_stmt at) h = none_unless looping 27 (place C.text at) ∙ sym (some_where looping core.break_stmt)
  stmt_law C ls looping n (return_stmt at) h = none_unless (not (is_some (result_of C.sig))) 27 (place C.text at) ∙ sym (some_where (not (is_some (result_of C.sig))) core.return_stmt)
  stmt_law C ls looping n (return_value_stmt at e) h = result_law C (result_of C.sig) (typed C ls e) (fails C ls e) (place C.text at) (place C.text (start e)) (law C ls e h)
  stmt_law C ls looping n (yield_stmt at e) h = yield_law C ls (yielded_of C.sig) e (place C.text at) h
  stmt_law C ls looping n (raise_stmt at x) h = raised_law C (exception_of C ls x) (exception_fails C ls x) (place C.text at) (exception_law C ls x)
  stmt_law C ls looping n (raise_value_stmt at x e) h =
      raise_value_law C ls (exception_of C ls x) e (exception_fails C ls x) (place C.text at) (core.raise_value_stmt (exception_name C (exception_of C ls x))) h (exception_law C ls x)
  stmt_law C ls looping n (begin_stmt at b ws) h =
      both_law core.begin_stmt (body_core C ls looping n b) (whens_core C ls looping [] (n + body_locals b) ws) (body_fails C ls looping n b) (whens_fail C ls looping [] (n + body_locals b) ws) (body_law C ls looping n b h) (whens_law C ls looping [] (n + body_locals b) ws h)
  stmt_law C ls looping n (put_byte_stmt at e) h = tested_law C ls is_int e h ∙ sym (map_some core.put_byte_stmt (tested is_int (typed C ls e)))
  stmt_law C ls looping n (put_int_stmt at e) h = tested_law C ls is_int e h ∙ sym (map_some core.put_int_stmt (tested is_int (typed C ls e)))
  stmt_law C ls looping n (put_text_stmt at e) h = tested_law C ls is_text e h ∙ sym (map_some core.put_text_stmt (tested is_text (typed C ls e)))

  pub body_law : (C : Context) (ls : List Binding) (looping : Bool) (n : ℕ) (b : BodySyn) → AllTyped ls → none_of (body_fails C ls looping n b) ≡ is_some (body_core C ls looping n b)
  body_law C ls looping n no_stmt h = refl
  body_law C ls looping n (more_stmts s b) h =
      seq_law (stmt_core C ls looping n s) (body_core C (after C ls n s) looping (n + stmt_locals s) b) (stmt_fails C ls looping n s) (body_fails C (after C ls n s) looping (n + stmt_locals s) b) (stmt_law C ls looping n s h)
      (λ k. body_law C (after C ls n s) looping (n + stmt_locals s) b (after_typed C ls looping n s h k))

  pub else_law : (C : Context) (ls : List Binding) (looping : Bool) (n : ℕ) (r : ElseSyn) → AllTyped ls → none_of (else_fails C ls looping n r) ≡ is_some (else_core C ls looping n r)
  else_law C ls looping n no_else h = refl
  else_law C ls looping n (else_do b) h = body_law C ls looping n b h ∙ sym (map_some core.else_do (body_core C ls looping n b))
  else_law C ls looping n (elseif_then at e b r) h =
      three_law core.elseif_then (tested is_bool (typed C ls e)) (body_core C ls looping n b) (else_core C ls looping (n + body_locals b) r) (tested_fails C ls is_bool e) (body_fails C ls looping n b) (else_fails C ls looping (n + body_locals b) r)
      (tested_law C ls is_bool e h) (body_law C ls looping n b h) (else_law C ls looping (n + body_locals b) r h)

  pub whens_law : (C : Context) (ls : List Binding) (looping : Bool) (seen : List Key) (n : ℕ) (ws : WhenSyns) → AllTyped ls → none_of (whens_fail C ls looping seen n ws) ≡ is_some (whens_core C ls looping seen n ws)
  whens_law C ls looping seen n no_when h = refl
  whens_law C ls looping seen n (more_whens at x v b ws) h =
      when_law C ls n at seen (exception_of C ls x) v (body_core C (in_handler C ls n v) looping (n + variable_count v) b) (whens_core C ls looping (seen_with (exception_of C ls x) seen) (n + variable_count v + body_locals b) ws)
      (exception_fails C ls x) (body_fails C (in_handler C ls n v) looping (n + variable_count v) b) (whens_fail C ls looping (seen_with (exception_of C ls x) seen) (n + variable_count v + body_locals b) ws)
      h (exception_law C ls x) (λ k. body_law C (in_handler C ls n v) looping (n + variable_count v) b k) (whens_law C ls looping (seen_with (exception_of C ls x) seen) (n + variable_count v + body_locals b) ws h)

unit_parts : (f r : List Failure) (o : Option BodyTree) → none_of f ≡ is_some o → none_of (f ++ r) ≡ is_some (where_true (none_of r) o)
unit_parts f r o h = rw (none_append, h, where_and (none_of r) o) (and_swap (is_some o) (none_of r))

pub unit_law : (C : Context) (ls : List Binding) (b : BodySyn) → AllTyped ls → none_of (unit_fails C ls b) ≡ is_some (unit_core C ls b)
unit_law C ls b h = unit_parts (body_fails C ls false (length ls) b) (body_raises C ls C.sig.signals (length ls) b) (body_core C ls false (length ls) b) (body_law C ls false (length ls) b h)
