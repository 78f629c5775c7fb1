-- The failures of rules in an expression, but for those on exceptions that nothing handles.
use Rattle.std.specs.Prelude.{ℕ, Bool, true, false, nat_eq, ◌&&◌, ◌||◌, List, [], ◌∷◌, ◌++◌, Option, Some, None, is_some}
use Rattle.th_tree.specs.declared.tree.RefTree.{RefTree}
use Rattle.th_tree.specs.declared.tree.BinaryOp.{BinaryOp}
use Rattle.th_tree.specs.Trees.{TypeSyns, NamedSyn, ExprSyn, number_expr, text_expr, true_expr, false_expr, self_expr, super_expr, item_expr, call_expr, new_expr, new_array_expr, get_byte_expr, field_expr, method_expr, length_expr, element_expr, not_expr, negative_expr, binary_expr, ExprSyns, no_expr, more_exprs}
use Rattle.th_type.specs.declared.place.Place.{Place}
use Rattle.th_type.specs.declared.place.Failure.{Failure}
use Rattle.th_type.specs.Failures.{place, unless}
use Rattle.th_type.specs.Types.{TypeExpr, TypeExprs}
use Rattle.th_hier.specs.Resolve.{count}
use Rattle.th_meaning.specs.Trees.{ExprTrees}
use Rattle.th_rules.specs.Context.{Binding, Context, meaning}
use Rattle.th_rules.specs.Resolving.{resolved_type, resolved_class, type_fails, types_fails, class_fails, ref_place}
use Rattle.th_rules.specs.Classes.{own_class}
use Rattle.th_rules.specs.Callees.{Checked, Given, fits, given_opt, Callee, Wish, as_value, meets, meets_opt, callee_sig, args_ok, Named, no_callee, local_callee, routine_callee, named, instance, instance_sig, is_supplied, receiver_callee, has_method, super_callee, init_sig, class_supplied}
use Rattle.th_rules.specs.Typing.{is_int, is_bool, is_text, is_array, takes, self_in, is_self, field_of, typed, typed_all}

-- the byte where an expression starts
abbrev pub start : ExprSyn → ℕ
start (number_expr at n) = at
start (text_expr at n) = at
start (true_expr at) = at
start (false_expr at) = at
start (self_expr at) = at
start (super_expr at m es) = at
start (item_expr at r ts) = at
start (call_expr at r ts es) = at
start (new_expr at c es) = at
start (new_array_expr at t n e) = at
start (get_byte_expr at) = at
start (field_expr at e f) = at
start (method_expr at e m es) = at
start (length_expr at e) = at
start (element_expr at e i) = at
start (not_expr at e) = at
start (negative_expr at e) = at
start (binary_expr at op e f) = at

-- a test on the type of a part, which is not judged where the part has none
abbrev pub ok_one : (TypeExpr → Bool) → Option Checked → Bool
ok_one p None = true
ok_one p (Some a) = p a.of

-- a test on the types of two parts, which is not judged where one has none
abbrev pub ok_two : (TypeExpr → TypeExpr → Bool) → Option Checked → Option Checked → Bool
ok_two p None b = true
ok_two p (Some a) None = true
ok_two p (Some a) (Some b) = p a.of b.of

-- an array or a text
abbrev pub is_indexed : TypeExpr → Bool
is_indexed t = is_array t || is_text t

-- what `[ ]` takes: an array or a text, and a number
abbrev pub indexes : TypeExpr → TypeExpr → Bool
indexes t u = is_int u && is_indexed t

-- the failures of a name without arguments: it is a local without braces; a routine or an iterator stands with arguments
abbrev pub plain_fails : Named → Place → List Failure
plain_fails no_callee p = unless false 4 p
plain_fails local_callee p = []
plain_fails (routine_callee f r) p = unless false 26 p

-- the failures of a name with arguments, of which the rule on what a call is there for has the place q: it is a routine or
-- an iterator; with n types in braces, as many as it has parameters; a local stands without arguments
abbrev pub name_fails : Wish → Place → Named → ℕ → Place → List Failure
name_fails w q no_callee n p = unless false 4 p
name_fails w q local_callee n p = unless false 26 q
name_fails w q (routine_callee f r) n p = unless (meets w r.sig) 26 q ++ unless (nat_eq n r.params) 5 p

-- the failures of a call of a routine, with those of its arguments, and these with their types
abbrev pub routine_fails : Context → List Binding → Wish → Place → ℕ → RefTree → TypeSyns → List Failure → List (Option Checked) → List Failure
routine_fails C ls w q at r ts all xs =
    name_fails w q (named (meaning C ls r) ts) (count ts) (ref_place C r) ++ types_fails C ls ts
    ++ unless (is_supplied C (instance C ls r ts)) 17 (ref_place C r) ++ all
    ++ unless (args_ok C (instance_sig (instance C ls r ts)) xs) 22 (place C.text at)

-- the failures of a call of a method, but for its receiver
abbrev pub callee_fails : Context → Wish → Place → ℕ → Option Callee → List Failure → List (Option Checked) → List Failure
callee_fails C w q at c all xs = unless (meets_opt w (callee_sig c)) 26 q ++ all ++ unless (args_ok C (callee_sig c) xs) 22 (place C.text at)

-- the failures of a call of a method of a receiver, whose own are the first
abbrev pub method_fails : Context → Wish → Place → ℕ → Bool → Option Checked → ℕ → List Failure → List Failure → List (Option Checked) → List Failure
method_fails C w q at self r m first all xs =
    first ++ unless (has_method r (receiver_callee C self r m)) 25 (place C.text at) ++ callee_fails C w q at (receiver_callee C self r m) all xs

-- the failures of `super.m(..)`
abbrev pub super_fails : Context → Wish → Place → ℕ → ℕ → List Failure → List (Option Checked) → List Failure
super_fails C w q at m all xs = unless (is_some (super_callee C m)) 18 (place C.text at) ++ callee_fails C w q at (super_callee C m) all xs

-- the failures of `new C(..)`
abbrev pub new_fails : Context → List Binding → ℕ → NamedSyn → List Failure → List (Option Checked) → List Failure
new_fails C ls at c all xs =
    class_fails C ls c ++ unless (class_supplied C (resolved_class C ls c)) 17 (ref_place C c.item) ++ all
    ++ unless (args_ok C (init_sig (resolved_class C ls c)) xs) 22 (place C.text at)

abbrev mutual
  -- the failures in an expression
  pub fails : Context → List Binding → ExprSyn → List Failure
  fails C ls (number_expr at n) = []
  fails C ls (text_expr at n) = []
  fails C ls (true_expr at) = []
  fails C ls (false_expr at) = []
  fails C ls (self_expr at) = unless (is_some (self_in (own_class C))) 18 (place C.text at)
  fails C ls (super_expr at m es) = super_fails C as_value (place C.text at) at m.name (args_fail C ls es) (typed_all C ls es)
  fails C ls (item_expr at r ts) = plain_fails (named (meaning C ls r) ts) (ref_place C r) ++ types_fails C ls ts
  fails C ls (call_expr at r ts es) = routine_fails C ls as_value (place C.text at) at r ts (args_fail C ls es) (typed_all C ls es)
  fails C ls (new_expr at c es) = new_fails C ls at c (args_fail C ls es) (typed_all C ls es)
  fails C ls (new_array_expr at t n e) =
      type_fails C ls t ++ fails C ls n ++ unless (ok_one is_int (typed C ls n)) 24 (place C.text at) ++ fails C ls e
      ++ unless (fits (given_opt C (resolved_type C ls t) (typed C ls e))) 23 (place C.text (start e))
  fails C ls (get_byte_expr at) = []
  fails C ls (field_expr at e f) = fails C ls e ++ unless (is_some (field_of C (is_self e) f.name)) 18 (place C.text at)
  fails C ls (method_expr at e m es) =
      method_fails C as_value (place C.text at) at (is_self e) (typed C ls e) m.name (fails C ls e) (args_fail C ls es) (typed_all C ls es)
  fails C ls (length_expr at e) = fails C ls e ++ unless (ok_one is_indexed (typed C ls e)) 24 (place C.text at)
  fails C ls (element_expr at e i) = fails C ls e ++ fails C ls i ++ unless (ok_two indexes (typed C ls e) (typed C ls i)) 24 (place C.text at)
  fails C ls (not_expr at e) = fails C ls e ++ unless (ok_one is_bool (typed C ls e)) 20 (place C.text at)
  fails C ls (negative_expr at e) = fails C ls e ++ unless (ok_one is_int (typed C ls e)) 20 (place C.text at)
  fails C ls (binary_expr at op e f) = fails C ls e ++ fails C ls f ++ unless (ok_two (takes op) (typed C ls e) (typed C ls f)) 20 (place C.text at)

  -- the failures in arguments
  pub args_fail : Context → List Binding → ExprSyns → List Failure
  args_fail C ls no_expr = []
  args_fail C ls (more_exprs e es) = fails C ls e ++ args_fail C ls es

-- the failures in a call that is there for what is wished, of which the rule on this has the place q
abbrev pub call_fails : Context → List Binding → Wish → Place → ExprSyn → List Failure
call_fails C ls w q (super_expr at m es) = super_fails C w q at m.name (args_fail C ls es) (typed_all C ls es)
call_fails C ls w q (call_expr at r ts es) = routine_fails C ls w q at r ts (args_fail C ls es) (typed_all C ls es)
call_fails C ls w q (method_expr at e m es) =
    method_fails C w q at (is_self e) (typed C ls e) m.name (fails C ls e) (args_fail C ls es) (typed_all C ls es)
call_fails C ls w q e = unless false 26 q ++ fails C ls e
