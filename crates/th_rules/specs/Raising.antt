-- The failures of the rule on exceptions: what an expression may raise is handled around it or listed by the unit.
use Rattle.std.specs.Prelude.{ℕ, List, [], ◌∷◌, ◌++◌, Option, Some, None}
use Rattle.th_tree.specs.Trees.{ExprSyn, number_expr, text_expr, true_expr, false_expr, self_expr, super_expr, item_expr, call_expr, new_expr, new_array_expr, get_byte_expr, field_expr, method_expr, length_expr, element_expr, not_expr, negative_expr, binary_expr, ExprSyns, no_expr, more_exprs}
use Rattle.th_type.specs.declared.place.Place.{Place}
use Rattle.th_type.specs.declared.place.Failure.{Failure}
use Rattle.th_type.specs.Failures.{place, unless}
use Rattle.th_type.specs.Lists.{is_in}
use Rattle.th_rules.specs.Context.{Binding, Context, meaning}
use Rattle.th_rules.specs.Resolving.{resolved_class}
use Rattle.th_rules.specs.Callees.{callee_sig, signals_of, named, named_sig, receiver_callee, super_callee, init_sig}
use Rattle.th_rules.specs.Typing.{is_self, typed}

-- the signals that are not among those that are handled or listed
abbrev pub unhandled : List ℕ → Place → List ℕ → List Failure
unhandled h p [] = []
unhandled h p (x ∷ xs) = unless (is_in x h) 30 p ++ unhandled h p xs

abbrev mutual
  -- the failures in an expression
  pub raises : Context → List Binding → List ℕ → ExprSyn → List Failure
  raises C ls h (number_expr at n) = []
  raises C ls h (text_expr at n) = []
  raises C ls h (true_expr at) = []
  raises C ls h (false_expr at) = []
  raises C ls h (self_expr at) = []
  raises C ls h (super_expr at m es) = unhandled h (place C.text at) (signals_of (callee_sig (super_callee C m.name))) ++ args_raise C ls h es
  raises C ls h (item_expr at r ts) = []
  raises C ls h (call_expr at r ts es) = unhandled h (place C.text at) (signals_of (named_sig (named (meaning C ls r) ts))) ++ args_raise C ls h es
  raises C ls h (new_expr at c es) = unhandled h (place C.text at) (signals_of (init_sig (resolved_class C ls c))) ++ args_raise C ls h es
  raises C ls h (new_array_expr at t n e) = raises C ls h n ++ raises C ls h e
  raises C ls h (get_byte_expr at) = []
  raises C ls h (field_expr at e f) = raises C ls h e
  raises C ls h (method_expr at e m es) =
      raises C ls h e ++ unhandled h (place C.text at) (signals_of (callee_sig (receiver_callee C (is_self e) (typed C ls e) m.name))) ++ args_raise C ls h es
  raises C ls h (length_expr at e) = raises C ls h e
  raises C ls h (element_expr at e i) = raises C ls h e ++ raises C ls h i
  raises C ls h (not_expr at e) = raises C ls h e
  raises C ls h (negative_expr at e) = raises C ls h e
  raises C ls h (binary_expr at op e f) = raises C ls h e ++ raises C ls h f

  -- the failures in arguments
  pub args_raise : Context → List Binding → List ℕ → ExprSyns → List Failure
  args_raise C ls h no_expr = []
  args_raise C ls h (more_exprs e es) = raises C ls h e ++ args_raise C ls h es

-- the failures in a call, whose own exceptions have the place p
abbrev pub call_raises : Context → List Binding → List ℕ → Place → ExprSyn → List Failure
call_raises C ls h p (super_expr at m es) = unhandled h p (signals_of (callee_sig (super_callee C m.name))) ++ args_raise C ls h es
call_raises C ls h p (call_expr at r ts es) = unhandled h p (signals_of (named_sig (named (meaning C ls r) ts))) ++ args_raise C ls h es
call_raises C ls h p (method_expr at e m es) =
    raises C ls h e ++ unhandled h p (signals_of (callee_sig (receiver_callee C (is_self e) (typed C ls e) m.name))) ++ args_raise C ls h es
call_raises C ls h p e = raises C ls h e
