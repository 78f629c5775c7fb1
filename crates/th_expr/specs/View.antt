-- Which expressions are calls, beside what the crates below say of checked expressions and of calls.
use Rattle.std.specs.Prelude.{Bool, true, false}
use Rattle.th_tree.specs.Trees.{ExprSyn, super_expr, call_expr, method_expr}
pub use Rattle.th_typed.specs.View.{typed_of, typed_opt, checks_of, checks_onto, given_of, givens_of}
pub use Rattle.th_calls.specs.View.{called_of, called_opt, wish_of}

-- whether the expression is a call
abbrev pub is_call : ExprSyn → Bool
is_call (super_expr at m es) = true
is_call (call_expr at r ts es) = true
is_call (method_expr at e m es) = true
is_call _ = false
