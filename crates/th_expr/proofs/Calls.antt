-- Expressions that are calls, and those that are none.
use Rattle.std.proofs.Common.{◌≡◌, ℕ, true, false, List, ◌++◌, None, refl}
use Rattle.th_tree.specs.Trees.{ExprSyn, super_expr, call_expr, method_expr}
use Rattle.th_type.specs.declared.place.Place.{Place}
use Rattle.th_type.specs.Failures.{place, unless}
use Rattle.th_rules.specs.Context.{Binding, Context}
use Rattle.th_rules.specs.Callees.{Wish, as_value, value_of}
use Rattle.th_rules.specs.Typing.{typed, typed_call}
use Rattle.th_rules.specs.Failing.{fails, call_fails, start}
use Rattle.th_rules.specs.Raising.{raises, call_raises}
use Rattle.th_expr.specs.View.{is_call}

-- an expression that is no call, where one is wished
pub none_typed : (C : Context) (ls : List Binding) (e : ExprSyn) → is_call e ≡ false → typed_call C ls e ≡ None
none_typed C ls (super_expr at m es) h = absurd (cc)
none_typed C ls (call_expr at r ts es) h = absurd (cc)
none_typed C ls (method_expr at e m es) h = absurd (cc)
none_typed C ls _ h = refl

pub none_fails : (C : Context) (ls : List Binding) (w : Wish) (q : Place) (e : ExprSyn) → is_call e ≡ false → call_fails C ls w q e ≡ unless false 26 q ++ fails C ls e
none_fails C ls w q (super_expr at m es) h = absurd (cc)
none_fails C ls w q (call_expr at r ts es) h = absurd (cc)
none_fails C ls w q (method_expr at e m es) h = absurd (cc)
none_fails C ls w q _ h = refl

pub none_raises : (C : Context) (ls : List Binding) (h : List ℕ) (p : Place) (e : ExprSyn) → is_call e ≡ false → call_raises C ls h p e ≡ raises C ls h e
none_raises C ls h p (super_expr at m es) n = absurd (cc)
none_raises C ls h p (call_expr at r ts es) n = absurd (cc)
none_raises C ls h p (method_expr at e m es) n = absurd (cc)
none_raises C ls h p _ n = refl

-- a call that is there for its value
pub value_typed : (C : Context) (ls : List Binding) (e : ExprSyn) → is_call e ≡ true → typed C ls e ≡ value_of (typed_call C ls e)
value_typed C ls (super_expr at m es) h = refl
value_typed C ls (call_expr at r ts es) h = refl
value_typed C ls (method_expr at e m es) h = refl
value_typed C ls _ h = absurd (cc)

pub value_fails : (C : Context) (ls : List Binding) (e : ExprSyn) → is_call e ≡ true → fails C ls e ≡ call_fails C ls as_value (place C.text (start e)) e
value_fails C ls (super_expr at m es) h = refl
value_fails C ls (call_expr at r ts es) h = refl
value_fails C ls (method_expr at e m es) h = refl
value_fails C ls _ h = absurd (cc)

pub value_raises : (C : Context) (ls : List Binding) (h : List ℕ) (e : ExprSyn) → is_call e ≡ true → raises C ls h e ≡ call_raises C ls h (place C.text (start e)) e
value_raises C ls h (super_expr at m es) n = refl
value_raises C ls h (call_expr at r ts es) n = refl
value_raises C ls h (method_expr at e m es) n = refl
value_raises C ls h _ n = absurd (cc)
