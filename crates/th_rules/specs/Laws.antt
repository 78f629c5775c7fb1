-- Laws of the rules of expressions.
use Rattle.std.specs.Prelude.{◌≡◌, ◌↔◌, true, is_some, List}
use Rattle.th_tree.specs.Trees.{TypeSyn, NamedSyn, ExprSyn}
use Rattle.th_type.specs.declared.place.Place.{Place}
use Rattle.th_type.specs.Failures.{none_of}
use Rattle.th_type.specs.Types.{TypeExpr}
use Rattle.th_type.specs.Declarations.{DeclaredType}
use Rattle.th_type.specs.Subtypes.{Subtype}
use Rattle.th_rules.specs.Context.{Binding, Context}
use Rattle.th_rules.specs.Resolving.{resolved_type, resolved_class, type_fails, class_fails}
use Rattle.th_rules.specs.Classes.{is_subtype}
use Rattle.th_rules.specs.Callees.{Wish, wished}
use Rattle.th_rules.specs.Typing.{typed, typed_call}
use Rattle.th_rules.specs.Failing.{fails, call_fails}
use Rattle.th_rules.specs.AllTyped.{AllTyped}
use Rattle.th_type.specs.Ways.{WaysEnd}

-- an expression has a type exactly where it has no failure, where each local in scope has a type
abbrev pub TypedWhereNothingFails : Type 0
TypedWhereNothingFails = (C : Context) (ls : List Binding) (e : ExprSyn) → AllTyped ls → none_of (fails C ls e) ≡ is_some (typed C ls e)

-- a call has a checked tree and is what is wished exactly where it has no failure, where each local in scope has a type
abbrev pub CalledWhereNothingFails : Type 0
CalledWhereNothingFails = (C : Context) (ls : List Binding) (w : Wish) (q : Place) (e : ExprSyn) → AllTyped ls → none_of (call_fails C ls w q e) ≡ is_some (wished w (typed_call C ls e))

-- a type means something exactly where it has no failure
abbrev pub ResolvedWhereNothingFails : Type 0
ResolvedWhereNothingFails = (C : Context) (ls : List Binding) (t : TypeSyn) → none_of (type_fails C ls t) ≡ is_some (resolved_type C ls t)

-- a class with its arguments is one exactly where it has no failure
abbrev pub ClassWhereNothingFails : Type 0
ClassWhereNothingFails = (C : Context) (ls : List Binding) (c : NamedSyn) → none_of (class_fails C ls c) ≡ is_some (resolved_class C ls c)

-- the test decides the subtype relation, where no way up is longer than there are types
abbrev pub TestDecidesSubtypes : Type 0
TestDecidesSubtypes = (D : List DeclaredType) (t u : TypeExpr) → WaysEnd D → (is_subtype D t u ≡ true) ↔ Subtype D t u
