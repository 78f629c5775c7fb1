-- The body of a unit, which starts with the unit's formals as the locals in scope.
use Rattle.std.specs.Prelude.{ℕ, Bool, false, not, ◌||◌, List, ◌++◌, Option, is_some, length}
use Rattle.th_tree.specs.Trees.{BodySyn}
use Rattle.th_type.specs.declared.place.Failure.{Failure}
use Rattle.th_type.specs.Failures.{place, unless, none_of}
use Rattle.th_type.specs.Signatures.{Signature}
use Rattle.th_meaning.specs.Trees.{BodyTree}
use Rattle.th_rules.specs.Context.{Binding, Context}
use Rattle.th_stmt_rules.specs.Bodies.{where_true, result_of, body_core}
use Rattle.th_stmt_rules.specs.Ending.{body_ends}
use Rattle.th_stmt_rules.specs.Failing.{body_fails}
use Rattle.th_stmt_rules.specs.Raising.{body_raises}

-- the failures in the body of a unit that lists exceptions, but for the rule on its end
abbrev pub unit_fails : Context → List Binding → BodySyn → List Failure
unit_fails C ls b = body_fails C ls false (length ls) b ++ body_raises C ls C.sig.signals (length ls) b

-- the checked tree of the body of a unit, where nothing fails in it but for the rule on its end
abbrev pub unit_core : Context → List Binding → BodySyn → Option BodyTree
unit_core C ls b = where_true (none_of (body_raises C ls C.sig.signals (length ls) b)) (body_core C ls false (length ls) b)

-- a unit that returns a value has a body that ends
abbrev pub ends_lawfully : Signature → BodySyn → Bool
ends_lawfully s b = not (is_some (result_of s)) || body_ends b
