-- Laws of the rules of statements.
use Rattle.std.specs.Prelude.{◌≡◌, ℕ, Bool, is_some, List}
use Rattle.th_tree.specs.Trees.{BodySyn}
use Rattle.th_type.specs.Failures.{none_of}
use Rattle.th_rules.specs.Context.{Binding, Context}
use Rattle.th_rules.specs.AllTyped.{AllTyped}
use Rattle.th_stmt_rules.specs.Bodies.{body_core}
use Rattle.th_stmt_rules.specs.Failing.{body_fails}
use Rattle.th_stmt_rules.specs.Units.{unit_fails, unit_core}

-- statements have a checked tree exactly where they have no failure but for those on exceptions that nothing handles,
-- where each local in scope has a type
abbrev pub BodyWhereNothingFails : Type 0
BodyWhereNothingFails = (C : Context) (ls : List Binding) (looping : Bool) (n : ℕ) (b : BodySyn) → AllTyped ls → none_of (body_fails C ls looping n b) ≡ is_some (body_core C ls looping n b)

-- the body of a unit has a checked tree exactly where nothing fails in it, where each formal has a type
abbrev pub UnitWhereNothingFails : Type 0
UnitWhereNothingFails = (C : Context) (ls : List Binding) (b : BodySyn) → AllTyped ls → none_of (unit_fails C ls b) ≡ is_some (unit_core C ls b)
