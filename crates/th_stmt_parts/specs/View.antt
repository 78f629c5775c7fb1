-- What the code holds, without where it lies in memory.
use Rattle.std.specs.Prelude.{List, [], ◌∷◌, Option, Some, None, option_map}
use Rattle.th_type.specs.Types.{ty_of}
use Rattle.th_meaning.specs.Trees.{CastTree, Variable}
use Rattle.th_meaning.specs.declared.stmt.CoreVariable.{CoreVariable}
use Rattle.th_meaning.specs.View.{cast_of, variable_of}
use Rattle.th_rules.specs.Context.{Binding}
use Rattle.th_rules.specs.Callees.{Given, untyped, misfit, fitting}
use Rattle.th_stmt_rules.specs.Exceptions.{Exception}
use Rattle.th_stmt_parts.specs.declared.exception.Exception.{Exception as CodeException}
use Rattle.th_stmt_parts.specs.declared.cast.GivenCast.{GivenCast}
use Rattle.th_stmt_parts.specs.declared.cast.GivenCast.TheVariants as casts

-- an exception with the type of its argument
abbrev pub exception_view : CodeException → Exception
exception_view x = record { key = x.key; argument = option_map (λ t. ty_of t.now) x.argument }

-- an exception that there may be
abbrev pub exception_opt : Option CodeException → Option Exception
exception_opt None = None
exception_opt (Some x) = Some (exception_view x)

-- the cast of what is yielded
abbrev pub given_cast : GivenCast → Given (Option CastTree)
given_cast casts.Untyped = untyped
given_cast casts.Misfit = misfit
given_cast (casts.Fits c) = fitting (option_map cast_of c)

-- a local that there may be
abbrev pub variable_opt : Option CoreVariable → Option Variable
variable_opt None = None
variable_opt (Some v) = Some (variable_of v)

-- the first locals the other way round, before the second
abbrev pub locals_onto : List Binding → List Binding → List Binding
locals_onto [] done = done
locals_onto (b ∷ bs) done = locals_onto bs (b ∷ done)
