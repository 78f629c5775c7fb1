-- What the code holds of checked expressions, without where it lies in memory.
use Rattle.std.specs.Prelude.{List, [], ◌∷◌, Option, Some, None}
use Rattle.th_type.specs.Types.{TypeExprs, no_ty, more_ty, ty_of}
use Rattle.th_meaning.specs.Trees.{ExprTree, ExprTrees, no_expr}
use Rattle.th_meaning.specs.View.{expr_of, exprs_of}
use Rattle.th_meaning.specs.Onto.{exprs_onto}
use Rattle.th_typed.specs.declared.typed.Typed.{Typed}
use Rattle.th_typed.specs.declared.typed.TypedList.{TypedList}
use Rattle.th_typed.specs.declared.typed.TypedList.TheVariants.{NoTyped, MoreTyped'}
use Rattle.th_typed.specs.declared.typed.GivenOne.{GivenOne}
use Rattle.th_typed.specs.declared.typed.GivenOne.TheVariants as one
use Rattle.th_typed.specs.declared.typed.GivenAll.{GivenAll}
use Rattle.th_typed.specs.declared.typed.GivenAll.TheVariants as all
use Rattle.th_rules.specs.Callees.{Checked, checked, Given, untyped, misfit, fitting}

-- a checked expression with its type
abbrev pub typed_of : Typed → Checked
typed_of t = checked (expr_of t.core) (ty_of t.ty)

-- a checked expression, where there is one
abbrev pub typed_opt : Option Typed → Option Checked
typed_opt None = None
typed_opt (Some t) = Some (typed_of t)

-- checked expressions in order, where they are there
abbrev pub checks_of : TypedList → List (Option Checked)
checks_of NoTyped = []
checks_of (MoreTyped' x i xs) = typed_opt x ∷ checks_of xs

-- the first expressions the other way round, before the second
abbrev pub checks_onto : List (Option Checked) → List (Option Checked) → List (Option Checked)
checks_onto [] done = done
checks_onto (x ∷ xs) done = checks_onto xs (x ∷ done)

-- a value that is given
abbrev pub given_of : GivenOne → Given ExprTree
given_of one.Untyped = untyped
given_of one.Misfit = misfit
given_of (one.Fits e) = fitting (expr_of e)

-- values that are given
abbrev pub givens_of : GivenAll → Given ExprTrees
givens_of all.Untyped = untyped
givens_of all.Misfit = misfit
givens_of (all.Fits es) = fitting (exprs_of es)

-- the first values the other way round, before the second
abbrev pub turned_givens : Given ExprTrees → Given ExprTrees → Given ExprTrees
turned_givens untyped xs = untyped
turned_givens misfit untyped = untyped
turned_givens misfit misfit = misfit
turned_givens misfit (fitting es) = misfit
turned_givens (fitting done) untyped = untyped
turned_givens (fitting done) misfit = misfit
turned_givens (fitting done) (fitting es) = fitting (exprs_onto done es)

-- no arguments that are given to formals of these types
abbrev pub given_none : TypeExprs → Given ExprTrees
given_none no_ty = fitting no_expr
given_none (more_ty t ts) = misfit
