-- Arguments that are given one after another.
use Rattle.std.proofs.Common.{◌≡◌, [], refl}
use Rattle.th_meaning.specs.Trees.{ExprTree, ExprTrees, no_expr}
use Rattle.th_type.specs.Types.{TypeExprs, no_ty, more_ty}
use Rattle.th_rules.specs.Context.{Context}
use Rattle.th_rules.specs.Callees.{Given, untyped, misfit, fitting, joined, given_all}
use Rattle.th_typed.specs.View.{turned_givens, given_none}

pub turned_start : (y : Given ExprTrees) → turned_givens (fitting no_expr) y ≡ y
turned_start untyped = refl
turned_start misfit = refl
turned_start (fitting es) = refl

pub turned_joined : (g : Given ExprTree) (d y : Given ExprTrees) → turned_givens (joined g d) y ≡ turned_givens d (joined g y)
turned_joined untyped untyped y = refl
turned_joined untyped misfit y = refl
turned_joined untyped (fitting ds) y = refl
turned_joined misfit untyped y = refl
turned_joined misfit misfit untyped = refl
turned_joined misfit misfit misfit = refl
turned_joined misfit misfit (fitting es) = refl
turned_joined misfit (fitting ds) untyped = refl
turned_joined misfit (fitting ds) misfit = refl
turned_joined misfit (fitting ds) (fitting es) = refl
turned_joined (fitting e) untyped y = refl
turned_joined (fitting e) misfit untyped = refl
turned_joined (fitting e) misfit misfit = refl
turned_joined (fitting e) misfit (fitting es) = refl
turned_joined (fitting e) (fitting ds) untyped = refl
turned_joined (fitting e) (fitting ds) misfit = refl
turned_joined (fitting e) (fitting ds) (fitting es) = refl

pub none_left : (C : Context) (ts : TypeExprs) → given_all C ts [] ≡ given_none ts
none_left C no_ty = refl
none_left C (more_ty t ts) = refl
