-- New objects of classes.
use Rattle.std.proofs.Common.{◌≡◌, List, Option, Some, None, refl}
use Rattle.th_type.specs.Types.{list_of, subst_ty, subst_tys}
use Rattle.th_type.specs.Signatures.{subst_sig}
use Rattle.th_meaning.specs.Trees.{SupplyTree, ExprTrees}
use Rattle.th_rules.specs.Context.{Context}
use Rattle.th_rules.specs.Resolving.{ClassUse}
use Rattle.th_rules.specs.Callees.{Checked, Given, untyped, misfit, fitting, given_all, class_supplies, class_supplied, init_sig}
use Rattle.th_rules.specs.Typing.{made, new_object}
use Rattle.th_calls.specs.New.{NewUse, new_use, new_sig, is_made, made_by, made_new}

pub sig_is : (C : Context) (o : Option ClassUse) → new_sig (new_use C o) ≡ init_sig o
sig_is C None = refl
sig_is C (Some u) = refl

pub made_is : (C : Context) (o : Option ClassUse) → is_made (new_use C o) ≡ class_supplied C o
made_is C None = refl
made_is C (Some u) = refl

-- the class of a new object, with what stands for its where-clauses
abbrev use_by : ClassUse → Option (List SupplyTree) → NewUse
use_by u o = record { full = u.full; args = u.args; of = subst_ty (list_of u.args) u.class.of; init = subst_sig (list_of u.args) u.class.init; supplies = o }

made_same : (C : Context) (u : ClassUse) (o : Option (List SupplyTree)) (g : Given ExprTrees) → made C u o g ≡ made_by C.names (use_by u o) o g
made_same C u None g = refl
made_same C u (Some ss) untyped = refl
made_same C u (Some ss) misfit = refl
made_same C u (Some ss) (fitting es) = refl

pub object_is : (C : Context) (o : Option ClassUse) (xs : List (Option Checked)) → new_object C o xs ≡ made_new C (new_use C o) xs
object_is C None xs = refl
object_is C (Some u) xs = made_same C u (class_supplies C u) (given_all C (subst_tys (list_of u.args) u.class.init.formals) xs)
