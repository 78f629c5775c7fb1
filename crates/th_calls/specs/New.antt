-- New objects, without where they lie in memory.
use Rattle.std.specs.Prelude.{ℕ, Bool, true, is_some, List, Option, Some, None}
use Rattle.th_type.specs.Types.{TypeExpr, TypeExprs, named_ty, list_of, subst_ty, ty_of, tys_of}
use Rattle.th_type.specs.Signatures.{Signature, sig_of, subst_sig}
use Rattle.th_meaning.specs.Trees.{SupplyTree, CastTree, cast_expr, new_expr, ExprTrees}
use Rattle.th_calls.specs.declared.new.NewPart.{NewPart}
use Rattle.th_rules.specs.Context.{Context}
use Rattle.th_rules.specs.Resolving.{ClassUse}
use Rattle.th_rules.specs.Cores.{name_at, core_type, core_types}
use Rattle.th_rules.specs.Callees.{Checked, checked, Given, untyped, misfit, fitting, given_all, class_supplies}
use Rattle.th_supply.specs.View.{supplies_opt}

-- the class of a new object with its arguments: the type that it is for and the signature of its initializer, both with
-- the arguments substituted, and what stands for its where-clauses
pub record NewUse : Type 0 where
  pub full : ℕ
  pub args : TypeExprs
  pub of : TypeExpr
  pub init : Signature
  pub supplies : Option (List SupplyTree)

abbrev pub new_of : NewPart → NewUse
new_of p = record { full = p.full; args = tys_of p.args; of = ty_of p.of; init = sig_of p.init; supplies = supplies_opt p.supplies }

abbrev pub new_opt : Option NewPart → Option NewUse
new_opt None = None
new_opt (Some p) = Some (new_of p)

-- a class as that of a new object
abbrev pub new_use : Context → Option ClassUse → Option NewUse
new_use C None = None
new_use C (Some u) = Some (record { full = u.full; args = u.args; of = subst_ty (list_of u.args) u.class.of; init = subst_sig (list_of u.args) u.class.init; supplies = class_supplies C u })

-- the signature of the initializer
abbrev pub new_sig : Option NewUse → Option Signature
new_sig None = None
new_sig (Some u) = Some u.init

-- whether the where-clauses of the class are satisfied, or there is no class
abbrev pub is_made : Option NewUse → Bool
is_made None = true
is_made (Some u) = is_some u.supplies

-- the cast of an object of a class to the type that the class is for
abbrev pub class_cast : List (List ℕ) → ℕ → TypeExprs → TypeExpr → CastTree
class_cast names full args of = record { from = core_type names (named_ty full args); to = core_type names of }

abbrev pub made_by : List (List ℕ) → NewUse → Option (List SupplyTree) → Given ExprTrees → Option Checked
made_by names u None es = None
made_by names u (Some ss) untyped = None
made_by names u (Some ss) misfit = None
made_by names u (Some ss) (fitting es) = Some (checked (cast_expr (class_cast names u.full u.args u.of) (new_expr (name_at names u.full) (core_types names u.args) ss es)) u.of)

-- the new object with given arguments
abbrev pub made_with : List (List ℕ) → NewUse → Given ExprTrees → Option Checked
made_with names u es = made_by names u u.supplies es

-- the new object with arguments, each with its type where it has one
abbrev pub made_new : Context → Option NewUse → List (Option Checked) → Option Checked
made_new C None xs = None
made_new C (Some u) xs = made_with C.names u (given_all C u.init.formals xs)
