use Rattle.std.proofs.Common.{◌∙◌, ap, sym, subst, Option, Some}
use Rattle.th_tree.specs.View.{type_of}
use Rattle.th_type.specs.declared.ty.Ty.{Ty}
use Rattle.th_type.specs.declared.place.Failure.{Failure}
use Rattle.th_type.specs.Failures.{IsLeastOf}
use Rattle.th_type.specs.Lists.{IsIn}
use Rattle.th_hier.specs.Scopes.{failures_in, seen_in}
use Rattle.th_hier.specs.Views.{ty_opt}
use Rattle.th_hier.proofs.Exact.{type_failure, refused, no_failure, means_some, named_by, other_rule}
use Rattle.th_hier.proofs.scope.resolve_in.Goals as goal

pub returns-then-failure-eq4 : goal.returns-then-failure-eq4
returns-then-failure-eq4 c =
    let f = c.in-Some.failure in
    let r = refused c.args.index.now (seen_in c.args.scope.now) 0 (type_of c.args.tree.now) c.in-Ok.least f c.in-Ok.ensures.least c.in-Some.is in
    let o = type_failure c.args.index.now (seen_in c.args.scope.now) 0 (type_of c.args.tree.now) f r.1.0 in
    (r.0, subst (λ (g : Failure). IsLeastOf (λ h. IsIn h (failures_in c.args.index.now c.args.scope.now (type_of c.args.tree.now))) (Some g)) (named_by 0 4 f o c.if-failure-eq4.true) r.1)

pub returns-in-Some : goal.returns-in-Some
returns-in-Some c =
    let f = c.in-Some.failure in
    let r = refused c.args.index.now (seen_in c.args.scope.now) 0 (type_of c.args.tree.now) c.in-Ok.least f c.in-Ok.ensures.least c.in-Some.is in
    let o = type_failure c.args.index.now (seen_in c.args.scope.now) 0 (type_of c.args.tree.now) f r.1.0 in
    (r.0, subst (λ (g : Failure). IsLeastOf (λ h. IsIn h (failures_in c.args.index.now c.args.scope.now (type_of c.args.tree.now))) (Some g)) (named_by 0 5 f o (other_rule 0 f o c.if-failure-eq4.false)) r.1)

pub returns-in-Some-ty : goal.returns-in-Some-ty
returns-in-Some-ty c = (
  sym c.in-Ok.ensures.means ∙ ap (λ (x : Option Ty). ty_opt x) c.in-Some-ty.is,
  no_failure c.args.index.now (seen_in c.args.scope.now) 0 (type_of c.args.tree.now) c.in-Ok.least c.in-Ok.ensures.least c.in-None.is,
)

pub unreachable-requires : goal.unreachable-requires
unreachable-requires c =
    means_some c.args.index.now (seen_in c.args.scope.now) 0 (type_of c.args.tree.now)
    (no_failure c.args.index.now (seen_in c.args.scope.now) 0 (type_of c.args.tree.now) c.in-Ok.least c.in-Ok.ensures.least c.in-None.is)
    (sym c.in-Ok.ensures.means ∙ ap (λ (x : Option Ty). ty_opt x) c.in-None-ty.is)
