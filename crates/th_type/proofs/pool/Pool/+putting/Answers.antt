use Rattle.std.proofs.Common.{◌≡◌, ◌+◌, ◌<◌, ◌≤◌, sym, subst, arith}
use Rattle.th_type.specs.declared.ty.Ty.{Ty}
use Rattle.th_type.specs.declared.ty.TyList.{TyList}
use Rattle.th_type.specs.Types.{ty_of, tys_of, list_of, subst_ty, ty_height}
use Rattle.th_type.specs.Pool.{ty_parts, tys_parts, shape_ty, shapes_tys}
use Rattle.th_type.proofs.Pooling.{Putting, putting_more, putting_high}
use Rattle.th_type.proofs.pool.Pool.+putting.Goals as goal

pub shape_with-returns-in-Param-clause-high : goal.shape_with-returns-in-Param-clause-high
shape_with-returns-in-Param-clause-high c c' = c'.given.ensures.fits c'.args.self.now c'.requires

pub list_with-returns-in-None-clause-made : goal.list_with-returns-in-None-clause-made
list_with-returns-in-None-clause-made c c' =
    let ts = c'.args.self.now in
    let us = c'.loop-rest.self in
    let args = c'.args.args.now in
    let ss = c'.loop-rest.shapes.items in
    let first = c'.in-MoreTy.first.value in
    let next = c'.in-MoreTy.next.value in
    let p = subst (λ (r : TyList). Putting ts us args ss (tys_of r) (tys_of c'.args.list.now)) c'.in-MoreTy.is c'.loop-rest.invariant.0 in
    let l = subst (λ (t : Ty). 600 < ty_height (subst_ty (list_of (shapes_tys us args)) (ty_of t))) c'.deref.ensures (rw c'.in-None.is at c'.in_ok-shape.ensures.high) in
    putting_high ts us args ss (ty_of first) (tys_of next) (tys_of c'.args.list.now) c'.requires p l

pub list_with-loop-rest-preserved : goal.list_with-loop-rest-preserved
list_with-loop-rest-preserved c c' =
    let ts = c'.args.self.now in
    let us = c'.loop-rest.self in
    let vs = c'.shape_with.new.self in
    let args = c'.args.args.now in
    let ss = c'.loop-rest.shapes.items in
    let first = c'.in-MoreTy.first.value in
    let next = c'.in-MoreTy.next.value in
    let s = c'.in-Some.shape in
    let all = tys_of c'.args.list.now in
    let p = subst (λ (r : TyList). Putting ts us args ss (tys_of r) all) c'.in-MoreTy.is c'.loop-rest.invariant.0 in
    let e = subst (λ (t : Ty). shape_ty vs s ≡ subst_ty (list_of (shapes_tys us args)) (ty_of t)) c'.deref.ensures (rw c'.in-Some.is at c'.in_ok-shape.ensures.made) in
    let q = putting_more ts us vs args ss s (ty_of first) (tys_of next) all c'.requires p c'.in_ok-shape.ensures.grown (rw c'.in-Some.is at c'.in_ok-shape.ensures.high) e in
    let r = subst (λ xs. Putting ts vs args xs (tys_of next) all) (sym c'.in_ok-push-in-Some.ensures.items) q in
    let k : 1 + (ty_parts first + tys_parts next) ≤ tys_parts c'.args.list.now = subst (λ (r : TyList). tys_parts r ≤ tys_parts c'.args.list.now) c'.in-MoreTy.is c'.loop-rest.invariant.1 in (
      subst (λ (r : TyList). Putting ts vs args c'.push.new.self.items (tys_of r) all) (sym c'.deref-rest.ensures) r,
      subst (λ (r : TyList). tys_parts r ≤ tys_parts c'.args.list.now) (sym c'.deref-rest.ensures) (omega (arith, k)),
    )
