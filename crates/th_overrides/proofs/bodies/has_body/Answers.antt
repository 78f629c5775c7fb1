use Rattle.std.proofs.Common.{◌≡◌, ◌∙◌, ◌-◌, suc, sym, arith}
use Rattle.th_contexts.specs.BaseView.{base_of}
use Rattle.th_contexts.specs.Bases.{bases_of}
use Rattle.th_overrides.proofs.Lackings.{body_next}
use Rattle.th_overrides.proofs.bodies.has_body.Goals as goal

pub loop-left-preserved : goal.loop-left-preserved
loop-left-preserved c =
    let some = c.loop-left-test.true in
    let e : c.loop-left.left ≡ suc (c.loop-left.left - 1) = omega (arith, some) in
    sym (body_next (c.loop-left.left - 1) c.loop-left.left c.args.hierarchy.now.types (bases_of c.args.bases.now) c.args.own.now c.loop-left.at c.in-Some.full (base_of c.in-Some-at.base.now) c.args.method c.has_own.result
    e c.in-Some.is c.in-Some-at.ensures c.has_own.ensures c.if-has_own.false)
    ∙ c.loop-left.invariant
