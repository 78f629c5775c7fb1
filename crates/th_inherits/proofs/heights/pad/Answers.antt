use Rattle.std.proofs.Common.{◌∙◌, ap, sym, arith}
use Rattle.th_inherits.specs.Heights.{padded}
use Rattle.th_inherits.proofs.Padding.{pad_step, pad_done}
use Rattle.th_inherits.proofs.heights.pad.Goals as goal

pub loop-heights-preserved : goal.loop-heights-preserved
loop-heights-preserved c =
    let a = c.loop-heights.heights.ok.0 in
    let b = c.len.ensures in
    let d = c.loop-heights-test.true in
    ap (padded c.args.place) c.in_ok-push.ensures.items ∙ (pad_step c.args.place c.loop-heights.heights.items (omega (arith, a, b, d)) ∙ c.loop-heights.invariant)

pub returns : goal.returns
returns c =
    let a = c.loop-heights.heights.ok.0 in
    let b = c.len.ensures in
    let d = c.loop-heights-test.false in
    sym (pad_done c.args.place c.loop-heights.heights.items (omega (arith, a, b, d))) ∙ c.loop-heights.invariant
