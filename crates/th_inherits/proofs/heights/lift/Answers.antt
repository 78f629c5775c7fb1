use Rattle.std.proofs.Common.{◌∙◌, ◌<◌, ap, sym, subst, arith, length, get_or}
use Rattle.std.proofs.Math.ListN.{set}
use Rattle.th_inherits.proofs.Padding.{pad_long, lift_low, lift_high}
use Rattle.th_inherits.proofs.heights.lift.Goals as goal

pub index-requires : goal.index-requires
index-requires c =
    let a = c.pad.new.heights.ok.0 in
    let h = subst (λ xs. c.args.place < length xs) (sym c.in_ok-pad.ensures) (pad_long c.args.place c.args.heights.now.items) in
    omega (arith, a, h)

pub index_mut-requires : goal.index_mut-requires
index_mut-requires c =
    let a = c.pad.new.heights.ok.0 in
    let h = subst (λ xs. c.args.place < length xs) (sym c.in_ok-pad.ensures) (pad_long c.args.place c.args.heights.now.items) in
    omega (arith, a, h)

pub returns-then-index-height : goal.returns-then-index-height
returns-then-index-height c =
    let e = c.in_ok-pad.ensures in
    ap (λ xs. set xs c.args.place c.args.height) e ∙ lift_low c.args.place c.args.height c.index.result.now c.index.result.now c.args.heights.now.items
    (c.index.ensures ∙ ap (λ xs. get_or xs c.args.place c.index.result.now) e) c.if-index-height.true

pub returns-else-index-height : goal.returns-else-index-height
returns-else-index-height c =
    let e = c.in_ok-pad.ensures in
    e ∙ lift_high c.args.place c.args.height c.index.result.now c.index.result.now c.args.heights.now.items
    (c.index.ensures ∙ ap (λ xs. get_or xs c.args.place c.index.result.now) e) c.if-index-height.false
