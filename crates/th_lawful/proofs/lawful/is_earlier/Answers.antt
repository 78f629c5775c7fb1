use Rattle.std.proofs.Common.{◌<◌, ◌-◌, arith}
use Rattle.th_lawful.proofs.Judging.{earlier_made}
use Rattle.th_lawful.proofs.lawful.is_earlier.Goals as goal

pub returns-then-class-number : goal.returns-then-class-number
returns-then-class-number c = λ _.
    let h : c.loop-back.back < c.args.k = c.loop-back-test.true in
    earlier_made c.args.classes.now c.args.k (c.args.k - 1 - c.loop-back.back) c.args.number _ c.index-classes-k.result (omega (arith, h)) c.requires c.index-classes-k.is c.if-class-number.true
