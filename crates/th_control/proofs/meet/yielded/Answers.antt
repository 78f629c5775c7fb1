use Rattle.std.proofs.Common.{◌≡◌, ◌+◌, arith}
use Rattle.th_control.proofs.Cuts.{yields_cut}
use Rattle.th_control.proofs.meet.yielded.Goals as goal

pub returns-in-Some : goal.returns-in-Some
returns-in-Some c =
    let e : c.in-Some.more ≡ c.in-Cut.loops + 1 = omega (arith, c.in-Some.ensures) in
    yields_cut c.args.how c.in-Cut.leave c.in-Cut.loops c.in-Some.more c.in-Cut.is e
