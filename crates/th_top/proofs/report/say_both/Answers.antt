use Rattle.th_top.proofs.Said.{then_all, part_then}
use Rattle.th_top.proofs.report.say_both.Goals as goal

pub returns-in-Ok : goal.returns-in-Ok
returns-in-Ok g c = then_all c.say-in-Ok.result c.args.first.now c.args.second.now _ _ _ c.in-Ok.ensures c.say-in-Ok.ensures

pub returns-in-Err : goal.returns-in-Err
returns-in-Err g c = part_then c.args.first.now c.args.second.now _ _ c.in-Err.ensures
