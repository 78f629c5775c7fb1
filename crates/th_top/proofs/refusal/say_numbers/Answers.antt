use Rattle.std.proofs.Common.{◌++◌}
use Rattle.std.specs.Fmt.{decimal}
use Rattle.th_top.proofs.Said.{then_all-as, part_then-as, two_behind}
use Rattle.th_top.proofs.refusal.say_numbers.Goals as goal

pub returns-in-Ok : goal.returns-in-Ok
returns-in-Ok g c = then_all-as c.say_number-in-Ok.result _ _ _ _ _ _ (two_behind (c.args.first.now ++ decimal c.args.one) c.args.second.now (decimal c.args.other)) c.in-Ok.ensures c.say_number-in-Ok.ensures

pub returns-in-Err : goal.returns-in-Err
returns-in-Err g c = part_then-as _ _ _ _ _ (two_behind (c.args.first.now ++ decimal c.args.one) c.args.second.now (decimal c.args.other)) c.in-Err.ensures
