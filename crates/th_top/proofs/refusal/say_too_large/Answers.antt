use Rattle.std.proofs.Common.{◌++◌}
use Rattle.std.specs.Prelude.{codes}
use Rattle.std.specs.Fmt.{decimal}
use Rattle.th_top.proofs.Said.{then_all-as, part_then-as, four_behind}
use Rattle.th_top.proofs.refusal.say_too_large.Goals as goal

pub returns-in-Ok : goal.returns-in-Ok
returns-in-Ok g c =
    then_all-as c.say_numbers.result _ _ _ _ _ _ (four_behind (codes "too large " ++ c.args.word.now) (codes " ") (decimal c.args.count) (codes " at ") (decimal c.args.at)) c.in-Ok.ensures c.say_numbers.ensures

pub returns-in-Err : goal.returns-in-Err
returns-in-Err g c =
    part_then-as _ _ _ _ _ (four_behind (codes "too large " ++ c.args.word.now) (codes " ") (decimal c.args.count) (codes " at ") (decimal c.args.at)) c.in-Err.ensures
