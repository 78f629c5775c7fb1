use Rattle.std.proofs.Common.{◌≡◌, ◌≤◌, length, get_or, arith, ap}
use Rattle.th_offsets.proofs.Pushed.{own_short}
use Rattle.th_offsets.proofs.slots.raised_of.Goals as goal

pub overflow_cast-len : goal.overflow_cast-len
overflow_cast-len c =
    let k : length (get_or c.args.rows.now c.loop-row.row-index c.row-item.result).own ≤ 250 = own_short c.args.rows.now c.loop-row.row-index c.row-item.result c.loop-row-test.true c.requires in
    let e : length c.row-item.result.own ≡ length (get_or c.args.rows.now c.loop-row.row-index c.row-item.result).own = ap (λ r. length r.own) c.row-item.is in
    omega arith
