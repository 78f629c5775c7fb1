use Rattle.th_top.proofs.Said.{then_all, part_then}
use Rattle.th_top.proofs.refusal.say_refused.Goals as goal

pub returns-in-Ok : goal.returns-in-Ok
returns-in-Ok g c = then_all c.say_refusal_line.result _ _ _ _ _ (rw c.as_bytes.ensures.value at c.in-Ok.ensures) c.say_refusal_line.ensures

pub returns-in-Err : goal.returns-in-Err
returns-in-Err g c = part_then _ _ _ _ (rw c.as_bytes.ensures.value at c.in-Err.ensures)
