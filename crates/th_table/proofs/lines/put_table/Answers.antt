use Rattle.std.proofs.Common.{map}
use Rattle.th_table.specs.Dump.{joined, slot_line, word_line}
use Rattle.th_table.proofs.Said.{then_list, part_then}
use Rattle.th_table.proofs.lines.put_table.Goals as goal

pub returns-in-Ok : goal.returns-in-Ok
returns-in-Ok g c = then_list c.put_slots.result (λ l. joined (map (slot_line c.args.names.now) l)) c.args.table.now.slots.items c.deref.result.now (word_line c.args.word c.args.table.now.distance) _ _ _ c.deref.ensures.value c.in-Ok.ensures c.put_slots.ensures

pub returns-in-Err : goal.returns-in-Err
returns-in-Err g c = part_then _ _ _ _ c.in-Err.ensures
