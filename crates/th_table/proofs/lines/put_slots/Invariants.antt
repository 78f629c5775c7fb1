use Rattle.std.proofs.Common.{map, drop}
use Rattle.th_table.specs.Putting.{Putting, told}
use Rattle.th_table.specs.Dump.{joined, slot_line}
use Rattle.th_table.proofs.lines.put_slots.Given as goal

abbrev pub invariant-loop-slot : goal.invariant-loop-slot
invariant-loop-slot g l = Putting (joined (map (slot_line l.names) (drop l.slot-index l.slots))) (joined (map (slot_line l.names) l.slots)) (told (g.K.Sink.put_bytes l.fn.sink) (g.K.Sink.faults l.fn.sink)) (told (g.K.Sink.put_bytes l.sink) (g.K.Sink.faults l.sink))
