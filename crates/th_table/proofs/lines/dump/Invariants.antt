use Rattle.std.proofs.Common.{map, drop}
use Rattle.th_table.specs.Putting.{Putting, told}
use Rattle.th_table.specs.Dump.{joined, class_dump}
use Rattle.th_table.proofs.lines.dump.Given as goal

abbrev pub invariant-loop-class : goal.invariant-loop-class
invariant-loop-class g l = Putting (joined (map (class_dump l.names) (drop l.class-index l.tables.list.items))) (joined (map (class_dump l.names) l.tables.list.items)) (told (g.K.Sink.put_bytes l.fn.sink) (g.K.Sink.faults l.fn.sink)) (told (g.K.Sink.put_bytes l.sink) (g.K.Sink.faults l.sink))
