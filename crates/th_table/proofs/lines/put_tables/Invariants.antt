use Rattle.std.proofs.Common.{map, drop}
use Rattle.th_table.specs.Putting.{Putting, told}
use Rattle.th_table.specs.Dump.{tables_dump}
use Rattle.th_table.proofs.lines.put_tables.Given as goal

abbrev pub invariant-loop-k : goal.invariant-loop-k
invariant-loop-k g l = Putting (tables_dump l.names l.k (drop l.k l.tables)) (tables_dump l.names 0 l.tables) (told (g.K.Sink.put_bytes l.fn.sink) (g.K.Sink.faults l.fn.sink)) (told (g.K.Sink.put_bytes l.sink) (g.K.Sink.faults l.sink))
