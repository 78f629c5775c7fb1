use Rattle.std.proofs.Common.{map, drop}
use Rattle.th_table.specs.Putting.{Putting, told}
use Rattle.th_table.specs.Dump.{joined, piece_bytes}
use Rattle.th_table.proofs.put.put_pieces.Given as goal

abbrev pub invariant-loop-piece : goal.invariant-loop-piece
invariant-loop-piece g l = Putting (joined (map (piece_bytes l.names) (drop l.piece-index l.pieces))) (joined (map (piece_bytes l.names) l.pieces)) (told (g.K.Sink.put_bytes l.fn.sink) (g.K.Sink.faults l.fn.sink)) (told (g.K.Sink.put_bytes l.sink) (g.K.Sink.faults l.sink))
