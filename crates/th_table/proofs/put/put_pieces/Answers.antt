use Rattle.std.proofs.Common.{refl}
use Rattle.th_table.specs.Dump.{piece_bytes, slot_line, class_dump}
use Rattle.th_table.proofs.Said.{put_start, text_step, text_fault, text_end}
use Rattle.th_table.proofs.put.put_pieces.Goals as goal

pub loop-piece-init : goal.loop-piece-init
loop-piece-init g c = put_start _ _

pub returns-in-Err : goal.returns-in-Err
returns-in-Err g c = text_fault (piece_bytes c.args.names.now) c.args.pieces.now c.loop-piece.piece-index _ _ _ _ _ _ c.loop-piece-test.true refl c.loop-piece.invariant c.in-Err.ensures

pub loop-piece-preserved : goal.loop-piece-preserved
loop-piece-preserved g c = text_step (piece_bytes c.args.names.now) c.args.pieces.now c.loop-piece.piece-index _ _ _ _ _ _ c.loop-piece-test.true refl c.loop-piece.invariant c.in-Ok.ensures

pub returns : goal.returns
returns g c = text_end (piece_bytes c.args.names.now) c.args.pieces.now c.loop-piece.piece-index _ _ _ c.loop-piece-test.false c.loop-piece.invariant
