use Rattle.std.proofs.Common.{refl}
use Rattle.th_table.specs.Dump.{piece_bytes, slot_line, class_dump}
use Rattle.th_table.proofs.Said.{put_start, text_step, text_fault, text_end}
use Rattle.th_table.proofs.lines.put_slots.Goals as goal

pub loop-slot-init : goal.loop-slot-init
loop-slot-init g c = put_start _ _

pub returns-in-Err : goal.returns-in-Err
returns-in-Err g c = text_fault (slot_line c.args.names.now) c.args.slots.now c.loop-slot.slot-index _ _ _ _ _ _ c.loop-slot-test.true refl c.loop-slot.invariant c.in-Err.ensures

pub loop-slot-preserved : goal.loop-slot-preserved
loop-slot-preserved g c = text_step (slot_line c.args.names.now) c.args.slots.now c.loop-slot.slot-index _ _ _ _ _ _ c.loop-slot-test.true refl c.loop-slot.invariant c.in-Ok.ensures

pub returns : goal.returns
returns g c = text_end (slot_line c.args.names.now) c.args.slots.now c.loop-slot.slot-index _ _ _ c.loop-slot-test.false c.loop-slot.invariant
