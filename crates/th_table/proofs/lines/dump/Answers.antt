use Rattle.std.proofs.Common.{refl}
use Rattle.th_table.specs.Dump.{piece_bytes, slot_line, class_dump}
use Rattle.th_table.proofs.Said.{put_start, slice_step, slice_fault, slice_end}
use Rattle.th_table.proofs.lines.dump.Goals as goal

pub loop-class-init : goal.loop-class-init
loop-class-init g c = put_start _ _

pub returns-in-Err : goal.returns-in-Err
returns-in-Err g c = slice_fault (class_dump c.args.names.now) c.args.tables.now.list.items c.deref-class-items.result.now c.loop-class.class-index c.class-item.result c.class-item.result _ _ _ _ c.deref-class-items.ensures.value c.loop-class-test.true c.class-item.is c.loop-class.invariant c.in-Err.ensures

pub loop-class-preserved : goal.loop-class-preserved
loop-class-preserved g c = slice_step (class_dump c.args.names.now) c.args.tables.now.list.items c.deref-class-items.result.now c.loop-class.class-index c.class-item.result c.class-item.result _ _ _ _ c.deref-class-items.ensures.value c.loop-class-test.true c.class-item.is c.loop-class.invariant c.in-Ok.ensures

pub returns : goal.returns
returns g c = slice_end (class_dump c.args.names.now) c.args.tables.now.list.items c.deref-class-items.result.now c.loop-class.class-index _ _ _ c.deref-class-items.ensures.value c.loop-class-test.false c.loop-class.invariant
