use Rattle.std.proofs.Common.{refl}
use Rattle.th_table.specs.Dump.{piece_bytes, slot_line, class_dump}
use Rattle.th_table.proofs.Said.{put_start, table_step, table_fault, table_end}
use Rattle.th_table.proofs.lines.put_tables.Goals as goal

pub loop-k-init : goal.loop-k-init
loop-k-init g c = put_start _ _

pub returns-in-Err : goal.returns-in-Err
returns-in-Err g c = table_fault c.args.names.now c.args.tables.now c.loop-k.k c.index-tables-k.result c.index-tables-k.result _ _ _ _ c.loop-k-test.true c.index-tables-k.is c.loop-k.invariant c.in-Err.ensures

pub loop-k-preserved : goal.loop-k-preserved
loop-k-preserved g c = table_step c.args.names.now c.args.tables.now c.loop-k.k c.index-tables-k.result c.index-tables-k.result _ _ _ _ c.loop-k-test.true c.index-tables-k.is c.loop-k.invariant c.in-Ok.ensures

pub returns : goal.returns
returns g c = table_end c.args.names.now c.args.tables.now c.loop-k.k c.loop-k.k _ _ _ c.loop-k-test.false c.loop-k.invariant
