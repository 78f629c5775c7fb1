use Rattle.th_table.specs.Dump.{class_line, tables_dump}
use Rattle.th_table.proofs.Said.{then_list, part_then}
use Rattle.th_table.proofs.lines.put_class.Goals as goal

pub returns-in-Ok : goal.returns-in-Ok
returns-in-Ok g c = then_list c.put_tables.result (tables_dump c.args.names.now 0) c.args.class.now.tables.items c.deref.result.now (class_line c.args.names.now c.args.class.now) _ _ _ c.deref.ensures.value c.in-Ok.ensures c.put_tables.ensures

pub returns-in-Err : goal.returns-in-Err
returns-in-Err g c = part_then _ _ _ _ c.in-Err.ensures
