use Rattle.std.proofs.Common.{◌∙◌}
use Rattle.th_table.proofs.Said.{bridge_puts, bridge_part}
use Rattle.th_table.proofs.put.put_bridge.Goals as goal

pub returns-in-Ok : goal.returns-in-Ok
returns-in-Ok g c = bridge_puts c.put_text-in-Ok.result c.args.distance c.as_bytes.result.now _ _ _ c.if-distance-eq0.false (c.as_bytes.ensures.value ∙ c.format.ensures.text) c.in-Ok.ensures c.put_text-in-Ok.ensures

pub returns-in-Err : goal.returns-in-Err
returns-in-Err g c = bridge_part c.args.distance _ _ c.if-distance-eq0.false c.in-Err.ensures
