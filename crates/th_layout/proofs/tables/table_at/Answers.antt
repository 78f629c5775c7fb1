use Rattle.th_layout.proofs.Running.{table_made}
use Rattle.th_layout.proofs.tables.table_at.Goals as goal

pub returns : goal.returns
returns c = table_made (record { types = c.args.types.now; classes = c.args.classes.now }) c.args.class c.args.word c.in_ok-map.map.entries c.in_ok-slots.slots.items c.slots_of.ensures.ordered c.in_ok-map.ensures c.in_ok-slots.ensures.values
