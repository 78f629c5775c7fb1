use Rattle.std.proofs.Common.{refl}
use Rattle.th_weights.proofs.Tabling.{adds_type}
use Rattle.th_weights.proofs.table.add_type.Goals as goal

pub returns : goal.returns
returns c = λ done h. adds_type c.args.table.now _ c.args.of c.as_bytes.result.now done refl c.as_bytes.ensures c.in_ok-name_type.ensures h
