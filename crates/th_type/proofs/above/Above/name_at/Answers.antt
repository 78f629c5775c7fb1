use Rattle.std.proofs.Common.{◌∙◌, ap, option_map}
use Rattle.th_type.specs.Pool.{tys_at}
use Rattle.th_type.specs.Tables.{entry_ty}
use Rattle.th_type.proofs.Args.{get_map}
use Rattle.th_type.proofs.above.Above.name_at.Goals as goal

pub returns : goal.returns
returns c ts = (tys_at ts c.entry_at.result.1, get_map (entry_ty ts) c.args.self.now.map.entries c.args.k ∙ ap (option_map (entry_ty ts)) c.entry_at.ensures)
