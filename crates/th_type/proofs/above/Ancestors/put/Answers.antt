use Rattle.std.proofs.Common.{◌∙◌}
use Rattle.indexmap.proofs.CallerLemmas.{insert_entry-new}
use Rattle.th_type.proofs.above.Ancestors.put.Goals as goal

pub returns-in-Ok-clause-entries : goal.returns-in-Ok-clause-entries
returns-in-Ok-clause-entries c = c.in-Ok.ensures.entries ∙ insert_entry-new _ c.args.self.now.map c.args.name c.args.above c.requires
