use Rattle.std.proofs.Common.{◌∙◌}
use Rattle.indexmap.proofs.CallerLemmas.{insert_entry-new}
use Rattle.th_shape.proofs.results.Results.put.Goals as goal

pub returns-in-Ok : goal.returns-in-Ok
returns-in-Ok c = c.in-Ok.ensures.entries ∙ insert_entry-new _ c.args.self.now.of c.args.method c.args.head c.requires
