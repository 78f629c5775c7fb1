use Rattle.std.proofs.Common.{◌∙◌, arith}
use Rattle.std.proofs.lemmas.Bool.Decides.{nat_tests}
use Rattle.th_type.proofs.Pooled.{put_absent}
use Rattle.th_type.proofs.pool.put.Goals as goal

pub returns-in-Ok-clause-entries : goal.returns-in-Ok-clause-entries
returns-in-Ok-clause-entries c = c.in-Ok.ensures.entries ∙ put_absent _ (λ a b. grind (arith, nat_tests)) c.args.cell c.args.kept c.args.cells.now.entries c.requires
