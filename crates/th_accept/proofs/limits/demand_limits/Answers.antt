use Rattle.std.proofs.Common.{map}
use Rattle.th_meaning.specs.View.{module_of}
use Rattle.th_program.specs.Programs.{program_of}
use Rattle.th_accept.specs.Counts.{all_counts}
use Rattle.th_accept.proofs.Counting.{limits_exceeded, limits_kept}
use Rattle.th_accept.proofs.limits.demand_limits.Goals as goal

pub returns-in-Ok-None-clause-kept : goal.returns-in-Ok-None-clause-kept
returns-in-Ok-None-clause-kept c =
    limits_kept (all_counts c.args.tokens.now (program_of c.args.trees.now) (map module_of c.args.checked.now)) (rw c.in-Ok-None.field-0-is at c.in-Ok-None.ensures)

pub returns-in-Ok-Some-clause-exceeded : goal.returns-in-Ok-Some-clause-exceeded
returns-in-Ok-Some-clause-exceeded c =
    limits_exceeded (all_counts c.args.tokens.now (program_of c.args.trees.now) (map module_of c.args.checked.now)) c.in-Ok-Some.excess (rw c.in-Ok-Some.field-0-is at c.in-Ok-Some.ensures)
