use Rattle.std.proofs.Common.{◌∙◌, ap, sym}
use Rattle.th_type.specs.Failures.{lowest}
use Rattle.th_type.proofs.Least.{lowest_append}
use Rattle.th_module_rules.specs.Inheriting.{row_fails}
use Rattle.th_inherits.specs.Rows.{row_of, rows_of}
use Rattle.th_inherits.specs.Judging.{high_fails}
use Rattle.th_inherits.proofs.judge.judge_class.Goals as goal

pub returns : goal.returns
returns c =
    let rows = rows_of c.args.rows.now in
    let r = row_of c.args.row.now in
    let fs = row_fails c.args.fulls.now rows r in
    let gs = high_fails c.reaches_high-high.result r.inherits in (
      c.reaches_high-high.result,
      c.reaches_high-high.ensures rows c.requires.places c.requires.settled,
      c.judge_height.ensures ∙ (ap (λ o. lowest o gs) c.judge_row.ensures ∙ sym (lowest_append c.args.least.now fs gs)),
    )
