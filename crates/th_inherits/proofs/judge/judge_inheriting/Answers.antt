use Rattle.std.proofs.Common.{◌≤◌, take, sym, subst, add-one}
use Rattle.th_type.specs.Failures.{IsLeastOf}
use Rattle.th_module_rules.specs.Inheriting.{InheritingFails}
use Rattle.th_inherits.specs.Rows.{row_of, rows_of}
use Rattle.th_inherits.proofs.Placing.{map_long, take_all, take_more}
use Rattle.th_inherits.proofs.Judging.{judged_more}
use Rattle.th_inherits.proofs.judge.judge_inheriting.Goals as goal

pub loop-row-preserved : goal.loop-row-preserved
loop-row-preserved c =
    let fulls = c.args.fulls.now in
    let rows = rows_of c.args.rows.now in
    let own = c.args.own.now in
    let k = c.loop-row.row-index in
    let r = c.row-item.result in
    rw add-one
    (subst (λ rs. IsLeastOf (InheritingFails fulls rows rs) c.judge_class.new.least) (sym (take_more row_of own k r c.loop-row-test.true c.row-item.is))
    (judged_more fulls rows (take k (rows_of own)) (row_of r) c.loop-row.least c.judge_class.new.least c.loop-row.invariant c.judge_class.ensures))

pub returns : goal.returns
returns c =
    let fulls = c.args.fulls.now in
    let rows = rows_of c.args.rows.now in
    let own = c.args.own.now in
    subst (λ rs. IsLeastOf (InheritingFails fulls rows rs) c.loop-row.least)
    (take_all (rows_of own) c.loop-row.row-index (subst (λ n. n ≤ c.loop-row.row-index) (sym (map_long row_of own)) c.loop-row-test.false))
    c.loop-row.invariant
