use Rattle.std.proofs.Common.{◌∙◌, length, sym, subst}
use Rattle.th_inherits.specs.Rows.{row_of, rows_of}
use Rattle.th_inherits.specs.Tables.{Passed, lists_of}
use Rattle.th_inherits.proofs.Placing.{map_long}
use Rattle.th_inherits.proofs.Passing.{settled_of, still_long}
use Rattle.th_inherits.proofs.table.settle.Goals as goal

pub loop-turn-preserved : goal.loop-turn-preserved
loop-turn-preserved c = record {
  reached = c.in_ok-pass.ensures.reached (c.in_ok-pass_in.ensures.reached (c.in_ok-spin.ensures.reached c.loop-turn.invariant.reached));
  long = still_long c.pass.new.table.items c.loop-turn.table.items (length c.args.rows.now) (c.in_ok-pass.ensures.long ∙ (c.in_ok-pass_in.ensures.long ∙ c.in_ok-spin.ensures.long)) c.loop-turn.invariant.long;
}

pub returns-then-not-branch : goal.returns-then-not-branch
returns-then-not-branch c =
    let rows = rows_of c.args.rows.now in
    let old = lists_of c.pass_in.new.table.items in
    let new = lists_of c.pass.new.table.items in
    settled_of rows (length c.args.rows.now) old new (sym (map_long row_of c.args.rows.now))
    (subst (λ b. Passed rows (length c.args.rows.now) old new b) c.if-not-branch.true c.in_ok-pass.ensures) (c.in_ok-pass_in.ensures.reached (c.in_ok-spin.ensures.reached c.loop-turn.invariant.reached))
