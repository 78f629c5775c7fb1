use Rattle.std.proofs.Common.{◌≡◌, ◌⊎◌, inl, inr, true, false, add-one}
use Rattle.th_inherits.specs.Rows.{rows_of}
use Rattle.th_inherits.specs.Tables.{lists_of}
use Rattle.th_inherits.proofs.Passing.{passed_next}
use Rattle.th_inherits.proofs.table.pass.Goals.{then-branch, else-branch}
use Rattle.th_inherits.proofs.table.pass.Goals as goal

pub loop-place-preserved : goal.loop-place-preserved
loop-place-preserved c =
    let b : ((c.in_ok-take_over.field-0 ≡ true) × (c.if-branch.grew ≡ true)) ⊎ ((c.in_ok-take_over.field-0 ≡ false) × (c.if-branch.grew ≡ c.loop-place.grew)) =
    elim c.if-branch.branch [ then-branch w ↦ inl (w.if-branch.true, w.grew-is) | else-branch w ↦ inr (w.if-branch.false, w.grew-is) ] in
    rw add-one
    (passed_next (rows_of c.args.rows.now) c.loop-place.place (lists_of c.args.table.now.items) (lists_of c.loop-place.table.items) (lists_of c.take_over.new.table.items) c.loop-place.grew c.in_ok-take_over.field-0 c.if-branch.grew c.loop-place.invariant c.in_ok-take_over.ensures b)
