use Rattle.std.proofs.Common.{◌≡◌, ◌∙◌, ℕ, sym, subst, length, ◌<◌}
use Rattle.std.proofs.lemmas.Result.{IfOk-weaker}
use Rattle.std.specs.Global.{Vec}
use Rattle.th_type.specs.Types.{tys_of}
use Rattle.th_inherits.specs.Rows.{row_of, rows_of}
use Rattle.th_inherits.specs.Tables.{lists_of, Took, TookFrom}
use Rattle.th_inherits.proofs.Placing.{map_long, slice_of}
use Rattle.th_inherits.proofs.Passing.{took_of, took_none}
use Rattle.th_inherits.proofs.table.take_over.Goals as goal

pub returns-in-None : goal.returns-in-None
returns-in-None c =
    let rows = c.args.rows.now in
    let r = c.index-rows-place.result in
    took_none (rows_of rows) c.args.place (row_of r) (lists_of c.args.table.now.items) (slice_of row_of rows c.args.place r c.requires.within c.index-rows-place.is) (sym c.in-None.ensures)

pub returns-in-Some : goal.returns-in-Some
returns-in-Some c =
    let rows = c.args.rows.now in
    let place = c.args.place in
    let r = c.index-rows-place.result in
    let old = lists_of c.args.table.now.items in
    let new = lists_of c.take_from.new.table.items in
    let m = c.in-Some.inherited in
    let ts = tys_of c.in-Some.args.now in
    let h : place < length rows = c.requires.within in
    let long : length rows ≡ length old = sym (map_long (λ (v : Vec ℕ). v.items) c.args.table.now.items ∙ c.requires.long) in
    IfOk-weaker c.take_from.result (λ grew. TookFrom (rows_of rows) place r.full m ts old new grew) (λ grew. Took (rows_of rows) place old new grew)
    (λ grew t. took_of (rows_of rows) place (row_of r) m ts old new grew (slice_of row_of rows place r h c.index-rows-place.is) (sym c.in-Some.ensures) (subst (λ n. place < n) long h) t)
    (c.take_from.ensures (rows_of rows) c.requires.places)
