use Rattle.std.proofs.Common.{◌∙◌, sym}
use Rattle.th_inherits.specs.Rows.{rows_of}
use Rattle.th_inherits.proofs.Looping.{free_by, free_more}
use Rattle.th_inherits.proofs.loops.note.Goals as goal

pub returns-then-is_free_by-clause-free : goal.returns-then-is_free_by-clause-free
returns-then-is_free_by-clause-free c =
    let rows = rows_of c.args.rows.now in
    free_more rows c.args.free.now c.add.new.self c.args.full c.in_ok-add.ensures.numbers c.requires.free
    (free_by rows c.args.free.now c.args.looped.now c.args.full c.next_class.result c.requires.free c.requires.looped (sym c.has.ensures ∙ c.if-has.false) c.next_class.ensures (sym c.is_free_by.ensures ∙ c.if-is_free_by.true))
