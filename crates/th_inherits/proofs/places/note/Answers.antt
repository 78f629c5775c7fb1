use Rattle.std.proofs.Common.{◌∙◌, sym}
use Rattle.indexmap.proofs.CallerLemmas.{insert_entry-new}
use Rattle.th_inherits.proofs.Placing.{note_known, note_new}
use Rattle.th_inherits.proofs.places.note.Goals as goal

pub returns-in-Some : goal.returns-in-Some
returns-in-Some c = λ rows r a l e. note_known rows r c.args.places.now.entries c.args.full c.in-Some.field-0 (sym c.in-Some.ensures) a e

pub returns-in-Ok : goal.returns-in-Ok
returns-in-Ok c = λ rows r a l e.
    note_new rows r c.args.places.now.entries c.insert.new.self.entries c.args.full c.args.place
    (c.in-Ok.ensures.entries ∙ insert_entry-new _ c.args.places.now c.args.full c.args.place (sym c.in-None.ensures)) a l e
