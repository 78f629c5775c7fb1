use Rattle.th_agree.specs.Names.{kept}
use Rattle.th_agree.proofs.Placed.{routine_entries}
use Rattle.th_agree.proofs.marks.note_unit.Goals as goal

pub returns-in_ok-note_place-in-Routine : goal.returns-in_ok-note_place-in-Routine
returns-in_ok-note_place-in-Routine c = λ done h.
    routine_entries c.args.place c.args.unit.now c.as_bytes.result.now c.note_place.new.places (kept c.note_place.new.least) done c.in-Routine.is c.as_bytes.ensures (c.in_ok-note_place-in-Routine.ensures done h)
