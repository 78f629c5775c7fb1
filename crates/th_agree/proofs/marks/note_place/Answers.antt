use Rattle.th_agree.specs.Names.{kept}
use Rattle.th_agree.proofs.Entries.{place_more}
use Rattle.th_agree.proofs.marks.note_place.Goals as goal

pub returns : goal.returns
returns c = λ done h.
    place_more done c.args.name.now c.args.place c.args.places.now c.add_place.new.places c.place_of-noted.result (kept c.args.least.now) (kept c.clash_places.result) c.place_of-noted.ensures
    c.in_ok-add_place.ensures c.clash_places.ensures h
