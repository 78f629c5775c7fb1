use Rattle.std.proofs.Common.{◌++◌, map, ap}
use Rattle.th_meaning.specs.View.{class_of, unit_of, module_of}
use Rattle.th_agree.specs.Names.{kept}
use Rattle.th_agree.specs.Agree.{class_names, routine_names}
use Rattle.th_agree.specs.Noted.{all_with}
use Rattle.th_agree.proofs.Placed.{defined_more}
use Rattle.th_agree.proofs.marks.note_defined.Goals as goal

pub returns : goal.returns
returns c = λ done h.
    defined_more c.args.place (module_of c.args.home.now) c.note_units.new.places (kept c.note_units.new.least) done (class_names (map class_of c.as_slice.result.now)) (routine_names (map unit_of c.as_slice-2.result.now))
    (ap (λ xs. class_names (map class_of xs)) c.as_slice.ensures.value) (ap (λ xs. routine_names (map unit_of xs)) c.as_slice-2.ensures.value)
    (c.in_ok-note_units.ensures (done ++ all_with c.args.place (class_names (map class_of c.as_slice.result.now))) (c.in_ok-note_classes.ensures done h))
