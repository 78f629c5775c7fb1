use Rattle.std.proofs.Common.{ℕ, List, ◌++◌, map, take}
use Rattle.th_meaning.specs.View.{class_of}
use Rattle.th_agree.specs.Names.{kept}
use Rattle.th_agree.specs.Agree.{class_names}
use Rattle.th_agree.specs.Noted.{Entry, Noted, place_seen, all_with}
use Rattle.th_agree.proofs.marks.note_classes.Given as goal

abbrev pub invariant-loop-class : goal.invariant-loop-class
invariant-loop-class l = (done : List (Entry ℕ)) → Noted place_seen done l.fn.places (kept l.fn.least) → Noted place_seen (done ++ all_with l.place (class_names (map class_of (take l.class-index l.classes)))) l.places (kept l.least)
