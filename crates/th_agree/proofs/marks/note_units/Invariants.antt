use Rattle.std.proofs.Common.{ℕ, List, ◌++◌, map, take}
use Rattle.th_meaning.specs.View.{unit_of}
use Rattle.th_agree.specs.Names.{kept}
use Rattle.th_agree.specs.Agree.{routine_names}
use Rattle.th_agree.specs.Noted.{Entry, Noted, place_seen, all_with}
use Rattle.th_agree.proofs.marks.note_units.Given as goal

abbrev pub invariant-loop-unit : goal.invariant-loop-unit
invariant-loop-unit l = (done : List (Entry ℕ)) → Noted place_seen done l.fn.places (kept l.fn.least) → Noted place_seen (done ++ all_with l.place (routine_names (map unit_of (take l.unit-index l.units)))) l.places (kept l.least)
