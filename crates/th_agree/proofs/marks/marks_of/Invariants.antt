use Rattle.std.proofs.Common.{take}
use Rattle.th_meaning.specs.View.{program_of}
use Rattle.th_agree.specs.Names.{kept}
use Rattle.th_agree.specs.Noted.{Noted, place_seen, placed, names_by}
use Rattle.th_agree.proofs.marks.marks_of.Given as goal

abbrev pub invariant-loop-k : goal.invariant-loop-k
invariant-loop-k l = Noted place_seen (placed (names_by l.kind) 0 (program_of (take l.k l.modules))) l.places (kept l.least)
