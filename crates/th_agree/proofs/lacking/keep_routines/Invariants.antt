use Rattle.std.proofs.Common.{◌≡◌, map, take}
use Rattle.th_meaning.specs.View.{routine_decl_of}
use Rattle.th_agree.specs.Names.{kept, least_of}
use Rattle.th_agree.specs.Noted.{lacks}
use Rattle.th_agree.proofs.lacking.keep_routines.Given as goal

abbrev pub invariant-loop-routine : goal.invariant-loop-routine
invariant-loop-routine l = kept l.low ≡ least_of (kept l.least) (lacks l.places (map (λ r. r.name) (map routine_decl_of (take l.routine-index l.routines))))
