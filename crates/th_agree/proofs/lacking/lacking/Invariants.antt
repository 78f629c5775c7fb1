use Rattle.std.proofs.Common.{◌≡◌, take, None}
use Rattle.std.specs.Prelude.{flat_map}
use Rattle.th_meaning.specs.View.{program_of}
use Rattle.th_agree.specs.Names.{kept, least_of}
use Rattle.th_agree.specs.Agree.{exported, kept_interfaces}
use Rattle.th_agree.specs.Noted.{lacks}
use Rattle.th_agree.proofs.lacking.lacking.Given as goal

abbrev pub invariant-loop-module : goal.invariant-loop-module
invariant-loop-module l = kept l.low ≡ least_of None (lacks l.places (flat_map exported (kept_interfaces (program_of (take l.module-index l.modules)))))
