use Rattle.std.proofs.Common.{◌≡◌, map, take}
use Rattle.std.specs.Prelude.{flat_map}
use Rattle.th_meaning.specs.View.{interface_of}
use Rattle.th_agree.specs.Names.{kept, least_of}
use Rattle.th_agree.specs.Agree.{exported}
use Rattle.th_agree.specs.Noted.{lacks}
use Rattle.th_agree.proofs.lacking.keep_interfaces.Given as goal

abbrev pub invariant-loop-interface : goal.invariant-loop-interface
invariant-loop-interface l = kept l.low ≡ least_of (kept l.least) (lacks l.places (flat_map exported (map interface_of (take l.interface-index l.interfaces))))
