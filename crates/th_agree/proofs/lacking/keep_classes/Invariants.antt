use Rattle.std.proofs.Common.{◌≡◌, map, take}
use Rattle.th_meaning.specs.View.{class_decl_of}
use Rattle.th_agree.specs.Names.{kept, least_of}
use Rattle.th_agree.specs.Noted.{lacks}
use Rattle.th_agree.proofs.lacking.keep_classes.Given as goal

abbrev pub invariant-loop-class : goal.invariant-loop-class
invariant-loop-class l = kept l.low ≡ least_of (kept l.least) (lacks l.places (map (λ c. c.head.name) (map class_decl_of (take l.class-index l.classes))))
