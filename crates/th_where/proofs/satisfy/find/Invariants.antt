use Rattle.std.proofs.Common.{take}
use Rattle.th_type.specs.Lists.{IsIn}
use Rattle.th_type.specs.Signatures.{sig_of}
use Rattle.th_where.specs.Supplies.{Offer, offers_of, IsFound}
use Rattle.th_where.proofs.satisfy.find.Given as goal

abbrev pub invariant-loop-candidate : goal.invariant-loop-candidate
invariant-loop-candidate l = (x : Offer) → IsIn x (offers_of (take l.candidate-index l.candidates)) → ¬ IsFound (sig_of l.wanted) x
