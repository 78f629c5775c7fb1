use Rattle.std.proofs.Common.{map, take}
use Rattle.th_type.specs.Types.{ty_of}
use Rattle.th_type.specs.Signatures.{clause_of}
use Rattle.th_where.specs.Supplies.{all_offers, StandFor}
use Rattle.th_where.proofs.satisfy.find_all.Given as goal

abbrev pub invariant-loop-k : goal.invariant-loop-k
invariant-loop-k l = StandFor (all_offers l.candidates) (map ty_of l.args) (map clause_of (take l.k l.clauses)) l.supplies.items
