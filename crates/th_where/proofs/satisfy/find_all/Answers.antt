use Rattle.std.proofs.Common.{map, length}
use Rattle.th_type.specs.Types.{ty_of}
use Rattle.th_where.specs.Supplies.{all_offers}
use Rattle.th_where.proofs.Standing.{stand_more, first_missing, param_below}
use Rattle.th_where.proofs.satisfy.find_all.Goals as goal

pub find_supply-requires : goal.find_supply-requires
find_supply-requires c = param_below c.args.clauses.now c.loop-k.k c.index-clauses-k.result (length c.args.candidates.now) c.requires.params c.loop-k-test.true c.index-clauses-k.is

pub returns-in-None : goal.returns-in-None
returns-in-None c = first_missing (all_offers c.args.candidates.now) (map ty_of c.args.args.now) c.args.clauses.now c.loop-k.k c.index-clauses-k.result c.loop-k.supplies.items c.loop-k-test.true c.index-clauses-k.is c.loop-k.invariant (rw c.in-None.is at c.in_ok-supply.ensures)

pub loop-k-preserved : goal.loop-k-preserved
loop-k-preserved c = stand_more (all_offers c.args.candidates.now) (map ty_of c.args.args.now) c.args.clauses.now c.loop-k.k c.index-clauses-k.result c.loop-k.supplies.items c.push.new.self.items c.in-Some.supply c.loop-k-test.true c.index-clauses-k.is c.loop-k.invariant (rw c.in-Some.is at c.in_ok-supply.ensures) c.in_ok-push-in-Some.ensures.items
