use Rattle.std.proofs.Common.{map}
use Rattle.th_type.specs.Types.{ty_of}
use Rattle.th_type.specs.Signatures.{sig_of, clause_of}
use Rattle.th_where.proofs.Standing.{stands_option}
use Rattle.th_where.proofs.satisfy.find_supply.Goals as goal

pub returns : goal.returns
returns c = stands_option c.args.candidates.now (map ty_of c.args.args.now) (clause_of c.args.clause.now) c.index-candidates-clause.result c.deref.result.now (sig_of c.in_ok-wanted.wanted) c.requires c.index-candidates-clause.is c.deref.ensures.value c.in_ok-wanted.ensures c.find.result c.find.ensures
