use Rattle.std.proofs.Common.{map}
use Rattle.th_type.specs.Types.{ty_of}
use Rattle.th_type.proofs.RowLists.{types_more}
use Rattle.th_type.proofs.rows.types.Goals as goal

pub loop-member-preserved : goal.loop-member-preserved
loop-member-preserved c = types_more c.args.members.now c.loop-member.member-index c.member-item.result (map ty_of c.loop-member.types.items) (map ty_of c.take.new.types.items) c.loop-member-test.true c.member-item.is c.loop-member.invariant c.in_ok-take.ensures
