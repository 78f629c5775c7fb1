use Rattle.th_type.proofs.Noting.{noted_more}
use Rattle.th_type.proofs.cycles.note_all.Goals as goal

pub loop-member-preserved : goal.loop-member-preserved
loop-member-preserved c =
    noted_more c.args.members.now c.loop-member.member-index c.member-item.result c.args.seen.now.keys c.loop-member.seen.keys c.note.new.seen.keys c.loop-member-test.true c.member-item.is c.loop-member.invariant c.in_ok-note.ensures
