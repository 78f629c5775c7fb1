use Rattle.th_type.proofs.Judging.{listed_more}
use Rattle.th_type.proofs.judge.judge_list.Goals as goal

pub loop-member-preserved : goal.loop-member-preserved
loop-member-preserved c =
    listed_more c.args.text c.loop-member.member-index c.args.members.now c.member-item.result c.args.found.now c.loop-member.found c.judge_member.new.found c.loop-member.seen.keys c.judge_member.new.seen.keys c.loop-member-test.true c.member-item.is c.loop-member.invariant c.in_ok-judge_member.ensures
