use Rattle.th_control.proofs.Homes.{how_resumed}
use Rattle.th_control.proofs.control.Control.leave_body.Goals as goal

pub returns : goal.returns
returns c =
    how_resumed c.args.self.now c.resume.new.self c.args.how c.in_ok-ended.ended c.args.frame c.args.local c.args.body
    c.in_ok-resume.ensures.frame c.in_ok-resume.ensures.rest c.in_ok-resume.ensures.homes c.in_ok-ended.ensures
