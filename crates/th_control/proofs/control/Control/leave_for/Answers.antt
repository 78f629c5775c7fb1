use Rattle.th_control.specs.Config.{how_of}
use Rattle.th_control.proofs.Homes.{how_home}
use Rattle.th_control.proofs.control.Control.leave_for.Goals as goal

pub returns : goal.returns
returns c = how_home c.args.self.now c.at_home.new.self c.for_how.result (how_of c.args.how) c.at_home.ensures.state c.at_home.ensures.rest c.at_home.ensures.outer c.for_how.ensures
