use Rattle.th_control.proofs.Homes.{raise_home}
use Rattle.th_control.proofs.control.Control.pass_for.Goals as goal

pub returns : goal.returns
returns c = raise_home c.args.self.now c.at_home.new.self c.args.raised c.at_home.ensures.state c.at_home.ensures.rest c.at_home.ensures.outer
