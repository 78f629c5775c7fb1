use Rattle.th_layout.proofs.Found.{held_kept}
use Rattle.th_layout.proofs.layout.Layout.held_at.Goals as goal

pub returns : goal.returns
returns c = held_kept c.self.inside c.args.self.now c.args.place c.index-object.result.now c.index-object.result.now c.self.view_is c.self.invariant c.requires c.index-object.ensures
