use Rattle.std.proofs.Common.{ap, ◌∙◌}
use Rattle.std.specs.Prelude.{is_some}
use Rattle.th_layout.proofs.Narrowing.{offers_kept}
use Rattle.th_layout.proofs.layout.Layout.offers.Goals as goal

pub returns-in-Some : goal.returns-in-Some
returns-in-Some c = ap is_some c.in-Some.ensures.value ∙ offers_kept c.self.inside c.args.self.now c.args.place c.args.method c.index.result.now c.index.result.now c.self.view_is c.self.invariant c.requires c.index.ensures

pub returns-in-None : goal.returns-in-None
returns-in-None c = ap is_some c.in-None.ensures.value ∙ offers_kept c.self.inside c.args.self.now c.args.place c.args.method c.index.result.now c.index.result.now c.self.view_is c.self.invariant c.requires c.index.ensures
