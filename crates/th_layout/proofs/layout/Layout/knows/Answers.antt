use Rattle.th_layout.proofs.Narrowing.{knows_yes, knows_rest}
use Rattle.th_layout.proofs.layout.Layout.knows.Goals as goal

pub returns-then-types_offer : goal.returns-then-types_offer
returns-then-types_offer c = knows_yes c.args.self.now c.args.place c.args.method c.types_offer.result c.types_offer.ensures c.if-types_offer.true

pub returns-else-types_offer : goal.returns-else-types_offer
returns-else-types_offer c = knows_rest c.args.self.now c.args.place c.args.method c.types_offer.result c.hides.result c.types_offer.ensures c.if-types_offer.false c.hides.ensures
