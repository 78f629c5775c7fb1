use Rattle.std.proofs.Common.{◌∙◌}
use Rattle.th_store.proofs.Alike.{length_at}
use Rattle.th_store.proofs.store.Store.length.Goals as goal

pub returns-in-None-clause-found : goal.returns-in-None-clause-found
returns-in-None-clause-found c = λ w h. length_at w c.args.self.now c.args.number _ h c.in-None.ensures

pub returns-in-Some-clause-found : goal.returns-in-Some-clause-found
returns-in-Some-clause-found c = λ w h. length_at w c.args.self.now c.args.number _ h c.in-Some.ensures ∙ c.length.ensures.found w
