use Rattle.th_store.proofs.Alike.{class_at, class_some, class_none}
use Rattle.th_store.proofs.store.Store.class.Goals as goal

pub returns-in-None-clause-none : goal.returns-in-None-clause-none
returns-in-None-clause-none c = λ w h. class_at w c.args.self.now c.args.number _ h c.in-None.ensures

pub returns-in-Some-clause-some : goal.returns-in-Some-clause-some
returns-in-Some-clause-some c = class_some c.args.self.now c.args.number c.in-Some.object.now c.class.result c.in-Some.ensures c.class.ensures.some

pub returns-in-Some-clause-none : goal.returns-in-Some-clause-none
returns-in-Some-clause-none c = class_none c.args.self.now c.args.number c.in-Some.object.now c.class.result c.in-Some.ensures c.class.ensures.none
