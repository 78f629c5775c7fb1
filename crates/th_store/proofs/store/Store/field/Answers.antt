use Rattle.std.proofs.Common.{◌∙◌}
use Rattle.th_store.proofs.Alike.{field_at}
use Rattle.th_store.proofs.store.Store.field.Goals as goal

pub returns-in-None : goal.returns-in-None
returns-in-None c = λ w h. field_at w c.args.self.now c.args.number c.args.class.now c.args.field _ h c.in-None.ensures

pub returns-in-Some : goal.returns-in-Some
returns-in-Some c = λ w h. field_at w c.args.self.now c.args.number c.args.class.now c.args.field _ h c.in-Some.ensures ∙ c.field.ensures w
