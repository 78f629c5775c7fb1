use Rattle.std.proofs.Common.{◌∙◌}
use Rattle.th_store.proofs.Alike.{adds_by}
use Rattle.th_store.proofs.store.Store.add.Goals as goal

pub returns : goal.returns
returns c = λ w h.
    adds_by w (record { turns = c.self.inside.turns; room = c.self.inside.room; objects = c.self.inside.objects.items }) c.args.self.now c.args.object c.len-number.result c.push.new.self.items
    (c.len-number.ensures ∙ c.self.inside.objects.ok.0) c.in_ok-push.ensures.items c.self.view_is h
