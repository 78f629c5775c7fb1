use Rattle.std.proofs.Common.{◌∙◌, arith}
use Rattle.th_store.proofs.Alike.{field_sets, no_field_set}
use Rattle.th_store.proofs.store.Store.set_field.Goals as goal

pub returns-then-number-count : goal.returns-then-number-count
returns-then-number-count c =
    no_field_set (record { turns = c.self.inside.turns; room = c.self.inside.room; objects = c.self.inside.objects.items }) c.args.self.now c.args.number c.len-count.result c.args.class.now c.args.field c.args.value
    (c.len-count.ensures ∙ c.self.inside.objects.ok.0) (omega arith) c.self.view_is

pub returns : goal.returns
returns c =
    field_sets c.set_field.result (record { turns = c.self.inside.turns; room = c.self.inside.room; objects = c.self.inside.objects.items }) c.args.self.now c.args.number c.args.class.now c.args.field c.args.value c.index_mut-object.result.now c.set_field.new.self
    (omega (arith, c.self.inside.objects.ok.0)) c.index_mut-object.ensures.value c.self.view_is c.set_field.ensures.set
