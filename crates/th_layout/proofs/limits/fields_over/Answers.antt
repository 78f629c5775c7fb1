use Rattle.std.proofs.Common.{◌∙◌, max}
use Rattle.th_layout.proofs.Judged.{fields_made, names_many}
use Rattle.th_layout.proofs.limits.fields_over.Goals as goal

pub least_over-requires : goal.least_over-requires
least_over-requires c = names_many (record { types = c.args.types.now; classes = c.args.classes.now }) c.args.tallies.now c.requires.tallies.0 c.requires.tallies.1 (λ t. t.filled) c.deref.result.now c.deref-2.result.now
    (c.deref.ensures.value ∙ c.in_ok-class_names.ensures) (c.deref-2.ensures.value ∙ c.in_ok-class_fields.ensures)

pub returns : goal.returns
returns c = fields_made (record { types = c.args.types.now; classes = c.args.classes.now }) c.args.tallies.now c.requires.tallies.0 c.requires.tallies.1 c.deref.result.now c.deref-2.result.now c.least_over.result
    (c.deref.ensures.value ∙ c.in_ok-class_names.ensures) (c.deref-2.ensures.value ∙ c.in_ok-class_fields.ensures) c.least_over.ensures
