use Rattle.std.proofs.Common.{◌∙◌, max}
use Rattle.th_layout.proofs.Judged.{words_made, names_many, type_names_many}
use Rattle.th_layout.proofs.limits.words_over.Goals as goal

pub least_of_both-requires-clause-types : goal.least_of_both-requires-clause-types
least_of_both-requires-clause-types c = type_names_many c.args.types.now c.deref.result.now c.args.sums.now (c.deref.ensures.value ∙ c.in_ok-type_names.ensures) c.requires.sums.0

pub least_of_both-requires-clause-classes : goal.least_of_both-requires-clause-classes
least_of_both-requires-clause-classes c = names_many (record { types = c.args.types.now; classes = c.args.classes.now }) c.args.tallies.now c.requires.tallies.0 c.requires.tallies.1 (λ t. t.sum) c.deref-2.result.now c.deref-3.result.now
    (c.deref-2.ensures.value ∙ c.in_ok-class_names.ensures) (c.deref-3.ensures.value ∙ c.in_ok-class_sums.ensures)

pub returns : goal.returns
returns c = words_made (record { types = c.args.types.now; classes = c.args.classes.now }) c.args.tallies.now c.requires.tallies.0 c.requires.tallies.1 c.args.limit c.args.sums.now c.deref.result.now c.deref-2.result.now c.deref-3.result.now c.least_of_both.result
    c.requires.limit c.requires.sums.0 c.requires.sums.1 (c.deref.ensures.value ∙ c.in_ok-type_names.ensures) (c.deref-2.ensures.value ∙ c.in_ok-class_names.ensures) (c.deref-3.ensures.value ∙ c.in_ok-class_sums.ensures) c.least_of_both.ensures
