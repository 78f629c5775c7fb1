use Rattle.std.proofs.Common.{◌≡◌, ◌<◌, length, sym, ap, ◌∙◌, subst, Some}
use Rattle.std.specs.Prelude.{slice_get}
use Rattle.th_offsets.proofs.Depths.{first_before, plain_made}
use Rattle.th_offsets.proofs.counts.plain_of.Goals as goal

pub first_known-base-requires : goal.first_known-base-requires
first_known-base-requires c = λ s e. subst (λ j. s < j) (sym c.requires.before)
    (first_before c.args.rows.now c.requires.ordered c.args.number s c.index-rows-number.result c.requires.within
    (ap (λ z. slice_get z 0) (sym (c.as_slice.ensures ∙ ap (λ z. z.supers) c.index-rows-number.is)) ∙ e))

pub returns : goal.returns
returns c = plain_made c.args.rows.now c.requires.ordered c.args.done.now c.as_slice.result.now c.args.number c.length_up_to.result c.len.result c.first_known-base.result c.up_to.result
    c.index-rows-number.result _ c.requires.within c.requires.before c.requires.done c.index-rows-number.is c.as_slice.ensures c.first_known-base.ensures c.len.ensures c.length_up_to.ensures c.up_to.ensures
