use Rattle.std.proofs.Common.{◌≡◌, sym, ap, ◌∙◌, subst, slice_get, option_copied}
use Rattle.th_meaning.specs.Program.{classes_of}
use Rattle.th_classes.specs.Rows.{RowIs}
use Rattle.th_classes.proofs.Rowing.{rows_get}
use Rattle.th_classes.proofs.classes.ClassTable.get.Goals as goal

pub returns : goal.returns
returns c = λ p h.
    let e : slice_get c.args.self.now.rows.items c.args.number ≡ option_copied c.at_place.result = sym (c.at_place.ensures ∙ ap (λ xs. slice_get xs c.args.number) c.deref.ensures.value) in
    subst (λ o. RowIs p o (slice_get (classes_of p) c.args.number)) e (rows_get p c.args.self.now.rows.items (classes_of p) c.args.number h.rows)
