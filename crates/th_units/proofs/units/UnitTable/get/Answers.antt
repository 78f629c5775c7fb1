use Rattle.std.proofs.Common.{◌≡◌, sym, ap, ◌∙◌, subst, slice_get}
use Rattle.th_meaning.specs.Program.{units_of}
use Rattle.th_units.specs.Units.{RowIs}
use Rattle.th_units.proofs.Adding.{row_at}
use Rattle.th_units.proofs.units.UnitTable.get.Goals as goal

pub returns : goal.returns
returns c = λ p h.
    let e : slice_get c.args.self.now.rows.items c.args.number ≡ c.at_place.result = sym (c.at_place.ensures ∙ ap (λ xs. slice_get xs c.args.number) c.deref.ensures.value) in
    subst (λ o. RowIs c.args.number o (slice_get (units_of p) c.args.number)) e (row_at c.args.self.now.rows.items (units_of p) c.args.number h.rows)
