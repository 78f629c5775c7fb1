use Rattle.std.proofs.Common.{refl, ap, ◌∙◌, map}
use Rattle.th_type.specs.Declarations.{super_of, resolved}
use Rattle.th_type.specs.MethodTables.{written_sigs}
use Rattle.th_type.proofs.Judgement.{row_is}
use Rattle.th_type.proofs.rows.make_row.Goals as goal

pub returns : goal.returns
returns c =
    row_is c.args.name c.args.def.now (record { params = c.args.def.now.params; supertypes = c.in_ok-supertypes.supertypes; written = c.in_ok-written.written }) refl
    (c.in_ok-supertypes.ensures ∙ ap (λ ms. resolved (map super_of ms)) c.deref.ensures.value)
    (c.in_ok-written.ensures ∙ ap written_sigs c.deref-2.ensures.value)
