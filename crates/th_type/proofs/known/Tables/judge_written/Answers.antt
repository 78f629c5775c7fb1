use Rattle.std.proofs.Common.{◌≡◌, ◌<◌, length, get_or, subst, map, ◌∙◌, ap}
use Rattle.th_type.specs.Signatures.{sig_of}
use Rattle.th_type.specs.Declarations.{decl_of, super_of, resolved}
use Rattle.th_type.specs.MethodTables.{method_in}
use Rattle.th_type.specs.Tests.{fits_all}
use Rattle.th_type.specs.Tables.{tables_up, tables_methods}
use Rattle.th_type.proofs.Testing.{written_next}
use Rattle.th_type.proofs.known.Tables.judge_written.Goals as goal

pub loop-method-preserved : goal.loop-method-preserved
loop-method-preserved c =
    written_next (tables_up c.args.self.now) (method_in (tables_methods c.args.self.now)) (decl_of c.args.def.now) c.args.def.now.methods.items c.loop-method.method-index c.method-item.result c.in_ok-fits.fits c.loop-method.found c.demand.new.found _
    (subst (λ xs. c.loop-method.method-index < length xs) c.deref-method-items.ensures.value c.loop-method-test.true)
    (subst (λ xs. c.method-item.result ≡ get_or xs c.loop-method.method-index c.method-item.result) c.deref-method-items.ensures.value c.method-item.is)
    c.loop-method.invariant c.demand.ensures
    (c.in_ok-fits.ensures ∙ ap (λ ms. fits_all (tables_up c.args.self.now) (method_in (tables_methods c.args.self.now)) (sig_of c.method-item.result.sig) (resolved (map super_of ms))) c.deref.ensures.value)
