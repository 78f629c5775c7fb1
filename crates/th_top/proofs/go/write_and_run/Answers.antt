use Rattle.std.proofs.Common.{sym, ◌∙◌}
use Rattle.th_top.specs.Verdict.{verdict_of}
use Rattle.th_top.proofs.Producing.{ends_of}
use Rattle.th_top.proofs.Wrote.{on_ok, wrote}
use Rattle.th_top.proofs.go.write_and_run.Goals as goal

pub execute-requires : goal.execute-requires
execute-requires g c = ends_of c.requires.product.0 c.args.product c.requires.product.1

pub returns : goal.returns
returns g c = λ tree is.
    let ok = sym c.is_err.ensures.value ∙ c.if-is_err.false in
    wrote c.args.out.now tree _ _ _ c.args.product (verdict_of c.verdict_of_run.result) c.execute.result c.execute.ensures.ran.0 c.requires.name is
    (on_ok c.write.result _ ok c.write.ensures.set) (on_ok c.write.result _ ok c.write.ensures.listed) (on_ok c.write.result _ ok c.write.ensures.no_fault)
    c.execute.ensures.ran.1 c.verdict_of_run.ensures
