use Rattle.std.proofs.Common.{◌∙◌, ap, arith}
use Rattle.std.specs.Prelude.{codes}
use Rattle.th_meaning.specs.View.{unit_of}
use Rattle.th_meaning.specs.Program.{full_name}
use Rattle.th_interpret.proofs.Mains.{main_found, main_passed}
use Rattle.th_interpret.proofs.main_unit.main_unit.Goals as goal

pub returns-in-Some : goal.returns-in-Some
returns-in-Some c =
    main_found c.args.modules.now c.loop-module.module-index c.module-item.result c.deref-in-loop-module.result.now c.deref.result.now (omega arith) c.module-item.is
    (c.deref-in-loop-module.ensures.value ∙ c.in_ok-name.ensures ∙ ap (λ n. full_name n (codes "main")) c.as_bytes.ensures) c.deref.ensures.value c.loop-module.invariant (unit_of c.in-Some.unit.now) c.in-Some.ensures

pub loop-module-preserved : goal.loop-module-preserved
loop-module-preserved c =
    main_passed c.args.modules.now c.loop-module.module-index c.module-item.result c.deref-in-loop-module.result.now c.deref.result.now (omega arith) c.module-item.is
    (c.deref-in-loop-module.ensures.value ∙ c.in_ok-name.ensures ∙ ap (λ n. full_name n (codes "main")) c.as_bytes.ensures) c.deref.ensures.value c.loop-module.invariant c.in-None.ensures
