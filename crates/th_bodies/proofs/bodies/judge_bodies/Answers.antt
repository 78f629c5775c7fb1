use Rattle.std.proofs.Common.{None, map, sym, subst}
use Rattle.th_tree.specs.DeclView.{interface_of, module_of}
use Rattle.th_type.specs.Failures.{IsLeastOf}
use Rattle.th_module_rules.specs.Stages.{FailsThird, Program}
use Rattle.th_program.specs.Programs.{program}
use Rattle.th_bodies.specs.Bodies.{IsBodiesAnswer}
use Rattle.th_bodies.proofs.Moving.{program_moved}
use Rattle.th_bodies.proofs.bodies.judge_bodies.Goals as goal

pub judge_all-judged-requires-clause-outlines : goal.judge_all-judged-requires-clause-outlines
judge_all-judged-requires-clause-outlines c =
    let t = c.args.trees.now in
    subst (λ (p : Program). IsLeastOf (FailsThird p) None)
    (sym (program_moved t.names t.interface_texts.items c.deref.result.now t.interfaces.items c.deref-2.result.now t.module_texts.items c.deref-3.result.now t.modules.items c.deref-4.result.now c.deref.ensures.value c.deref-2.ensures.value c.deref-3.ensures.value c.deref-4.ensures.value))
    c.requires.outlines

pub returns-clause-answer : goal.returns-clause-answer
returns-clause-answer c =
    let t = c.args.trees.now in
    subst (λ (p : Program). IsBodiesAnswer p c.answer.result)
    (program_moved t.names t.interface_texts.items c.deref.result.now t.interfaces.items c.deref-2.result.now t.module_texts.items c.deref-3.result.now t.modules.items c.deref-4.result.now c.deref.ensures.value c.deref-2.ensures.value c.deref-3.ensures.value c.deref-4.ensures.value)
    (c.answer.ensures (program t.names c.deref.result.now (map interface_of c.deref-2.result.now) c.deref-3.result.now (map module_of c.deref-4.result.now)) c.judge_all-judged.ensures.least c.judge_all-judged.ensures.bodies)
