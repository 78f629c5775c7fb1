use Rattle.std.proofs.Common.{◌∙◌, ℕ, List, Option, Some, None, map, ap, subst, sym}
use Rattle.th_tree.specs.DeclView.{interface_of, module_of}
use Rattle.th_type.specs.declared.place.Failure.{Failure}
use Rattle.th_type.specs.Failures.{IsLeastOf}
use Rattle.th_hier.specs.Hierarchies.{TypeHierarchy}
use Rattle.th_module_rules.specs.Stages.{hierarchy_in, FailsThird}
use Rattle.th_program.specs.Programs.{program}
use Rattle.th_outlines.proofs.Staging.{before_third, third_named, third_none}
use Rattle.th_outlines.proofs.stages.judge_outlines.Goals as goal

pub returns-in-Err-clause-answer : goal.returns-in-Err-clause-answer
returns-in-Err-clause-answer c =
    let ms = map module_of c.args.modules.now in
    before_third (program c.args.names.now c.args.interface_texts.now (map interface_of c.args.interfaces.now) c.args.module_texts.now ms) c.in-Err.error
    (c.in-Err.ensures.answer c.args.module_texts.now ms)

pub judge_third-requires-clause-items : goal.judge_third-requires-clause-items
judge_third-requires-clause-items c =
    let fs = map interface_of c.args.interfaces.now in
    let ms = map module_of c.args.modules.now in
    c.index-index.ensures ∙ ap (λ (h : TypeHierarchy). h.items) (c.in-Ok.ensures.answer c.args.module_texts.now ms).0
    ∙ ap (λ (t : List (List ℕ)). (hierarchy_in (program t c.args.interface_texts.now fs c.args.module_texts.now ms)).items) (sym c.in-Ok.ensures.names)

pub returns-in-Ok-None-clause-answer : goal.returns-in-Ok-None-clause-answer
returns-in-Ok-None-clause-answer c =
    let fs = map interface_of c.args.interfaces.now in
    let ms = map module_of c.args.modules.now in
    third_none (program c.args.names.now c.args.interface_texts.now fs c.args.module_texts.now ms) c.in-Ok.hierarchy (c.in-Ok.ensures.answer c.args.module_texts.now ms)
    (subst (λ (t : List (List ℕ)). IsLeastOf (FailsThird (program t c.args.interface_texts.now fs c.args.module_texts.now ms)) None) c.in-Ok.ensures.names
    (subst (λ (o : Option Failure). IsLeastOf (FailsThird (program c.judge_hierarchy.new.names c.args.interface_texts.now fs c.args.module_texts.now ms)) o) c.in-Ok-None.field-0-is c.in-Ok-None.ensures.least))

pub returns-in-Ok-Some-clause-answer : goal.returns-in-Ok-Some-clause-answer
returns-in-Ok-Some-clause-answer c =
    let fs = map interface_of c.args.interfaces.now in
    let ms = map module_of c.args.modules.now in
    third_named (program c.args.names.now c.args.interface_texts.now fs c.args.module_texts.now ms) c.in-Ok.hierarchy c.in-Ok-Some.failure (c.in-Ok.ensures.answer c.args.module_texts.now ms)
    (subst (λ (t : List (List ℕ)). IsLeastOf (FailsThird (program t c.args.interface_texts.now fs c.args.module_texts.now ms)) (Some c.in-Ok-Some.failure)) c.in-Ok.ensures.names
    (subst (λ (o : Option Failure). IsLeastOf (FailsThird (program c.judge_hierarchy.new.names c.args.interface_texts.now fs c.args.module_texts.now ms)) o) c.in-Ok-Some.field-0-is c.in-Ok-Some.ensures.least))
