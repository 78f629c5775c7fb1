use Rattle.std.proofs.Common.{◌∙◌, ℕ, List, None, map, ap, subst, sym}
use Rattle.th_tree.specs.DeclView.{interface_of, module_of}
use Rattle.th_type.specs.Failures.{lowest}
use Rattle.th_type.proofs.Least.{lowest_append}
use Rattle.th_module_rules.specs.Stages.{interfaces_fail, modules_fail}
use Rattle.th_program.specs.Programs.{with_texts}
use Rattle.th_outlines.specs.Programs.{AllNamed}
use Rattle.th_outlines.proofs.Pairing.{all_named}
use Rattle.th_outlines.proofs.stages.judge_lists.Goals as goal

pub judge_modules-requires-clause-named : goal.judge_modules-requires-clause-named
judge_modules-requires-clause-named c =
    let ms = with_texts c.args.module_texts.now (map module_of c.args.modules.now) in
    subst (λ (t : List (List ℕ)). AllNamed t ms) (sym c.in_ok-main.ensures.names) (all_named c.args.names.now ms c.requires.named.modules)

pub returns-clause-least : goal.returns-clause-least
returns-clause-least c =
    let T = c.args.names.now in
    let is = interfaces_fail T (with_texts c.args.interface_texts.now (map interface_of c.args.interfaces.now)) in
    let ms = with_texts c.args.module_texts.now (map module_of c.args.modules.now) in
    c.in_ok-judge_modules.ensures.least
    ∙ ap (λ (t : List (List ℕ)). lowest c.judge_interfaces.new.least (modules_fail t c.args.index.now ms)) c.in_ok-main.ensures.names
    ∙ ap (λ o. lowest o (modules_fail T c.args.index.now ms)) (c.in_ok-judge_interfaces.ensures T c.in_ok-main.ensures.number)
    ∙ sym (lowest_append None is (modules_fail T c.args.index.now ms))
