use Rattle.std.proofs.Common.{◌∙◌, List, map, ap, sym}
use Rattle.th_tree.specs.declared.decl.ModuleItem.{ModuleItem}
use Rattle.th_tree.specs.DeclView.{module_item_of, module_of}
use Rattle.th_type.specs.Failures.{lowest}
use Rattle.th_type.proofs.Least.{lowest_append}
use Rattle.th_hier.proofs.Failing.{on_ok}
use Rattle.th_module_rules.specs.Clauses.{module_items_fail}
use Rattle.th_module_rules.specs.Own.{head_item, head_items, module_names_fail}
use Rattle.th_outlines.proofs.lists.judge_module.Goals as goal

pub returns-clause-least : goal.returns-clause-least
returns-clause-least c =
    let T = c.args.names.now in
    let m = module_of c.args.program.now in
    on_ok c.judge_module_items.result
    (λ e. e
    ∙ ap (λ (xs : List ModuleItem). lowest c.judge_module_names.new.least (module_items_fail T c.args.text (map head_item (map module_item_of xs)))) c.deref.ensures.value
    ∙ ap (λ o. lowest o (module_items_fail T c.args.text (head_items m))) c.in_ok-judge_module_names.ensures.least
    ∙ sym (lowest_append c.args.least.now (module_names_fail T c.args.index.now c.args.text m) (module_items_fail T c.args.text (head_items m))))
    (c.judge_module_items.ensures T c.requires.main)
