use Rattle.std.proofs.Common.{◌∙◌, ℕ, map, ap}
use Rattle.th_tree.specs.DeclView.{module_item_of}
use Rattle.th_module_rules.specs.Own.{head_item}
use Rattle.th_type.specs.Failures.{lowest}
use Rattle.th_hier.proofs.Failing.{on_ok}
use Rattle.th_own.specs.Mains.{module_items_fail_by}
use Rattle.th_own.proofs.Mains.{module_fails_are}
use Rattle.th_own.proofs.clauses.judge_module_items.Goals as goal

pub returns : goal.returns
returns c = λ table h.
    on_ok c.judge_module_items_by.result
    (λ e. e ∙ ap (lowest c.args.least.now) (ap (λ (n : ℕ). module_items_fail_by n c.args.text (map head_item (map module_item_of c.args.items.now))) h ∙ module_fails_are table c.args.text (map head_item (map module_item_of c.args.items.now))))
    c.judge_module_items_by.ensures
