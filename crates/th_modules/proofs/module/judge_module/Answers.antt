use Rattle.std.proofs.Common.{List, map, subst}
use Rattle.th_tree.specs.DeclView.{module_item_of}
use Rattle.th_tree.specs.declared.decl.ModuleItem.{ModuleItem}
use Rattle.th_modules.specs.Lowering.{InItems, Lowers}
use Rattle.th_modules.specs.View.{judged_of}
use Rattle.th_modules.proofs.Lowering.{module_lowers}
use Rattle.th_modules.proofs.module.judge_module.Goals as goal

pub returns-clause-least : goal.returns-clause-least
returns-clause-least c =
    module_lowers (judged_of c.args.judging.now) c.args.least.now c.judge_items.new.least
    (subst (λ (xs : List ModuleItem). Lowers (InItems (judged_of c.args.judging.now) (map module_item_of xs)) c.args.least.now c.judge_items.new.least) c.deref.ensures.value c.in_ok-units.ensures.least)
