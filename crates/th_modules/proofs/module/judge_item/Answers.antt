use Rattle.std.proofs.Common.{sym, ap, ◌∙◌, option_map}
use Rattle.th_tree.specs.DeclView.{module_item_of}
use Rattle.th_scope.specs.View.{item_of}
use Rattle.th_modules.specs.View.{judged_of, units_opt}
use Rattle.th_modules.proofs.Items.{absent_kept, absent_units, item_kept, item_units_are}
use Rattle.th_modules.proofs.module.judge_item.Goals as goal

pub returns-in_ok-units-in-Some-clause-units : goal.returns-in_ok-units-in-Some-clause-units
returns-in_ok-units-in-Some-clause-units c =
    item_units_are (judged_of c.args.judging.now) (module_item_of c.args.tree.now) (item_of c.in-Some.item.now) c.judge_found.new.least (units_opt c.in_ok-units-in-Some.units)
    (sym c.found_item.ensures ∙ ap (option_map (λ i. item_of i.now)) c.in-Some.is) c.in_ok-units-in-Some.ensures.units

pub returns-in_ok-units-in-Some-clause-least : goal.returns-in_ok-units-in-Some-clause-least
returns-in_ok-units-in-Some-clause-least c =
    item_kept (judged_of c.args.judging.now) (module_item_of c.args.tree.now) (item_of c.in-Some.item.now) c.args.least.now c.judge_found.new.least
    (sym c.found_item.ensures ∙ ap (option_map (λ i. item_of i.now)) c.in-Some.is) c.in_ok-units-in-Some.ensures.least

pub returns-in-None-clause-units : goal.returns-in-None-clause-units
returns-in-None-clause-units c = λ own none. absent_units (judged_of c.args.judging.now) (module_item_of c.args.tree.now) (sym c.found_item.ensures ∙ ap (option_map (λ i. item_of i.now)) c.in-None.is)

pub returns-in-None-clause-least : goal.returns-in-None-clause-least
returns-in-None-clause-least c = absent_kept (judged_of c.args.judging.now) (module_item_of c.args.tree.now) c.args.least.now (sym c.found_item.ensures ∙ ap (option_map (λ i. item_of i.now)) c.in-None.is)
