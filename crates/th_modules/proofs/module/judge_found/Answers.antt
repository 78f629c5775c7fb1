use Rattle.std.proofs.Common.{sym, ap, ◌∙◌}
use Rattle.std.specs.Prelude.{not}
use Rattle.th_tree.specs.DeclView.{module_item_of}
use Rattle.th_type.specs.declared.place.Place.{Place}
use Rattle.th_type.specs.Failures.{lowest, unless}
use Rattle.th_scope.specs.View.{item_of}
use Rattle.th_modules.specs.View.{judged_of}
use Rattle.th_modules.proofs.Items.{found_kept}
use Rattle.th_modules.proofs.Least.{still_none}
use Rattle.th_modules.proofs.module.judge_found.Goals as goal

pub returns-clause-units : goal.returns-clause-units
returns-clause-units c = λ own none. c.in_ok-units.ensures.units own
    (still_none c.judge_head.new.least (unless (not c.is_changed-changed.result) 12 c.place_of.result) (sym c.demand.ensures ∙ none))

pub returns-clause-least : goal.returns-clause-least
returns-clause-least c =
    found_kept (judged_of c.args.judging.now) (module_item_of c.args.tree.now) (item_of c.args.item.now) c.args.least.now c.judge_head.new.least c.demand.new.found c.is_changed-changed.result
    c.in_ok-units.ensures.least c.is_changed-changed.ensures
    (c.demand.ensures ∙ ap (λ (p : Place). lowest c.judge_head.new.least (unless (not c.is_changed-changed.result) 12 p)) c.place_of.ensures)
