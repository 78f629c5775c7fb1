use Rattle.std.proofs.Common.{◌∙◌, List, map, ap}
use Rattle.th_tree.specs.declared.decl.ModuleItem.{ModuleItem}
use Rattle.th_tree.specs.DeclView.{module_item_of, module_of}
use Rattle.th_module_rules.specs.Own.{head_item}
use Rattle.std.proofs.lemmas.Result.{IfOk-weaker}
use Rattle.th_outlines.proofs.Owning.{own_rows_are}
use Rattle.th_outlines.proofs.inheriting.own_rows.Goals as goal

pub returns-clause-rows : goal.returns-clause-rows
returns-clause-rows c =
    IfOk-weaker c.module_rows.result _ _
    (λ rows e. e ∙ own_rows_are c.args.names.now c.args.index.now c.of-found.result c.in_ok-own.own c.args.text c.in_ok-own.scope c.in_ok-home.home (module_of c.args.program.now) (map head_item (map module_item_of c.deref.result.now))
    c.of-found.ensures c.in_ok-own.ensures.items c.in_ok-home.ensures c.in_ok-own.ensures.scope (ap (λ (xs : List ModuleItem). map head_item (map module_item_of xs)) c.deref.ensures.value))
    c.module_rows.ensures
