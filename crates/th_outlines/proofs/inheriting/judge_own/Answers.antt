use Rattle.std.proofs.Common.{◌∙◌, ◌++◌, ℕ, List, Option, map, ap, subst}
use Rattle.std.specs.Prelude.{IfOk}
use Rattle.th_tree.specs.DeclView.{interface_of, module_of}
use Rattle.th_type.specs.declared.place.Failure.{Failure}
use Rattle.th_type.specs.Failures.{IsLeastOf}
use Rattle.th_module_rules.specs.Inheriting.{ClassRow, interfaces_rows, module_rows, InheritingFails}
use Rattle.th_inherits.specs.Rows.{rows_of}
use Rattle.th_outlines.proofs.inheriting.judge_own.Goals as goal

pub returns-clause-least : goal.returns-clause-least
returns-clause-least c =
    let F = c.args.fulls.now in
    let index = c.args.index.now in
    let m = module_of c.args.program.now in
    let M = module_rows c.args.names.now index c.args.text m in
    let I = interfaces_rows index 0 (map interface_of c.args.interfaces.now) in
    let own = ap rows_of c.deref-2.ensures.value ∙ c.in_ok-own.ensures.rows in
    let all = ap rows_of c.deref.ensures.value ∙ c.in_ok-rows-2.ensures
    ∙ ap (λ (rs : List ClassRow). rs ++ rows_of c.in_ok-exported.exported.items) (c.in_ok-rows.ensures.rows ∙ ap (λ (t : List (List ℕ)). module_rows t index c.args.text m) c.in_ok-own.ensures.names)
    ∙ ap (λ (rs : List ClassRow). M ++ rs) c.in_ok-exported.ensures in
    subst (λ (rs : List ClassRow). IfOk c.judge_inheriting.result (λ (least : Option Failure). IsLeastOf (InheritingFails F rs M) least)) all
    (subst (λ (rs : List ClassRow). IfOk c.judge_inheriting.result (λ (least : Option Failure). IsLeastOf (InheritingFails F (rows_of c.deref.result.now) rs) least)) own c.judge_inheriting.ensures)
