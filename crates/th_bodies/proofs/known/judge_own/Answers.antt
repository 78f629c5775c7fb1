use Rattle.std.proofs.Common.{◌≡◌, ℕ, List, None, map, subst}
use Rattle.std.specs.Prelude.{IfOk, OnOk}
use Rattle.th_tree.specs.DeclView.{interface_of, module_of}
use Rattle.th_module_rules.specs.Modules.{judged, ModuleFails}
use Rattle.th_module_rules.specs.Units.{module_units}
use Rattle.th_scope.specs.View.{items_of}
use Rattle.th_modules.specs.Lowering.{Lowers}
use Rattle.th_modules.specs.Own.{AreOwn}
use Rattle.th_modules.specs.View.{units_opt}
use Rattle.th_bodies.proofs.known.judge_own.Goals as goal

pub returns-clause-units : goal.returns-clause-units
returns-clause-units c =
    subst (λ (t : List (List ℕ)). IfOk c.judge_found.result (λ r. AreOwn (judged c.args.text t c.args.hierarchy.now (map interface_of c.args.interfaces.now) (module_of c.args.program.now)) → c.judge_found.new.least ≡ None
    → units_opt r.0 ≡ module_units (judged c.args.text t c.args.hierarchy.now (map interface_of c.args.interfaces.now) (module_of c.args.program.now))))
    c.in_ok-own.ensures.names c.judge_found.ensures.units

pub returns-clause-items : goal.returns-clause-items
returns-clause-items c =
    subst (λ (t : List (List ℕ)). IfOk c.judge_found.result (λ r. items_of r.1.items ≡ (judged c.args.text t c.args.hierarchy.now (map interface_of c.args.interfaces.now) (module_of c.args.program.now)).items)) c.in_ok-own.ensures.names c.judge_found.ensures.items

pub returns-clause-least : goal.returns-clause-least
returns-clause-least c =
    subst (λ (t : List (List ℕ)). OnOk c.judge_found.result (Lowers (ModuleFails (judged c.args.text t c.args.hierarchy.now (map interface_of c.args.interfaces.now) (module_of c.args.program.now))) c.args.least.now c.judge_found.new.least))
    c.in_ok-own.ensures.names c.judge_found.ensures.least
