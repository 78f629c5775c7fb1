use Rattle.std.proofs.Common.{◌≡◌, ◌∙◌, ℕ, List, length, map, ap, subst, sym}
use Rattle.th_tree.specs.declared.decl.MethodTree.{MethodTree}
use Rattle.th_tree.specs.DeclView.{method_of}
use Rattle.th_type.specs.Failures.{IsLeastOf, failure, place}
use Rattle.th_type.specs.Judged.{SameNumbers}
use Rattle.th_hier.specs.Naming.{different}
use Rattle.th_hier.proofs.Failing.{on_ok}
use Rattle.th_module_rules.specs.ClassRules.{Lacks}
use Rattle.th_module_rules.specs.Contexts.{sig_or_bare, type_number}
use Rattle.th_scope.specs.View.{class_of, context_of}
use Rattle.th_contexts.specs.Bases.{bases_of}
use Rattle.th_contexts.proofs.Different.{different_same}
use Rattle.th_overrides.specs.Bodies.{body_above}
use Rattle.th_overrides.specs.Judging.{FailsToo, MethodsFail}
use Rattle.th_overrides.proofs.Lackings.{bodies_alike, lacks_alike}
use Rattle.th_overrides.proofs.Leasts.{least_after, least_one}
use Rattle.th_overrides.proofs.judge.judge_class.Goals as goal

pub returns : goal.returns
returns c =
    on_ok c.judge_methods.result
    (λ later fulls same.
    let C = context_of c.args.env.now in
    let D = c.args.env.now.hierarchy.now.types in
    let bs = bases_of c.args.bases.now in
    let k = class_of c.args.class.now in
    let sig = sig_or_bare c.args.found.now c.args.sight.now in
    let ms = map method_of c.args.tree.now.methods.items in
    let names : List ℕ = map (λ m. m.sig.name.name) ms in
    let p = place c.args.env.now.text c.args.tree.now.head.name.at in
    let numbers = c.in_ok-methods.ensures ∙ ap (λ (xs : List MethodTree). different (map (λ m. m.sig.name.name) (map method_of xs))) c.deref.ensures.value in
    let lacking = lacks_alike C (body_above D bs c.args.own.now k.inherits) (body_above D bs fulls k.inherits) k c.in_ok-methods.methods names c.in_ok-lacking.lacking
    (λ m. bodies_alike (length bs) D bs c.args.own.now fulls (type_number k.inherits) m same)
    (subst (λ (ns : List ℕ). SameNumbers ns names) (sym numbers) (different_same names)) c.in_ok-lacking.ensures in
    least_after c.args.least.now c.demand.new.found c.judge_methods.new.least (λ f. Lacks C (body_above D bs fulls k.inherits) k names × (f ≡ failure 13 p)) (MethodsFail C sig k ms)
    (least_one (Lacks C (body_above D bs fulls k.inherits) k names) c.args.least.now c.demand.new.found 13 p c.in_ok-lacking.lacking lacking c.demand.ensures)
    (subst (λ (xs : List MethodTree). IsLeastOf (FailsToo c.demand.new.found (MethodsFail C sig k (map method_of xs))) c.judge_methods.new.least) c.deref-4.ensures.value later))
    c.judge_methods.ensures
