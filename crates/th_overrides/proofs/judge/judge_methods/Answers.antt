use Rattle.std.proofs.Common.{◌∙◌, ◌++◌, ◌∷◌, [], List, get_or, map, take, ap, subst, sym}
use Rattle.std.proofs.lemmas.List.{map-append, take_more}
use Rattle.th_tree.specs.Trees.{MethodSyn}
use Rattle.th_tree.specs.declared.decl.MethodTree.{MethodTree}
use Rattle.th_tree.specs.DeclView.{method_of}
use Rattle.th_type.specs.Failures.{IsLeastOf}
use Rattle.th_module_rules.specs.Contexts.{sig_or_bare}
use Rattle.th_scope.specs.View.{class_of, context_of}
use Rattle.th_overrides.specs.Judging.{FailsToo, MethodsFail}
use Rattle.th_overrides.proofs.Leasts.{methods_more, take_all}
use Rattle.th_overrides.proofs.judge.judge_methods.Goals as goal

pub loop-method-preserved : goal.loop-method-preserved
loop-method-preserved c =
    let ms = c.args.methods.now in
    let i = c.loop-method.method-index in
    let m = c.method-item.result in
    subst (λ (xs : List MethodSyn). IsLeastOf (FailsToo c.args.least.now (MethodsFail (context_of c.args.env.now) (sig_or_bare c.args.found.now c.args.sight.now) (class_of c.args.class.now) xs)) c.demand.new.found)
    (sym (ap (map method_of) (take_more ms i m c.loop-method-test.true) ∙ map-append method_of (take i ms) (get_or ms i m ∷ []) ∙ ap (λ (x : MethodTree). map method_of (take i ms) ++ method_of x ∷ []) (sym c.method-item.is)))
    (methods_more (context_of c.args.env.now) (sig_or_bare c.args.found.now c.args.sight.now) (class_of c.args.class.now) (map method_of (take i ms)) (method_of m) c.args.least.now c.loop-method.least c.demand.new.found c.in_ok-fits.fits
    c.loop-method.invariant c.in_ok-fits.ensures c.demand.ensures)

pub returns : goal.returns
returns c =
    subst (λ (xs : List MethodTree). IsLeastOf (FailsToo c.args.least.now (MethodsFail (context_of c.args.env.now) (sig_or_bare c.args.found.now c.args.sight.now) (class_of c.args.class.now) (map method_of xs))) c.loop-method.least)
    (take_all c.args.methods.now c.loop-method.method-index c.loop-method-test.false) c.loop-method.invariant
