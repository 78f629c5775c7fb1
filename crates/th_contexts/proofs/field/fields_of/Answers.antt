use Rattle.std.proofs.Common.{◌≡◌, ◌∙◌, ◌<◌, ◌-◌, ℕ, suc, map, drop, length, ap, arith}
use Rattle.th_tree.specs.View.{formal_of}
use Rattle.th_module_rules.specs.Contexts.{bindings}
use Rattle.th_scope.specs.ItemView.{binding_of, locals_of}
use Rattle.th_contexts.proofs.Heads.{fields_next}
use Rattle.th_contexts.proofs.field.fields_of.Goals as goal

pub loop-k-preserved : goal.loop-k-preserved
loop-k-preserved c =
    let before = c.loop-k-test.true in
    let most = c.loop-k.invariant.0 in
    let e : c.loop-k.k ≡ suc (c.loop-k.k - 1) = omega (arith, before) in
    let h : c.loop-k.k - 1 < length c.args.formals.now = omega (arith, before, most) in (
      omega (arith, most),
      fields_next c.args.found.now c.args.sight.now c.args.formals.now (c.loop-k.k - 1) c.index-formals-k.result (binding_of c.in_ok-local.local) (locals_of c.in_ok-new.field-0.value)
          h c.index-formals-k.is c.in_ok-local.ensures
          (ap locals_of c.in_ok-new.ensures.ok ∙ c.loop-k.invariant.1 ∙ ap (λ (n : ℕ). bindings c.args.found.now c.args.sight.now n (drop n (map formal_of c.args.formals.now))) e),
    )
