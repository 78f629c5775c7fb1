use Rattle.std.proofs.Common.{map, refl, sym, ◌∙◌}
use Rattle.th_tree.specs.DeclView.{method_of}
use Rattle.th_hier.proofs.Failing.{next_fails}
use Rattle.th_scope.specs.View.{class_of}
use Rattle.th_module_rules.specs.Modules.{method_fails, methods_fail}
use Rattle.th_module_rules.specs.Units.{method_unit, method_units}
use Rattle.th_modules.specs.View.{judged_of, unit_opt, units_opt}
use Rattle.th_modules.proofs.Least.{still_none}
use Rattle.th_modules.proofs.Units.{next_units}
use Rattle.th_modules.proofs.method.judge_methods.Goals as goal

pub loop-method-preserved : goal.loop-method-preserved
loop-method-preserved c = record {
  units = λ h. next_units (λ x. method_unit (judged_of c.args.outer.now.judging.now) c.args.params.now (class_of c.args.outer.now.class.now) c.args.full (method_of x))
      (λ xs. method_units (judged_of c.args.outer.now.judging.now) c.args.params.now (class_of c.args.outer.now.class.now) c.args.full (map method_of xs))
      c.args.methods.now c.loop-method.method-index c.method-item.result (units_opt c.loop-method.units) _ _ (unit_opt c.in_ok-unit.unit)
      (λ y ys. refl) c.loop-method-test.true c.method-item.is c.in_ok-units.ensures (c.in_ok-unit.ensures.unit h)
      (c.loop-method.invariant.units (still_none c.loop-method.least
      (method_fails (judged_of c.args.outer.now.judging.now) c.args.params.now (class_of c.args.outer.now.class.now) c.args.full (method_of c.method-item.result)) (sym c.in_ok-unit.ensures.least ∙ h)));
  least = next_fails (λ x. method_fails (judged_of c.args.outer.now.judging.now) c.args.params.now (class_of c.args.outer.now.class.now) c.args.full (method_of x))
      (λ xs. methods_fail (judged_of c.args.outer.now.judging.now) c.args.params.now (class_of c.args.outer.now.class.now) c.args.full (map method_of xs))
      c.args.methods.now c.loop-method.method-index c.method-item.result c.loop-method.least c.judge_method.new.least _
      (λ y ys. refl) c.loop-method-test.true c.method-item.is c.in_ok-unit.ensures.least c.loop-method.invariant.least;
}
