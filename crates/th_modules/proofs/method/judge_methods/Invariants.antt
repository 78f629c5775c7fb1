use Rattle.std.proofs.Common.{◌≡◌, None, map, drop}
use Rattle.th_tree.specs.DeclView.{method_of}
use Rattle.th_type.specs.Failures.{lowest}
use Rattle.th_scope.specs.View.{class_of}
use Rattle.th_module_rules.specs.Modules.{methods_fail}
use Rattle.th_module_rules.specs.Units.{method_units}
use Rattle.th_modules.specs.View.{judged_of, units_after, units_opt}
use Rattle.th_modules.proofs.method.judge_methods.Given as goal

-- what was judged of the methods so far, and what is left of them
abbrev pub invariant-loop-method : goal.invariant-loop-method
invariant-loop-method l = record {
  units : l.least ≡ None → units_after (units_opt l.units) (method_units (judged_of l.outer.judging.now) l.params (class_of l.outer.class.now) l.full (map method_of (drop l.method-index l.methods)))
      ≡ units_after (units_opt l.fn.before) (method_units (judged_of l.outer.judging.now) l.params (class_of l.outer.class.now) l.full (map method_of l.methods));
  least : lowest l.least (methods_fail (judged_of l.outer.judging.now) l.params (class_of l.outer.class.now) l.full (map method_of (drop l.method-index l.methods)))
      ≡ lowest l.fn.least (methods_fail (judged_of l.outer.judging.now) l.params (class_of l.outer.class.now) l.full (map method_of l.methods));
}
