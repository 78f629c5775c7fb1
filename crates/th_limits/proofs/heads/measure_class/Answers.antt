use Rattle.std.proofs.Common.{◌∙◌, List, map, ap}
use Rattle.th_tree.specs.declared.decl.MethodTree.{MethodTree}
use Rattle.th_tree.specs.DeclView.{class_head_of, init_head_of, method_of}
use Rattle.th_module_rules.specs.Limits.{sigs_counts}
use Rattle.th_limits.specs.Earliest.{earliest}
use Rattle.th_limits.specs.Heads.{class_head_counts, init_counts}
use Rattle.th_limits.proofs.Counting.{three}
use Rattle.th_limits.proofs.heads.measure_class.Goals as goal

pub returns : goal.returns
returns c =
    three c.args.first.now c.measure_class_head.new.first c.measure_methods.new.first c.measure_init.new.first
    (class_head_counts c.args.text (class_head_of c.args.class.now.head)) (sigs_counts c.args.text (map (λ m. m.sig) (map method_of c.args.class.now.methods.items))) (init_counts c.args.text (init_head_of c.args.class.now.init.head))
    c.measure_class_head.ensures
    (c.measure_methods.ensures ∙ ap (λ (ss : List MethodTree). earliest c.measure_class_head.new.first (sigs_counts c.args.text (map (λ m. m.sig) (map method_of ss)))) c.deref.ensures.value)
    c.measure_init.ensures
