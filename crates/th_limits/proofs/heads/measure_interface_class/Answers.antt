use Rattle.std.proofs.Common.{◌∙◌, List, map, ap}
use Rattle.th_tree.specs.declared.decl.SigTree.{SigTree}
use Rattle.th_tree.specs.DeclView.{class_head_of, init_head_of, sig_of}
use Rattle.th_module_rules.specs.Limits.{sigs_counts}
use Rattle.th_limits.specs.Earliest.{earliest}
use Rattle.th_limits.specs.Heads.{class_head_counts, init_counts}
use Rattle.th_limits.proofs.Counting.{three}
use Rattle.th_limits.proofs.heads.measure_interface_class.Goals as goal

pub returns : goal.returns
returns c =
    three c.args.first.now c.measure_class_head.new.first c.measure_sigs.new.first c.measure_init.new.first
    (class_head_counts c.args.text (class_head_of c.args.class.now.head)) (sigs_counts c.args.text (map sig_of c.args.class.now.hidden.items)) (init_counts c.args.text (init_head_of c.args.class.now.init))
    c.measure_class_head.ensures
    (c.measure_sigs.ensures ∙ ap (λ (ss : List SigTree). earliest c.measure_class_head.new.first (sigs_counts c.args.text (map sig_of ss))) c.deref.ensures.value)
    c.measure_init.ensures
