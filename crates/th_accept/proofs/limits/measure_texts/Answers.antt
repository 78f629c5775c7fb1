use Rattle.std.proofs.Common.{◌∙◌, ℕ, List, None, map, ap}
use Rattle.th_tree.specs.declared.decl.Interface.{Interface}
use Rattle.th_tree.specs.declared.decl.Module.{Module}
use Rattle.th_tree.specs.DeclView.{interface_of, module_of as tree_of}
use Rattle.th_meaning.specs.View.{module_of}
use Rattle.th_program.specs.Programs.{program_of, with_texts}
use Rattle.th_limits.specs.Earliest.{earliest}
use Rattle.th_limits.proofs.Counting.{three}
use Rattle.th_accept.specs.Counts.{interfaces_counts, modules_counts, words_counts}
use Rattle.th_accept.proofs.limits.measure_texts.Goals as goal

pub returns : goal.returns
returns c =
    three None c.measure_words.new.first c.measure_interfaces.new.first c.measure_modules.new.first (words_counts 0 c.args.tokens.now)
    (interfaces_counts (program_of c.args.trees.now).interfaces) (modules_counts (program_of c.args.trees.now).modules (map module_of c.args.checked.now))
    c.in_ok-measure_words.ensures
    (c.measure_interfaces.ensures
    ∙ ap (λ (ns : List ℕ). earliest c.measure_words.new.first (interfaces_counts (with_texts ns (map interface_of c.deref-2.result.now)))) c.deref.ensures.value
    ∙ ap (λ (fs : List Interface). earliest c.measure_words.new.first (interfaces_counts (with_texts c.args.trees.now.interface_texts.items (map interface_of fs)))) c.deref-2.ensures.value)
    (c.in_ok-measure_modules.ensures
    ∙ ap (λ (ns : List ℕ). earliest c.measure_interfaces.new.first (modules_counts (with_texts ns (map tree_of c.deref-4.result.now)) (map module_of c.args.checked.now))) c.deref-3.ensures.value
    ∙ ap (λ (fs : List Module). earliest c.measure_interfaces.new.first (modules_counts (with_texts c.args.trees.now.module_texts.items (map tree_of fs)) (map module_of c.args.checked.now))) c.deref-4.ensures.value)
