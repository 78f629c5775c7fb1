use Rattle.std.proofs.Common.{◌≡◌, ◌∙◌, List, [], map, drop, sym, ap}
use Rattle.std.proofs.Math.ListN.{drop_of_length-le}
use Rattle.th_tree.specs.declared.decl.Module.{Module}
use Rattle.th_tree.specs.DeclView.{module_of as tree_of}
use Rattle.th_tree.specs.Trees.{ModuleSyn}
use Rattle.th_meaning.specs.declared.declared.CoreModule.{CoreModule}
use Rattle.th_meaning.specs.View.{module_of}
use Rattle.th_module_rules.specs.Stages.{Numbered}
use Rattle.th_program.specs.Programs.{with_texts}
use Rattle.th_limits.specs.Earliest.{earliest}
use Rattle.th_accept.specs.Counts.{modules_counts}
use Rattle.th_accept.proofs.Counting.{next_modules, no_checked, no_trees}
use Rattle.th_accept.proofs.limits.measure_modules.Goals as goal

pub loop-k-preserved : goal.loop-k-preserved
loop-k-preserved c =
    next_modules tree_of module_of c.args.texts.now c.args.modules.now c.args.checked.now c.loop-k.k c.index-modules-k.result c.index-checked-k.result c.loop-k.first c.measure_module.new.first _
    c.loop-k-test.true c.if-k-modules.true c.if-k-checked.true c.index-modules-k.is c.index-checked-k.is c.in_ok-measure_module.ensures c.loop-k.invariant

pub returns-else-k-modules : goal.returns-else-k-modules
returns-else-k-modules c =
    let done : drop c.loop-k.k c.args.modules.now ≡ [] = drop_of_length-le c.args.modules.now c.if-k-modules.false in
    sym (ap (λ (fs : List Module). earliest c.loop-k.first (modules_counts (with_texts (drop c.loop-k.k c.args.texts.now) (map tree_of fs)) (map module_of (drop c.loop-k.k c.args.checked.now)))) done
    ∙ ap (λ (ms : List (Numbered ModuleSyn)). earliest c.loop-k.first (modules_counts ms (map module_of (drop c.loop-k.k c.args.checked.now)))) (no_trees (drop c.loop-k.k c.args.texts.now)))
    ∙ c.loop-k.invariant

pub returns-else-k-checked : goal.returns-else-k-checked
returns-else-k-checked c =
    let trees : List (Numbered ModuleSyn) = with_texts (drop c.loop-k.k c.args.texts.now) (map tree_of (drop c.loop-k.k c.args.modules.now)) in
    let done : drop c.loop-k.k c.args.checked.now ≡ [] = drop_of_length-le c.args.checked.now c.if-k-checked.false in
    sym (ap (λ (cs : List CoreModule). earliest c.loop-k.first (modules_counts trees (map module_of cs))) done ∙ ap (earliest c.loop-k.first) (no_checked trees))
    ∙ c.loop-k.invariant
