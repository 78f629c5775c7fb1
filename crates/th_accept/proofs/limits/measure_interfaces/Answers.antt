use Rattle.std.proofs.Common.{◌≡◌, ◌∙◌, List, [], map, drop, sym, ap}
use Rattle.std.proofs.Math.ListN.{drop_of_length-le}
use Rattle.th_tree.specs.declared.decl.Interface.{Interface}
use Rattle.th_tree.specs.DeclView.{interface_of}
use Rattle.th_tree.specs.Trees.{InterfaceSyn}
use Rattle.th_module_rules.specs.Stages.{Numbered}
use Rattle.th_program.specs.Programs.{with_texts}
use Rattle.th_limits.specs.Earliest.{earliest}
use Rattle.th_accept.specs.Counts.{interfaces_counts}
use Rattle.th_accept.proofs.Counting.{next_interfaces, no_trees}
use Rattle.th_accept.proofs.limits.measure_interfaces.Goals as goal

pub loop-k-preserved : goal.loop-k-preserved
loop-k-preserved c =
    next_interfaces interface_of c.args.texts.now c.args.interfaces.now c.loop-k.k c.index-interfaces-k.result c.loop-k.first c.measure_interface.new.first _
    c.loop-k-test.true c.if-k-interfaces.true c.index-interfaces-k.is c.measure_interface.ensures c.loop-k.invariant

pub returns-else-k-interfaces : goal.returns-else-k-interfaces
returns-else-k-interfaces c =
    let done : drop c.loop-k.k c.args.interfaces.now ≡ [] = drop_of_length-le c.args.interfaces.now c.if-k-interfaces.false in
    sym (ap (λ (fs : List Interface). earliest c.loop-k.first (interfaces_counts (with_texts (drop c.loop-k.k c.args.texts.now) (map interface_of fs)))) done
    ∙ ap (λ (is : List (Numbered InterfaceSyn)). earliest c.loop-k.first (interfaces_counts is)) (no_trees (drop c.loop-k.k c.args.texts.now)))
    ∙ c.loop-k.invariant
