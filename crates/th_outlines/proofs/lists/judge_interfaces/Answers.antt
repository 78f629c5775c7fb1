use Rattle.std.proofs.Common.{◌∙◌, List, get_or, drop, map, ap, refl, sym}
use Rattle.th_tree.specs.declared.decl.InterfaceItem.{InterfaceItem}
use Rattle.th_tree.specs.declared.decl.Interface.{Interface}
use Rattle.th_tree.specs.DeclView.{interface_item_of, interface_of}
use Rattle.th_type.specs.Failures.{lowest}
use Rattle.th_module_rules.specs.Clauses.{interface_items_fail}
use Rattle.th_module_rules.specs.Stages.{interfaces_fail}
use Rattle.th_program.specs.Programs.{with_texts}
use Rattle.th_outlines.proofs.Pairing.{last_lowest, next_lowest, past_texts, past_trees}
use Rattle.th_outlines.proofs.lists.judge_interfaces.Goals as goal

pub loop-k-preserved : goal.loop-k-preserved
loop-k-preserved c = λ table is.
    let k = c.loop-k.k in
    next_lowest interface_of (λ m. interface_items_fail table m.text m.tree.items) (interfaces_fail table) c.args.texts.now c.args.interfaces.now k c.index-interfaces-k.result c.loop-k.least c.judge_interface_items.new.least _
    (λ y ys. refl) c.if-k-texts.true c.loop-k-test.true c.index-interfaces-k.is
    (c.in_ok-judge_interface_items.ensures table is ∙ ap (λ (xs : List InterfaceItem). lowest c.loop-k.least (interface_items_fail table (get_or c.args.texts.now k 0) (map interface_item_of xs))) c.deref.ensures.value
    ∙ ap (λ (x : Interface). lowest c.loop-k.least (interface_items_fail table (get_or c.args.texts.now k 0) (map interface_item_of x.items.items))) (sym c.index-interfaces-k.is))
    (c.loop-k.invariant table is)

pub returns-else-k-texts : goal.returns-else-k-texts
returns-else-k-texts c = λ table is.
    last_lowest (interfaces_fail table) (with_texts (drop c.loop-k.k c.args.texts.now) (map interface_of (drop c.loop-k.k c.args.interfaces.now))) c.loop-k.least _ refl
    (past_texts c.args.texts.now (map interface_of (drop c.loop-k.k c.args.interfaces.now)) c.loop-k.k c.if-k-texts.false) (c.loop-k.invariant table is)

pub returns-after-loop-k : goal.returns-after-loop-k
returns-after-loop-k c = λ table is.
    last_lowest (interfaces_fail table) (with_texts (drop c.loop-k.k c.args.texts.now) (map interface_of (drop c.loop-k.k c.args.interfaces.now))) c.loop-k.least _ refl
    (past_trees interface_of (drop c.loop-k.k c.args.texts.now) c.args.interfaces.now c.loop-k.k c.loop-k-test.false) (c.loop-k.invariant table is)
