use Rattle.std.proofs.Common.{get_or}
use Rattle.th_scope.specs.View.{items_of}
use Rattle.th_bodies.proofs.Outer.{interfaces_done, next_outer, texts_done}
use Rattle.th_bodies.proofs.Paired.{got_or}
use Rattle.th_bodies.proofs.exported.judge_interfaces.Goals as goal

pub loop-k-preserved : goal.loop-k-preserved
loop-k-preserved c =
    let n = get_or c.args.texts.now c.loop-k.k 0 in
    next_outer c.args.names.now c.args.hierarchy.now (items_of c.args.items.now) c.args.texts.now c.args.interfaces.now c.loop-k.k n c.index-interfaces-k.result c.loop-k.least c.judge_interface.new.least _
    c.if-k-texts.true c.loop-k-test.true (got_or c.args.texts.now c.loop-k.k 0 n c.if-k-texts.true) c.index-interfaces-k.is c.in_ok-judge_interface.ensures c.loop-k.invariant

pub returns-after-loop-k : goal.returns-after-loop-k
returns-after-loop-k c = interfaces_done c.args.names.now c.args.hierarchy.now (items_of c.args.items.now) c.args.texts.now c.args.interfaces.now c.loop-k.k c.loop-k.least _ c.loop-k-test.false c.loop-k.invariant

pub returns-else-k-texts : goal.returns-else-k-texts
returns-else-k-texts c = texts_done c.args.names.now c.args.hierarchy.now (items_of c.args.items.now) c.args.texts.now c.args.interfaces.now c.loop-k.k c.loop-k.least _ c.if-k-texts.false c.loop-k.invariant
