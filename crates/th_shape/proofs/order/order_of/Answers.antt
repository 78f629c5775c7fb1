use Rattle.std.proofs.Common.{◌∙◌, arith}
use Rattle.th_shape.proofs.Walking.{placing_start, order_done, marks_more}
use Rattle.th_shape.proofs.order.order_of.Goals as goal

pub loop-k-init : goal.loop-k-init
loop-k-init c = record {
  placing = placing_start c.args.ups.now c.deref_mut-marked.result.now c.new-order.result.items (c.deref_mut-marked.ensures.value ∙ c.in_ok-flags.ensures.items_if_clones_equal (λ y same. same)) c.new-order.ensures.items;
  done = λ x h. absurd (omega (arith, h));
}

pub loop-k-preserved : goal.loop-k-preserved
loop-k-preserved c = record {
  placing = c.in_ok-place.ensures.placing;
  done = marks_more c.loop-k.marked c.place.new.marked c.loop-k.k c.loop-k.invariant.done c.in_ok-place.ensures.kept c.in_ok-place.ensures.here;
}

pub returns : goal.returns
returns c = order_done c.args.ups.now c.loop-k.marked c.loop-k.order.items c.loop-k.k c.loop-k.invariant.placing c.loop-k.invariant.done c.loop-k-test.false
