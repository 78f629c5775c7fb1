use Rattle.th_layout.proofs.Judged.{fitting}
use Rattle.th_layout.proofs.Keeping.{kept_by}
use Rattle.th_layout.proofs.layout.Layout.of_rows.Goals as goal

pub type_side-requires-clause-few : goal.type_side-requires-clause-few
type_side-requires-clause-few c = (fitting c.args.limit (record { types = c.deref-rows.result.now; classes = c.deref-class_rows.result.now }) c.requires.limit c.in_ok-sums.ensures.1).few

pub type_side-requires-clause-shallow : goal.type_side-requires-clause-shallow
type_side-requires-clause-shallow c = (fitting c.args.limit (record { types = c.deref-rows.result.now; classes = c.deref-class_rows.result.now }) c.requires.limit c.in_ok-sums.ensures.1).shallow

pub class_side-requires-clause-few : goal.class_side-requires-clause-few
class_side-requires-clause-few c = (fitting c.args.limit (record { types = c.deref-rows.result.now; classes = c.deref-class_rows.result.now }) c.requires.limit c.in_ok-sums.ensures.1).few

pub class_side-requires-clause-shallow : goal.class_side-requires-clause-shallow
class_side-requires-clause-shallow c = (fitting c.args.limit (record { types = c.deref-rows.result.now; classes = c.deref-class_rows.result.now }) c.requires.limit c.in_ok-sums.ensures.1).shallow

pub class_side-requires-clause-words : goal.class_side-requires-clause-words
class_side-requires-clause-words c = (fitting c.args.limit (record { types = c.deref-rows.result.now; classes = c.deref-class_rows.result.now }) c.requires.limit c.in_ok-sums.ensures.1).words

pub class_side-requires-clause-fields : goal.class_side-requires-clause-fields
class_side-requires-clause-fields c = (fitting c.args.limit (record { types = c.deref-rows.result.now; classes = c.deref-class_rows.result.now }) c.requires.limit c.in_ok-sums.ensures.1).fields

pub class_side-requires-clause-slots : goal.class_side-requires-clause-slots
class_side-requires-clause-slots c = (fitting c.args.limit (record { types = c.deref-rows.result.now; classes = c.deref-class_rows.result.now }) c.requires.limit c.in_ok-sums.ensures.1).slots

pub invariant_of-result : goal.invariant_of-result
invariant_of-result c = kept_by _ c.deref-rows.result.now c.deref-class_rows.result.now c.deref-rows.ensures.value c.deref-class_rows.ensures.value c.requires.sound
    c.in_ok-places.ensures c.in_ok-sums.ensures.0 c.in_ok-type_side.ensures c.in_ok-class_side.ensures
