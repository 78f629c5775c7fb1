use Rattle.std.proofs.Common.{◌≡◌, ◌+◌, ◌<◌, length}
use Rattle.th_offsets.proofs.Tallies.{of_within}
use Rattle.th_offsets.proofs.Forming.{object_made, words_few, filled_few, span_at}
use Rattle.th_offsets.proofs.objects.object_at.Goals as goal

pub object_of-requires-clause-words : goal.object_of-requires-clause-words
object_of-requires-clause-words c =
    (words_few (record { types = c.args.types.now; classes = c.args.classes.now }) c.requires.inherited c.args.number c.index-classes-number.result _ c.inherited_object-up.result _
    c.requires.within c.index-classes-number.is c.requires.few c.inherited_object-up.ensures
    (span_at c.args.types.now c.args.facts.now c.index-classes-number.result.of _ c.requires.known.0
    (of_within (record { types = c.args.types.now; classes = c.args.classes.now }) c.args.number c.index-classes-number.result _ c.requires.typed c.requires.within c.index-classes-number.is)
    c.requires.known.1)).0

pub object_of-requires-clause-start : goal.object_of-requires-clause-start
object_of-requires-clause-start c =
    (words_few (record { types = c.args.types.now; classes = c.args.classes.now }) c.requires.inherited c.args.number c.index-classes-number.result _ c.inherited_object-up.result _
    c.requires.within c.index-classes-number.is c.requires.few c.inherited_object-up.ensures
    (span_at c.args.types.now c.args.facts.now c.index-classes-number.result.of _ c.requires.known.0
    (of_within (record { types = c.args.types.now; classes = c.args.classes.now }) c.args.number c.index-classes-number.result _ c.requires.typed c.requires.within c.index-classes-number.is)
    c.requires.known.1)).1

pub object_of-requires-clause-filled : goal.object_of-requires-clause-filled
object_of-requires-clause-filled c = filled_few (record { types = c.args.types.now; classes = c.args.classes.now }) c.requires.inherited c.args.number c.index-classes-number.result _
    c.inherited_object-up.result c.requires.within c.index-classes-number.is c.requires.filled c.inherited_object-up.ensures

pub returns : goal.returns
returns c = object_made (record { types = c.args.types.now; classes = c.args.classes.now }) c.requires.inherited c.args.number c.index-classes-number.result _ c.inherited_object-up.result c.object_of.result _
    c.requires.within c.index-classes-number.is c.inherited_object-up.ensures
    (span_at c.args.types.now c.args.facts.now c.index-classes-number.result.of _ c.requires.known.0
    (of_within (record { types = c.args.types.now; classes = c.args.classes.now }) c.args.number c.index-classes-number.result _ c.requires.typed c.requires.within c.index-classes-number.is)
    c.requires.known.1) c.object_of.ensures
