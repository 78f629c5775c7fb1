use Rattle.std.proofs.Common.{◌<◌, length, refl, subst, sym}
use Rattle.th_offsets.proofs.Tallies.{of_within}
use Rattle.th_offsets.proofs.Seeing.{lower_ok, seen_made, before_got}
use Rattle.th_offsets.proofs.seen.seen_of.Goals as goal

pub lower_onto-requires : goal.lower_onto-requires
lower_onto-requires c = lower_ok (record { types = c.args.types.now; classes = c.args.classes.now }) c.requires.inherited c.args.objects.now c.args.spots.now c.args.number c.index-classes-number.result (record { start = 0; words = 0; wheres = 0; fields = 0; below = 0 }) _ _ c.deref.result.now
    c.requires.within c.requires.objects.0 c.requires.objects.1 c.requires.words
    (of_within (record { types = c.args.types.now; classes = c.args.classes.now }) c.args.number c.index-classes-number.result _ c.requires.typed c.requires.within c.index-classes-number.is)
    c.requires.spots.0 c.requires.spots.1 c.requires.few refl c.deref.ensures.value

pub add_inherited-requires-clause-before : goal.add_inherited-requires-clause-before
add_inherited-requires-clause-before c = λ d e. subst (λ n. d < n) (sym c.requires.before) (before_got c.args.classes.now c.args.number c.index-classes-number.result _ d c.requires.inherited c.requires.within c.index-classes-number.is e)

pub returns : goal.returns
returns c = seen_made (record { types = c.args.types.now; classes = c.args.classes.now }) c.requires.inherited c.args.objects.now c.args.spots.now c.args.number c.index-classes-number.result _ (record { start = 0; words = 0; wheres = 0; fields = 0; below = 0 }) _ _ c.deref.result.now
    c.new-list.result.items c.lower_onto.new.into.items _
    c.requires.within c.index-classes-number.is c.requires.objects.0 c.requires.objects.1
    (of_within (record { types = c.args.types.now; classes = c.args.classes.now }) c.args.number c.index-classes-number.result _ c.requires.typed c.requires.within c.index-classes-number.is)
    c.requires.spots.0 c.requires.spots.1 refl c.deref.ensures.value c.new-list.ensures.items c.in_ok-lower_onto.ensures c.in_ok-add_inherited.ensures
