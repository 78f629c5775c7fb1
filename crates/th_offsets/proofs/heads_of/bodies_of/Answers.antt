use Rattle.std.proofs.Common.{◌<◌, subst, sym}
use Rattle.th_offsets.proofs.Heading.{bodies_made}
use Rattle.th_offsets.proofs.Seeing.{before_got}
use Rattle.th_offsets.proofs.heads_of.bodies_of.Goals as goal

pub add_inherited_bodies-requires-clause-before : goal.add_inherited_bodies-requires-clause-before
add_inherited_bodies-requires-clause-before c = λ d e. subst (λ n. d < n) (sym c.requires.before) (before_got c.args.classes.now c.args.number c.index-classes-number.result _ d c.requires.inherited c.requires.within c.index-classes-number.is e)

pub returns : goal.returns
returns c = bodies_made (record { types = c.args.types.now; classes = c.args.classes.now }) c.requires.inherited c.args.number c.index-classes-number.result _ c.as_slice.result.now c.new-list.result.items c.add_bodies.new.into.items _
    c.requires.within c.index-classes-number.is c.as_slice.ensures c.new-list.ensures.items c.in_ok-add_bodies.ensures c.in_ok-add_inherited_bodies.ensures
