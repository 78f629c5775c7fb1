use Rattle.th_offsets.proofs.Forming.{hidden_made}
use Rattle.th_offsets.proofs.objects.hidden_of.Goals as goal

pub returns : goal.returns
returns c = hidden_made (record { types = c.args.types.now; classes = c.args.classes.now }) c.requires.inherited c.args.number c.index-classes-number.result _ c.in_ok-list.list.items _ c.as_slice.result.now
    c.requires.within c.index-classes-number.is c.in_ok-list.ensures c.as_slice.ensures c.in_ok-extend_from_slice.ensures.items
