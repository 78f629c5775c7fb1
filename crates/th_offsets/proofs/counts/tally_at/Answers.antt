use Rattle.std.proofs.Common.{◌<◌, length, arith}
use Rattle.th_offsets.proofs.Tallies.{tally_made, of_within}
use Rattle.th_offsets.proofs.counts.tally_at.Goals as goal

pub returns : goal.returns
returns c =
    let k : c.index-classes-number.result.of < length c.args.types.now = of_within (record { types = c.args.types.now; classes = c.args.classes.now }) c.args.number c.index-classes-number.result _
    c.requires.typed c.requires.within c.index-classes-number.is in
    let m : c.index-classes-number.result.of < length c.args.sums.now = omega arith in
    let n : c.index-classes-number.result.of < length c.args.most.now = omega arith in
    tally_made (record { types = c.args.types.now; classes = c.args.classes.now }) c.requires.inherited c.args.number c.index-classes-number.result _ c.inherited_tally-up.result c.tally_of.result _ _
    c.requires.within c.index-classes-number.is c.inherited_tally-up.ensures (c.requires.sums.1 c.index-classes-number.result.of m) (c.requires.most.1 c.index-classes-number.result.of n) c.tally_of.ensures
