use Rattle.std.proofs.Common.{◌-◌, ◌<◌, get_or, refl}
use Rattle.std.proofs.lemmas.Bool.{ltb-true}
use Rattle.th_lawful.proofs.Judging.{one_less, rises_made}
use Rattle.th_lawful.proofs.lawful.rises.Goals as goal

pub returns : goal.returns
returns c = λ t.
    let l = c.args.classes.now in
    let a = get_or l (c.args.k - 1) c.index-classes-k.result in
    let b = get_or l c.args.k c.index-classes-k-2.result in
    let w : a.name < b.name = ltb-true _ _ t in
    rises_made l (c.args.k - 1) c.args.k a b c.index-classes-k.result c.index-classes-k-2.result (one_less c.args.k c.if-k-eq0.false) c.requires refl refl w
