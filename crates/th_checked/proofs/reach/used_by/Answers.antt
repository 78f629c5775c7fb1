use Rattle.th_checked.proofs.Used.{used_found}
use Rattle.th_checked.proofs.reach.used_by.Goals as goal

pub returns-in-Some-get : goal.returns-in-Some-get
returns-in-Some-get c =
    let i = c.in-Some-get.interface.now in
    used_found c.args.name c.args.interfaces.now c.args.names.now c.in-Some.place i c.deref.result.now c.requires c.in-Some.ensures c.in-Some-get.ensures.lookup.3.0 (c.in-Some-get.ensures.lookup.3.1 i) c.deref.ensures.value
