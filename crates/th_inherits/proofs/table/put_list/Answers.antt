use Rattle.std.proofs.lemmas.List.{map-set}
use Rattle.std.proofs.Common.{ℕ}
use Rattle.std.specs.Global.{Vec}
use Rattle.th_inherits.proofs.table.put_list.Goals as goal

pub returns : goal.returns
returns c = map-set (λ (v : Vec ℕ). v.items) c.args.table.now.items c.args.place c.args.list
