use Rattle.th_type.proofs.Filling.{put_new, put_old}
use Rattle.th_type.proofs.methods.fill_one.Goals as goal

pub returns-then-has : goal.returns-then-has
returns-then-has c = put_old c.args.table.now.map.entries c.args.name c.args.def.now c.if-has.ensures

pub returns : goal.returns
returns c = put_new c.args.table.now.map.entries c.put.new.self.map.entries c.args.name c.args.def.now c.in_ok-sigs.sigs c.in_ok-put.ensures c.in_ok-sigs.ensures
