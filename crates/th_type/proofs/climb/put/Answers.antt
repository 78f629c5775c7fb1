use Rattle.std.proofs.Common.{sym}
use Rattle.th_type.proofs.Held.{found_kept, put_known, put_new}
use Rattle.th_type.proofs.climb.put.Goals as goal

pub is_same-requires-clause-a : goal.is_same-requires-clause-a
is_same-requires-clause-a c = found_kept c.args.pool.now c.args.above.now c.args.name c.in-Some.known c.requires.held (sym c.in-Some.ensures)

pub is_same-requires-clause-b : goal.is_same-requires-clause-b
is_same-requires-clause-b c = (c.requires.list.0, c.requires.list.1.0)

pub returns-in-Some : goal.returns-in-Some
returns-in-Some c = put_known c.args.pool.now c.args.above.now c.args.name c.in-Some.known c.args.list c.is_same.result c.requires.held c.requires.list (sym c.in-Some.ensures) c.is_same.ensures

pub returns-in_ok-push-in-None : goal.returns-in_ok-push-in-None
returns-in_ok-push-in-None c = put_new c.args.pool.now c.args.above.now c.push.new.self c.args.name c.args.list c.requires.held c.requires.list (sym c.in-None.ensures) c.in_ok-push-in-None.ensures
