use Rattle.std.proofs.Common.{◌≤◌, sym, subst, length, arith}
use Rattle.th_type.specs.Types.{tys_of, list_of}
use Rattle.th_shape.proofs.Adding.{entries_step, entries_end}
use Rattle.th_shape.proofs.results.Results.add_all.Goals as goal

pub loop-k-preserved : goal.loop-k-preserved
loop-k-preserved c = λ q. entries_step (list_of (tys_of c.args.args.now)) c.args.from.now.of.entries c.loop-k.k c.at-method.result _ _ _ q c.apply-applied.result c.at-method.ensures c.apply-applied.ensures (c.in_ok-add.ensures q) (c.loop-k.invariant q)

pub returns : goal.returns
returns c = λ q. entries_end (list_of (tys_of c.args.args.now)) c.args.from.now.of.entries c.loop-k.k _ _ q (let a = c.len-k-end.ensures.len in let b = c.loop-k-test.false in omega (arith, a, b)) (c.loop-k.invariant q)
