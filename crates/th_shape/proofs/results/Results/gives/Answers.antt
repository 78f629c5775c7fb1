use Rattle.std.proofs.Common.{◌≤◌, sym, subst, length, arith}
use Rattle.std.specs.Prelude.{nat_eq}
use Rattle.std.specs.HashMap.{get}
use Rattle.th_shape.proofs.Adding.{given_next, given_end}
use Rattle.th_shape.proofs.results.Results.gives.Goals as goal

pub loop-k-preserved : goal.loop-k-preserved
loop-k-preserved c = λ q. given_next (get nat_eq c.args.places.now) c.args.self.now.of.entries c.loop-k.k q c.at-method.result _ c.placed-of.result _ _ c.len-k-end.ensures.unique c.at-method.ensures c.placed-of.ensures (c.in_ok-give.ensures q) (c.loop-k.invariant q)

pub returns : goal.returns
returns c = λ q. given_end (get nat_eq c.args.places.now) c.args.self.now.of.entries c.loop-k.k q _ _ (let a = c.len-k-end.ensures.len in let b = c.loop-k-test.false in omega (arith, a, b)) (c.loop-k.invariant q)
