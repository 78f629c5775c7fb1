use Rattle.std.proofs.Common.{◌≤◌, sym, subst, arith, length}
use Rattle.th_type.proofs.Filling.{highest_bound, highest_more, in_take_all}
use Rattle.th_type.proofs.above.Ancestors.highest.Goals as goal

pub loop-k-preserved : goal.loop-k-preserved
loop-k-preserved c = record {
  bound = λ e i. subst (λ h. length e.1.map.entries ≤ h) (sym c.max-highest.ensures)
      (highest_more c.args.self.now.map.entries c.loop-k.k c.loop-k.highest (c.in-Some.field-0-0.now, c.in-Some.above.now) c.len.result (sym c.in-Some.ensures.entry) c.len.ensures.count c.loop-k.invariant.bound e i);
  small = let a = c.max-highest.ensures in let b = c.len.ensures.small in let d = c.loop-k.invariant.small in omega (arith, a, b, d);
}

pub returns-clause-bound : goal.returns-clause-bound
returns-clause-bound c =
    highest_bound c.args.self.now c.loop-k.highest
    (λ e i. c.loop-k.invariant.bound e (in_take_all e c.loop-k.k c.args.self.now.map.entries (let a = c.len-k-end.ensures.len in let b = c.loop-k-test.false in omega (arith, a, b)) i))
