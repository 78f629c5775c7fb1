use Rattle.std.proofs.Common.{◌≡◌, ◌∙◌, ap, sym, subst}
use Rattle.th_type.specs.Types.{tys_height}
use Rattle.th_type.specs.Pool.{tys_at}
use Rattle.th_type.proofs.Pooled.{height_at, none_at}
use Rattle.th_type.proofs.pool.Pool.list_height.Goals as goal

pub returns-in-Some-clause-is : goal.returns-in-Some-clause-is
returns-in-Some-clause-is c = subst (λ ts. c.in-Some.kept.now.height ≡ tys_height (tys_at ts c.args.list)) c.self.view_is (height_at c.self.inside.cells.entries c.args.list c.in-Some.field-0-0.now c.in-Some.kept.now c.self.invariant (sym c.in-Some.ensures.entry)).0

pub returns-in-Some-clause-low : goal.returns-in-Some-clause-low
returns-in-Some-clause-low c = (height_at c.self.inside.cells.entries c.args.list c.in-Some.field-0-0.now c.in-Some.kept.now c.self.invariant (sym c.in-Some.ensures.entry)).1

pub returns-in-None-clause-is : goal.returns-in-None-clause-is
returns-in-None-clause-is c = subst (λ ts. 0 ≡ tys_height (tys_at ts c.args.list)) c.self.view_is (sym (ap tys_height (none_at c.self.inside.cells.entries c.args.list (sym c.in-None.ensures.entry))))
