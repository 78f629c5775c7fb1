use Rattle.std.proofs.Common.{◌≡◌, ◌∙◌, sym, subst}
use Rattle.th_type.specs.Types.{no_ty}
use Rattle.th_type.specs.Pool.{tys_at, cell_tys, CellFits}
use Rattle.th_type.proofs.Pooled.{cell_at, none_at}
use Rattle.th_type.proofs.pool.Pool.cell.Goals as goal

pub returns-in-Some-clause-is : goal.returns-in-Some-clause-is
returns-in-Some-clause-is c = subst (λ ts. cell_tys ts c.in-Some.cell.now ≡ tys_at ts c.args.list) c.self.view_is (cell_at c.self.inside.cells.entries c.args.list c.in-Some.cell.now c.in-Some.field-0-1.now c.self.invariant (sym c.in-Some.ensures.entry)).0

pub returns-in-Some-clause-fits : goal.returns-in-Some-clause-fits
returns-in-Some-clause-fits c = subst (λ ts. CellFits ts c.in-Some.cell.now) c.self.view_is (cell_at c.self.inside.cells.entries c.args.list c.in-Some.cell.now c.in-Some.field-0-1.now c.self.invariant (sym c.in-Some.ensures.entry)).1

pub returns-in-None-clause-is : goal.returns-in-None-clause-is
returns-in-None-clause-is c = subst (λ ts. no_ty ≡ tys_at ts c.args.list) c.self.view_is (sym (none_at c.self.inside.cells.entries c.args.list (sym c.in-None.ensures.entry)))
