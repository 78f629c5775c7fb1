use Rattle.std.proofs.Common.{◌≡◌, sym, subst, arith}
use Rattle.th_type.specs.Types.{tys_height}
use Rattle.th_type.specs.Pool.{cell_tys, pooled, IsNumbered, CellFits, Grows, PoolRight}
use Rattle.th_type.proofs.Pooled.{number_found, number_put, put_grows, pool_put}
use Rattle.th_type.proofs.pool.Pool.number.Goals as goal

pub returns-in-Some-clause-made : goal.returns-in-Some-clause-made
returns-in-Some-clause-made c = subst (λ ts. IsNumbered ts c.in-Some.kept.number (cell_tys ts c.args.cell)) c.self.view_is (number_found c.self.inside.cells.entries c.args.cell c.in-Some.kept c.self.invariant (sym c.in-Some.ensures))

pub invariant_of-self : goal.invariant_of-self
invariant_of-self c = subst PoolRight (sym c.in_err-put.ensures.err) c.self.invariant

pub invariant_of-self-2 : goal.invariant_of-self-2
invariant_of-self-2 c =
    pool_put c.self.inside.cells.entries c.put.new.cells.entries c.args.cell _ c.in_ok-put.ensures.entries c.self.invariant (subst (λ ts. CellFits ts c.args.cell) (sym c.self.view_is) c.requires) (sym c.in-None.ensures) c.len-count.ensures.len
    (subst (λ ts. c.cell_height-height.result ≡ tys_height (cell_tys ts c.args.cell)) (sym c.self.view_is) c.cell_height-height.ensures)
    (let l = c.if-height-gt-MOST_HEIGHT.false in omega (arith, l))

pub returns-clause-made : goal.returns-clause-made
returns-clause-made c =
    subst (λ ts. IsNumbered (pooled c.put.new.cells.entries) c.len-count.result (cell_tys ts c.args.cell)) c.self.view_is
    (number_put c.self.inside.cells.entries c.put.new.cells.entries c.args.cell _ c.in_ok-put.ensures.entries c.len-count.ensures.len
    (subst (λ ts. c.cell_height-height.result ≡ tys_height (cell_tys ts c.args.cell)) (sym c.self.view_is) c.cell_height-height.ensures)
    (let l = c.if-height-gt-MOST_HEIGHT.false in omega (arith, l)))

pub returns-clause-grown : goal.returns-clause-grown
returns-clause-grown c = subst (λ ts. Grows ts (pooled c.put.new.cells.entries)) c.self.view_is (put_grows c.self.inside.cells.entries c.put.new.cells.entries c.args.cell _ c.in_ok-put.ensures.entries)
