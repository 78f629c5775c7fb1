use Rattle.std.proofs.Common.{◌≡◌, sym, subst}
use Rattle.th_type.specs.Pool.{tys_at, shapes_before, AllFit}
use Rattle.th_type.proofs.Pooled.{all_fit_more}
use Rattle.th_type.proofs.Pooling.{next_are}
use Rattle.th_type.proofs.pool.Pool.shapes.Goals as goal

pub loop-shapes-preserved : goal.loop-shapes-preserved
loop-shapes-preserved c =
    let ts = c.args.self.now in
    let s = sym c.in_ok-push-in-More.ensures.items in
    record {
      fit = subst (λ ss. AllFit ts ss) s (all_fit_more ts c.loop-shapes.shapes.items c.in-More.first c.loop-shapes.invariant.fit c.in-More.ensures.fits.0);
      are =
          subst (λ ss. shapes_before ts ss (tys_at ts c.in-More.next) ≡ tys_at ts c.args.list) s
          (next_are ts c.loop-shapes.shapes.items c.in-More.first c.loop-shapes.rest c.in-More.next (tys_at ts c.args.list) c.loop-shapes.invariant.are c.in-More.ensures.is);
    }
