use Rattle.std.proofs.Common.{◌≡◌}
use Rattle.th_type.specs.Types.{tys_of, tys_onto}
use Rattle.th_type.proofs.ty.TyList.turned.Given as goal

abbrev pub invariant-loop-self : goal.invariant-loop-self
invariant-loop-self l = tys_onto (tys_of l.self) (tys_of l.done) ≡ tys_onto (tys_of l.fn.self) (tys_of l.fn.end)
