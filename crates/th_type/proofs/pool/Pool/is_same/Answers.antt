use Rattle.std.proofs.Common.{subst, refl}
use Rattle.th_type.specs.Pool.{EachOnce}
use Rattle.th_type.proofs.Pooled.{same_numbers}
use Rattle.th_type.proofs.pool.Pool.is_same.Goals as goal

pub returns : goal.returns
returns c = same_numbers c.args.self.now c.args.a c.args.b _ (subst EachOnce c.self.view_is c.self.invariant.once) c.requires.a c.requires.b refl
