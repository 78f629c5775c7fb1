use Rattle.std.proofs.Common.{◌≡◌, map, drop}
use Rattle.th_type.specs.Types.{ty_of}
use Rattle.th_overrides.specs.Reached.{with_heads}
use Rattle.th_overrides.proofs.reached.add_heads.Given as goal

abbrev pub invariant-loop-ty : goal.invariant-loop-ty
invariant-loop-ty l = (with_heads l.seen (map ty_of (drop l.ty-index l.types)) ≡ with_heads l.fn.seen (map ty_of l.types)) × (l.names.items ≡ l.seen)
