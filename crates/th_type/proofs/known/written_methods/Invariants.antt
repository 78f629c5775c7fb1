use Rattle.std.proofs.Common.{map, take}
use Rattle.th_type.specs.declared.typedef.Written.{Written}
use Rattle.th_type.specs.Judged.{SameNumbers}
use Rattle.th_type.proofs.known.written_methods.Given as goal

abbrev pub invariant-loop-method : goal.invariant-loop-method
invariant-loop-method l = SameNumbers l.set.keys (map (λ (w : Written). w.sig.method) (take l.method-index l.written))
