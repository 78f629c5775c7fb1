use Rattle.std.proofs.Common.{◌≡◌}
use Rattle.th_type.specs.Signatures.{sig_of}
use Rattle.th_type.specs.Conforming.{exactly}
use Rattle.th_type.proofs.Exact.{exactly_to, exactly_from}
use Rattle.th_scope.proofs.Deciding.{same_by}
use Rattle.th_supply.proofs.supply.is_exact.Goals as goal

pub returns : goal.returns
returns c =
    let s = sig_of c.args.sig.now in
    let t = sig_of c.args.needed.now in
    same_by c.conforms_exactly.result (exactly s t) (λ h. exactly_from s t (c.conforms_exactly.ensures.0 h)) (λ h. c.conforms_exactly.ensures.1 (exactly_to s t h))
