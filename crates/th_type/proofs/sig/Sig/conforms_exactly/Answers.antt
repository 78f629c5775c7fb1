use Rattle.th_type.specs.Signatures.{sig_of}
use Rattle.th_type.proofs.Exact.{exactly_decides}
use Rattle.th_type.proofs.sig.Sig.conforms_exactly.Goals as goal

pub returns : goal.returns
returns c = exactly_decides (sig_of c.args.self.now) (sig_of c.args.other.now) c.is_exact.result c.is_exact.ensures
