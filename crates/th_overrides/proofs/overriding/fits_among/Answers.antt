use Rattle.std.proofs.Common.{map}
use Rattle.th_type.specs.Types.{list_of, tys_of}
use Rattle.th_type.specs.Signatures.{sig_of}
use Rattle.th_hier.specs.Views.{sig_opt}
use Rattle.th_overrides.proofs.Overrides.{among_some}
use Rattle.th_overrides.proofs.overriding.fits_among.Goals as goal

pub returns-in_ok-found-in-Some : goal.returns-in_ok-found-in-Some
returns-in_ok-found-in-Some c =
    among_some c.args.hierarchy.now.types (sig_opt c.args.known.now) (sig_of c.args.sig.now) (map sig_of c.args.hidden.now) (list_of (tys_of c.args.args.now)) (sig_of c.in-Some.found.now) (sig_of c.in_ok-found-in-Some.found) c.fits_hidden.result
    c.in-Some.ensures c.in_ok-found-in-Some.ensures c.fits_hidden.ensures
