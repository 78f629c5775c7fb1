use Rattle.th_type.specs.Signatures.{sig_of}
use Rattle.th_overrides.proofs.Conforms.{conforms_fixed, conforms_same}
use Rattle.th_overrides.proofs.conform.conforms.Goals as goal

pub returns-then-same_gives : goal.returns-then-same_gives
returns-then-same_gives c =
    conforms_same c.args.hierarchy.now.types c.args.name (sig_of c.args.a.now) (sig_of c.args.b.now) c.fits_loosely.result c.same_gives.result c.fits_loosely.ensures c.if-not-fits_loosely.false c.same_gives.ensures c.if-same_gives.true

pub returns : goal.returns
returns c =
    conforms_fixed c.args.hierarchy.now.types c.args.name (sig_of c.args.a.now) (sig_of c.args.b.now) c.fits_loosely.result c.same_gives.result c.in_ok-fixed.fixed c.fits_loosely.ensures c.if-not-fits_loosely.false c.same_gives.ensures c.if-same_gives.false
    c.in_ok-fixed.ensures
