use Rattle.th_type.specs.Signatures.{sig_of}
use Rattle.th_overrides.proofs.Conforms.{shape_left, shape_refutes}
use Rattle.th_overrides.proofs.conform.fits_loosely.Goals as goal

pub returns-then-not-shape_fits : goal.returns-then-not-shape_fits
returns-then-not-shape_fits c = shape_refutes c.args.hierarchy.now.types (sig_of c.args.a.now) (sig_of c.args.b.now) c.shape_fits.result c.shape_fits.ensures c.if-not-shape_fits.true

pub returns : goal.returns
returns c = shape_left c.args.hierarchy.now.types (sig_of c.args.a.now) (sig_of c.args.b.now) c.shape_fits.result c.gives_fit.result c.shape_fits.ensures c.if-not-shape_fits.false c.gives_fit.ensures
