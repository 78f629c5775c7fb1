use Rattle.th_type.specs.Signatures.{sig_of}
use Rattle.th_where.proofs.Standing.{found_at, none_more, none_at_all}
use Rattle.th_where.proofs.satisfy.find.Goals as goal

pub returns-then-fits : goal.returns-then-fits
returns-then-fits c = found_at (sig_of c.args.wanted.now) c.args.candidates.now c.loop-candidate.candidate-index c.candidate-item.result c.fits.result c.loop-candidate-test.true c.candidate-item.is c.fits.ensures c.if-fits.true

pub loop-candidate-preserved : goal.loop-candidate-preserved
loop-candidate-preserved c = none_more (sig_of c.args.wanted.now) c.args.candidates.now c.loop-candidate.candidate-index c.candidate-item.result c.fits.result c.loop-candidate-test.true c.candidate-item.is c.fits.ensures c.if-fits.false c.loop-candidate.invariant

pub returns : goal.returns
returns c = none_at_all (sig_of c.args.wanted.now) c.args.candidates.now c.loop-candidate.candidate-index c.loop-candidate-test.false c.loop-candidate.invariant
