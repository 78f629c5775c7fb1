use Rattle.th_word.proofs.TwosComplement.{multiply_high-casts}
use Rattle.th_word.proofs.multiply_high.Goals as goal

-- The product of the signed numbers comes to the definition.
pub returns : goal.returns
returns c = multiply_high-casts c.args.a c.args.b _ _ _ c.ranges.a.fits c.ranges.b.fits c.signed.ensures c.signed-2.ensures c.high_half.ensures
