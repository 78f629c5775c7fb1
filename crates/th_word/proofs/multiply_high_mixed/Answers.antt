use Rattle.th_word.proofs.TwosComplement.{multiply_high_mixed-casts}
use Rattle.th_word.proofs.multiply_high_mixed.Goals as goal

-- The product of the signed and the unsigned number comes to the definition.
pub returns : goal.returns
returns c = multiply_high_mixed-casts c.args.a c.args.b _ _ c.ranges.a.fits c.ranges.b.fits c.signed.ensures c.high_half.ensures
