use Rattle.th_word.proofs.TwosComplement.{shift_right_signed-casts}
use Rattle.th_word.proofs.shift_right_signed.Goals as goal

-- The casts and the shift of the signed number come to the definition.
pub returns : goal.returns
returns c = shift_right_signed-casts c.args.a c.args.b _ _ _ c.ranges.a.fits c.cast_signed.ensures c.wrapping_shr.ensures c.cast_unsigned.ensures
