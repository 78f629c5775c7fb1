use Rattle.std.proofs.lemmas.Bool.{ne_eqb}
use Rattle.th_word.proofs.TwosComplement.{divide-casts}
use Rattle.th_word.proofs.divide.Goals as goal

-- The casts and the quotient of the signed numbers come to the definition.
pub returns-else-b-eq0 : goal.returns-else-b-eq0
returns-else-b-eq0 c = divide-casts c.args.a c.args.b _ _ _ _ c.ranges.a.fits c.ranges.b.fits (ne_eqb c.args.b 0 c.if-b-eq0.false) c.cast_signed.ensures c.cast_signed-else-b-eq0.ensures c.wrapping_div-quotient.ensures c.cast_unsigned.ensures
