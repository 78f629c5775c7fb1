use Rattle.th_accept.proofs.Counting.{next_words}
use Rattle.th_accept.proofs.limits.measure_words.Goals as goal

pub loop-k-preserved : goal.loop-k-preserved
loop-k-preserved c =
    next_words c.args.texts.now c.loop-k.k c.in_ok-text_number.field-0 c.index-texts-k.result c.loop-k.first c.measure_tokens.new.first _
    c.loop-k-test.true c.index-texts-k.is c.in_ok-text_number.ensures c.in_ok-measure_tokens.ensures c.loop-k.invariant
