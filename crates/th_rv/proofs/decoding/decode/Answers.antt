use Rattle.std.proofs.Common.{arith}
use Rattle.th_rv.proofs.DecodeLemmas.{decode_valid, decode_spelled, decode_none}
use Rattle.th_rv.proofs.decoding.decode.Goals as goal

pub returns-clause-valid : goal.returns-clause-valid
returns-clause-valid c = decode_valid c.args.word c.spelled.result (omega arith) c.spelled.ensures

pub returns-clause-spells : goal.returns-clause-spells
returns-clause-spells c = decode_spelled c.args.word c.spelled.result (omega arith) c.spelled.ensures

pub returns-clause-none : goal.returns-clause-none
returns-clause-none c = decode_none c.args.word c.spelled.result c.spelled.ensures
