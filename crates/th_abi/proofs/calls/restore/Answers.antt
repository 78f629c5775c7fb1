use Rattle.th_abi.proofs.Appended.{six}
use Rattle.th_abi.proofs.calls.restore.Goals as goal

pub returns-clause-words : goal.returns-clause-words
returns-clause-words c = six _ _ _ _ _ _ _ _ _ _ _ _ _ c.restore_one.ensures.words c.restore_one-2.ensures.words c.restore_one-3.ensures.words c.restore_one-4.ensures.words c.restore_one-5.ensures.words c.restore_one-6.ensures.words
