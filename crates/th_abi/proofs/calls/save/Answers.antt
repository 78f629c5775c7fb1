use Rattle.th_abi.proofs.Appended.{six}
use Rattle.th_abi.proofs.calls.save.Goals as goal

pub returns-clause-words : goal.returns-clause-words
returns-clause-words c = six _ _ _ _ _ _ _ _ _ _ _ _ _ c.save_one.ensures.words c.save_one-2.ensures.words c.save_one-3.ensures.words c.save_one-4.ensures.words c.save_one-5.ensures.words c.save_one-6.ensures.words
