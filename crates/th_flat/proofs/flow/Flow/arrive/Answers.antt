use Rattle.std.proofs.Common.{arith}
use Rattle.th_flat.proofs.FlowLemmas.{nowhere, unlike, learned}
use Rattle.th_flat.proofs.flow.Flow.arrive.Goals as goal

pub returns-in-None-clause-wrong : goal.returns-in-None-clause-wrong
returns-in-None-clause-wrong c = λ _ good. nowhere _ _ _ _ c.requires.sound c.requires.reached (cc) good

pub returns-in-Some-Some-clause-wrong : goal.returns-in-Some-Some-clause-wrong
returns-in-Some-Some-clause-wrong c = λ e good. unlike _ _ _ _ _ c.requires.sound c.requires.reached (cc) e good

pub returns-in_ok-learn-in-Some-None-clause-sound : goal.returns-in_ok-learn-in-Some-None-clause-sound
returns-in_ok-learn-in-Some-None-clause-sound c = (learned _ _ _ _ _ _ _ c.requires.sound c.requires.reached (omega arith) (cc) c.in_ok-learn-in-Some-None.ensures.heights c.in_ok-learn-in-Some-None.ensures.pending).0

pub returns-in_ok-learn-in-Some-None-clause-grows : goal.returns-in_ok-learn-in-Some-None-clause-grows
returns-in_ok-learn-in-Some-None-clause-grows c = (learned _ _ _ _ _ _ _ c.requires.sound c.requires.reached (omega arith) (cc) c.in_ok-learn-in-Some-None.ensures.heights c.in_ok-learn-in-Some-None.ensures.pending).1

pub returns-in_ok-learn-in-Some-None-clause-right : goal.returns-in_ok-learn-in-Some-None-clause-right
returns-in_ok-learn-in-Some-None-clause-right c = λ _. (learned _ _ _ _ _ _ _ c.requires.sound c.requires.reached (omega arith) (cc) c.in_ok-learn-in-Some-None.ensures.heights c.in_ok-learn-in-Some-None.ensures.pending).2
