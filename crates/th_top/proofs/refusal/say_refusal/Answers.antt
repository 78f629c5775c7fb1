use Rattle.th_top.proofs.refusal.say_refusal.Goals as goal

pub returns-in-MissingInterface : goal.returns-in-MissingInterface
returns-in-MissingInterface g c = rw (c.in-MissingInterface.is, ← c.as_bytes.ensures) c.say_both.ensures
