use Rattle.std.proofs.Common.{refl, ap}
use Rattle.th_store.specs.Charges.{with_left}
use Rattle.th_store.proofs.Charges.{charge_turns, charge_room, charge_both, left_alike}
use Rattle.th_store.proofs.store.Store.charge.Goals as goal

pub returns-then-not-spend-clause-taken : goal.returns-then-not-spend-clause-taken
returns-then-not-spend-clause-taken c = λ w h.
    charge_turns w c.args.turns c.args.bytes c.args.self.now c.spend.new.self h (c.if-not-spend.ensures.kept refl) (c.if-not-spend.ensures.taken w h)

pub returns-then-not-reserve-clause-taken : goal.returns-then-not-reserve-clause-taken
returns-then-not-reserve-clause-taken c = λ w h.
    charge_room w c.args.turns c.args.bytes c.spend.new.self c.reserve.new.self (c.if-not-spend.ensures.taken w h)
    (c.if-not-reserve.ensures.taken (with_left c.spend.new.self w) (left_alike w c.args.self.now c.spend.new.self h c.spend.ensures.objects))
    (ap (λ s. s.turns) (c.if-not-reserve.ensures.kept refl)) (ap (λ s. s.room) (c.if-not-reserve.ensures.kept refl))

pub returns-clause-taken : goal.returns-clause-taken
returns-clause-taken c = λ w h.
    charge_both w c.args.turns c.args.bytes c.spend.new.self c.reserve.new.self (c.if-not-spend.ensures.taken w h)
    (c.if-not-reserve.ensures.taken (with_left c.spend.new.self w) (left_alike w c.args.self.now c.spend.new.self h c.spend.ensures.objects))
