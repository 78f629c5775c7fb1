use Rattle.std.proofs.Common.{◌∙◌, ap}
use Rattle.th_rv.specs.Memory.{put_number}
use Rattle.th_mach.proofs.Apart.{apart_set, put_number_held}
use Rattle.th_mach.proofs.memory.Memory.put_half.Goals as goal

pub invariant_of-self : goal.invariant_of-self
invariant_of-self c = apart_set c.self.inside.areas.items c.in-Some.k c.index_mut-area.result.now c.put_half.new.self (rw c.self.view_is c.in-Some.ensures.below) c.index_mut-area.ensures.value c.put_half.ensures.first c.put_half.ensures.size c.self.invariant

pub returns-in-Some : goal.returns-in-Some
returns-in-Some c =
    put_number_held 2 c.self.inside.areas.items c.in-Some.k c.args.at c.args.value c.index_mut-area.result.now c.put_half.new.self c.self.invariant c.index_mut-area.ensures.value (rw c.self.view_is c.in-Some.ensures) c.put_half.ensures.alone
    ∙ ap (λ l. put_number 2 l c.args.at c.args.value) c.self.view_is
