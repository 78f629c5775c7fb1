use Rattle.std.proofs.Common.{◌∙◌, ap}
use Rattle.th_rv.specs.Memory.{put_at}
use Rattle.th_mach.proofs.Apart.{apart_set, put_held, put_nowhere}
use Rattle.th_mach.proofs.memory.Memory.put.Goals as goal

pub invariant_of-self : goal.invariant_of-self
invariant_of-self c = apart_set c.self.inside.areas.items c.in-Some.k c.index_mut-area.result.now c.put.new.self (rw c.self.view_is c.in-Some.ensures.found.below) c.index_mut-area.ensures.value c.put.ensures.first c.put.ensures.size c.self.invariant

pub returns-in-Some : goal.returns-in-Some
returns-in-Some c =
    put_held c.self.inside.areas.items c.in-Some.k c.args.at c.args.value c.index_mut-area.result.now c.put.new.self c.self.invariant c.index_mut-area.ensures.value (rw c.self.view_is c.in-Some.ensures.found) c.put.ensures.set
    ∙ ap (λ l. put_at l c.args.at c.args.value) c.self.view_is

pub returns-in-None : goal.returns-in-None
returns-in-None c = put_nowhere c.args.self.now c.args.at c.args.value c.in-None.ensures.none
