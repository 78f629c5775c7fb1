use Rattle.std.proofs.Common.{ap, sym, ◌∙◌}
use Rattle.th_elf.specs.Run.{no_byte}
use Rattle.th_mach.specs.Counted.{given_by, given}
use Rattle.th_mach.proofs.Gets.{step_is}
use Rattle.th_mach.proofs.machine.Machine.give.Goals as goal

pub returns-in-Some : goal.returns-in-Some
returns-in-Some c =
    c.retire_take.ensures.taken
    ∙ sym (ap (λ a. given_by a c.in-Some.byte c.args.self.now) (step_is c.args.self.now.machine.state c.requires.1))
    ∙ ap (λ o. given o c.args.self.now) (sym c.in-Some.is)

pub returns-in-None : goal.returns-in-None
returns-in-None c =
    c.retire_end.ensures
    ∙ sym (ap (λ a. given_by a no_byte c.args.self.now) (step_is c.args.self.now.machine.state c.requires.1))
    ∙ ap (λ o. given o c.args.self.now) (sym c.in-None.is)
