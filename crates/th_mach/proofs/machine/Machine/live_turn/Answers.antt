use Rattle.std.proofs.Common.{ap, ◌∙◌}
use Rattle.th_rv.specs.Step.{with_reg}
use Rattle.th_elf.specs.Run.{Running, with_a0, no_byte}
use Rattle.th_mach.specs.Counted.{retire}
use Rattle.th_mach.specs.Done.{halt_of}
use Rattle.th_mach.proofs.Turns.{at_pc, next_turn, put_turn, take_turn, end_turn, halt_turn, trap_turn, write_fault_turn, read_fault_turn}
use Rattle.th_mach.proofs.machine.Machine.live_turn.Goals as goal

pub returns-in-Next : goal.returns-in-Next
returns-in-Next g c = next_turn c.args.self.now c.proceed.new.self _ _ _ _ _ _ c.requires c.in-Next.ensures.act c.in-Next.ensures.later (at_pc _ _ _ _ c.pc-pc.ensures c.retire_all.ensures)

pub returns-in-Ok : goal.returns-in-Ok
returns-in-Ok g c = put_turn c.args.self.now c.retire_put.new.self c.in-Put.byte _ _ _ _ _ _ _ _ c.requires c.in-Put.ensures.act (c.retire_put.ensures ∙ ap (λ x. retire x (with_reg x.machine.state 0 0) Running) c.in-Put.ensures.later) c.in-Ok.ensures.appended c.in-Ok.ensures.no_fault (at_pc _ _ _ _ c.pc-pc.ensures c.retire_all-in-Ok.ensures)

pub returns-in-Err : goal.returns-in-Err
returns-in-Err g c = write_fault_turn c.args.self.now c.proceed.new.self c.in-Put.byte _ _ _ _ _ _ _ _ c.requires c.in-Put.ensures.act c.in-Put.ensures.later c.in-Err.ensures.not_put c.in-Err.ensures.fault c.in-Err.ensures.never_falls

pub returns-in-Halted : goal.returns-in-Halted
returns-in-Halted g c = halt_turn c.args.self.now c.proceed.new.self (halt_of c.in-Halted.end) c.outcome.result _ _ _ _ _ _ c.requires c.in-Halted.ensures.act c.in-Halted.ensures.later c.outcome.ensures (at_pc _ _ _ _ c.pc-pc.ensures c.retire_all-in-Halted.ensures)

pub returns-in-Trapped : goal.returns-in-Trapped
returns-in-Trapped g c = trap_turn c.args.self.now c.proceed.new.self c.in-Trapped.cause c.pc-pc.result _ _ _ _ _ c.requires c.in-Trapped.ensures.act c.in-Trapped.ensures.later c.pc-pc.ensures

pub returns-in-Err-next : goal.returns-in-Err-next
returns-in-Err-next g c = read_fault_turn c.args.self.now c.proceed.new.self _ _ _ _ _ _ _ _ c.requires c.in-Get.ensures.act c.in-Get.ensures.later c.in-Err-next.ensures.not_taken c.in-Err-next.ensures.fault c.in-Err-next.ensures.never_falls

pub returns-in-Ok-None : goal.returns-in-Ok-None
returns-in-Ok-None g c = end_turn c.args.self.now c.retire_end.new.self _ _ _ _ _ _ _ _ c.requires c.in-Get.ensures.act (c.retire_end.ensures ∙ ap (λ x. retire x (with_a0 (with_reg x.machine.state 0 0) no_byte) Running) c.in-Get.ensures.later) (rw c.in-Ok-None.field-0-is at c.in-Ok-None.ensures.first) c.in-Ok-None.ensures.rest c.in-Ok-None.ensures.no_fault (at_pc _ _ _ _ c.pc-pc.ensures c.retire_all-in-Ok-None.ensures)

pub returns-in-Ok-Some : goal.returns-in-Ok-Some
returns-in-Ok-Some g c = take_turn c.args.self.now c.retire_take.new.self c.in-Ok-Some.byte _ _ _ _ _ _ _ _ c.requires c.in-Get.ensures.act c.retire_take.ensures.small (c.retire_take.ensures.taken ∙ ap (λ x. retire x (with_a0 (with_reg x.machine.state 0 0) c.in-Ok-Some.byte) Running) c.in-Get.ensures.later) (rw c.in-Ok-Some.field-0-is at c.in-Ok-Some.ensures.first) c.in-Ok-Some.ensures.rest c.in-Ok-Some.ensures.no_fault (at_pc _ _ _ _ c.pc-pc.ensures c.retire_all-in-Ok-Some.ensures)
