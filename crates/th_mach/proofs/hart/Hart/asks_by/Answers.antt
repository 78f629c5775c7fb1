use Rattle.std.proofs.Common.{nat_eq, ap, sym, ◌∙◌}
use Rattle.th_rv.specs.Step.{execute}
use Rattle.th_mach.specs.Counted.{is_get}
use Rattle.th_mach.proofs.Gets.{ecall_get, other_get}
use Rattle.th_mach.proofs.hart.Hart.asks_by.Goals as goal

pub returns-in-Ecall : goal.returns-in-Ecall
returns-in-Ecall c =
    ap (λ n. nat_eq n 2) c.get.ensures
    ∙ sym (ecall_get c.args.self.now)
    ∙ ap (λ i. is_get (execute i c.args.self.now)) (sym c.in-Ecall.is)

pub returns-in_default : goal.returns-in_default
returns-in_default c = sym (other_get c.args.instr c.args.self.now c.in_default.not-Ecall)
