use Rattle.std.proofs.Common.{◌-◌, ◌/◌, ◌<◌, length, Some, get_or, ap, sym, ◌∙◌, arith}
use Rattle.std.proofs.lemmas.Option.{slice_get-get_or}
use Rattle.th_mach.proofs.Kept.{kept_at}
use Rattle.th_mach.proofs.area.Area.instr.Goals as goal

pub returns-in_default : goal.returns-in_default
returns-in_default c =
    let code = c.self.inside.code.items in
    let within : (c.args.at - c.self.inside.at) / 4 < length code = omega (arith, c.self.inside.code.ok) in
    let is = c.index.ensures ∙ ap (λ n. get_or code ((c.args.at - n) / 4) c.index.result.now) c.from-first.ensures in
    rw (← c.self.view_is) (kept_at _ code c.args.at c.index.result.now c.self.invariant (omega arith) (omega arith) (slice_get-get_or code ((c.args.at - c.self.inside.at) / 4) c.index.result.now within ∙ ap Some (sym is)) c.in_default.not-Ebreak)
