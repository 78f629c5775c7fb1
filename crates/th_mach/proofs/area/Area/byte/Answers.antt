use Rattle.std.proofs.Common.{get_or, ap, sym, ◌∙◌, ◌-◌}
use Rattle.th_mach.proofs.Apart.{read_byte}
use Rattle.th_mach.proofs.area.Area.byte.Goals as goal

pub returns-then-permits : goal.returns-then-permits
returns-then-permits c =
    read_byte c.args.flag c.args.self.now c.args.at c.index.result.now c.requires.from c.requires.within (sym c.permits.ensures ∙ c.if-permits.true)
    (c.index.ensures ∙ ap (λ n. get_or c.self.inside.bytes.items (c.args.at - n) c.index.result.now) c.from.ensures ∙ ap (λ x. get_or x.bytes (c.args.at - x.at) c.index.result.now) c.self.view_is)
