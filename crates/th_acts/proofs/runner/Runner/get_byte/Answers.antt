use Rattle.th_world.specs.Event.{FoundEnd}
use Rattle.th_meaning.specs.World.{note}
use Rattle.th_acts.proofs.Bytes.{found_end}
use Rattle.th_acts.proofs.runner.Runner.get_byte.Goals as goal

pub returns-in-Ok-None-clause-done : goal.returns-in-Ok-None-clause-done
returns-in-Ok-None-clause-done g c = λ e now w h.
    found_end e c.args.self.now (g.S.Source.left c.args.input.now) (g.S.Source.left c.next.new.self) now w c.raises.result c.in-Ok-None.field-0 h c.in-Ok-None.field-0-is c.in-Ok-None.ensures.first
    c.in-Ok-None.ensures.rest (λ s. c.raises.ensures e c.args.self.now (g.S.Source.left c.next.new.self) now (note FoundEnd w) s)
