use Rattle.std.proofs.Common.{◌≡◌, subst, to_z-of_z, w64}
use Rattle.th_meaning.specs.World.{World, element}
use Rattle.th_meaning.specs.Meaning.{Value}
use Rattle.th_store.specs.Found.{missed}
use Rattle.th_store.specs.Alike.{Alike}
use Rattle.th_acts.proofs.Acts.{value_not_found}
use Rattle.th_acts.proofs.runner.Runner.element.Goals as goal

pub returns-in-Err : goal.returns-in-Err
returns-in-Err c = λ e left now w h.
    value_not_found e c.args.self.now left now w c.missed.result _ c.in-Err.miss (c.missed.ensures e c.args.self.now left now w h)
    (subst (λ i. (v : World Value) → Alike v c.args.self.now.store → element c.args.number i v ≡ missed c.in-Err.miss v) (to_z-of_z {w = w64} {z = c.args.index} c.ranges.index) c.in-Err.ensures w h.alike)
