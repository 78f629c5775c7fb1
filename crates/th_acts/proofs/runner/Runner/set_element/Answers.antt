use Rattle.std.proofs.Common.{◌≡◌, refl, subst, to_z-of_z, w64}
use Rattle.th_meaning.specs.World.{World, set_element}
use Rattle.th_meaning.specs.Meaning.{Value}
use Rattle.th_store.specs.Found.{missed}
use Rattle.th_store.specs.Alike.{Alike}
use Rattle.th_acts.proofs.Acts.{stands_same, end_not_found}
use Rattle.th_acts.proofs.runner.Runner.set_element.Goals as goal

pub returns-in-Err : goal.returns-in-Err
returns-in-Err c = λ e left now w h.
    let r = record c.args.self.now { store = c.set_element.new.self } in
    end_not_found e r left now w c.missed.result _ c.in-Err.miss (c.missed.ensures e r left now w (stands_same e c.args.self.now r left now w h refl refl c.in-Err.ensures.same))
    (subst (λ i. (v : World Value) → Alike v c.args.self.now.store → set_element c.args.number i c.args.value v ≡ missed c.in-Err.miss v) (to_z-of_z {w = w64} {z = c.args.index} c.ranges.index)
    c.in-Err.ensures.miss w h.alike)
