use Rattle.std.proofs.Common.{[], ◌∷◌, ◌-◌, ap, ◌∙◌, refl}
use Rattle.th_rv.specs.Memory.{area_set}
use Rattle.th_mach.proofs.Apart.{put_alone}
use Rattle.th_mach.proofs.Kept.{spells_write}
use Rattle.th_mach.proofs.area.Area.write.Goals as goal

pub returns-clause-alone : goal.returns-clause-alone
unfolding area_set
returns-clause-alone c = put_alone c.args.self.now c.args.at c.args.value c.requires.from c.requires.within ∙ ap (λ y. y ∷ []) (rw (← c.self.view_is, c.from.ensures) refl)

pub invariant_of-self : goal.invariant_of-self
unfolding area_set
invariant_of-self c = rw c.set_code.ensures (spells_write _ c.self.inside.code.items (c.args.at - c.from.result) c.args.value c.self.invariant)
