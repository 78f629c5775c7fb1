use Rattle.std.proofs.Common.{[], ◌∷◌, ◌++◌, map, take, refl, arith}
use Rattle.th_meaning.specs.View.{unit_of}
use Rattle.th_agree.specs.Names.{kept}
use Rattle.th_agree.specs.Noted.{place_seen, all_with, mains_in}
use Rattle.th_agree.proofs.Placed.{loop_more, loop_end, main_parts}
use Rattle.th_agree.proofs.marks.note_mains.Goals as goal

pub loop-unit-preserved : goal.loop-unit-preserved
loop-unit-preserved c = λ done h.
    loop_more place_seen (λ xs. all_with c.args.place (mains_in c.args.full.now (map unit_of xs))) (main_parts c.args.place c.args.full.now) c.note_main.new.places (kept c.note_main.new.least) done c.args.units.now
    c.loop-unit.unit-index c.unit-item.result (all_with c.args.place (mains_in c.args.full.now (unit_of c.unit-item.result ∷ []))) (omega arith) c.unit-item.is refl
    (c.in_ok-note_main.ensures (done ++ all_with c.args.place (mains_in c.args.full.now (map unit_of (take c.loop-unit.unit-index c.args.units.now)))) (c.loop-unit.invariant done h))

pub returns : goal.returns
returns c = λ done h.
    loop_end place_seen (λ xs. all_with c.args.place (mains_in c.args.full.now (map unit_of xs))) c.loop-unit.places (kept c.loop-unit.least) done c.args.units.now c.loop-unit.unit-index (omega arith) (c.loop-unit.invariant done h)
