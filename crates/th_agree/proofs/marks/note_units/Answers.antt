use Rattle.std.proofs.Common.{[], ◌∷◌, ◌++◌, map, take, refl, arith}
use Rattle.th_meaning.specs.View.{unit_of}
use Rattle.th_agree.specs.Names.{kept}
use Rattle.th_agree.specs.Agree.{routine_names}
use Rattle.th_agree.specs.Noted.{place_seen, all_with}
use Rattle.th_agree.proofs.Placed.{loop_more, loop_end, unit_parts}
use Rattle.th_agree.proofs.marks.note_units.Goals as goal

pub loop-unit-preserved : goal.loop-unit-preserved
loop-unit-preserved c = λ done h.
    loop_more place_seen (λ xs. all_with c.args.place (routine_names (map unit_of xs))) (unit_parts c.args.place) c.note_unit.new.places (kept c.note_unit.new.least) done c.args.units.now
    c.loop-unit.unit-index c.unit-item.result (all_with c.args.place (routine_names (unit_of c.unit-item.result ∷ []))) (omega arith) c.unit-item.is refl
    (c.in_ok-note_unit.ensures (done ++ all_with c.args.place (routine_names (map unit_of (take c.loop-unit.unit-index c.args.units.now)))) (c.loop-unit.invariant done h))

pub returns : goal.returns
returns c = λ done h.
    loop_end place_seen (λ xs. all_with c.args.place (routine_names (map unit_of xs))) c.loop-unit.places (kept c.loop-unit.least) done c.args.units.now c.loop-unit.unit-index (omega arith) (c.loop-unit.invariant done h)
