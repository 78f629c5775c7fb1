use Rattle.std.proofs.Common.{[], ◌∷◌, ◌++◌, map, take, ap, arith}
use Rattle.th_meaning.specs.View.{class_of}
use Rattle.th_agree.specs.Names.{kept}
use Rattle.th_agree.specs.Agree.{class_names}
use Rattle.th_agree.specs.Noted.{entry, place_seen, all_with}
use Rattle.th_agree.proofs.Placed.{loop_more, loop_end, class_parts}
use Rattle.th_agree.proofs.marks.note_classes.Goals as goal

pub loop-class-preserved : goal.loop-class-preserved
loop-class-preserved c = λ done h.
    loop_more place_seen (λ xs. all_with c.args.place (class_names (map class_of xs))) (class_parts c.args.place) c.note_place.new.places (kept c.note_place.new.least) done c.args.classes.now
    c.loop-class.class-index c.class-item.result (entry c.as_bytes.result.now c.args.place ∷ []) (omega arith) c.class-item.is (ap (λ n. entry n c.args.place ∷ []) c.as_bytes.ensures)
    (c.in_ok-note_place.ensures (done ++ all_with c.args.place (class_names (map class_of (take c.loop-class.class-index c.args.classes.now)))) (c.loop-class.invariant done h))

pub returns : goal.returns
returns c = λ done h.
    loop_end place_seen (λ xs. all_with c.args.place (class_names (map class_of xs))) c.loop-class.places (kept c.loop-class.least) done c.args.classes.now c.loop-class.class-index (omega arith) (c.loop-class.invariant done h)
