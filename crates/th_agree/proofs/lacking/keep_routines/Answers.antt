use Rattle.std.proofs.Common.{[], ◌∷◌, map, ap, ◌∙◌, arith}
use Rattle.th_meaning.specs.View.{routine_decl_of}
use Rattle.th_agree.specs.Names.{kept, least_of}
use Rattle.th_agree.specs.Noted.{lacks}
use Rattle.th_agree.proofs.Exported.{kept_more, routine_names_parts}
use Rattle.th_agree.proofs.lacking.keep_routines.Goals as goal

pub loop-routine-preserved : goal.loop-routine-preserved
loop-routine-preserved c =
    kept_more (λ xs. map (λ d. d.name) (map routine_decl_of xs)) routine_names_parts c.args.places.now c.args.routines.now c.loop-routine.routine-index c.routine-item.result
    (kept c.args.least) (kept c.loop-routine.low) (kept c.keep_absent-low.result) (omega arith) c.routine-item.is c.loop-routine.invariant
    (c.keep_absent-low.ensures ∙ ap (λ n. least_of (kept c.loop-routine.low) (lacks c.args.places.now (n ∷ []))) c.as_bytes.ensures)
