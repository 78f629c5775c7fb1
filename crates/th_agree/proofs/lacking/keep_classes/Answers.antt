use Rattle.std.proofs.Common.{[], ◌∷◌, map, ap, ◌∙◌, arith}
use Rattle.th_meaning.specs.View.{class_decl_of}
use Rattle.th_agree.specs.Names.{kept, least_of}
use Rattle.th_agree.specs.Noted.{lacks}
use Rattle.th_agree.proofs.Exported.{kept_more, class_names_parts}
use Rattle.th_agree.proofs.lacking.keep_classes.Goals as goal

pub loop-class-preserved : goal.loop-class-preserved
loop-class-preserved c =
    kept_more (λ xs. map (λ d. d.head.name) (map class_decl_of xs)) class_names_parts c.args.places.now c.args.classes.now c.loop-class.class-index c.class-item.result
    (kept c.args.least) (kept c.loop-class.low) (kept c.keep_absent-low.result) (omega arith) c.class-item.is c.loop-class.invariant
    (c.keep_absent-low.ensures ∙ ap (λ n. least_of (kept c.loop-class.low) (lacks c.args.places.now (n ∷ []))) c.as_bytes.ensures)
