use Rattle.std.proofs.Common.{map, ap, sym, ◌∙◌, None, append-nil, arith}
use Rattle.std.specs.Prelude.{flat_map}
use Rattle.th_meaning.specs.View.{interface_of, program_of}
use Rattle.th_agree.specs.Names.{kept, least_of}
use Rattle.th_agree.specs.Agree.{exported, kept_interfaces}
use Rattle.th_agree.specs.Noted.{lacks}
use Rattle.th_agree.proofs.Exported.{kept_more, program_parts}
use Rattle.th_agree.proofs.lacking.lacking.Goals as goal

pub loop-module-preserved : goal.loop-module-preserved
loop-module-preserved c =
    kept_more (λ xs. flat_map exported (kept_interfaces (program_of xs))) program_parts c.args.places.now c.args.modules.now c.loop-module.module-index c.module-item.result
    None (kept c.loop-module.low) (kept c.keep_interfaces-low.result) (omega arith) c.module-item.is c.loop-module.invariant
    (c.keep_interfaces-low.ensures ∙ ap (λ xs. least_of (kept c.loop-module.low) (lacks c.args.places.now (flat_map exported (map interface_of xs)))) c.deref.ensures.value
    ∙ ap (λ is. least_of (kept c.loop-module.low) (lacks c.args.places.now (flat_map exported is))) (sym (append-nil (map interface_of c.module-item.result.interfaces.items))))
