use Rattle.std.proofs.Common.{map, ap, sym, ◌∙◌, append-nil, arith}
use Rattle.std.specs.Prelude.{flat_map}
use Rattle.th_meaning.specs.View.{interface_of}
use Rattle.th_agree.specs.Names.{kept, least_of}
use Rattle.th_agree.specs.Agree.{exported}
use Rattle.th_agree.specs.Noted.{lacks}
use Rattle.th_agree.proofs.Exported.{kept_more, interface_parts}
use Rattle.th_agree.proofs.lacking.keep_interfaces.Goals as goal

pub loop-interface-preserved : goal.loop-interface-preserved
loop-interface-preserved c =
    kept_more (λ xs. flat_map exported (map interface_of xs)) interface_parts c.args.places.now c.args.interfaces.now c.loop-interface.interface-index c.interface-item.result
    (kept c.args.least) (kept c.loop-interface.low) (kept c.keep_interface-low.result) (omega arith) c.interface-item.is c.loop-interface.invariant
    (c.keep_interface-low.ensures ∙ ap (λ ns. least_of (kept c.loop-interface.low) (lacks c.args.places.now ns)) (sym (append-nil (exported (interface_of c.interface-item.result)))))
