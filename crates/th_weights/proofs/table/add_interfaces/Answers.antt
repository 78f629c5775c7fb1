use Rattle.std.proofs.Common.{◌++◌, map, take, flat_map, subst, arith}
use Rattle.th_meaning.specs.View.{interface_of, type_decl_of}
use Rattle.th_weights.specs.Types.{HoldsTypes}
use Rattle.th_weights.proofs.Tabling.{interfaces_more}
use Rattle.th_weights.proofs.table.add_interfaces.Goals as goal

pub loop-interface-preserved : goal.loop-interface-preserved
loop-interface-preserved c = λ done h.
    subst (HoldsTypes c.add_types.new.table) (interfaces_more done c.args.interfaces.now c.loop-interface.interface-index c.interface-item.result (omega arith) c.interface-item.is)
    (subst (λ ts. HoldsTypes c.add_types.new.table ((done ++ flat_map (λ y. y.types) (map interface_of (take c.loop-interface.interface-index c.args.interfaces.now))) ++ map type_decl_of ts)) c.deref.ensures.value
    (c.in_ok-add_types.ensures (done ++ flat_map (λ y. y.types) (map interface_of (take c.loop-interface.interface-index c.args.interfaces.now))) (c.loop-interface.invariant done h)))
