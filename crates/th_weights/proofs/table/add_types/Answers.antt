use Rattle.std.proofs.Common.{◌++◌, map, take, subst, arith}
use Rattle.th_meaning.specs.View.{type_decl_of}
use Rattle.th_weights.specs.Types.{HoldsTypes}
use Rattle.th_weights.proofs.Tabling.{types_more}
use Rattle.th_weights.proofs.table.add_types.Goals as goal

pub loop-of-preserved : goal.loop-of-preserved
loop-of-preserved c = λ done h.
    subst (HoldsTypes c.add_type.new.table) (types_more done c.args.types.now c.loop-of.of-index c.of-item.result (omega arith) c.of-item.is)
    (c.in_ok-add_type.ensures (done ++ map type_decl_of (take c.loop-of.of-index c.args.types.now)) (c.loop-of.invariant done h))
