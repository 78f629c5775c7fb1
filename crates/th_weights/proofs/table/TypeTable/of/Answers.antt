use Rattle.std.proofs.Common.{◌++◌, map, take, flat_map, subst, arith}
use Rattle.th_meaning.specs.View.{interface_of, program_of}
use Rattle.th_meaning.specs.Program.{types_of_program}
use Rattle.th_weights.specs.Types.{HoldsTypes}
use Rattle.th_weights.proofs.Tabling.{modules_more}
use Rattle.th_weights.proofs.table.TypeTable.of.Goals as goal

pub loop-module-preserved : goal.loop-module-preserved
loop-module-preserved c =
    subst (HoldsTypes c.add_interfaces.new.table) (modules_more c.args.modules.now c.loop-module.module-index c.module-item.result (omega arith) c.module-item.is)
    (subst (λ xs. HoldsTypes c.add_interfaces.new.table (types_of_program (program_of (take c.loop-module.module-index c.args.modules.now)) ++ flat_map (λ y. y.types) (map interface_of xs))) c.deref.ensures.value
    (c.in_ok-add_interfaces.ensures (types_of_program (program_of (take c.loop-module.module-index c.args.modules.now))) c.loop-module.invariant))
