use Rattle.th_hier.proofs.Growing.{grown_on}
use Rattle.th_hier.proofs.numbering.index_of.Goals as goal

pub returns-in_err-add_interface-clause-grown : goal.returns-in_err-add_interface-clause-grown
returns-in_err-add_interface-clause-grown c =
    grown_on c.args.names.now c.loop-interface.names c.add_interface.new.names c.loop-interface.invariant.grown c.add_interface.ensures.grown
