use Rattle.std.proofs.Common.{map, drop}
use Rattle.th_tree.specs.DeclView.{interface_of}
use Rattle.th_full_names.specs.Numbering.{names_in_interfaces}
use Rattle.th_full_names.proofs.NameLaws.{Adding}
use Rattle.th_full_names.proofs.full_names.add_interfaces.Given as goal

abbrev pub invariant-loop-interface : goal.invariant-loop-interface
invariant-loop-interface l =
    Adding l.names (λ t. names_in_interfaces t (map interface_of (drop l.interface-index l.interfaces))) (λ t. names_in_interfaces t (map interface_of l.interfaces)) l.fn.further.items l.further.items
