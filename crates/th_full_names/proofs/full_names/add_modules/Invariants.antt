use Rattle.std.proofs.Common.{map, drop}
use Rattle.th_tree.specs.DeclView.{module_of}
use Rattle.th_full_names.specs.Numbering.{names_in_modules}
use Rattle.th_full_names.proofs.NameLaws.{Adding}
use Rattle.th_full_names.proofs.full_names.add_modules.Given as goal

abbrev pub invariant-loop-program : goal.invariant-loop-program
invariant-loop-program l =
    Adding l.names (λ t. names_in_modules t (map module_of (drop l.program-index l.modules))) (λ t. names_in_modules t (map module_of l.modules)) l.fn.further.items l.further.items
