use Rattle.std.proofs.Common.{List, ◌++◌, map, take, flat_map}
use Rattle.th_meaning.specs.View.{interface_of}
use Rattle.th_meaning.specs.Program.{TypeDecl}
use Rattle.th_weights.specs.Types.{HoldsTypes}
use Rattle.th_weights.proofs.table.add_interfaces.Given as goal

abbrev pub invariant-loop-interface : goal.invariant-loop-interface
invariant-loop-interface l = (done : List TypeDecl) → HoldsTypes l.fn.table done → HoldsTypes l.table (done ++ flat_map (λ y. y.types) (map interface_of (take l.interface-index l.interfaces)))
